-- A plan is as dense as it may be.
use Rattle.std.proofs.Common.{◌≡◌, ℕ, ◌+◌, ◌≤◌, ◌&&◌, arith, Bool, true, nat_lt, List, [], ◌∷◌, get_or, length, Option, Some, None, ap, subst}
use Rattle.std.proofs.lemmas.Bool.{and_from}
use Rattle.std.proofs.lemmas.Bool.Decides.{nat_tests}
use Rattle.hm_isa.specs.declared.Vector.{Vector}
use Rattle.hm_order.proofs.Results.{decide}
use Rattle.hm_order.specs.Machine.{Config}
use Rattle.hm_plan_laws.specs.Greedy.{greedy_at, greedy_with, letters_of}
use Rattle.hm_run.specs.Program.{Program}
use Rattle.hm_run.specs.Ready.{is_ready}
use Rattle.hm_sched.specs.Schedule.{older_letter, whole_letter}
use Rattle.hm_state.specs.State.{State}

-- where two may be done one alone is not greedy
one_of_two : (row : Option Vector) → letters_of (greedy_with row true) ≡ older_letter ∷ [] → ⊥
one_of_two None h = let letter : whole_letter ≡ older_letter = ap (λ (l : List ℕ). get_or l 0 0) h in absurd (omega (arith, letter))
one_of_two (Some v) h = let size : 2 ≡ 1 = ap (λ (l : List ℕ). length l) h in absurd (omega (arith, size))

one_alone : (row : Option Vector) (two : Bool) → two ≡ true → letters_of (greedy_with row two) ≡ older_letter ∷ [] → ⊥
one_alone row two e h = one_of_two row (subst (λ (b : Bool). letters_of (greedy_with row b) ≡ older_letter ∷ []) e h)

pub last_alone : (M : Program) (n : ℕ) (c : Config State) → is_ready M c ≡ true → letters_of (greedy_at M n c) ≡ older_letter ∷ [] → n ≤ c.n + 1
last_alone M n c ready one = decide (nat_lt (c.n + 1) n)
    (λ less. absurd (one_alone (M.code c.state.pc) (is_ready M c && nat_lt (c.n + 1) n) (and_from (is_ready M c) (nat_lt (c.n + 1) n) ready less) one))
    (λ last. grind (arith, nat_tests, last))
