-- Lines that are added to a schedule, pair by pair.
use Rattle.std.proofs.Common.{◌≡◌, ℕ, zero, suc, ◌+◌, ◌*◌, ◌%◌, ◌≤◌, Bool, true, false, cond, nat_eq, List, [], ◌∷◌, ◌++◌, refl, sym, ap, ◌∙◌, arith}
use Rattle.std.proofs.lemmas.List.{append-nil, append_assoc}
use Rattle.std.proofs.lemmas.List.Sums.{sum_by-append}
use Rattle.hm_base.specs.Image.{sram_start}
use Rattle.hm_sched.specs.Schedule.{Sched, TickLine, plain_line, total}
use Rattle.hm_soak.specs.Lines.{with_lines}
use Rattle.hm_soak_laws.specs.Schedule.{both, pair_lines, pairs, schedule, twice}

-- LINES behind others
pub total_with : (xs : List TickLine) (s : Sched) → total (with_lines xs s).lines ≡ total s.lines + total xs
total_with xs s = sum_by-append (λ (line : TickLine). line.count) s.lines xs

pub twice_with : (xs ys : List TickLine) (s : Sched) → with_lines ys (with_lines xs s) ≡ with_lines (xs ++ ys) s
twice_with xs ys s = ap (λ (ls : List TickLine). record s { lines = ls }) (append_assoc s.lines xs ys)

pub with_more : (xs ys : List TickLine) (a b c : Sched) → b ≡ with_lines xs a → c ≡ with_lines ys b → c ≡ with_lines (xs ++ ys) a
with_more xs ys a b c h k = k ∙ ap (with_lines ys) h ∙ twice_with xs ys a

pub total_more : (xs : List TickLine) (a b : Sched) → b ≡ with_lines xs a → total b.lines ≡ total a.lines + total xs
total_more xs a b h = ap (λ (s : Sched). total s.lines) h ∙ total_with xs a

-- PAIRS
either_few : (b : Bool) → total (cond b (twice 1 ∷ both 1 ∷ plain_line 3 ∷ []) (twice 1 ∷ both 0 ∷ [])) ≤ 5
either_few true = let e : total (twice 1 ∷ both 1 ∷ plain_line 3 ∷ []) ≡ 5 = refl in omega arith
either_few false = let e : total (twice 1 ∷ both 0 ∷ []) ≡ 2 = refl in omega arith

pub pair_few : (p : ℕ) → total (pair_lines p) ≤ 5
pair_few p = either_few (nat_eq (p % 64) 0)

pairs_more : (n p : ℕ) → pairs (suc n) p ≡ pairs n p ++ pair_lines (p + n)
unfolding pairs
pairs_more zero p = let e : p ≡ p + 0 = omega arith in append-nil (pair_lines p) ∙ ap pair_lines e
pairs_more (suc n) p =
    let e : p + 1 + n ≡ p + suc n = omega arith in
    ap (λ (l : List TickLine). pair_lines p ++ l) (pairs_more n (p + 1) ∙ ap (λ (k : ℕ). pairs n (p + 1) ++ pair_lines k) e)
    ∙ sym (append_assoc (pair_lines p) (pairs n (p + 1)) (pair_lines (p + suc n)))

pairs_none : (p : ℕ) → pairs 0 p ≡ []
unfolding pairs
pairs_none p = refl

-- the first n pairs, and room for five ticks each
pub record Paired (old : Sched) (n : ℕ) (new : Sched) : Type 0 where
  pub lines : new ≡ with_lines (pairs n 1) old
  pub few : total new.lines ≤ total old.lines + 5 * n

pub paired_none : (old : Sched) → Paired old 0 old
paired_none old = record {
  lines = ap (λ (ls : List TickLine). record old { lines = ls })
      (sym (append-nil old.lines) ∙ ap (λ (l : List TickLine). old.lines ++ l) (sym (pairs_none 1)));
  few = omega arith;
}

pub paired_next : (old : Sched) (n : ℕ) (new newer : Sched) → Paired old n new → newer ≡ with_lines (pair_lines (n + 1)) new → Paired old (n + 1) newer
paired_next old n new newer h e =
    let s : suc n ≡ n + 1 = omega arith in
    let z : n + 1 ≡ 1 + n = omega arith in
    let here : newer ≡ with_lines (pair_lines (1 + n)) new = e ∙ ap (λ (k : ℕ). with_lines (pair_lines k) new) z in
    let few = pair_few (n + 1) in
    let sum = total_more (pair_lines (n + 1)) new newer e in
    let before = h.few in
    record {
      lines = with_more (pairs n 1) (pair_lines (1 + n)) old new newer h.lines here
          ∙ ap (λ (l : List TickLine). with_lines l old) (sym (pairs_more n 1) ∙ ap (λ (k : ℕ). pairs k 1) s);
      few = omega arith;
    }

-- THE WHOLE, behind no lines
pub all_lines : (a b c d e : Sched)
    → a ≡ record { format = 1; entries = true; lo = sram_start; hi = sram_start; floor = 0x2000f000; process = 0x2000f000; lines = [] }
    → b ≡ with_lines (plain_line 16 ∷ []) a → c ≡ with_lines (pairs 4095 1) b
    → d ≡ with_lines (twice 2 ∷ []) c → e ≡ with_lines (plain_line 1 ∷ []) d → e ≡ schedule
unfolding schedule
all_lines a b c d e h i j k l =
    let back = with_more (twice 2 ∷ []) (plain_line 1 ∷ []) c d e k l in
    let middle = with_more (pairs 4095 1) (twice 2 ∷ plain_line 1 ∷ []) b c e j back in
    with_more (plain_line 16 ∷ []) (pairs 4095 1 ++ (twice 2 ∷ plain_line 1 ∷ [])) a b e i middle
    ∙ ap (with_lines (plain_line 16 ∷ (pairs 4095 1 ++ (twice 2 ∷ plain_line 1 ∷ [])))) h
