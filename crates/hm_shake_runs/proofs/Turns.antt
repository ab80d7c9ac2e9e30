-- A turn of each loop over lists: what is done and what is left to do.
use Rattle.std.proofs.Common.{◌≡◌, ℕ, zero, suc, ◌+◌, ◌-◌, ◌<◌, ◌≤◌, Bool, true, false, eqb, inl, inr, Option, Some, None, List, [], ◌∷◌, ◌++◌, length, get_or}
use Rattle.std.proofs.Common.{take, drop, map, arith, refl, sym, ap, ◌∙◌, append_assoc, add-one, cond}
use Rattle.std.proofs.Math.Seq.{drop-cons}
use Rattle.std.proofs.lemmas.Bool.{cases_Bool}
use Rattle.std.specs.List.{All}
use Rattle.std.specs.Option.{is_some}
use Rattle.std.proofs.lemmas.List.Elements.{All-cons, All-nil}
use Rattle.hm_base.specs.Draws.{drawn}
use Rattle.hm_sched.specs.Schedule.{Sched, TickLine, most_irq, most_ticks, total}
use Rattle.hm_sched.proofs.Ticks.{total-cons, total-push}
use Rattle.hm_shake_runs.specs.Heads.{all_or, bare, is_named, named_from, numbers_from, words_name}
use Rattle.hm_shake_runs.specs.Shaken.{gap_part, interrupt_part, pairs}
use Rattle.hm_shake_runs.specs.Stretches.{interrupts_in, one_if, quiet, quieted, stretch_line, with_stretches, without}
use Rattle.hm_shake_runs.specs.declared.head.Head.{Head}
use Rattle.hm_shake_runs.specs.declared.stretches.Stretch.{Stretch}
use Rattle.hm_shake_runs.proofs.Room.{ticks}

-- one more is done, which was the first of what was left
pub moved : {A : Type 0} (out new rest whole all : List A) (y : A) → new ≡ out ++ y ∷ [] → whole ≡ y ∷ rest → out ++ whole ≡ all → new ++ rest ≡ all
moved {A} out new rest whole all y e f h =
    ap (λ (x : List A). x ++ rest) e ∙ append_assoc out (y ∷ []) rest ∙ ap (λ (x : List A). out ++ x) (sym f) ∙ h

-- no stretch
abbrev pub none : Stretch
none = record { count = 0; letters = 0; irq = None }

pub left_at : (xs : List Stretch) (i : ℕ) → i < length xs → drop i xs ≡ get_or xs i none ∷ drop (i + 1) xs
left_at xs i h = rw add-one (drop-cons xs i none h)

-- ---- gaps and interrupts

pub pairs_turn : (a b d : List Stretch) (n k gap : ℕ) (irqs : List ℕ) (x : ℕ) → k < n → b ≡ a ++ gap_part gap x → d ≡ b ++ interrupt_part irqs (drawn 2 x)
    → d ++ pairs (n - (k + 1)) gap irqs (drawn 4 x) ≡ a ++ pairs (n - k) gap irqs x
pairs_turn a b d n k gap irqs x h e f =
    let more : n - k ≡ suc (n - (k + 1)) = omega arith in
    let rest = pairs (n - (k + 1)) gap irqs (drawn 4 x) in
    rw (f, e, more)
    (append_assoc (a ++ gap_part gap x) (interrupt_part irqs (drawn 2 x)) rest ∙ append_assoc a (gap_part gap x) (interrupt_part irqs (drawn 2 x) ++ rest))

-- ---- counts

pub taken_ticks : (xs : List Stretch) (i : ℕ) → i < length xs → ticks (take i xs) + (get_or xs i none).count ≤ ticks xs
taken_ticks [] i h = absurd (omega arith)
taken_ticks (x ∷ xs) zero h = omega (arith, total-cons (stretch_line x) (map stretch_line xs))
taken_ticks (x ∷ xs) (suc i) h =
    omega (arith, taken_ticks xs i (omega arith), total-cons (stretch_line x) (map stretch_line (take i xs)), total-cons (stretch_line x) (map stretch_line xs))

pub room_at : (s : Sched) (h : Head) (xs : List Stretch) (i : ℕ) → s ≡ with_stretches (take i xs) (bare h) → i < length xs → ticks xs ≤ most_ticks
    → total (with_stretches (get_or xs i none ∷ []) s).lines ≤ most_ticks
room_at s h xs i e lt room =
    let few = taken_ticks xs i lt in
    let sum = total-push (map stretch_line (take i xs)) (stretch_line (get_or xs i none)) in
    rw e (omega arith)

interrupts_turn_from : (xs : List Stretch) (i : ℕ) → i < length xs → interrupts_in (take (suc i) xs) ≡ interrupts_in (take i xs) + one_if (get_or xs i none).irq
interrupts_turn_from [] i h = absurd (omega arith)
interrupts_turn_from (x ∷ xs) zero h = omega arith
interrupts_turn_from (x ∷ xs) (suc i) h = omega (arith, interrupts_turn_from xs i (omega arith))

pub interrupts_turn : (xs : List Stretch) (i : ℕ) → i < length xs → interrupts_in (take (i + 1) xs) ≡ interrupts_in (take i xs) + one_if (get_or xs i none).irq
interrupts_turn xs i h = rw add-one (interrupts_turn_from xs i h)

-- ---- interrupts taken out

pub counts_one : (o : Option ℕ) → is_some o ≡ true → one_if o ≡ 1
counts_one (Some n) e = refl
counts_one None e = let no : false ≡ true = e in absurd cc

pub counts_none : (o : Option ℕ) → is_some o ≡ false → one_if o ≡ 0
counts_none (Some n) e = let no : true ≡ false = e in absurd cc
counts_none None e = refl

without_irq : (o : Option ℕ) → is_some o ≡ false → None ≡ o
without_irq (Some n) e = let no : true ≡ false = e in absurd cc
without_irq None e = refl

is_quiet : (x : Stretch) → is_some x.irq ≡ false → quiet x ≡ x
is_quiet x e = λ j. record x { irq = without_irq x.irq e j }

pub keeps_one : (k n : ℕ) (x : Stretch) (xs : List Stretch) → is_some x.irq ≡ true → 0 < k → without k n (x ∷ xs) ≡ x ∷ without (k - 1) n xs
keeps_one zero n x xs e h = absurd (omega arith)
keeps_one (suc k) n x xs e h = rw (counts_one x.irq e) refl

pub takes_one : (k n : ℕ) (x : Stretch) (xs : List Stretch) → is_some x.irq ≡ true → k ≡ 0 → 0 < n → without k n (x ∷ xs) ≡ quiet x ∷ without k (n - 1) xs
takes_one zero zero x xs e z h = absurd (omega arith)
takes_one zero (suc n) x xs e z h = rw (counts_one x.irq e) refl
takes_one (suc k) n x xs e z h = absurd (omega arith)

pub takes_none : (k n : ℕ) (x : Stretch) (xs : List Stretch) → k ≡ 0 → n ≡ 0 → without k n (x ∷ xs) ≡ x ∷ without k n xs
takes_none k n x xs e f = grind arith

less_none : (n m : ℕ) → m ≡ 0 → n - m ≡ n
less_none n m e = omega arith

pub passes_one : (k n : ℕ) (x : Stretch) (xs : List Stretch) → is_some x.irq ≡ false → without k n (x ∷ xs) ≡ x ∷ without k n xs
passes_one zero zero x xs e = refl
passes_one zero (suc n) x xs e = rw (less_none (suc n) (one_if x.irq) (counts_none x.irq e)) (ap (λ (y : Stretch). y ∷ quieted (suc n) xs) (is_quiet x e))
passes_one (suc k) n x xs e = rw (less_none (suc k) (one_if x.irq) (counts_none x.irq e)) refl

-- ---- interrupts that are named

pub named_turn : (lines : List TickLine) (most n : ℕ) → n < most → is_named lines n ≡ true
    → named_from lines (most - n) n ≡ n ∷ named_from lines (most - (n + 1)) (n + 1)
named_turn lines most n lt e =
    let more : most - n ≡ suc (most - (n + 1)) = omega arith in
    rw (more, e) refl

pub unnamed_turn : (lines : List TickLine) (most n : ℕ) → n < most → is_named lines n ≡ false
    → named_from lines (most - n) n ≡ named_from lines (most - (n + 1)) (n + 1)
unnamed_turn lines most n lt e =
    let more : most - n ≡ suc (most - (n + 1)) = omega arith in
    rw (more, e) refl

pub numbers_turn : (most n : ℕ) → n < most → numbers_from (most - n) n ≡ n ∷ numbers_from (most - (n + 1)) (n + 1)
numbers_turn most n lt =
    let more : most - n ≡ suc (most - (n + 1)) = omega arith in
    rw more refl

pub numbers_below : (n k most : ℕ) → n + k ≤ most → All (λ (x : ℕ). x < most) (numbers_from n k)
numbers_below zero k most h = All-nil (λ (x : ℕ). x < most)
numbers_below (suc n) k most h = All-cons (λ (x : ℕ). x < most) k (numbers_from n (k + 1)) (omega arith) (numbers_below n (k + 1) most (omega arith))

maybe_below : (b : Bool) (k most : ℕ) (xs : List ℕ) → k < most → All (λ (x : ℕ). x < most) xs → All (λ (x : ℕ). x < most) (cond b (k ∷ xs) xs)
maybe_below true k most xs h all = All-cons (λ (x : ℕ). x < most) k xs h all
maybe_below false k most xs h all = all

pub named_below : (lines : List TickLine) (n k most : ℕ) → n + k ≤ most → All (λ (x : ℕ). x < most) (named_from lines n k)
named_below lines zero k most h = All-nil (λ (x : ℕ). x < most)
named_below lines (suc n) k most h =
    maybe_below (is_named lines k) k most (named_from lines n (k + 1)) (omega arith) (named_below lines n (k + 1) most (omega arith))

pub length-numbers_from : (n k : ℕ) → length (numbers_from n k) ≡ n
length-numbers_from zero k = refl
length-numbers_from (suc n) k = ap suc (length-numbers_from n (k + 1))

maybe_longer : (b : Bool) (k n : ℕ) (xs : List ℕ) → length xs ≤ n → length (cond b (k ∷ xs) xs) ≤ suc n
maybe_longer b k n xs h = grind arith

pub few_named : (lines : List TickLine) (n k : ℕ) → length (named_from lines n k) ≤ n
few_named lines zero k = omega arith
few_named lines (suc n) k = maybe_longer (is_named lines k) k n (named_from lines n (k + 1)) (few_named lines n (k + 1))

pub most_irq_240 : (format : ℕ) → most_irq format ≤ 240
most_irq_240 format = elim (cases_Bool (eqb format 1)) [
  | inl e ↦ rw e (omega arith)
  | inr e ↦ rw e (omega arith)
]

pub some_named : (format : ℕ) (xs : List ℕ) → 0 < length xs → all_or format xs ≡ xs
some_named format [] h = absurd (omega arith)
some_named format (x ∷ xs) h = refl

-- a line that names an interrupt, and one that does not
pub left_lines : (lines : List TickLine) (i : ℕ) (line : TickLine) → i < length lines → get_or lines i line ≡ line → drop i lines ≡ line ∷ drop (i + 1) lines
left_lines lines i line h e = rw add-one (drop-cons lines i line h ∙ ap (λ (x : TickLine). x ∷ drop (suc i) lines) e)

pub names_it : (lines : List TickLine) (i n : ℕ) (line : TickLine) → i < length lines → get_or lines i line ≡ line → words_name n line.irq ≡ true
    → is_named (drop i lines) n ≡ true
names_it lines i n line h e f = rw (left_lines lines i line h e, f) refl

pub names_not : (lines : List TickLine) (i n : ℕ) (line : TickLine) → i < length lines → get_or lines i line ≡ line → words_name n line.irq ≡ false
    → is_named (drop i lines) n ≡ is_named (drop (i + 1) lines) n
names_not lines i n line h e f = rw (left_lines lines i line h e, f) refl
