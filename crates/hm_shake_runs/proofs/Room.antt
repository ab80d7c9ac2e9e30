-- The stretches of a run: how many ticks they have, and that they are sound.
use Rattle.std.proofs.Common.{◌≡◌, ℕ, zero, suc, ◌+◌, ◌-◌, ◌*◌, ◌^◌, ◌<◌, ◌≤◌, List, [], ◌++◌, length, arith, refl, ap, ◌∙◌, map, Some, None}
use Rattle.std.specs.List.{All}
use Rattle.std.specs.Prelude.{slice_index}
use Rattle.std.proofs.lemmas.List.{map-append}
use Rattle.std.proofs.lemmas.List.Elements.{All-append, All-cons, All-nil}
use Rattle.std.proofs.lemmas.List.Sums.{sum_by-append}
use Rattle.std.proofs.lemmas.Nat.{div_below, mul-le}
use Rattle.hm_base.specs.Draws.{draw, drawn}
use Rattle.hm_sched.specs.Schedule.{TickLine, most_ticks, total}
use Rattle.hm_shake_runs.specs.Draws.{part}
use Rattle.hm_shake_runs.specs.Shaken.{gap_of, gap_part, interrupt_part, pairs, tail_part, with_tail}
use Rattle.hm_shake_runs.specs.Stretches.{IsStretch, stretch_line}
use Rattle.hm_shake_runs.specs.declared.stretches.Stretch.{Stretch}

-- ---- draws

pub part_below : (x n : ℕ) → x < 2 ^ 32 → 0 < n → part x n < n
part_below x n lt some =
    let most : x * n ≤ (2 ^ 32 - 1) * n = mul-le x n (2 ^ 32 - 1) n (omega arith) (omega arith) in
    div_below (x * n) (2 ^ 32) n (omega arith) (omega arith)

draw_below : (x : ℕ) → draw x < 2 ^ 32
draw_below x = omega arith

pub letters_below : (x : ℕ) → part (drawn 1 x) 4 < 4
letters_below x = part_below (draw x) 4 (draw_below x) (omega arith)

pub second_below : (x n : ℕ) → 0 < n → part (drawn 2 x) n < n
second_below x n some = part_below (draw (draw x)) n (draw_below (draw x)) some

-- ---- how many ticks

abbrev pub ticks : List Stretch → ℕ
ticks xs = total (map stretch_line xs)

pub ticks-append : (xs ys : List Stretch) → ticks (xs ++ ys) ≡ ticks xs + ticks ys
ticks-append xs ys =
    ap total (map-append stretch_line xs ys) ∙ sum_by-append (λ (line : TickLine). line.count) (map stretch_line xs) (map stretch_line ys)

ticks_of_gap : (n letters : ℕ) → ticks (gap_of n letters) ≡ n
ticks_of_gap zero letters = refl
ticks_of_gap (suc n) letters = omega arith

few_in_gap : (gap x : ℕ) → ticks (gap_part gap x) ≤ gap
few_in_gap gap x =
    let few = second_below x (gap + 1) (omega arith) in
    let is = ticks_of_gap (part (drawn 2 x) (gap + 1)) (1 + part (drawn 1 x) 4) in
    omega arith

one_in_interrupt : (irqs : List ℕ) (x : ℕ) → ticks (interrupt_part irqs x) ≡ 1
one_in_interrupt irqs x = omega arith

one_more_pair : (n m : ℕ) → suc n * m ≡ m + n * m
one_more_pair n m = omega arith

pub few_in_pairs : (n gap : ℕ) (irqs : List ℕ) (x : ℕ) → ticks (pairs n gap irqs x) ≤ n * (gap + 1)
few_in_pairs zero gap irqs x = omega arith
few_in_pairs (suc n) gap irqs x =
    let first = ticks-append (gap_part gap x) (interrupt_part irqs (drawn 2 x) ++ pairs n gap irqs (drawn 4 x)) in
    let then' = ticks-append (interrupt_part irqs (drawn 2 x)) (pairs n gap irqs (drawn 4 x)) in
    let one = one_in_interrupt irqs (drawn 2 x) in
    let few = few_in_gap gap x in
    let rest = few_in_pairs n gap irqs (drawn 4 x) in
    let more = one_more_pair n (gap + 1) in
    omega arith

pub all_with_tail : (xs : List Stretch) → ticks xs ≤ most_ticks → ticks (with_tail xs) ≡ most_ticks
all_with_tail xs room =
    let both = ticks-append xs (tail_part (ticks xs)) in
    let is = ticks_of_gap (most_ticks - ticks xs) 4 in
    omega arith

-- ---- sound

sound_gap : (most n letters : ℕ) → n ≤ 99999999 → 1 ≤ letters → letters ≤ 4 → All (IsStretch most) (gap_of n letters)
sound_gap most zero letters few some four = All-nil (IsStretch most)
sound_gap most (suc n) letters few some four =
    All-cons (IsStretch most) (record { count = suc n; letters = letters; irq = None }) []
    (record { some = omega arith; eight_digits = few; some_letters = some; few_letters = four; named = tt }) (All-nil (IsStretch most))

sound_gap_part : (most gap x : ℕ) → gap ≤ most_ticks → All (IsStretch most) (gap_part gap x)
sound_gap_part most gap x few =
    let below = second_below x (gap + 1) (omega arith) in
    let letters = letters_below x in
    sound_gap most (part (drawn 2 x) (gap + 1)) (1 + part (drawn 1 x) 4) (omega arith) (omega arith) (omega arith)

sound_interrupt : (most : ℕ) (irqs : List ℕ) (x : ℕ) → 0 < length irqs → All (λ n. n < most) irqs → All (IsStretch most) (interrupt_part irqs x)
sound_interrupt most irqs x some each =
    let letters = letters_below x in
    All-cons (IsStretch most) (record { count = 1; letters = 1 + part (drawn 1 x) 4; irq = Some (slice_index irqs (part (drawn 2 x) (length irqs))) }) []
    (record {
      some = omega arith;
      eight_digits = omega arith;
      some_letters = omega arith;
      few_letters = omega arith;
      named = each (part (drawn 2 x) (length irqs)) _ (second_below x (length irqs) some);
    })
    (All-nil (IsStretch most))

sound_pairs : (most n gap : ℕ) (irqs : List ℕ) (x : ℕ) → gap ≤ most_ticks → 0 < length irqs → All (λ n. n < most) irqs
    → All (IsStretch most) (pairs n gap irqs x)
sound_pairs most zero gap irqs x few some each = All-nil (IsStretch most)
sound_pairs most (suc n) gap irqs x few some each =
    All-append (IsStretch most) (gap_part gap x) (interrupt_part irqs (drawn 2 x) ++ pairs n gap irqs (drawn 4 x)) (sound_gap_part most gap x few)
    (All-append (IsStretch most) (interrupt_part irqs (drawn 2 x)) (pairs n gap irqs (drawn 4 x)) (sound_interrupt most irqs (drawn 2 x) some each)
    (sound_pairs most n gap irqs (drawn 4 x) few some each))

pub sound_shaken : (most n gap : ℕ) (irqs : List ℕ) (x : ℕ) → gap ≤ most_ticks → 0 < length irqs → All (λ n. n < most) irqs
    → All (IsStretch most) (with_tail (pairs n gap irqs x))
sound_shaken most n gap irqs x few some each =
    All-append (IsStretch most) (pairs n gap irqs x) (tail_part (ticks (pairs n gap irqs x))) (sound_pairs most n gap irqs x few some each)
    (sound_gap most (most_ticks - ticks (pairs n gap irqs x)) 4 (omega arith) (omega arith) (omega arith))

-- where there are interrupts of some gaps in a row, there is room for all
pub room_for_pairs : (n gap : ℕ) (irqs : List ℕ) (x : ℕ) → n * (gap + 1) ≤ most_ticks → ticks (pairs n gap irqs x) ≤ most_ticks
room_for_pairs n gap irqs x room =
    let few = few_in_pairs n gap irqs x in
    omega arith

-- the same of a list that is found to be them
pub behind_none : (new out part : List Stretch) → new ≡ out ++ part → out ≡ [] → new ≡ part
behind_none new out part e f = e ∙ ap (λ (x : List Stretch). x ++ part) f

pub room_after : (out : List Stretch) (n gap : ℕ) (irqs : List ℕ) (x : ℕ) → out ≡ pairs n gap irqs x → n * (gap + 1) ≤ most_ticks → ticks out ≤ most_ticks
room_after out n gap irqs x e room = rw e (room_for_pairs n gap irqs x room)
