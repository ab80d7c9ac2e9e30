-- The schedule of a run is one: its lines are of the grammar, and there are not too many ticks.
use Rattle.std.proofs.Common.{◌≡◌, ℕ, zero, suc, ◌+◌, ◌*◌, ◌/◌, ◌^◌, ◌<◌, ◌≤◌, List, Option, Some, None, arith, inl, inr, length, map, refl}
use Rattle.std.specs.List.{All}
use Rattle.std.proofs.Math.Nat.{div-le_self, div-mul-le_self}
use Rattle.std.proofs.lemmas.List.Elements.{All-map}
use Rattle.std.proofs.lemmas.Nat.{mul-le}
use Rattle.hm_sched.proofs.Ticks.{most_irq_few}
use Rattle.hm_sched.proofs.WordLaws.{IsWord, length-words_of, low_words, words_fit}
use Rattle.hm_sched.specs.Schedule.{IsFormat, IsLine, IsSched, most_irq, most_ticks, total}
use Rattle.hm_shake_runs.proofs.Room.{all_with_tail, room_for_pairs, sound_shaken}
use Rattle.hm_shake_runs.proofs.Words.{irq_named, length-steps, steps_letters}
use Rattle.hm_shake_runs.specs.Draws.{first}
use Rattle.hm_shake_runs.specs.Shaken.{digits, longest_gap, many_pairs, pairs, shaken, shaken_schedule}
use Rattle.hm_shake_runs.specs.Stretches.{IsStretch, irq_words, stretch_line}
use Rattle.hm_shake_runs.specs.declared.head.Head.{Head}
use Rattle.hm_shake_runs.specs.declared.plan.Plan.{Plan}
use Rattle.hm_shake_runs.specs.declared.stretches.Stretch.{Stretch}

-- ---- lines

irq_eight : (o : Option ℕ) → length (irq_words o) ≡ 8
irq_eight None = refl
irq_eight (Some n) = length-words_of 8 (2 ^ n)

irq_fit : (o : Option ℕ) → All IsWord (irq_words o)
irq_fit None = low_words 0 (omega arith)
irq_fit (Some n) = words_fit 8 (2 ^ n)

line_so : (most : ℕ) (x : Stretch) → most ≤ 256 → IsStretch most x → IsLine most (stretch_line x)
line_so most x few h =
    let size = length-steps x.letters in
    let letters = h.few_letters in
    record {
      some = h.some;
      few = omega arith;
      each_letter = steps_letters x.letters;
      eight = irq_eight x.irq;
      each_word = irq_fit x.irq;
      interrupts = irq_named most x.irq few h.named;
    }

-- ---- ticks

gap_most : (p : Plan) (run : ℕ) → longest_gap p run ≤ most_ticks
gap_most p run =
    let few = p.begun in
    let less : longest_gap p run ≤ p.ticks = div-le_self p.ticks (2 ^ (digits 25 p.ticks * run / p.runs)) in
    omega arith

many_fit : (ticks gap : ℕ) → many_pairs ticks gap * (gap + 1) ≤ most_ticks
many_fit ticks gap =
    let few : many_pairs ticks gap ≤ most_ticks / (gap + 1) = omega arith in
    let product = mul-le (many_pairs ticks gap) (gap + 1) (most_ticks / (gap + 1)) (gap + 1) few (omega arith) in
    let whole = div-mul-le_self most_ticks (gap + 1) in
    omega arith

-- there are two formats
two_formats : (n : ℕ) → 1 ≤ n → n ≤ 2 → IsFormat n
two_formats zero start end = absurd (omega arith)
two_formats (suc zero) start end = inl refl
two_formats (suc (suc zero)) start end = inr refl
two_formats (suc (suc (suc n))) start end = absurd (omega arith)

pub shaken_lawful : (p : Plan) (h : Head) (irqs : List ℕ) (run : ℕ) → 0 < length irqs → All (λ n. n < most_irq h.format) irqs
    → IsSched (shaken_schedule p h irqs run)
shaken_lawful p h irqs run some each =
    let gap = longest_gap p run in
    let many = many_pairs p.ticks gap in
    let x = first p.seed run in
    let most = most_irq h.format in
    let sound = sound_shaken most many gap irqs x (gap_most p run) some each in
    let are : total (map stretch_line (shaken p irqs run)) ≡ most_ticks =
    all_with_tail (pairs many gap irqs x) (room_for_pairs many gap irqs x (many_fit p.ticks gap)) in
    record {
      known = two_formats h.format h.format_start h.format_end;
      region_start = h.region_start;
      region_order = h.region_order;
      region_end = h.region_end;
      floor_start = h.floor_start;
      floor_end = h.floor_end;
      process_start = h.process_start;
      process_end = h.process_end;
      one_floor = h.one_floor;
      each_line = All-map (IsLine most) stretch_line (shaken p irqs run) (λ k d lt. line_so most _ (most_irq_few h.format) (sound k d lt));
      not_too_many = omega arith;
    }
