-- What is printed is a schedule file of the schedule.
use Rattle.std.proofs.Common.{◌≡◌, ℕ, zero, suc, ◌+◌, ◌-◌, ◌*◌, ◌/◌, ◌%◌, ◌^◌, ◌<◌, ◌≤◌, ◌≢◌, true, false, cond, eqb, List, [], ◌∷◌, ◌++◌, map, Some, None}
use Rattle.std.proofs.Common.{refl, sym, ap, ◌∙◌, arith, append_assoc, add-one, inl, inr}
use Rattle.std.specs.Prelude.{codes, decimal, IfSome, unwrap_or}
use Rattle.std.proofs.lemmas.List.Elements.{All-head, All-tail}
use Rattle.std.specs.List.{All, AllByRecursion, flat_map, join_with_byte}
use Rattle.std.proofs.Math.Nat.{pow-le-pow_right, pow-suc, mul-le-mul_right, mul_comm, mul_assoc, div-div-eq-div-mul, div-one}
use Rattle.std.proofs.lemmas.Bool.{cases_Bool, cases_lt, eqb-true, eqb-false}
use Rattle.std.proofs.lemmas.List.{append-nil}
use Rattle.hm_text_base.specs.Spans.{line}
use Rattle.hm_sched.specs.Words.{number_of, words_of}
use Rattle.hm_sched.specs.Schedule.{TickLine, Sched, IsLine, IsSched, most_irq, most_ticks, total}
use Rattle.hm_sched.specs.Written.{IsWritten, IsRising, irq_text, ticks_text, bits_of, meaning, head_lines, IsFile}
use Rattle.hm_sched.specs.Printed.{ones_from, printed, file_text}
use Rattle.hm_sched.proofs.WordLaws.{words-back}
use Rattle.hm_sched.proofs.Ticks.{total-cons, most_irq_few}

abbrev pub spaced : ℕ → List ℕ
spaced n = 32 ∷ decimal n

-- ---- the ones of a number

ones_odd : (p bits more : ℕ) → bits % 2 ≡ 1 → more ≡ (bits / 2) * (p * 2) → p + more ≡ bits * p
ones_odd p bits more odd is =
    let b : bits ≡ 2 * (bits / 2) + 1 = omega arith in
    let h : bits * p ≡ (2 * (bits / 2) + 1) * p = ap (λ (x : ℕ). x * p) b in
    omega (arith, is, h)

ones_even : (p bits more : ℕ) → (bits % 2 ≡ 1 → ⊥) → more ≡ (bits / 2) * (p * 2) → more ≡ bits * p
ones_even p bits more even is =
    let b : bits ≡ 2 * (bits / 2) = omega arith in
    let h : bits * p ≡ (2 * (bits / 2)) * p = ap (λ (x : ℕ). x * p) b in
    omega (arith, is, h)

pub bits_of-ones : (f k bits : ℕ) → bits < 2 ^ f → bits_of (ones_from f k bits) ≡ bits * 2 ^ k
unfolding ones_from
bits_of-ones zero k bits lt =
    let none : bits ≡ 0 = omega arith in
    rw none (omega arith)
bits_of-ones (suc f) k bits lt =
    let below : bits < 2 ^ f * 2 = rw pow-suc at lt in
    let more = bits_of-ones f (k + 1) (bits / 2) (omega arith) in
    let p : 2 ^ (k + 1) ≡ 2 ^ k * 2 = rw (add-one, pow-suc) refl in
    let q : bits_of (ones_from f (k + 1) (bits / 2)) ≡ (bits / 2) * (2 ^ k * 2) = more ∙ ap (λ (x : ℕ). (bits / 2) * x) p in
    elim (cases_Bool (eqb (bits % 2) 1)) [
      | inl e ↦ rw e (ones_odd (2 ^ k) bits (bits_of (ones_from f (k + 1) (bits / 2))) (eqb-true _ _ e) q)
      | inr e ↦ rw e (ones_even (2 ^ k) bits (bits_of (ones_from f (k + 1) (bits / 2))) (eqb-false _ _ e) q)
    ]

-- a bit that is set stands below what bounds the number
one_below : (most k bits : ℕ) → bits % 2 ≡ 1 → bits * 2 ^ k < 2 ^ most → k < most
one_below most k bits odd lt = elim (cases_lt k most) [
  | inl below ↦ below
  | inr above ↦ absurd (
      let p : 2 ^ most ≤ 2 ^ k = pow-le-pow_right {n = 2} (omega arith) {i = most} {j = k} above in
      let some : 1 * 2 ^ k ≤ bits * 2 ^ k = mul-le-mul_right (2 ^ k) (omega arith) in
      omega (arith, p, some))
]

half_below : (most k bits : ℕ) → bits * 2 ^ k < 2 ^ most → bits / 2 * 2 ^ (k + 1) < 2 ^ most
half_below most k bits lt =
    let p : 2 ^ (k + 1) ≡ 2 ^ k * 2 = rw (add-one, pow-suc) refl in
    let h : bits / 2 * 2 * 2 ^ k ≤ bits * 2 ^ k = mul-le-mul_right (2 ^ k) (omega arith) in
    let q : bits / 2 * 2 ^ (k + 1) ≡ bits / 2 * 2 * 2 ^ k = ap (λ (x : ℕ). bits / 2 * x) (p ∙ mul_comm (2 ^ k) 2) ∙ sym (mul_assoc (bits / 2) 2 (2 ^ k)) in
    omega (arith, q, h)

pub ones_rise : (f most k least bits : ℕ) → least ≤ k → bits * 2 ^ k < 2 ^ most → IsRising most least (ones_from f k bits)
unfolding ones_from
ones_rise zero most k least bits le fits = tt
ones_rise (suc f) most k least bits le fits =
    let more = half_below most k bits fits in
    elim (cases_Bool (eqb (bits % 2) 1)) [
      | inl e ↦ rw e (le, one_below most k bits (eqb-true _ _ e) fits, ones_rise f most (k + 1) (k + 1) (bits / 2) (omega arith) more)
      | inr e ↦ rw e (ones_rise f most (k + 1) least (bits / 2) (omega arith) more)
    ]

-- ---- a line

printed_count : (count : ℕ) → 1 ≤ count → count < 10 ^ 8
    → IfSome (cond (eqb count 1) None (Some count)) (λ n. (1 ≤ n) × (n < 10 ^ 8)) × (count ≡ unwrap_or (cond (eqb count 1) None (Some count)) 1)
printed_count count le lt =
    elim (cases_Bool (eqb count 1)) [
      | inl e ↦ rw e (tt, eqb-true _ _ e)
      | inr e ↦ rw e ((le, lt), refl)
    ]

same_tick : (t : TickLine) (count : ℕ) (irq : List ℕ) → t.count ≡ count → t.irq ≡ irq → t ≡ record { count = count; letters = t.letters; irq = irq }
same_tick t count irq e f = rw (← e, ← f) refl

consed : (t : TickLine) (ts : List TickLine) (u : TickLine) (us : List TickLine) → t ≡ u → ts ≡ us → t ∷ ts ≡ u ∷ us
consed t ts u us e f = cc

-- eight words are below 2 ^ 256
pub words_below : (t : TickLine) (most : ℕ) → most ≤ 256 → IsLine most t → number_of t.irq < 2 ^ 256
words_below t most few fits =
    let p : 2 ^ most ≤ 2 ^ 256 = pow-le-pow_right {n = 2} (omega arith) {i = most} {j = 256} few in
    omega (arith, p, fits.interrupts)

pub printed_fits : (most : ℕ) (t : TickLine) → most ≤ 256 → IsLine most t → t.count < 10 ^ 8 → IsWritten most (printed t) × (t ≡ meaning (printed t))
printed_fits most t few fits lt =
    let c = printed_count t.count fits.some lt in
    let n : bits_of (ones_from 256 0 (number_of t.irq)) ≡ number_of t.irq = bits_of-ones 256 0 (number_of t.irq) (words_below t most few fits)
    ∙ (omega arith) in
    let b : t.irq ≡ words_of 8 (bits_of (ones_from 256 0 (number_of t.irq))) = sym (words-back 8 t.irq fits.eight fits.each_word) ∙ ap (words_of 8) (sym n) in (
      record {
        count = c.0;
        few = fits.few;
        each_letter = fits.each_letter;
        numbers = ones_rise 256 most 0 0 (number_of t.irq) (omega arith) (omega (arith, fits.interrupts));
      },
      same_tick t (unwrap_or (printed t).count 1) (words_of 8 (bits_of (ones_from 256 0 (number_of t.irq)))) c.1 b,
    )

all_fit : (most : ℕ) (ts : List TickLine) → most ≤ 256 → All (IsLine most) ts → total ts ≤ most_ticks
    → AllByRecursion (IsWritten most) (map printed ts) × (ts ≡ map meaning (map printed ts))
all_fit most [] few fits le = (tt, refl)
all_fit most (t ∷ ts) few fits le =
    let sum = total-cons t ts in
    let one = printed_fits most t few (All-head (IsLine most) t ts fits) (omega arith) in
    let more = all_fit most ts few (All-tail (IsLine most) t ts fits) (omega arith) in
    ((one.0, more.0), consed t ts (meaning (printed t)) (map meaning (map printed ts)) one.1 more.1)

texts_same : (ts : List TickLine) → map (λ t. ticks_text (printed t)) ts ≡ map ticks_text (map printed ts)
texts_same [] = refl
texts_same (t ∷ ts) = ap (λ (x : List (List ℕ)). ticks_text (printed t) ∷ x) (texts_same ts)

pub IsFile-file_text : (s : Sched) → IsSched s → IsFile (file_text s) s
IsFile-file_text s sound =
    let all = all_fit (most_irq s.format) s.lines (most_irq_few s.format) sound.each_line sound.not_too_many in (
      map printed s.lines,
      record {
        bytes_are = ap (λ (x : List (List ℕ)). flat_map line (head_lines s ++ x)) (texts_same s.lines);
        each_fits = all.0;
        lines_are = all.1;
        sound = sound;
      },
    )

-- ---- the head

-- the parts of a line, one after another
pub region_grouped : (out a b c d e : List ℕ) → ((((out ++ a) ++ b) ++ c) ++ d) ++ e ≡ out ++ ((a ++ (b ++ (c ++ d))) ++ e)
region_grouped out a b c d e = simp append_assoc

-- the lines of a head, one after another
pub head_grouped : (out a b c d e : List ℕ) → ((((out ++ a) ++ b) ++ c) ++ d) ++ e ≡ out ++ (a ++ (b ++ (c ++ (d ++ e))))
head_grouped out a b c d e = simp append_assoc

-- ---- the loops

joined : (n : ℕ) (ns : List ℕ) → 32 ∷ join_with_byte 32 (map decimal (n ∷ ns)) ≡ flat_map spaced (n ∷ ns)
joined n [] = ap (λ (x : List ℕ). 32 ∷ x) (sym (append-nil (decimal n)))
joined n (m ∷ ns) = ap (λ (x : List ℕ). 32 ∷ (decimal n ++ x)) (joined m ns)

pub irq_spaced : (n : ℕ) (ns : List ℕ) → irq_text (n ∷ ns) ≡ codes " irq" ++ flat_map spaced (n ∷ ns)
irq_spaced n ns = ap (λ (x : List ℕ). codes " irq" ++ x) (joined n ns)

grouped : (out : List ℕ) (k : ℕ) (rest : List ℕ) → ((out ++ 32 ∷ []) ++ decimal k) ++ rest ≡ out ++ (32 ∷ (decimal k ++ rest))
grouped out k rest = append_assoc (out ++ 32 ∷ []) (decimal k) rest ∙ append_assoc out (32 ∷ []) (decimal k ++ rest)

pub none_printed : (number : ℕ) → number / 2 ^ 0 ≡ number
none_printed number = div-one number

-- what is left of a number behind the bits that were printed
rest_of : (number k : ℕ) → number / 2 ^ (k + 1) ≡ number / 2 ^ k / 2
rest_of number k = ap (λ (x : ℕ). number / x) (rw (add-one, pow-suc) refl) ∙ sym (div-div-eq-div-mul number (2 ^ k) 2)

pub ones_step : (out : List ℕ) (k number : ℕ) (whole : List ℕ) → k < 256 → eqb (number / 2 ^ k % 2) 1 ≡ true
    → out ++ flat_map spaced (ones_from (256 - k) k (number / 2 ^ k)) ≡ whole
    → ((out ++ 32 ∷ []) ++ decimal k) ++ flat_map spaced (ones_from (256 - (k + 1)) (k + 1) (number / 2 ^ (k + 1))) ≡ whole
unfolding ones_from
ones_step out k number whole lt e so_far =
    let f : 256 - k ≡ suc (256 - (k + 1)) = omega arith in
    let one : out ++ flat_map spaced (ones_from (256 - k) k (number / 2 ^ k))
    ≡ out ++ flat_map spaced (k ∷ ones_from (256 - (k + 1)) (k + 1) (number / 2 ^ k / 2)) = rw (f, e) refl in
    rw (rest_of number k) (grouped out k (flat_map spaced (ones_from (256 - (k + 1)) (k + 1) (number / 2 ^ k / 2))) ∙ sym one ∙ so_far)

pub zeros_step : (out : List ℕ) (k number : ℕ) (whole : List ℕ) → k < 256 → eqb (number / 2 ^ k % 2) 1 ≡ false
    → out ++ flat_map spaced (ones_from (256 - k) k (number / 2 ^ k)) ≡ whole
    → out ++ flat_map spaced (ones_from (256 - (k + 1)) (k + 1) (number / 2 ^ (k + 1))) ≡ whole
unfolding ones_from
zeros_step out k number whole lt e so_far =
    let f : 256 - k ≡ suc (256 - (k + 1)) = omega arith in
    let one : out ++ flat_map spaced (ones_from (256 - k) k (number / 2 ^ k))
    ≡ out ++ flat_map spaced (ones_from (256 - (k + 1)) (k + 1) (number / 2 ^ k / 2)) = rw (f, e) refl in
    rw (rest_of number k) (sym one ∙ so_far)

spaced_some : (irq : ℕ) (ns : List ℕ) → ones_from 256 0 irq ≡ ns → irq ≢ 0 → irq < 2 ^ 256 → irq_text ns ≡ codes " irq" ++ flat_map spaced ns
spaced_some irq [] e some lt = absurd (some (omega (arith, bits_of-ones 256 0 irq lt, ap bits_of e)))
spaced_some irq (n ∷ ns) e some lt = irq_spaced n ns

pub irq_done : (out out_then : List ℕ) (irq bits k : ℕ) → irq ≢ 0 → irq < 2 ^ 256 → 256 ≤ k
    → out_then ++ flat_map spaced (ones_from (256 - k) k bits) ≡ (out ++ codes " irq") ++ flat_map spaced (ones_from 256 0 irq)
    → out_then ≡ out ++ irq_text (ones_from 256 0 irq)
unfolding ones_from
irq_done out out_then irq bits k some lt le so_far =
    let f : 256 - k ≡ 0 = omega arith in
    let e : out_then ++ flat_map spaced (ones_from (256 - k) k bits) ≡ out_then = rw f (append-nil out_then) in
    sym e ∙ so_far ∙ append_assoc out (codes " irq") (flat_map spaced (ones_from 256 0 irq))
    ∙ ap (λ (x : List ℕ). out ++ x) (sym (spaced_some irq (ones_from 256 0 irq) refl some lt))

pub no_irq : (out : List ℕ) (irq : ℕ) → irq ≡ 0 → out ≡ out ++ irq_text (ones_from 256 0 irq)
unfolding ones_from
no_irq out irq e = rw e (sym (append-nil out))
