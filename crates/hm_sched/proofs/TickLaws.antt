-- A line of ticks that is read is written so, and what is written so is read.
use Rattle.std.proofs.Common.{◌≡◌, ◌≢◌, ℕ, zero, suc, ◌+◌, ◌*◌, ◌^◌, ◌<◌, ◌≤◌, Bool, true, false, cond, eqb, ltb, leb, List, [], ◌∷◌, ◌++◌, map, drop, length}
use Rattle.std.proofs.Common.{Option, Some, None, Ok, refl, sym, ap, subst, ◌∙◌, arith, append_assoc, add-one}
use Rattle.std.specs.Prelude.{ok_or, unwrap_or, decimal, codes, IfSome, ◌==◌, ◌||◌, not, bytes_eq, nat_eq}
use Rattle.std.proofs.Math.Nat.{pow-le-pow_right, pow-suc}
use Rattle.std.proofs.lemmas.List.Elements.{All-nil, All-cons, All-head, All-tail}
use Rattle.std.specs.List.{All, AllByRecursion, list_all, slice_split, join_with_byte, starts_with}
use Rattle.std.proofs.lemmas.Bool.{ltb-false, leb-false, le-ltb, lt-leb, ne_eqb, or_parts, and_parts, not-false}
use Rattle.std.proofs.lemmas.Bool.Decides.{nat_tests, Decides-eqb}
use Rattle.std.proofs.lemmas.Slice.Eq.{bytes_eq-Decides, starts_is}
use Rattle.std.proofs.lemmas.List.{append-nil}
use Rattle.std.proofs.lemmas.List.Splits.{join_with_byte-slice_split}
use Rattle.hm_sched.specs.declared.errors.LineKind.TheVariants.{Steps, Irq}
use Rattle.hm_text_base.specs.Reading.{◌>>=◌}
use Rattle.hm_text_base.specs.Spans.{span, Lacks}
use Rattle.hm_text_base.specs.Numbers.{number_in}
use Rattle.hm_sched.specs.Words.{words_of}
use Rattle.hm_sched.specs.Schedule.{TickLine, IsLetter, IsLine}
use Rattle.hm_sched.specs.Written.{Written, IsWritten, IsRising, count_text, steps_text, irq_text, ticks_text, bits_of, meaning}
use Rattle.hm_sched.specs.ReadLine.{is_letter, after_count, counted, count_in, steps_in, numbers_in, irq_in, ticks_in}
use Rattle.hm_sched.proofs.WordLaws.{length-words_of, words_fit, number-back}
use Rattle.hm_text_base.proofs.Steps.{bind_ok, ok_or_found, ok_is, some_is, and_then_some, guard_some, test_some}
use Rattle.hm_text_base.proofs.NumberLaws.{number_found, number_again, decimal_lacks}
use Rattle.hm_text_base.proofs.SpanLaws.{BeginsWith, span_parts, span_first, span_at, span_all, split_span, split_join, Lacks_append}

-- ---- letters

letter_is : (c : ℕ) → is_letter c ≡ true → IsLetter c
letter_is c e = grind (arith, nat_tests)

letter_again : (c : ℕ) → IsLetter c → is_letter c ≡ true
letter_again c h = grind (arith, nat_tests)

letters_are : (cs : List ℕ) → list_all is_letter cs ≡ true → All IsLetter cs
letters_are [] e = All-nil IsLetter
letters_are (c ∷ cs) e =
    let p = and_parts (is_letter c) (list_all is_letter cs) e in
    All-cons IsLetter c cs (letter_is c p.0) (letters_are cs p.1)

letters_again : (cs : List ℕ) → All IsLetter cs → list_all is_letter cs ≡ true
letters_again [] all = refl
letters_again (c ∷ cs) all = rw (letter_again c (All-head IsLetter c cs all), letters_again cs (All-tail IsLetter c cs all)) refl

-- ---- what texts lack

letters_lack : (mark : ℕ) (letters : List ℕ) → mark < 79 → list_all is_letter letters ≡ true → Lacks mark letters
letters_lack mark [] lt e = tt
letters_lack mark (c ∷ letters) lt e =
    let p = and_parts (is_letter c) (list_all is_letter letters) e in
    let above : 79 ≤ c = grind (arith, nat_tests, p.0) in
    ((λ is. omega arith), letters_lack mark letters lt p.1)

steps_lack : (mark : ℕ) (letters : List ℕ) → mark < 45 → list_all is_letter letters ≡ true → Lacks mark (steps_text letters)
steps_lack mark [] lt e = ((λ is. omega arith), tt)
steps_lack mark (c ∷ letters) lt e = letters_lack mark (c ∷ letters) (omega arith) e

words_lack : (most mark least : ℕ) (ns : List ℕ) → most ≤ 256 → mark < 48 → IsRising most least ns → AllByRecursion (Lacks mark) (map decimal ns)
words_lack most mark least [] few lt rising = tt
words_lack most mark least (n ∷ ns) few lt rising = (decimal_lacks mark n lt (omega (arith, rising.1)), words_lack most mark (n + 1) ns few lt rising.2)

join_lacks : (mark : ℕ) (words : List (List ℕ)) → 32 ≢ mark → AllByRecursion (Lacks mark) words → Lacks mark (join_with_byte 32 words)
join_lacks mark [] ne all = tt
join_lacks mark (w ∷ []) ne all = all.0
join_lacks mark (w ∷ v ∷ words) ne all = Lacks_append mark w (32 ∷ join_with_byte 32 (v ∷ words)) all.0 (ne, join_lacks mark (v ∷ words) ne all.1)

pub irq_lacks : (most mark : ℕ) (ns : List ℕ) → most ≤ 256 → mark < 48 → 32 ≢ mark → IsRising most 0 ns → Lacks mark (irq_text ns)
irq_lacks most mark [] few lt ne rising = tt
irq_lacks most mark (n ∷ ns) few lt ne rising =
    Lacks_append mark (codes " irq ") (join_with_byte 32 (map decimal (n ∷ ns)))
    (ne, ((λ is. omega arith), ((λ is. omega arith), ((λ is. omega arith), (ne, tt)))))
    (join_lacks mark (map decimal (n ∷ ns)) ne (words_lack most mark 0 (n ∷ ns) few lt rising))

-- ---- the count

pub record Counts (text : List ℕ) (x : ℕ × List ℕ) : Type 0 where
  pub count : Option ℕ
  pub fits : IfSome count (λ n. (1 ≤ n) × (n < 10 ^ 8))
  pub value : x.0 ≡ unwrap_or count 1
  pub parts : text ≡ count_text count ++ x.1

after_found : (o : Option ℕ) (rest : List ℕ) (x : ℕ × List ℕ) → after_count o rest ≡ Ok x → (o ≡ Some x.0) × (1 ≤ x.0) × (rest ≡ x.1)
after_found None rest x e = absurd cc
after_found (Some zero) rest x e = absurd cc
after_found (Some (suc n)) rest x e =
    let some : eqb (suc n) 0 ≡ false = ne_eqb (suc n) 0 (λ is. omega arith) in
    let p : (suc n, rest) ≡ x = ok_is (suc n, rest) x (rw some at e) in
    let q : suc n ≡ x.0 = ap (λ (y : ℕ × List ℕ). y.0) p in
    (ap (λ (y : ℕ). Some y) q, omega arith, ap (λ (y : ℕ × List ℕ). y.1) p)

counted_found : (text : List ℕ) (s : List ℕ × List ℕ) (x : ℕ × List ℕ) → s.0 ++ s.1 ≡ text → BeginsWith 42 s.1 → counted text s ≡ Ok x → Counts text x
counted_found text (front, []) x parts first e =
    let p : (1, text) ≡ x = ok_is (1, text) x e in
    record { count = None; fits = tt; value = sym (ap (λ (y : ℕ × List ℕ). y.0) p); parts = ap (λ (y : ℕ × List ℕ). y.1) p }
counted_found text (front, star ∷ rest) x parts first e =
    let a = after_found (number_in front) rest x e in
    let n = number_found front x.0 a.0 in
    record {
      count = Some x.0;
      fits = (a.1, n.1);
      value = refl;
      parts = sym parts ∙ rw (n.0, first, a.2) (sym (append_assoc (decimal x.0) (42 ∷ []) x.1));
    }

count_found : (text : List ℕ) (x : ℕ × List ℕ) → count_in text ≡ Ok x → Counts text x
unfolding count_in
count_found text x e = counted_found text (span 42 text) x (span_parts 42 text) (span_first 42 text) e

count_again : (count : Option ℕ) (rest : List ℕ) → IfSome count (λ n. (1 ≤ n) × (n < 10 ^ 8)) → Lacks 42 rest
    → count_in (count_text count ++ rest) ≡ Ok (unwrap_or count 1, rest)
unfolding count_in
count_again None rest fits lacks = rw (span_all 42 rest lacks) refl
count_again (Some n) rest fits lacks =
    let regrouped : count_text (Some n) ++ rest ≡ decimal n ++ 42 ∷ rest = append_assoc (decimal n) (42 ∷ []) rest in
    let cut = span_at 42 (decimal n) rest (decimal_lacks 42 n (omega arith) fits.1) in
    let some : eqb n 0 ≡ false = ne_eqb n 0 (λ is. omega (arith, fits.0)) in
    rw (regrouped, cut, number_again n fits.1, some) refl

-- ---- the steps

steps_plain : (text letters : List ℕ) → cond (eqb (length text) 0 || (ltb 8 (length text) || not (list_all is_letter text))) None (Some text) ≡ Some letters
    → (length letters ≤ 8) × (list_all is_letter letters ≡ true) × (text ≡ steps_text letters)
steps_plain [] letters e = absurd cc
steps_plain (c ∷ text) letters e =
    let g = guard_some (eqb (length (c ∷ text)) 0 || (ltb 8 (length (c ∷ text)) || not (list_all is_letter (c ∷ text)))) (Some (c ∷ text)) letters e in
    let t = or_parts (eqb (length (c ∷ text)) 0) (ltb 8 (length (c ∷ text)) || not (list_all is_letter (c ∷ text))) g.0 in
    let u = or_parts (ltb 8 (length (c ∷ text))) (not (list_all is_letter (c ∷ text))) t.1 in
    let same : c ∷ text ≡ letters = some_is (c ∷ text) letters g.1 in
    subst (λ (x : List ℕ). (length x ≤ 8) × (list_all is_letter x ≡ true) × (c ∷ text ≡ steps_text x)) same
    (ltb-false 8 (length (c ∷ text)) u.0, not-false (list_all is_letter (c ∷ text)) u.1, refl)

steps_cases : (text letters : List ℕ) (dash : Bool) → (dash ≡ true → text ≡ codes "-")
    → cond dash (Some []) (cond (eqb (length text) 0 || (ltb 8 (length text) || not (list_all is_letter text))) None (Some text)) ≡ Some letters
    → (length letters ≤ 8) × (list_all is_letter letters ≡ true) × (text ≡ steps_text letters)
steps_cases text letters true is e =
    subst (λ (x : List ℕ). (length x ≤ 8) × (list_all is_letter x ≡ true) × (text ≡ steps_text x)) (some_is [] letters e) (omega arith, refl, is refl)
steps_cases text letters false is e = steps_plain text letters e

steps_found : (text letters : List ℕ) → steps_in text ≡ Some letters → (length letters ≤ 8) × (list_all is_letter letters ≡ true) × (text ≡ steps_text letters)
unfolding steps_in
steps_found text letters e = steps_cases text letters (bytes_eq text (codes "-")) (bytes_eq-Decides text (codes "-")).0 e

steps_again : (letters : List ℕ) → length letters ≤ 8 → list_all is_letter letters ≡ true → steps_in (steps_text letters) ≡ Some letters
unfolding steps_in
steps_again [] short all = refl
steps_again (c ∷ letters) short all =
    let p = and_parts (is_letter c) (list_all is_letter letters) all in
    let other : eqb c 45 ≡ false = grind (arith, nat_tests, p.0) in
    let fits : ltb 8 (length (c ∷ letters)) ≡ false = le-ltb _ _ short in
    let some : eqb (length (c ∷ letters)) 0 ≡ false = ne_eqb _ _ (λ is. omega arith) in
    rw (other, some, fits, p.0, p.1) refl

-- ---- the interrupts

numbers_made : (word : List ℕ) (words : List (List ℕ)) (most least bits total n : ℕ) (ns : List ℕ) → word ≡ decimal n → least ≤ n → n < most
    → IsRising most (n + 1) ns → words ≡ map decimal ns → total ≡ bits + 2 ^ n + bits_of ns
    → (ms : List ℕ) × IsRising most least ms × (word ∷ words ≡ map decimal ms) × (total ≡ bits + bits_of ms)
numbers_made word words most least bits total n ns is low high rising are value = (n ∷ ns, (low, high, rising), rw (is, are) refl, omega (arith, value))

numbers_found : (words : List (List ℕ)) (most least bits total : ℕ) → numbers_in most least bits words ≡ Some total
    → (ns : List ℕ) × IsRising most least ns × (words ≡ map decimal ns) × (total ≡ bits + bits_of ns)
unfolding numbers_in
numbers_found [] most least bits total e = ([], tt, refl, omega (arith, some_is bits total e))
numbers_found (word ∷ words) most least bits total e =
    let a = and_then_some (number_in word) (λ n. cond (ltb n least || leb most n) None (numbers_in most (n + 1) (bits + 2 ^ n) words)) total e in
    let g = guard_some (ltb a.0 least || leb most a.0) (numbers_in most (a.0 + 1) (bits + 2 ^ a.0) words) total a.2 in
    let t = or_parts (ltb a.0 least) (leb most a.0) g.0 in
    let n = number_found word a.0 a.1 in
    let more = numbers_found words most (a.0 + 1) (bits + 2 ^ a.0) total g.1 in
    numbers_made word words most least bits total a.0 more.0 n.0 (ltb-false a.0 least t.0) (leb-false most a.0 t.1) more.1 more.2 more.3

numbers_again : (ns : List ℕ) (most least bits : ℕ) → most ≤ 256 → IsRising most least ns
    → numbers_in most least bits (map decimal ns) ≡ Some (bits + bits_of ns)
unfolding numbers_in
numbers_again [] most least bits few rising = ap (λ (x : ℕ). Some x) (omega arith)
numbers_again (n ∷ ns) most least bits few rising =
    let low : ltb n least ≡ false = le-ltb _ _ rising.0 in
    let high : leb most n ≡ false = lt-leb _ _ rising.1 in
    let sum : bits + 2 ^ n + bits_of ns ≡ bits + (2 ^ n + bits_of ns) = omega arith in
    rw (number_again n (omega (arith, rising.1)), low, high) (numbers_again ns most (n + 1) (bits + 2 ^ n) few rising.2 ∙ ap (λ (x : ℕ). Some x) sum)

irq_made : (most : ℕ) (text : List ℕ) (bits : ℕ) (rest ns : List ℕ) → IsRising most 0 ns → text ≡ codes " irq " ++ rest
    → rest ≡ join_with_byte 32 (map decimal ns) → (ns ≡ [] → ⊥) → bits ≡ 0 + bits_of ns
    → (ns : List ℕ) × IsRising most 0 ns × (text ≡ irq_text ns) × (bits ≡ bits_of ns)
irq_made most text bits rest [] rising front joined some value = absurd (some refl)
irq_made most text bits rest (n ∷ ns) rising front joined some value =
    (n ∷ ns, rising, front ∙ ap (λ (x : List ℕ). codes " irq " ++ x) joined, omega (arith, value))

irq_found : (most : ℕ) (text : List ℕ) (bits : ℕ) → irq_in most text ≡ Some bits
    → (ns : List ℕ) × IsRising most 0 ns × (text ≡ irq_text ns) × (bits ≡ bits_of ns)
unfolding irq_in
irq_found most [] bits e = ([], tt, refl, sym (some_is 0 bits e))
irq_found most (b ∷ text) bits e =
    let some : eqb (length (b ∷ text)) 0 ≡ false = ne_eqb _ _ (λ is. omega arith) in
    let a = test_some (starts_with nat_eq (b ∷ text) (codes " irq ")) (numbers_in most 0 0 (slice_split (λ x. x == 32) (drop 4 text))) bits (rw some at e) in
    let front = (starts_is Decides-eqb (b ∷ text) (codes " irq ") (starts_with nat_eq (b ∷ text) (codes " irq ")) refl).0 a.0 in
    let n = numbers_found (slice_split (λ x. x == 32) (drop 4 text)) most 0 0 bits a.1 in
    let joined = join_with_byte-slice_split 32 (drop 4 text) in
    let first = split_span 32 (drop 4 text) in
    irq_made most (b ∷ text) bits (drop 4 text) n.0 n.1 front (sym joined ∙ ap (λ (x : List (List ℕ)). join_with_byte 32 x) n.2)
    (λ none. absurd (omega (arith, ap length (sym first ∙ n.2 ∙ ap (λ (x : List ℕ). map decimal x) none)))) n.3

irq_again : (most : ℕ) (ns : List ℕ) → most ≤ 256 → IsRising most 0 ns → irq_in most (irq_text ns) ≡ Some (bits_of ns)
unfolding irq_in
irq_again most [] few rising = refl
irq_again most (n ∷ ns) few rising =
    let some : eqb (length (irq_text (n ∷ ns))) 0 ≡ false = ne_eqb _ _ (λ is. omega arith) in
    rw (some, split_join 32 (decimal n) (map decimal ns) (words_lack most 32 0 (n ∷ ns) few (omega arith) rising))
    (numbers_again (n ∷ ns) most 0 0 few rising ∙ ap (λ (x : ℕ). Some x) (omega arith))

-- ---- the line

cut_steps : (letters ns : List ℕ) → list_all is_letter letters ≡ true → span 32 (steps_text letters ++ irq_text ns) ≡ (steps_text letters, irq_text ns)
cut_steps letters [] all = ap (span 32) (append-nil (steps_text letters)) ∙ span_all 32 (steps_text letters) (steps_lack 32 letters (omega arith) all)
cut_steps letters (n ∷ ns) all = span_at 32 (steps_text letters) (drop 1 (irq_text (n ∷ ns))) (steps_lack 32 letters (omega arith) all)

-- the text writes the line
abbrev pub IsTicks : ℕ → List ℕ → TickLine → Type 0
IsTicks most text t = (w : Written) × IsWritten most w × (text ≡ ticks_text w) × (t ≡ meaning w)

tick_made : (most : ℕ) (text : List ℕ) (x : ℕ × List ℕ) (steps irqs letters : List ℕ) (bits : ℕ) (t : TickLine) → Counts text x → length letters ≤ 8
    → list_all is_letter letters ≡ true → steps ≡ steps_text letters
    → (ns : List ℕ) × IsRising most 0 ns × (irqs ≡ irq_text ns) × (bits ≡ bits_of ns) → steps ++ irqs ≡ x.1
    → record { count = x.0; letters = letters; irq = words_of 8 bits } ≡ t → IsTicks most text t
tick_made most text x steps irqs letters bits t c short all is i cut made =
    let w : Written = record { count = c.count; letters = letters; numbers = i.0 } in
    let parts : x.1 ≡ steps_text letters ++ irq_text i.0 = sym cut ∙ rw (is, i.2) refl in (
      w,
      record { count = c.fits; few = short; each_letter = letters_are letters all; numbers = i.1 },
      c.parts
          ∙ ap (λ (r : List ℕ). count_text c.count ++ r) parts,
      sym made ∙ rw (c.value, i.3) refl,
    )

pub ticks_found : (most : ℕ) (text : List ℕ) (t : TickLine) → ticks_in most text ≡ Ok t → IsTicks most text t
unfolding ticks_in
ticks_found most text t e =
    let a = bind_ok (count_in text)
    (λ c. ok_or (steps_in (span 32 c.1).0) Steps >>= λ s. ok_or (irq_in most (span 32 c.1).1) Irq >>= λ i. Ok
    (record { count = c.0; letters = s; irq = words_of 8 i })) t e in
    let b = bind_ok (ok_or (steps_in (span 32 a.0.1).0) Steps)
    (λ s. ok_or (irq_in most (span 32 a.0.1).1) Irq >>= λ i. Ok (record { count = a.0.0; letters = s; irq = words_of 8 i })) t a.2 in
    let d = bind_ok (ok_or (irq_in most (span 32 a.0.1).1) Irq) (λ i. Ok (record { count = a.0.0; letters = b.0; irq = words_of 8 i })) t b.2 in
    let c = count_found text a.0 a.1 in
    let s = steps_found (span 32 a.0.1).0 b.0 (ok_or_found (steps_in (span 32 a.0.1).0) Steps b.0 b.1) in
    let i = irq_found most (span 32 a.0.1).1 d.0 (ok_or_found (irq_in most (span 32 a.0.1).1) Irq d.0 d.1) in
    tick_made most text a.0 (span 32 a.0.1).0 (span 32 a.0.1).1 b.0 d.0 t c s.0 s.1 s.2 i (span_parts 32 a.0.1)
    (ok_is (record { count = a.0.0; letters = b.0; irq = words_of 8 d.0 }) t d.2)

pub ticks_again : (most : ℕ) (w : Written) → most ≤ 256 → IsWritten most w → ticks_in most (ticks_text w) ≡ Ok (meaning w)
unfolding ticks_in
ticks_again most w few fits =
    let rest = steps_text w.letters ++ irq_text w.numbers in
    let lacks : Lacks 42 (steps_text w.letters ++ irq_text w.numbers) =
    Lacks_append 42 (steps_text w.letters) (irq_text w.numbers) (steps_lack 42 w.letters (omega arith) (letters_again w.letters fits.each_letter))
    (irq_lacks most 42 w.numbers few (omega arith) (λ is. omega arith) fits.numbers) in
    rw (
      count_again w.count (steps_text w.letters ++ irq_text w.numbers) fits.count lacks,
      cut_steps w.letters w.numbers (letters_again w.letters fits.each_letter),
      steps_again w.letters fits.few (letters_again w.letters fits.each_letter),
      irq_again most w.numbers few fits.numbers,
    ) refl

-- ---- what a line of ticks is

count_lacks : (o : Option ℕ) → IfSome o (λ n. (1 ≤ n) × (n < 10 ^ 8)) → Lacks 10 (count_text o)
count_lacks None fits = tt
count_lacks (Some n) fits = Lacks_append 10 (decimal n) (42 ∷ []) (decimal_lacks 10 n (omega arith) fits.1) ((λ is. omega arith), tt)

-- it has no end of a line within
pub ticks_lack : (most : ℕ) (w : Written) → most ≤ 256 → IsWritten most w → Lacks 10 (ticks_text w)
ticks_lack most w few fits =
    let steps = steps_lack 10 w.letters (omega arith) (letters_again w.letters fits.each_letter) in
    let numbers = irq_lacks most 10 w.numbers few (omega arith) (λ is. omega arith) fits.numbers in
    Lacks_append 10 (count_text w.count) (steps_text w.letters ++ irq_text w.numbers) (count_lacks w.count fits.count)
    (Lacks_append 10 (steps_text w.letters) (irq_text w.numbers) steps numbers)

rising_below : (most least : ℕ) (ns : List ℕ) → least ≤ most → IsRising most least ns → bits_of ns + 2 ^ least ≤ 2 ^ most
rising_below most least [] le rising =
    let p : 2 ^ least ≤ 2 ^ most = pow-le-pow_right {n = 2} (omega arith) {i = least} {j = most} le in
    omega (arith, p)
rising_below most least (n ∷ ns) le rising =
    let p : 2 ^ least ≤ 2 ^ n = pow-le-pow_right {n = 2} (omega arith) {i = least} {j = n} rising.0 in
    let q : 2 ^ (n + 1) ≡ 2 ^ n * 2 = rw (add-one, pow-suc) refl in
    let more = rising_below most (n + 1) ns (omega (arith, rising.1)) rising.2 in
    omega (arith, p, q, more)

-- rising numbers are a number that the words hold
pub bits_fit : (most : ℕ) (ns : List ℕ) → most ≤ 256 → IsRising most 0 ns → bits_of ns < 2 ^ (32 * 8)
bits_fit most ns few rising =
    let p : 2 ^ most ≤ 2 ^ (32 * 8) = pow-le-pow_right {n = 2} (omega arith) {i = most} {j = 32 * 8} (omega (arith, few)) in
    let q = rising_below most 0 ns (omega arith) rising in
    omega (arith, p, q)

counts : (o : Option ℕ) → IfSome o (λ n. (1 ≤ n) × (n < 10 ^ 8)) → (1 ≤ unwrap_or o 1) × (unwrap_or o 1 < 10 ^ 8)
counts None fits = (omega arith, omega arith)
counts (Some n) fits = fits

pub IsLine-meaning : (most : ℕ) (w : Written) → most ≤ 256 → IsWritten most w → IsLine most (meaning w)
IsLine-meaning most w few fits =
    let below = rising_below most 0 w.numbers (omega arith) fits.numbers in
    record {
      some = (counts w.count fits.count).0;
      few = fits.few;
      each_letter = fits.each_letter;
      eight = length-words_of 8 (bits_of w.numbers);
      each_word = words_fit 8 (bits_of w.numbers);
      interrupts = rw (number-back 8 (bits_of w.numbers) (bits_fit most w.numbers few fits.numbers)) (omega (arith, below));
    }

-- what is read may be added to a schedule
pub record MayAdd (most : ℕ) (t : TickLine) : Type 0 where
  pub line : IsLine most t
  pub eight_digits : t.count ≤ 99999999

pub MayAdd-ticks : (most : ℕ) (text : List ℕ) (t : TickLine) → most ≤ 256 → ticks_in most text ≡ Ok t → MayAdd most t
MayAdd-ticks most text t few e =
    let found = ticks_found most text t e in
    subst (MayAdd most) (sym found.3) record
    { line = IsLine-meaning most found.0 few found.1; eight_digits = omega (arith, (counts found.0.count found.1.count).1) }
