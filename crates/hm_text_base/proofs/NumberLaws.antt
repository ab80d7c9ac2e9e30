-- Numbers that are read are the ones that were written, and back.
use Rattle.std.proofs.Common.{◌≡◌, ◌≢◌, ℕ, zero, suc, ◌+◌, ◌-◌, ◌*◌, ◌/◌, ◌%◌, ◌^◌, ◌<◌, ◌≤◌, true, false, cond, eqb, ltb, List, [], ◌∷◌, ◌++◌, length, get_or}
use Rattle.std.proofs.Common.{Some, None, refl, sym, ap, subst, ◌∙◌, arith, add-zero, append_assoc, rules}
use Rattle.std.specs.Prelude.{decimal, option_and_then, ◌&&◌, ◌||◌}
use Rattle.std.specs.Char.{is_ascii_digit}
use Rattle.std.specs.Str.{all_ascii_digits}
use Rattle.std.proofs.Math.Nat.{pow-suc}
use Rattle.std.proofs.lemmas.Bool.{eqb-true, eqb-false, ltb-false, or_parts, and_parts}
use Rattle.std.proofs.lemmas.List.{append-nil, length_push}
use Rattle.std.proofs.lemmas.Bool.Decides.{nat_tests}
use Rattle.std.proofs.lemmas.Str.Parse.{IsNumeralModel, numerals_by_fold, tells_all_ascii_digits, digits_value_short}
use Rattle.std.proofs.lemmas.Fmt.{decimal-digits_value, digits_decimal, digits_value-decimal, length-decimal-le, decimal_nonempty, decimal_digit, first_decimal}
use Rattle.hm_text_base.specs.Spans.{Lacks}
use Rattle.hm_text_base.proofs.SpanLaws.{Lacks_append}
use Rattle.hm_text_base.specs.Texts.{hex_digit, hex8}
use Rattle.hm_text_base.specs.Numbers.{digit_in, hex_in, hex8_in, digits_in, digits_up_to, number_in, word_in}
use Rattle.hm_text_base.proofs.Steps.{and_then_some, guard_some, some_is, test_some}

-- ---- hexadecimal

-- the last k hexadecimal digits of n
unfoldable hex : ℕ → ℕ → List ℕ
hex zero n = []
hex (suc k) n = hex k (n / 16) ++ hex_digit (n % 16) ∷ []

eight : (x : ℕ) → hex8 x ≡ hex 8 x
unfolding hex
eight x =
    let a : x / 2 ^ 8 ≡ x / 16 / 16 = omega arith in
    let b : x / 2 ^ 12 ≡ x / 16 / 16 / 16 = omega arith in
    let c : x / 2 ^ 16 ≡ x / 16 / 16 / 16 / 16 = omega arith in
    let d : x / 2 ^ 20 ≡ x / 16 / 16 / 16 / 16 / 16 = omega arith in
    let e : x / 2 ^ 24 ≡ x / 16 / 16 / 16 / 16 / 16 / 16 = omega arith in
    let f : x / 2 ^ 28 ≡ x / 16 / 16 / 16 / 16 / 16 / 16 / 16 = omega arith in
    rw (a, b, c, d, e, f) refl

digit_found : (c d : ℕ) → digit_in c ≡ Some d → (hex_digit d ≡ c) × (d < 16)
digit_found c d e = grind (arith, nat_tests)

digit_again : (d : ℕ) → d < 16 → digit_in (hex_digit d) ≡ Some d
digit_again d lt = grind (arith, nat_tests)

hex_found : (cs : List ℕ) (n k m : ℕ) → hex_in n cs ≡ Some m → hex (k + length cs) m ≡ hex k n ++ cs
unfolding hex hex_in
hex_found [] n k m e =
    let same : n ≡ m = cc in
    rw (add-zero, append-nil, same) refl
hex_found (c ∷ cs) n k m e =
    let a = and_then_some (digit_in c) (λ d. hex_in (n * 16 + d) cs) m e in
    let d = digit_found c a.0 a.1 in
    let rest = hex_found cs (n * 16 + a.0) (suc k) m a.2 in
    let high : (n * 16 + a.0) / 16 ≡ n = omega (arith, d.1) in
    let low : (n * 16 + a.0) % 16 ≡ a.0 = omega (arith, d.1) in
    let len : k + suc (length cs) ≡ suc k + length cs = omega arith in
    let last : (hex k ((n * 16 + a.0) / 16) ++ hex_digit ((n * 16 + a.0) % 16) ∷ []) ++ cs ≡ hex k n ++ c ∷ cs =
    rw (high, low, d.0) (append_assoc (hex k n) (c ∷ []) cs) in
    ap (λ (j : ℕ). hex j m) len ∙ rest ∙ last

hex_again : (k n m : ℕ) (rest : List ℕ) → n < 16 ^ k → hex_in m (hex k n ++ rest) ≡ hex_in (m * 16 ^ k + n) rest
unfolding hex hex_in
hex_again zero n m rest lt = ap (λ (x : ℕ). hex_in x rest) (omega arith)
hex_again (suc k) n m rest lt =
    let g = hex_digit (n % 16) in
    let below : n < 16 ^ k * 16 = rw pow-suc at lt in
    let one : hex_in m ((hex k (n / 16) ++ g ∷ []) ++ rest) ≡ hex_in m (hex k (n / 16) ++ g ∷ rest) =
    ap (λ (x : List ℕ). hex_in m x) (append_assoc (hex k (n / 16)) (g ∷ []) rest) in
    let two = hex_again k (n / 16) m (g ∷ rest) (omega arith) in
    let three : hex_in (m * 16 ^ k + n / 16) (g ∷ rest) ≡ hex_in ((m * 16 ^ k + n / 16) * 16 + n % 16) rest = rw (digit_again (n % 16) (omega arith)) refl in
    let value : (m * 16 ^ k + n / 16) * 16 + n % 16 ≡ m * 16 ^ suc k + n = rw pow-suc (omega arith) in
    one ∙ two ∙ three ∙ ap (λ (x : ℕ). hex_in x rest) value

length-hex : (k n : ℕ) → length (hex k n) ≡ k
unfolding hex
length-hex zero n = refl
length-hex (suc k) n = omega (arith, length_push (hex k (n / 16)) (hex_digit (n % 16)), length-hex k (n / 16))

pub hex8_found : (text : List ℕ) (n : ℕ) → hex8_in text ≡ Some n → text ≡ hex8 n
unfolding hex
hex8_found text n e =
    let a = test_some (eqb (length text) 8) (hex_in 0 text) n e in
    let h = hex_found text 0 0 n a.1 in
    let len : 0 + length text ≡ 8 = omega (arith, eqb-true _ _ a.0) in
    sym h ∙ ap (λ (k : ℕ). hex k n) len ∙ sym (eight n)

pub hex8_again : (n : ℕ) → n < 2 ^ 32 → hex8_in (hex8 n) ≡ Some n
unfolding hex_in
hex8_again n lt =
    let h = hex_again 8 n 0 [] lt in
    let whole : hex_in 0 (hex 8 n) ≡ Some (0 * 16 ^ 8 + n) = ap (λ (x : List ℕ). hex_in 0 x) (sym (append-nil (hex 8 n))) ∙ h in
    let value : 0 * 16 ^ 8 + n ≡ n = omega arith in
    ap hex8_in (eight n) ∙ rw (length-hex 8 n) (whole ∙ ap (λ (x : ℕ). Some x) value)

-- ---- decimal

-- the number that decimal digits give behind a number
abbrev pub read_on : ℕ → List ℕ → ℕ
read_on n [] = n
read_on n (c ∷ cs) = read_on (n * 10 + (c - 48)) cs

pub numeral_model : IsNumeralModel (λ ds. all_ascii_digits ds ≡ true) (read_on 0)
numeral_model = numerals_by_fold _ tells_all_ascii_digits read_on (search rules)

digits_found : (ds : List ℕ) (n m : ℕ) → digits_in n ds ≡ Some m → (all_ascii_digits ds ≡ true) × (read_on n ds ≡ m)
unfolding digits_in
digits_found [] n m e = (refl, cc)
digits_found (d ∷ ds) n m e =
    let a = test_some (is_ascii_digit d) (digits_in (n * 10 + (d - 48)) ds) m e in
    rw a.0 (digits_found ds (n * 10 + (d - 48)) m a.1)

digits_again : (ds : List ℕ) (n : ℕ) → all_ascii_digits ds ≡ true → digits_in n ds ≡ Some (read_on n ds)
unfolding digits_in
digits_again [] n e = refl
digits_again (d ∷ ds) n e =
    let a = and_parts (is_ascii_digit d) (all_ascii_digits ds) e in
    rw a.0 (digits_again ds (n * 10 + (d - 48)) a.1)

plain_first : (len first : ℕ) → (ltb 1 len && eqb first 48) ≡ false → 0 < len → first ≡ 48 → len ≡ 1
plain_first len first e some is = grind (arith, nat_tests)

passes : (most len first : ℕ) → 0 < len → len ≤ most → (first ≡ 48 → len ≡ 1) → (eqb len 0 || (ltb most len || (ltb 1 len && eqb first 48))) ≡ false
passes most len first some short plain = grind (arith, nat_tests)

-- so many digits or fewer that are read are the number's own
digits_up_to_found : (most : ℕ) (text : List ℕ) (n : ℕ) → 10 ^ most ≤ 10 ^ 10 → digits_up_to most text ≡ Some n → (text ≡ decimal n) × (n < 10 ^ most)
digits_up_to_found most text n fits e =
    let g = guard_some (eqb (length text) 0 || (ltb most (length text) || (ltb 1 (length text) && eqb (get_or text 0 0) 48))) (digits_in 0 text) n e in
    let d = digits_found text 0 n g.1 in
    let t = or_parts (eqb (length text) 0) (ltb most (length text) || (ltb 1 (length text) && eqb (get_or text 0 0) 48)) g.0 in
    let u = or_parts (ltb most (length text)) (ltb 1 (length text) && eqb (get_or text 0 0) 48) t.1 in
    let none : length text ≢ 0 = eqb-false (length text) 0 t.0 in
    let some : 0 < length text = omega arith in
    let short : length text ≤ most = ltb-false most (length text) u.0 in
    let small = digits_value_short numeral_model text most d.0 short in
    let same = decimal-digits_value numeral_model text d.0 some (plain_first (length text) (get_or text 0 0) u.1 some) (omega (arith, small)) in
    (sym (subst (λ (x : ℕ). decimal x ≡ text) d.1 same), subst (λ (x : ℕ). x < 10 ^ most) d.1 small)

pub number_found : (text : List ℕ) (n : ℕ) → number_in text ≡ Some n → (text ≡ decimal n) × (n < 10 ^ 8)
number_found text n e = digits_up_to_found 8 text n (omega arith) e

pub word_found : (text : List ℕ) (n : ℕ) → word_in text ≡ Some n → (text ≡ decimal n) × (n < 2 ^ 32)
word_found text n e =
    let read = and_then_some (digits_up_to 10 text) (λ n. cond (ltb n (2 ^ 32)) (Some n) None) n e in
    let small = test_some (ltb read.0 (2 ^ 32)) (Some read.0) n read.2 in
    let same : read.0 ≡ n = some_is read.0 n small.1 in
    let found = digits_up_to_found 10 text read.0 (omega arith) read.1 in
    (subst (λ (x : ℕ). text ≡ decimal x) same found.0, subst (λ (x : ℕ). x < 2 ^ 32) same (below read.0 small.0)) where
      below : (x : ℕ) → ltb x (2 ^ 32) ≡ true → x < 2 ^ 32
      below x test = grind (arith, nat_tests)

first_plain : (n : ℕ) → n < 2 ^ 64 → get_or (decimal n) 0 0 ≡ 48 → length (decimal n) ≡ 1
first_plain zero wide is = ap length (decimal_digit 0 (omega arith))
first_plain (suc n) wide is = absurd (omega (arith, first_decimal (suc n) (omega arith) wide))

digits_up_to_again : (most n : ℕ) → 0 < most → n < 10 ^ most → 10 ^ most ≤ 10 ^ 10 → digits_up_to most (decimal n) ≡ Some n
digits_up_to_again most n some lt fits =
    let wide : n < 2 ^ 64 = omega arith in
    let all = digits_decimal numeral_model n wide in
    let value = digits_value-decimal numeral_model n wide in
    let tests = passes most (length (decimal n)) (get_or (decimal n) 0 0) (decimal_nonempty n wide) (length-decimal-le most n some lt wide)
    (first_plain n wide) in
    rw tests (digits_again (decimal n) 0 all ∙ ap (λ (x : ℕ). Some x) value)

pub number_again : (n : ℕ) → n < 10 ^ 8 → number_in (decimal n) ≡ Some n
number_again n lt = digits_up_to_again 8 n (omega arith) lt (omega arith)

pub word_again : (n : ℕ) → n < 2 ^ 32 → word_in (decimal n) ≡ Some n
word_again n lt = ap (option_and_then (λ n. cond (ltb n (2 ^ 32)) (Some n) None)) (digits_up_to_again 10 n (omega arith) (omega arith) (omega arith))
    ∙ small n lt where
      small : (x : ℕ) → x < 2 ^ 32 → cond (ltb x (2 ^ 32)) (Some x) None ≡ Some x
      small x lt = grind (arith, nat_tests)

-- ---- what numbers lack

digits_lack : (mark : ℕ) (ds : List ℕ) → mark < 48 → all_ascii_digits ds ≡ true → Lacks mark ds
digits_lack mark [] lt e = tt
digits_lack mark (d ∷ ds) lt e =
    let p = and_parts (is_ascii_digit d) (all_ascii_digits ds) e in
    let above : 48 ≤ d = grind (arith, nat_tests, p.0) in
    ((λ is. omega arith), digits_lack mark ds lt p.1)

pub decimal_lacks : (mark n : ℕ) → mark < 48 → n < 10 ^ 8 → Lacks mark (decimal n)
decimal_lacks mark n lt small = digits_lack mark (decimal n) lt (digits_decimal numeral_model n (omega arith))

digit_above : (d mark : ℕ) → mark < 48 → hex_digit d ≢ mark
digit_above d mark lt is = grind (arith, nat_tests)

hex_lacks : (mark k n : ℕ) → mark < 48 → Lacks mark (hex k n)
unfolding hex
hex_lacks mark zero n lt = tt
hex_lacks mark (suc k) n lt = Lacks_append mark (hex k (n / 16)) (hex_digit (n % 16) ∷ []) (hex_lacks mark k (n / 16) lt) (digit_above (n % 16) mark lt, tt)

pub hex8_lacks : (mark n : ℕ) → mark < 48 → Lacks mark (hex8 n)
hex8_lacks mark n lt = subst (Lacks mark) (sym (eight n)) (hex_lacks mark 8 n lt)
