-- Texts that are ASCII, or parts of one line, by a test of each byte: it computes over the words of a text, and leaves the numbers in it.
use Rattle.std.proofs.Common.{◌≡◌, ℕ, zero, suc, ◌+◌, ◌/◌, ◌%◌, ◌<◌, ◌==◌, Bool, true, false, ◌&&◌, cond, nat_lt, List, [], ◌∷◌, ◌++◌, decimal, refl, arith}
use Rattle.std.proofs.Common.{◌^◌}
use Rattle.std.proofs.lemmas.Bool.{and_parts}
use Rattle.std.proofs.lemmas.Bool.Decides.{nat_tests}
use Rattle.std.proofs.lemmas.Str.Ascii.{IsAscii-cons, IsAscii-nil}
use Rattle.std.specs.Fmt.{digit_glyph, digits, digits_onto}
use Rattle.std.specs.Str.{IsAscii}
use Rattle.hex.specs.Hex.{encode_lower, lower_digits}
use Rattle.hex.proofs.HexLemmas.{IsAscii-encode_with}
use Rattle.hm_text_base.specs.Texts.{binary_digit, hex2, hex8, hex_digit}

-- a byte that is ASCII
abbrev pub is_low : ℕ → Bool
is_low x = nat_lt x 128

-- a byte that is ASCII and ends no line
abbrev pub is_shown : ℕ → Bool
is_shown x = nat_lt 10 x && nat_lt x 128

-- each byte of a text is so
abbrev pub are_all : (ℕ → Bool) → List ℕ → Bool
are_all test [] = true
are_all test (x ∷ xs) = test x && are_all test xs

abbrev pub is_ascii : List ℕ → Bool
is_ascii text = are_all is_low text

-- a text that ends no line
abbrev pub is_plain : List ℕ → Bool
is_plain text = are_all is_shown text

-- such a text is ASCII
pub plain_is : (bytes : List ℕ) → is_plain bytes ≡ true → is_ascii bytes ≡ true
plain_is [] h = refl
plain_is (x ∷ xs) h =
    let parts = and_parts (is_shown x) (is_plain xs) h in
    let low = and_parts (nat_lt 10 x) (nat_lt x 128) parts.0 in
    rw low.1 (plain_is xs parts.1)

pub told : (bytes : List ℕ) → is_ascii bytes ≡ true → IsAscii bytes
told [] h = IsAscii-nil
told (x ∷ xs) h =
    let parts = and_parts (nat_lt x 128) (is_ascii xs) h in
    let small = parts.0 in
    let low : x < 128 = grind (arith, nat_tests, small) in
    IsAscii-cons x xs low (told xs parts.1)

tested : (bytes : List ℕ) → IsAscii bytes → is_ascii bytes ≡ true
tested [] h = refl
tested (x ∷ xs) h =
    let low : x < 128 = h 0 in
    let first : nat_lt x 128 ≡ true = grind (arith, nat_tests, low) in
    rw first (tested xs (λ i. h (suc i)))

-- a digit, of 0 to 9 or a to f
digit : (d : ℕ) → d < 16 → is_shown (cond (nat_lt d 10) (48 + d) (87 + d)) ≡ true
digit d small = grind (arith, nat_tests)

figure : (n : ℕ) → is_shown (hex_digit (n % 16)) ≡ true
figure n = digit (n % 16) (omega arith)

in_front : (x : ℕ) (xs : List ℕ) → is_shown x ≡ true → is_plain xs ≡ true → is_plain (x ∷ xs) ≡ true
in_front x xs shown h = rw shown h

pub hex2_plain : (x : ℕ) → is_plain (hex2 x) ≡ true
hex2_plain x = rw (figure (x / 16), figure x) refl

pub hex8_plain : (x : ℕ) → is_plain (hex8 x) ≡ true
hex8_plain x = rw (
  figure (x / 2 ^ 28),
  figure (x / 2 ^ 24),
  figure (x / 2 ^ 20),
  figure (x / 2 ^ 16),
  figure (x / 2 ^ 12),
  figure (x / 2 ^ 8),
  figure (x / 2 ^ 4),
  figure x,
) refl

pub bit_plain : (b : Bool) → is_plain (binary_digit b) ≡ true
bit_plain b = grind arith

pub hex2_is : (x : ℕ) → is_ascii (hex2 x) ≡ true
hex2_is x = plain_is (hex2 x) (hex2_plain x)

pub hex8_is : (x : ℕ) → is_ascii (hex8 x) ≡ true
hex8_is x = plain_is (hex8 x) (hex8_plain x)

pub bit_is : (b : Bool) → is_ascii (binary_digit b) ≡ true
bit_is b = plain_is (binary_digit b) (bit_plain b)

module _ (test : ℕ → Bool) where
  pub joined : (xs ys : List ℕ) → are_all test xs ≡ true → are_all test ys ≡ true → are_all test (xs ++ ys) ≡ true
  joined [] ys h k = k
  joined (x ∷ xs) ys h k = let parts = and_parts (test x) (are_all test xs) h in rw parts.0 (joined xs ys parts.1 k)

  either : (b : Bool) (xs ys : List ℕ) → are_all test xs ≡ true → are_all test ys ≡ true → are_all test (cond b xs ys) ≡ true
  either true xs ys h k = h
  either false xs ys h k = k

digits_are : (k n : ℕ) (behind : List ℕ) → is_plain behind ≡ true → is_plain (digits_onto k 10 false n behind) ≡ true
digits_are zero n behind h = h
digits_are (suc k) n behind h =
    let more = in_front (digit_glyph false (n % 10)) behind (digit (n % 10) (omega arith)) h in
    either is_shown (n / 10 == 0) _ _ more (digits_are k (n / 10) (digit_glyph false (n % 10) ∷ behind) more)

pub decimal_plain : (n : ℕ) → is_plain (decimal n) ≡ true
unfolding digits
decimal_plain n = digits_are 64 n [] refl

pub decimal_is : (n : ℕ) → is_ascii (decimal n) ≡ true
decimal_is n = plain_is (decimal n) (decimal_plain n)

pub bytes_are : (bytes : List ℕ) → is_ascii (encode_lower bytes) ≡ true
bytes_are bytes = tested (encode_lower bytes) (IsAscii-encode_with lower_digits bytes (told lower_digits refl))

-- PARTS, one behind another
abbrev pub appended : List ℕ → List (List ℕ) → List ℕ
appended out [] = out
appended out (part ∷ parts) = appended (out ++ part) parts

module _ (test : ℕ → Bool) where
  -- each byte of each part is so
  abbrev pub AreAll : List (List ℕ) → Type 0
  AreAll [] = Unit {0}
  AreAll (part ∷ parts) = (are_all test part ≡ true) × AreAll parts

  pub adds : (out : List ℕ) (parts : List (List ℕ)) → are_all test out ≡ true → AreAll parts → are_all test (appended out parts) ≡ true
  adds out [] h all = h
  adds out (part ∷ parts) h all = adds (out ++ part) parts (joined test out part h all.0) all.1
