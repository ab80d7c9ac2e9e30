-- A word into which elements have been laid, and the bytes of its elements.
use Rattle.std.proofs.Common.{◌≡◌, ℕ, ◌+◌, ◌*◌, ◌/◌, ◌%◌, ◌^◌, ◌∙◌, arith}
use Rattle.hm_base.specs.Bits.{put_field}

-- A BYTE AFTER ANOTHER
low_byte : (x w : ℕ) → put_field 0 8 x w % 256 ≡ x % 256
unfolding put_field
low_byte x w = omega arith

second_byte : (x w : ℕ) → put_field 8 8 x w % 65536 ≡ w % 256 + 256 * (x % 256)
unfolding put_field
second_byte x w = omega arith

third_byte : (x w : ℕ) → put_field 16 8 x w % 16777216 ≡ w % 65536 + 65536 * (x % 256)
unfolding put_field
third_byte x w = omega arith

high_byte : (x w : ℕ) → put_field 24 8 x (w % 2 ^ 32) ≡ w % 16777216 + 16777216 * (x % 256)
unfolding put_field
high_byte x w = omega arith

-- nothing is left of the old word
pub four_bytes : (a b c e w : ℕ) → put_field 24 8 e (put_field 16 8 c (put_field 8 8 b (put_field 0 8 a (w % 2 ^ 32) % 2 ^ 32) % 2 ^ 32) % 2 ^ 32)
    ≡ a % 256 + 256 * (b % 256) + 65536 * (c % 256) + 16777216 * (e % 256)
four_bytes a b c e w =
    let v1 = put_field 0 8 a (w % 2 ^ 32) in
    let v2 = put_field 8 8 b (v1 % 2 ^ 32) in
    let v3 = put_field 16 8 c (v2 % 2 ^ 32) in
    let e1 : v1 % 256 ≡ a % 256 = low_byte a (w % 2 ^ 32) in
    let e2 : v2 % 65536 ≡ v1 % 256 + 256 * (b % 256) = second_byte b (v1 % 2 ^ 32) ∙ omega arith in
    let e3 : v3 % 16777216 ≡ v2 % 65536 + 65536 * (c % 256) = third_byte c (v2 % 2 ^ 32) ∙ omega arith in
    let e4 : put_field 24 8 e (v3 % 2 ^ 32) ≡ v3 % 16777216 + 16777216 * (e % 256) = high_byte e v3 in
    e4 ∙ omega (arith, e1, e2, e3)

-- TWO BYTES AT ONCE, the upper one first
low_bytes : (x y w : ℕ) → put_field 0 8 x (put_field 8 8 y w) % 65536 ≡ x % 256 + 256 * (y % 256)
unfolding put_field
low_bytes x y w = omega arith

high_bytes : (x y w : ℕ) → put_field 16 8 x (put_field 24 8 y (w % 2 ^ 32)) ≡ w % 65536 + 65536 * (x % 256) + 16777216 * (y % 256)
unfolding put_field
high_bytes x y w = omega arith

pub two_pairs : (a b c e w : ℕ) → put_field 16 8 c (put_field 24 8 e (put_field 0 8 a (put_field 8 8 b (w % 2 ^ 32)) % 2 ^ 32))
    ≡ a % 256 + 256 * (b % 256) + 65536 * (c % 256) + 16777216 * (e % 256)
two_pairs a b c e w =
    let v = put_field 0 8 a (put_field 8 8 b (w % 2 ^ 32)) in
    let low : v % 65536 ≡ a % 256 + 256 * (b % 256) = low_bytes a b (w % 2 ^ 32) in
    high_bytes c e v ∙ omega (arith, low)

-- HALFWORDS
low_half : (x w : ℕ) → put_field 0 16 x w % 65536 ≡ x % 65536
unfolding put_field
low_half x w = omega arith

high_half : (x w : ℕ) → put_field 16 16 x (w % 2 ^ 32) ≡ w % 65536 + 65536 * (x % 65536)
unfolding put_field
high_half x w = omega arith

pub two_halves : (a b w : ℕ) → put_field 16 16 b (put_field 0 16 a (w % 2 ^ 32) % 2 ^ 32)
    ≡ a % 256 + 256 * (a / 256 % 256) + 65536 * (b % 256) + 16777216 * (b / 256 % 256)
two_halves a b w =
    let v = put_field 0 16 a (w % 2 ^ 32) in
    let low : v % 65536 ≡ a % 65536 = low_half a (w % 2 ^ 32) in
    high_half b v ∙ omega (arith, low)

-- A WORD
pub one_word : (a w : ℕ) → put_field 0 32 a (w % 2 ^ 32) ≡ a % 256 + 256 * (a / 256 % 256) + 65536 * (a / 65536 % 256) + 16777216 * (a / 16777216 % 256)
unfolding put_field
one_word a w = omega arith
