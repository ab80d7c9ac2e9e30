-- Reading digits one after the other, as a loop does.
use Rattle.std.proofs.Common.{◌≡◌, ℕ, ◌+◌, ◌-◌, ◌*◌, ◌^◌, ◌<◌, ◌≤◌, cond, List, drop, length, get_or, Some, None, refl, arith, add-one}
use Rattle.std.specs.Prelude.{option_and_then}
use Rattle.std.specs.Char.{is_ascii_digit}
use Rattle.std.proofs.Math.Nat.{pow-le-pow_right, pow-suc, mul-le-mul_right}
use Rattle.std.proofs.lemmas.List.{drop_more, drop_all}
use Rattle.hm_text_base.specs.Numbers.{digit_in, hex_in, digits_in}

pub hex_more : (n : ℕ) (text : List ℕ) (i : ℕ) → i < length text
    → hex_in n (drop i text) ≡ option_and_then (λ d. hex_in (n * 16 + d) (drop (i + 1) text)) (digit_in (get_or text i 0))
unfolding hex_in
hex_more n text i lt = rw (drop_more text i 0 lt) refl

pub hex_all : (n : ℕ) (text : List ℕ) (i : ℕ) → length text ≤ i → hex_in n (drop i text) ≡ Some n
unfolding hex_in
hex_all n text i le = rw (drop_all i text le) refl

pub digits_more : (n : ℕ) (text : List ℕ) (i : ℕ) → i < length text
    → digits_in n (drop i text) ≡ cond (is_ascii_digit (get_or text i 0)) (digits_in (n * 10 + (get_or text i 0 - 48)) (drop (i + 1) text)) None
unfolding digits_in
digits_more n text i lt = rw (drop_more text i 0 lt) refl

pub digits_all : (n : ℕ) (text : List ℕ) (i : ℕ) → length text ≤ i → digits_in n (drop i text) ≡ Some n
unfolding digits_in
digits_all n text i le = rw (drop_all i text le) refl

-- one more digit keeps the bound
pub more_below : (b n d i : ℕ) → n < b ^ i → d < b → n * b + d < b ^ (i + 1)
more_below b n d i lt small =
    let p : (n + 1) * b ≤ b ^ i * b = mul-le-mul_right b (omega arith) in
    rw (add-one, pow-suc) (omega (arith, p))

pub below_limit : (b k i n : ℕ) → 0 < b → i ≤ k → n < b ^ i → n < b ^ k
below_limit b k i n pos le lt = omega (arith, pow-le-pow_right {n = b} pos {i = i} {j = k} le)
