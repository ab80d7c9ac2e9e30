use Rattle.std.proofs.Common.{◌≡◌, ℕ, suc, ◌+◌, ◌*◌, ◌-◌, ◌/◌, ◌%◌, ◌^◌, ◌<◌, ◌≤◌, arith, subst, sym, ap, ◌∙◌, pow-add}
use Rattle.std.proofs.Math.Arith.{mod-mul}
use Rattle.std.proofs.Math.Nat.{mul-mod_left}
use Rattle.std.proofs.lemmas.Nat.{pow_pos}
use native.Mathlib.Nat.{mod-lt, mod-eq_of_lt, mul-le-mul, mul-le-mul_right}
use Rattle.hm_forms_elements.proofs.shift.shifted.Goals as goal

-- a multiple of q below d * q is at most d * q - q, and a remainder by q is below q
below : (c m q d : ℕ) → 0 < q → 0 < d → c * q % (d * q) + m % q < d * q
below c m q d h k =
    let e = mod-mul (c * q) k h in
    let none = mul-mod_left c q in
    let r : c * q / q % d < d = mod-lt (c * q / q) k in
    let s : suc (c * q / q % d) * q ≤ d * q = mul-le-mul_right q r in
    let t : m % q < q = mod-lt m h in
    let u : suc (c * q / q % d) * q ≡ (c * q / q % d) * q + q = omega arith in
    omega (arith, e, none, s, t, u)

fits : (c m k : ℕ) → k ≤ 32 → c < 2 ^ 32 → c * 2 ^ k % 18446744073709551616 % 4294967296 + m % (1 * 2 ^ k % 18446744073709551616) < 4294967296
fits c m k h i =
    let q = 2 ^ k in
    let d = 2 ^ (32 - k) in
    let split : 4294967296 ≡ d * q = ap (λ n. 2 ^ n) (let e : 32 ≡ 32 - k + k = omega arith in e) ∙ pow-add 2 (32 - k) k in
    let some : 0 < q = pow_pos k in
    let more : 0 < d = pow_pos (32 - k) in
    let one : 1 * q ≤ d * q = mul-le-mul_right q more in
    let top : q ≤ 4294967296 = omega (arith, one, split) in
    let product : c * q ≤ 4294967295 * 4294967296 = mul-le-mul (let t : c ≤ 4294967295 = omega arith in t) top in
    let e : c * q % 18446744073709551616 ≡ c * q = mod-eq_of_lt (omega (arith, product)) in
    let f : 1 * q % 18446744073709551616 ≡ q = mod-eq_of_lt (omega (arith, top)) ∙ (let u : 1 * q ≡ q = omega arith in u) in
    subst (λ x. x % 4294967296 + m % (1 * q % 18446744073709551616) < 4294967296) (sym e)
    (subst (λ x. c * q % 4294967296 + m % x < 4294967296) (sym f)
    (subst (λ n. c * q % n + m % q < n) (sym split) (below c m q d some more)))

pub overflow_cast-result-3 : goal.overflow_cast-result-3
overflow_cast-result-3 c = record { fits = fits c.args.c c.args.m c.args.k c.requires.at_most c.ranges.c.fits }
