use Rattle.std.proofs.Common.{rules, ◌≡◌, ◌≤◌, ◌<◌, ◌^◌, ℕ, ℤ, pos, negsuc, ◌≤ℤ◌, ◌<ℤ◌, ◌-ℤ◌, ◌*ℤ◌, FitsSigned, w64, to_z, of_z, arith, ap, sym, subst, ◌∙◌}
use Rattle.std.proofs.Common.{unsigned_abs}
use Rattle.std.proofs.lemmas.Int.{fits_signed_mul, ints, to_z-of_z}
use Rattle.std.proofs.Math.Pow.{pow_mono}
use Rattle.hm_lane_fns.proofs.functions.scaled.Goals as goal

small : (v : ℤ) → (pos 0 -ℤ pos 2147483648) ≤ℤ v → v <ℤ pos 4294967296 → unsigned_abs v ≤ 4294967295
small (pos n) h k = omega (arith, ints)
small (negsuc n) h k = omega (arith, ints)

power_bound : (p : ℤ) (k : ℕ) → k < 32 → p ≡ pos (2 ^ k) → unsigned_abs p ≤ 2147483648
power_bound p k h e =
    let bound : 2 ^ k ≤ 2147483648 = pow_mono {j = 31} (omega arith) in
    let same : unsigned_abs p ≡ 2 ^ k = ap unsigned_abs e in
    omega arith

passed_on : (v p : ℤ) → FitsSigned w64 v → FitsSigned w64 p → to_z w64 (of_z w64 v) *ℤ to_z w64 (of_z w64 p) ≡ v *ℤ p
passed_on v p f g = λ i. to_z-of_z w64 v f i *ℤ to_z-of_z w64 p g i

fitting : (v p : ℤ) → unsigned_abs v ≤ 4294967295 → unsigned_abs p ≤ 2147483648 → FitsSigned w64 (v *ℤ p)
fitting v p h k = fits_signed_mul w64 v p 4294967295 2147483648 h k (omega arith)

pub overflow_mul-result : goal.overflow_mul-result
overflow_mul-result c =
    let f : FitsSigned w64 c.power.result = search rules in
    subst (λ x. FitsSigned w64 x) (sym (passed_on c.args.v c.power.result c.ranges.v f))
    (fitting c.args.v c.power.result (small c.args.v c.requires.low c.requires.high)
    (power_bound c.power.result c.args.k c.requires.short c.power.ensures.value))

pub returns : goal.returns
returns c =
    let f : FitsSigned w64 c.power.result = search rules in
    let fits = fitting c.args.v c.power.result (small c.args.v c.requires.low c.requires.high)
    (power_bound c.power.result c.args.k c.requires.short c.power.ensures.value) in
    ap (λ x. to_z w64 (of_z w64 x)) (passed_on c.args.v c.power.result c.ranges.v f) ∙ to_z-of_z w64 (c.args.v *ℤ c.power.result) fits
    ∙ ap (λ p. c.args.v *ℤ p) c.power.ensures.value
