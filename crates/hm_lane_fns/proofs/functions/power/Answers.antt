use Rattle.std.proofs.Common.{◌≡◌, ◌≤◌, ◌<◌, ◌*◌, ◌%◌, ◌^◌, ℕ, pos, ◌≤ℤ◌, w64, to_z, arith}
use Rattle.std.proofs.Math.Pow.{pow_mono}
use Rattle.std.proofs.lemmas.Int.{ints}
use Rattle.std.proofs.lemmas.Nat.{pow_pos}
use Rattle.hm_lane_fns.proofs.functions.power.Goals as goal

bound : (k : ℕ) → k < 40 → 2 ^ k ≤ 1099511627776
bound k h = pow_mono {j = 40} (omega arith)

value_of : (k : ℕ) → k < 40 → to_z w64 (1 * 2 ^ k % 18446744073709551616) ≡ pos (2 ^ k)
value_of k h = omega (arith, ints, bound k h)

range_of : (k : ℕ) → k < 40 → to_z w64 (1 * 2 ^ k % 18446744073709551616) ≤ℤ pos 1099511627776
range_of k h = omega (arith, ints, bound k h)

above_of : (k : ℕ) → k < 40 → pos 1 ≤ℤ to_z w64 (1 * 2 ^ k % 18446744073709551616)
above_of k h = omega (arith, ints, bound k h, pow_pos k)

pub returns-clause-value : goal.returns-clause-value
returns-clause-value c = value_of c.args.k c.requires

pub returns-clause-range : goal.returns-clause-range
returns-clause-range c = range_of c.args.k c.requires

pub returns-clause-above : goal.returns-clause-above
returns-clause-above c = above_of c.args.k c.requires
