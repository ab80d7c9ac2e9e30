use Rattle.std.proofs.Common.{◌≡◌, ℕ, zero, suc, ◌*◌, ◌%◌, ◌^◌, ◌<◌, arith}
use Rattle.hm_forms_elements.proofs.constants.in_byte.Goals as goal

fits : (x k : ℕ) → x < 256 → k < 4 → x * 2 ^ (8 * k) % 4294967296 ≡ x * 2 ^ (8 * k)
fits x zero h i = omega arith
fits x (suc zero) h i = omega arith
fits x (suc (suc zero)) h i = omega arith
fits x (suc (suc (suc zero))) h i = omega arith
fits x (suc (suc (suc (suc k)))) h i = absurd (omega arith)

pub returns : goal.returns
returns c = fits c.args.x c.args.k c.requires.byte c.requires.place
