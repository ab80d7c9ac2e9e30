use Rattle.std.proofs.Common.{ℕ, ap}
use Rattle.std.specs.Prelude.{nat_eq, not}
use Rattle.hm_mem.proofs.Numbers.{rest-by-length}
use Rattle.hm_mem.proofs.accesses.is_no_multiple.Goals as goal

pub returns : goal.returns
returns c = record { value = ap (λ (n : ℕ). not (nat_eq n 0)) (rest-by-length c.args.addr c.args.len c.requires) }
