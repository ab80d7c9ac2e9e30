use Rattle.std.proofs.Common.{ℕ, ap, arith}
use Rattle.hm_mem.proofs.Words.{without-count}
use Rattle.hm_mem.proofs.Dev.clear_count.Goals as goal

pub returns : goal.returns
returns c =
    let d = c.args.self.now in
    record { devices = ap (λ (n : ℕ). record d { csr = n }) (without-count d.csr (omega arith)) }
