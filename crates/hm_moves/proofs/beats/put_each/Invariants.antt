use Rattle.std.proofs.Common.{◌≡◌, drop}
use Rattle.hm_regs.specs.Writes.{apply}
use Rattle.hm_moves.specs.Coded.{puts_of}
use Rattle.hm_moves.proofs.beats.put_each.Given as goal

abbrev pub invariant-loop-w : goal.invariant-loop-w
invariant-loop-w l = record {
  value : apply (puts_of (drop l.w-index l.ws)) l.r ≡ apply (puts_of l.ws) l.initial.r;
  context : l.r.fpca ≡ l.initial.r.fpca;
}
