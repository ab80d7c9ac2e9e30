use Rattle.hm_run_laws.proofs.Sequence.{running, halted, full, faulted}
use Rattle.hm_run_laws.proofs.in_order.one_order.Goals as goal

pub returns : goal.returns
returns c = record { running = running; halted = halted; full = full; faulted = faulted }
