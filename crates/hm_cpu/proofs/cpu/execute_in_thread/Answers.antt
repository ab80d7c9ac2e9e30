use Rattle.std.proofs.Common.{ap}
use Rattle.hm_run.specs.declared.Cause.TheVariants as cause
use Rattle.hm_run.specs.Program.{done_as}
use Rattle.hm_cpu.proofs.cpu.execute_in_thread.Goals as goal

pub returns-clause-value : goal.returns-clause-value
returns-clause-value c output = ap (done_as cause.Stop) (c.in_default.ensures.value output)

pub returns-in-Err-clause-value : goal.returns-in-Err-clause-value
returns-in-Err-clause-value c output = ap (done_as cause.Stop) (c.in-Err.ensures.value output)
