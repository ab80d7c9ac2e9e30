use Rattle.hm_kernel.proofs.Joined.{file_of_run, same_meanings, same_steps, some_compiled}
use Rattle.hm_kernel.proofs.compiled_law.Goals as goal

pub returns-clause-steps : goal.returns-clause-steps
returns-clause-steps c = same_steps

pub returns-clause-meaning : goal.returns-clause-meaning
returns-clause-meaning c = same_meanings

pub returns-clause-file : goal.returns-clause-file
returns-clause-file c = file_of_run

pub returns-clause-some : goal.returns-clause-some
returns-clause-some c = some_compiled
