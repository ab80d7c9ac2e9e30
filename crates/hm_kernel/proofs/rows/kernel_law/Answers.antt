use Rattle.hm_kernel.proofs.Theorem.{computes, file_of}
use Rattle.hm_kernel.proofs.rows.kernel_law.Goals as goal

pub returns-clause-computes : goal.returns-clause-computes
returns-clause-computes c = computes

pub returns-clause-file : goal.returns-clause-file
returns-clause-file c = file_of
