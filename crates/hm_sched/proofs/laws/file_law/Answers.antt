use Rattle.hm_sched.proofs.FileLaws.{file_found, file_again}
use Rattle.hm_sched.proofs.laws.file_law.Goals as goal

pub returns-clause-found : goal.returns-clause-found
returns-clause-found c = file_found

pub returns-clause-only : goal.returns-clause-only
returns-clause-only c = file_again
