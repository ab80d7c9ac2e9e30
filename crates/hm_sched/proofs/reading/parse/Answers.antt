use Rattle.std.proofs.Common.{Result, subst}
use Rattle.hm_sched.specs.declared.errors.SchedErr.{SchedErr}
use Rattle.hm_sched.specs.Schedule.{Sched}
use Rattle.hm_sched.specs.ReadFile.{Gives}
use Rattle.hm_sched.proofs.FileLaws.{file_again, is_found}
use Rattle.hm_sched.proofs.reading.parse.Goals as goal

pub returns-clause-found : goal.returns-clause-found
returns-clause-found c = is_found c.args.bytes.now c.read_file.result c.read_file.ensures

pub returns-clause-only : goal.returns-clause-only
returns-clause-only c = λ s f. subst (λ (r : Result Sched SchedErr). Gives (λ x. x) c.read_file.result r) (file_again c.args.bytes.now s f) c.read_file.ensures
