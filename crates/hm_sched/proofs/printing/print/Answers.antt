use Rattle.std.proofs.Common.{◌≡◌, List, ℕ, subst, sym, rules}
use Rattle.hm_sched.specs.Schedule.{IsSched}
use Rattle.hm_sched.specs.Written.{IsFile}
use Rattle.hm_sched.specs.Printed.{file_text}
use Rattle.hm_sched.proofs.PrintLaws.{IsFile-file_text}
use Rattle.hm_sched.proofs.printing.print.Goals as goal

pub returns-clause-file : goal.returns-clause-file
returns-clause-file c =
    let sound : IsSched c.args.s.now = search rules in
    let text : c.add_lines.new.out.items ≡ file_text c.args.s.now = search rules in
    subst (λ (x : List ℕ). IsFile x c.args.s.now) (sym text) (IsFile-file_text c.args.s.now sound)
