use Rattle.std.proofs.Common.{ap, sym, ◌∙◌, List, ◌∷◌, drop}
use Rattle.hm_machine.proofs.Cursors.{line_first, line_used, all_at}
use Rattle.hm_sched.specs.Schedule.{TickLine, IsLine, line_of, most_irq}
use Rattle.hm_machine.proofs.cursor.line_at.Goals as goal

pub returns-clause-first : goal.returns-clause-first
returns-clause-first c =
    let e = line_first c.args.schedule.now.lines c.args.cursor.line c.args.cursor.used (line_of c.line.result.now) c.requires c.line.ensures.value in
    e ∙ ap (λ (rest : List TickLine). line_of c.line.result.now ∷ rest) (sym (ap (drop 1) e))

pub returns-clause-others : goal.returns-clause-others
returns-clause-others c = ap (drop 1)
    (line_first c.args.schedule.now.lines c.args.cursor.line c.args.cursor.used (line_of c.line.result.now) c.requires c.line.ensures.value)

pub returns-clause-some : goal.returns-clause-some
returns-clause-some c = line_used c.args.schedule.now.lines c.args.cursor.line c.args.cursor.used (line_of c.line.result.now) c.requires c.line.ensures.value

pub returns-clause-few : goal.returns-clause-few
returns-clause-few c = (all_at (IsLine (most_irq c.args.schedule.now.format)) c.args.schedule.now.lines c.args.cursor.line (line_of c.line.result.now)
    c.lines-known.ensures.sound.each_line c.line.ensures.value).few
