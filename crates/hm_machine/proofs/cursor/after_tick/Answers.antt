use Rattle.std.proofs.Common.{◌∙◌, ℕ, suc, ◌+◌, ◌<◌, ◌≤◌, drop, length, ap, sym, arith, add-one}
use Rattle.std.proofs.lemmas.List.{drop_all}
use Rattle.hm_machine.specs.Machines.{left_in}
use Rattle.hm_machine.proofs.Cursors.{begins, has_next, left_new, line_first, still_here, used_up}
use Rattle.hm_sched.specs.Schedule.{line_of, ticks_of, most_irq}
use Rattle.hm_machine.proofs.cursor.after_tick.Goals as goal

pub returns-then-cursor-count-clause-left : goal.returns-then-cursor-count-clause-left
returns-then-cursor-count-clause-left c =
    let lines = c.args.schedule.now.lines in
    let at = c.args.cursor in
    let line = line_of c.args.line.now in
    still_here lines at.line at.used line c.requires.here c.if-cursor-count.true
    ∙ sym (ap (drop 1) (line_first lines at.line at.used line c.requires.stands c.requires.here))

pub returns-then-cursor-count-clause-stands : goal.returns-then-cursor-count-clause-stands
returns-then-cursor-count-clause-stands c =
    has_next c.args.schedule.now.lines c.args.cursor.line c.args.cursor.used (line_of c.args.line.now) c.requires.here c.if-cursor-count.true

pub returns-then-cursor-lines-clause-left : goal.returns-then-cursor-lines-clause-left
returns-then-cursor-lines-clause-left c =
    let lines = c.args.schedule.now.lines in
    let at = c.args.cursor in
    let line = line_of c.args.line.now in
    ap (λ (k : ℕ). left_in (drop k lines) 0) (add-one at.line) ∙ left_new (drop (suc at.line) lines)
    ∙ sym (ap (drop 1) (line_first lines at.line at.used line c.requires.stands c.requires.here)
    ∙ used_up lines at.line at.used line c.if-cursor-count.false)

pub returns-then-cursor-lines-clause-stands : goal.returns-then-cursor-lines-clause-stands
returns-then-cursor-lines-clause-stands c =
    let inside : c.args.cursor.line + 1 < length c.args.schedule.now.lines = omega (arith, c.if-cursor-lines.true, c.lines-lines.ensures.count) in
    begins (most_irq c.args.schedule.now.format) c.args.schedule.now.lines (c.args.cursor.line + 1) inside c.lines-lines.ensures.sound.each_line

pub returns-clause-none : goal.returns-clause-none
returns-clause-none c =
    let lines = c.args.schedule.now.lines in
    let at = c.args.cursor in
    let line = line_of c.args.line.now in
    let past : length lines ≤ suc at.line = omega (arith, c.if-cursor-lines.false, c.lines-lines.ensures.count) in
    ap (drop 1) (line_first lines at.line at.used line c.requires.stands c.requires.here) ∙ used_up lines at.line at.used line c.if-cursor-count.false
    ∙ ap ticks_of (drop_all (suc at.line) lines past)
