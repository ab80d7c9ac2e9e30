use Rattle.std.proofs.Common.{◌∙◌, rules, sym}
use Rattle.std.proofs.lemmas.Option.{get_or_from_slice_get}
use Rattle.hm_sched.specs.Schedule.{line_of}
use Rattle.hm_shake_runs.proofs.Turns.{names_it, names_not}
use Rattle.hm_shake_runs.proofs.interrupts.is_named.Goals as goal

pub returns-then-has_irq : goal.returns-then-has_irq
returns-then-has_irq c =
    let line = line_of c.line.result.now in
    let is = get_or_from_slice_get c.args.s.now.lines c.loop-k.k line line c.line.ensures.value in
    record {
      value = sym (names_it c.args.s.now.lines c.loop-k.k c.args.n line (search rules) is (sym c.has_irq.ensures.value ∙ c.if-has_irq.true))
          ∙ c.loop-k.invariant;
    }

pub loop-k-preserved : goal.loop-k-preserved
loop-k-preserved c =
    let line = line_of c.line.result.now in
    let is = get_or_from_slice_get c.args.s.now.lines c.loop-k.k line line c.line.ensures.value in
    sym (names_not c.args.s.now.lines c.loop-k.k c.args.n line (search rules) is (sym c.has_irq.ensures.value ∙ c.if-has_irq.false)) ∙ c.loop-k.invariant
