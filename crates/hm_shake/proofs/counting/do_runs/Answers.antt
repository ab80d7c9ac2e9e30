use Rattle.std.proofs.Common.{◌≡◌, ℕ, arith, subst}
use Rattle.hm_shake_runs.specs.Found.{IsNoted}
use Rattle.hm_shake_runs.specs.declared.kinds.Ended.{Ended}
use Rattle.hm_shake.proofs.Counts.{next_counted}
use Rattle.hm_shake.specs.Counts.{AreCounted}
use Rattle.hm_shake.specs.Ends.{ends_in}
use Rattle.hm_shake.proofs.counting.do_runs.Goals as goal

pub do_run-requires-clause-repeats : goal.do_run-requires-clause-repeats
do_run-requires-clause-repeats g c = (c.requires.repeats.0, c.loop-run.invariant.again c.requires.repeats.0 c.requires.repeats.1)

pub returns-in_err-ended-clause-again : goal.returns-in_err-ended-clause-again
returns-in_err-ended-clause-again g c = λ image repeats. c.do_run.ensures.again image (c.loop-run.invariant.again image repeats)

pub returns-in_err-note-clause-again : goal.returns-in_err-note-clause-again
returns-in_err-note-clause-again g c = λ image repeats. c.do_run.ensures.again image (c.loop-run.invariant.again image repeats)

pub loop-run-preserved : goal.loop-run-preserved
loop-run-preserved g c = record {
  again = λ image repeats. c.do_run.ensures.again image (c.loop-run.invariant.again image repeats);
  before = c.in_ok-note.ensures.after;
  runs = c.in_ok-note.ensures.runs;
  counted = λ image listing is repeats.
      next_counted (ends_in listing image c.args.given.now.plan c.args.given.now.head c.args.given.now.irqs.items) c.loop-run.run c.loop-run.tally.kinds.items
      c.note.new.self.kinds.items (c.loop-run.invariant.counted image listing is repeats)
      (subst (λ (e : Ended). IsNoted e c.loop-run.run c.loop-run.tally.kinds.items c.note.new.self.kinds.items)
      (c.in_ok-ended.ensures.ended image listing is (c.loop-run.invariant.again image repeats)) c.in_ok-note.ensures.noted);
}

pub returns-clause-kinds : goal.returns-clause-kinds
returns-clause-kinds g c = λ image listing is repeats.
    let most = c.loop-run.auto.run-end in
    let all : c.loop-run.run ≡ c.args.given.now.plan.runs = omega (arith, most, c.loop-run-test.false) in
    let ends : ℕ → Ended = ends_in listing image c.args.given.now.plan c.args.given.now.head c.args.given.now.irqs.items in
    subst (λ (n : ℕ). AreCounted ends n c.loop-run.tally.kinds.items) all (c.loop-run.invariant.counted image listing is repeats)
