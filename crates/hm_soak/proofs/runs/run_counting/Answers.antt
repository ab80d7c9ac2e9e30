use Rattle.std.proofs.Common.{◌≡◌, ◌+◌, ◌≤◌, ℕ, None, ap, subst, sym, arith}
use Rattle.hm_soak.proofs.Counted.{counted_next, counted_none, counted_over, ended, lines_stay, one_at_most}
use Rattle.hm_soak.proofs.runs.run_counting.Goals as goal

pub loop-machine-init : goal.loop-machine-init
loop-machine-init c = record { few = omega arith; lines = c.requires.lines; counted = λ image s h. counted_none image s _ h }

pub loop-machine-preserved : goal.loop-machine-preserved
loop-machine-preserved c =
    let none : c.loop-machine.machine.outcome ≡ None = c.is_running.ensures.0 c.loop-machine-test.true in
    record {
      few =
          let before = c.loop-machine.invariant.few in
          let fewer = c.tick-turn.ensures.fewer none c.loop-machine.invariant.lines in
          let one = subst (λ (n : ℕ). n ≤ 1) (sym c.entry-entries.ensures) (one_at_most _) in
          omega (arith, before, fewer, one);
      lines = lines_stay c.loop-machine.machine c.tick-turn.new.self c.tick-turn.ensures.fixed c.loop-machine.invariant.lines;
      counted = λ image s h.
          let so_far = c.loop-machine.invariant.counted image s h in
          counted_next image s _ _ _ _ _ _ so_far (c.tick-turn.ensures.shows image s _ so_far.shows)
          (c.tick-turn.ensures.once none c.loop-machine.invariant.lines) c.is_in_thread-begins.ensures c.is_in_thread-ends.ensures
          (ap (λ (n : ℕ). c.loop-machine.entries + n) c.entry-entries.ensures);
    }

pub loop-machine-smaller : goal.loop-machine-smaller
loop-machine-smaller c =
    let none : c.loop-machine.machine.outcome ≡ None = c.is_running.ensures.0 c.loop-machine-test.true in
    c.tick-turn.ensures.fewer none c.loop-machine.invariant.lines

pub returns-clause-over : goal.returns-clause-over
returns-clause-over c image s h =
    let out = ended c.loop-machine.machine.outcome (λ none. let no = c.is_running.ensures.1 none in absurd cc) in
    (counted_over image s _ _ out.0 (c.loop-machine.invariant.counted image s h) out.1).0

pub returns-clause-entered : goal.returns-clause-entered
returns-clause-entered c image s h =
    let out = ended c.loop-machine.machine.outcome (λ none. let no = c.is_running.ensures.1 none in absurd cc) in
    (counted_over image s _ _ out.0 (c.loop-machine.invariant.counted image s h) out.1).1
