use Rattle.std.proofs.Common.{◌≡◌, ℕ, suc, ◌+◌, ◌≤◌, arith, subst}
use Rattle.hm_machine.proofs.Ticks.{shows_end}
use Rattle.hm_machine.specs.Shown.{Shows}
use Rattle.hm_trace.proofs.Traced.{ended_at, listed_in, ticks_done, ticks_ended, ticks_on}
use Rattle.hm_trace.specs.Stands.{past_of}
use Rattle.hm_trace.proofs.running.add_ticks.Goals as goal

pub loop-k-preserved : goal.loop-k-preserved
loop-k-preserved c =
    let k = c.loop-k._k in
    record {
      shows = λ image s t h.
          let next : suc (t + k) ≡ t + (k + 1) = omega arith in
          subst (λ (u : ℕ). Shows image s u c.tick-mark.new.machine) next (c.tick-mark.ensures.shows image s (t + k) (c.loop-k.invariant.shows image s t h));
      left = λ image s t listing listed h.
          let here = c.loop-k.invariant.shows image s t h in
          let there = c.tick-mark.ensures.shows image s (t + k) here in
          ticks_on c.args.form listing image s t c.args.count k (past_of c.in-Some.before) c.tick-mark.result c.loop-k.machine c.tick-mark.new.machine
          c.loop-k.out.items c.add_tick.new.out.items _ c.loop-k-test.true listed
          here there c.in-Some.ensures.runs.0 c.in-Some.ensures.runs.1 c.tick-mark.ensures.mark
          (c.in_ok-add_tick.ensures.added listing (listed_in image s (suc (t + k)) listing c.tick-mark.new.machine listed there))
          (c.loop-k.invariant.left image s t listing listed h);
    }

pub returns-in_default : goal.returns-in_default
returns-in_default c =
    let k = c.loop-k._k in
    record {
      shows = λ image s t h.
          let here = c.loop-k.invariant.shows image s t h in
          let over = ended_at image s (t + k) c.loop-k.machine here c.in_default.ensures.none in
          let below : k ≤ c.args.count = omega (arith, c.loop-k-test.true) in
          shows_end image s (t + k) (t + c.args.count) c.loop-k.machine over.0 over.1 (omega arith) here;
      added = λ image s t listing listed h.
          let here = c.loop-k.invariant.shows image s t h in
          let over = ended_at image s (t + k) c.loop-k.machine here c.in_default.ensures.none in
          ticks_ended c.args.form listing image s (t + k) _ c.loop-k.machine over.0 c.loop-k.out.items _ listed here over.1
          (c.loop-k.invariant.left image s t listing listed h);
    }

pub returns : goal.returns
returns c =
    let k = c.loop-k._k in
    record {
      shows = λ image s t h.
          let sum : t + k ≡ t + c.args.count = omega arith in
          subst (λ (u : ℕ). Shows image s u c.loop-k.machine) sum (c.loop-k.invariant.shows image s t h);
      added = λ image s t listing listed h. ticks_done c.args.form listing image s t c.args.count k _ _ (omega arith)
          (c.loop-k.invariant.left image s t listing listed h);
    }
