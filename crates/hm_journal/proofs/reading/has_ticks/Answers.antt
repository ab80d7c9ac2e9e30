use Rattle.std.proofs.Common.{◌≡◌, ℕ, ◌+◌, ◌*◌, ap, arith, refl, sym, ◌∙◌, map, slice_get, Some, length}
use borrow.Author.Count.{below_more}
use Rattle.hm_journal.proofs.Pairs.{below_some, item_at}
use Rattle.hm_journal.specs.Journals.{ReportAt}
use Rattle.hm_journal.specs.Views.{checkpoint_of}
use Rattle.hm_machine.proofs.Reels.{one_more_tick}
use Rattle.hm_journal.proofs.reading.has_ticks.Goals as goal

pub returns-then-x-tick : goal.returns-then-x-tick
returns-then-x-tick c =
    let here = item_at checkpoint_of c.args.d.now.checkpoints.items c.deref-x-items.result.now c.loop-x.x-index c.x-item.result c.loop-x-test.true
    c.deref-x-items.ensures.value c.x-item.is in (
      λ no. absurd cc,
      λ all. absurd (c.if-x-tick.true (all c.loop-x.x-index (checkpoint_of c.x-item.result) here ∙ sym c.loop-x.invariant.tick)),
    )

pub loop-x-preserved : goal.loop-x-preserved
loop-x-preserved c =
    let here = item_at checkpoint_of c.args.d.now.checkpoints.items c.deref-x-items.result.now c.loop-x.x-index c.x-item.result c.loop-x-test.true
    c.deref-x-items.ensures.value c.x-item.is in
    let is : c.x-item.result.tick ≡ c.loop-x.x-index * c.args.d.now.every = c.if-x-tick.false ∙ c.loop-x.invariant.tick in
    let small = c.loop-x.invariant.small in
    record {
      tick = ap (λ (n : ℕ). n + c.args.d.now.every) c.loop-x.invariant.tick ∙ one_more_tick c.loop-x.x-index c.args.d.now.every;
      small = omega (arith, small);
      each = λ k x less at.
          below_more (λ (k : ℕ). (x : ReportAt) → slice_get (map checkpoint_of c.args.d.now.checkpoints.items) k ≡ Some x → x.tick ≡ k * c.args.d.now.every)
          c.loop-x.x-index
          (λ k less x at. c.loop-x.invariant.each k x less at)
          (λ x at.
          let same : Some x ≡ Some (checkpoint_of c.x-item.result) = sym at ∙ here in
          let one : x ≡ checkpoint_of c.x-item.result = cc in
          ap (λ (m : ReportAt). m.tick) one ∙ is) k less x at;
    }

pub returns : goal.returns
returns c = (
  λ yes k x at.
      let long = c.loop-x-test.false in
      let some = below_some checkpoint_of c.args.d.now.checkpoints.items k x at in
      let len = c.deref-x-items.ensures.value in
      c.loop-x.invariant.each k x (let same = ap length len in omega (arith, long, some, same)) at,
  λ all. refl,
)
