use Rattle.std.proofs.Common.{◌≡◌, true, ℕ, arith, refl, subst, sym, ◌∙◌, map, slice_get, Some}
use borrow.Author.Count.{below_more}
use Rattle.hm_machine.specs.Taped.{Taped, Tapes}
use Rattle.hm_journal.proofs.Pairs.{below_some, item_at}
use Rattle.hm_journal.specs.Journals.{ReportAt}
use Rattle.hm_journal.specs.Runs.{IsOfRun}
use Rattle.hm_journal.specs.Views.{checkpoint_of}
use Rattle.hm_journal.proofs.running.compare_all.Goals as goal

pub returns-then-not-branch-clause-refused : goal.returns-then-not-branch-clause-refused
returns-then-not-branch-clause-refused c = λ image s listing is tapes.
    let xs = c.args.checkpoints.now in
    let then_tapes = subst (λ (w : Taped). Tapes image s w) (sym c.loop-x.invariant.stays) tapes in
    let told = c.in_ok-is_of_run.ensures.told image s listing is then_tapes in
    record {
      place = c.loop-x.x-index;
      checkpoint = checkpoint_of c.x-item.result;
      there = item_at checkpoint_of xs xs c.loop-x.x-index c.x-item.result c.loop-x-test.true refl c.x-item.is;
      lies = refl;
      differs = λ of. let met : c.in_ok-is_of_run.field-0 ≡ true = told.1 of in cc;
      before = c.loop-x.invariant.before image s listing is tapes;
    }

pub loop-x-preserved : goal.loop-x-preserved
loop-x-preserved c = record {
  stays = c.in_ok-is_of_run.ensures.stays ∙ c.loop-x.invariant.stays;
  before = λ image s listing is tapes k x less at.
      let xs = c.args.checkpoints.now in
      let then_tapes = subst (λ (w : Taped). Tapes image s w) (sym c.loop-x.invariant.stays) tapes in
      let told = c.in_ok-is_of_run.ensures.told image s listing is then_tapes in
      let here = item_at checkpoint_of xs xs c.loop-x.x-index c.x-item.result c.loop-x-test.true refl c.x-item.is in
      below_more (λ (k : ℕ). (x : ReportAt) → slice_get (map checkpoint_of xs) k ≡ Some x → IsOfRun listing image s c.args.format x) c.loop-x.x-index
      (λ k less x at. c.loop-x.invariant.before image s listing is tapes k x less at)
      (λ x at.
      let same : Some x ≡ Some (checkpoint_of c.x-item.result) = sym at ∙ here in
      let one : x ≡ checkpoint_of c.x-item.result = cc in
      subst (IsOfRun listing image s c.args.format) (sym one) (told.0 c.if-not-branch.false)) k less x at;
}

pub returns-clause-same : goal.returns-clause-same
returns-clause-same c = λ image s listing is tapes k x at.
    let some = below_some checkpoint_of c.args.checkpoints.now k x at in
    let long = c.loop-x-test.false in
    c.loop-x.invariant.before image s listing is tapes k x (omega (arith, some, long)) at
