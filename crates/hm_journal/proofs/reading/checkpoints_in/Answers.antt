use Rattle.std.proofs.Common.{◌≡◌, ◌++◌, [], ◌∷◌, List, None, Some, ap, arith, sym, ◌∙◌, length, map, option_map}
use Rattle.std.proofs.lemmas.List.{length-map, map_push, take_all}
use Rattle.serde_json.specs.View.{view}
use Rattle.hm_journal.proofs.Pairs.{beside, take_more}
use Rattle.hm_journal.specs.Journals.{ReportAt, checkpoint_data}
use Rattle.hm_journal.specs.Views.{checkpoint_of}
use Rattle.hm_journal.proofs.reading.checkpoints_in.Goals as goal

pub returns-in-None : goal.returns-in-None
returns-in-None c xs fits e =
    let b = beside view checkpoint_data c.args.values.now xs c.loop-value.value-index c.value-item.result c.loop-value-test.true e in
    let did = c.in_ok-x.ensures b.0 (fits c.loop-value.value-index b.0 b.1) (ap view c.value-item.is ∙ b.2) in
    let no : None ≡ Some b.0 = sym (ap (option_map checkpoint_of) c.in-None.is) ∙ did in
    absurd cc

pub loop-value-preserved : goal.loop-value-preserved
loop-value-preserved c xs fits e =
    let b = beside view checkpoint_data c.args.values.now xs c.loop-value.value-index c.value-item.result c.loop-value-test.true e in
    let did = c.in_ok-x.ensures b.0 (fits c.loop-value.value-index b.0 b.1) (ap view c.value-item.is ∙ b.2) in
    let some : Some (checkpoint_of c.in-Some.x) ≡ Some b.0 = sym (ap (option_map checkpoint_of) c.in-Some.is) ∙ did in
    let same : checkpoint_of c.in-Some.x ≡ b.0 = cc in
    let before = c.loop-value.invariant xs fits e in
    ap (map checkpoint_of) c.in_ok-push-in-Some.ensures.items ∙ map_push checkpoint_of c.loop-value.checkpoints.items c.in-Some.x
    ∙ (λ j. before j ++ same j ∷ []) ∙ sym (take_more xs c.loop-value.value-index b.0 b.1)

pub returns : goal.returns
returns c xs fits e =
    let long = c.loop-value-test.false in
    let size : length c.args.values.now ≡ length xs = sym (length-map c.args.values.now view) ∙ ap length e ∙ length-map xs checkpoint_data in
    ap (λ (l : List ReportAt). Some l) (c.loop-value.invariant xs fits e ∙ take_all c.loop-value.value-index xs (omega (arith, long, size)))
