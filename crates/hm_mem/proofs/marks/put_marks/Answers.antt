use Rattle.std.proofs.Common.{get_or, false, rules, ◌∙◌}
use Rattle.hm_mem.specs.Truths.{truths}
use Rattle.hm_mem.proofs.Truths.{laid-blank, laid-next}
use Rattle.hm_mem.proofs.marks.put_marks.Goals as goal

pub returns-then-is_blank-clause-each : goal.returns-then-is_blank-clause-each
returns-then-is_blank-clause-each c = λ k. laid-blank (truths c.args.marks.now.items) c.args.at c.args.len k c.args.mark (search rules)
    (search (rules, c.is_blank.ensures.none))

pub loop-k-preserved : goal.loop-k-preserved
loop-k-preserved c =
    let first = get_or (truths c.args.marks.now.items) in
    record {
      size = c.put_mark.ensures.size ∙ c.loop-k.invariant.size;
      each = λ j. c.put_mark.ensures.each j ∙ laid-next c.args.at c.loop-k.k j c.args.mark (first j false) _ (c.loop-k.invariant.each j);
    }
