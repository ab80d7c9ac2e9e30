use Rattle.std.proofs.Common.{◌%◌, eq-eqb, ap, ◌∙◌}
use Rattle.hm_regs.specs.Place.{with_value}
use Rattle.hm_forms_predicate.proofs.Blocks.{block_done}
use Rattle.hm_forms_predicate.proofs.block.beat_block.Goals as goal

pub returns-then-b-eq1-clause-done : goal.returns-then-b-eq1-clause-done
returns-then-b-eq1-clause-done c = λ m output. block_done c.args.row.now.k.value c.args.b c.mask_at.result c.args.r.now c.set.new.self m output
    (eq-eqb (c.args.b % 2) 1 c.if-b-eq1.true) c.mask_at.ensures.place c.in_range.ensures.counted
    (c.set.ensures.value ∙ ap (λ x. with_value c.mask_at.result x c.args.r.now) c.get.ensures.value)
