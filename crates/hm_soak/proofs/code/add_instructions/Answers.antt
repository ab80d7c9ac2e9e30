use Rattle.hm_soak.proofs.Adding.{all_added}
use Rattle.hm_soak.proofs.code.add_instructions.Goals as goal

pub returns : goal.returns
returns c = record {
  codes = all_added c.args.number c.in_ok-last.last c.args.out.now.items c.add_head.new.out.items c.add_fill.new.out.items c.add_operations.new.out.items
      c.add_end.new.out.items c.add_end.result
      c.in_ok-add_head.ensures.codes c.in_ok-last.ensures.codes c.in_ok-last.ensures.last c.in_ok-add_operations.ensures.codes c.add_end.ensures.codes;
}
