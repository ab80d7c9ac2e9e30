use Rattle.hm_moves.proofs.Done.{advanced}
use Rattle.hm_moves.proofs.beats.finish.Goals as goal

pub returns-clause-value : goal.returns-clause-value
returns-clause-value c = advanced c.args.b c.args.r.now _ _ _ c.args.back c.args.mask c.args.slice c.put_some.ensures.value c.put_slice.ensures.value
    c.put_mask.ensures.value
