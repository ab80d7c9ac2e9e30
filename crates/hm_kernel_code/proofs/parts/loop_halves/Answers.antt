use Rattle.hm_kernel_code.proofs.Appending.{loop_is}
use Rattle.hm_kernel_code.proofs.parts.loop_halves.Goals as goal

pub returns-clause-value : goal.returns-clause-value
returns-clause-value c at a =
    let p = c.parts_of-parts in
    loop_is at c.args.e.now a p.result.names p.result.numbers p.result.operations p.ensures.names p.ensures.numbers p.ensures.operations
