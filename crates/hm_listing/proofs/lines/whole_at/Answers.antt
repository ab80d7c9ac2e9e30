use Rattle.std.proofs.Common.{◌+◌, ◌<◌, subst, arith}
use Rattle.hm_codes.proofs.Unique.{unique}
use Rattle.hm_isa.specs.declared.Instr.{Instr}
use Rattle.hm_isa.specs.Code.{width_of}
use Rattle.hm_listing.proofs.lines.whole_at.Goals as goal

pub returns-else-width-hi-clause-none : goal.returns-else-width-hi-clause-none
returns-else-width-hi-clause-none c = λ j stands.
    let past : c.args.hi < c.args.at + width_of c.in-Ok.i = omega arith in
    subst (λ (k : Instr). c.args.hi < c.args.at + width_of k) (unique _ _ c.in-Ok.i j c.in-Ok.ensures stands) past
