use Rattle.std.proofs.Common.{◌<◌, ◌^◌, arith}
use Rattle.hm_exc.proofs.Stacked.{entered-window, entered-fits}
use Rattle.hm_exc.proofs.frame.activation.Goals as goal

pub returns-clause-position : goal.returns-clause-position
returns-clause-position c =
    let r = c.args.r.now in
    let it : r.it < 256 = omega arith in
    let pc : r.pc < 2 ^ 32 = omega arith in
    entered-window r c.args.w c.args.e c.in_range.ensures.counted.qw_count c.requires.state it c.in_range.ensures.range pc

pub returns-clause-fits : goal.returns-clause-fits
returns-clause-fits c =
    let r = c.args.r.now in
    let it : r.it < 256 = omega arith in
    let pc : r.pc < 2 ^ 32 = omega arith in
    entered-fits r c.args.w c.args.e c.in_range.ensures.counted.qw_count c.requires.state it c.in_range.ensures.range pc
