use Rattle.std.proofs.Common.{Some, ap, map}
use Rattle.hm_isa.specs.declared.Instr.{Instr}
use Rattle.hm_tokens.specs.Tokens.{tok}
use Rattle.hm_text_tables.proofs.OneRow.{one_row, only_wide}
use Rattle.hm_text_tables.proofs.reading.row_with.Goals as goal

pub returns-in-Some-clause-only : goal.returns-in-Some-clause-only
returns-in-Some-clause-only c i is =
    ap (λ (x : Instr). Some x)
    (one_row (map tok c.args.tokens.now) c.args.pc c.args.address c.in-Some.i i c.ranges.pc.fits c.in-Some.ensures.found is)

pub returns-in-None-clause-only : goal.returns-in-None-clause-only
returns-in-None-clause-only c i is =
    only_wide (map tok c.args.tokens.now) c.args.pc c.args.address c.wide_row.result c.in-None.ensures.only c.wide_row.ensures.only i is
