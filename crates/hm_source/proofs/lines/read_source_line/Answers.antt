use Rattle.std.proofs.Common.{length, refl, ap, arith}
use Rattle.hm_source.proofs.Within.{text_le}
use Rattle.hm_source.proofs.lines.read_source_line.Goals as goal

pub with_statement-requires : goal.with_statement-requires
with_statement-requires c = omega (arith, c.requires.small, text_le c.args.line.now, ap length c.in-Ok.ensures.instruction)

pub returns-in-Err-clause-refused : goal.returns-in-Err-clause-refused
returns-in-Err-clause-refused c = (c.in-Err.ensures.refused c.in-Err.column).1 refl
