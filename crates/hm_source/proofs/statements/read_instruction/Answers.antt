use Rattle.std.proofs.Common.{refl}
use Rattle.hm_source.proofs.statements.read_instruction.Goals as goal

pub returns-in-Ok-clause-found : goal.returns-in-Ok-clause-found
returns-in-Ok-clause-found c = (c.in-Ok.width, (c.in-Ok.ensures.width c.in-Ok.width).1 refl, refl)

pub returns-in-Ok-clause-only : goal.returns-in-Ok-clause-only
returns-in-Ok-clause-only c n w = let e = (c.in-Ok.ensures.width n).0 w in cc

pub returns-in-Err-clause-only : goal.returns-in-Err-clause-only
returns-in-Err-clause-only c n w = let e = (c.in-Err.ensures.width n).0 w in absurd cc

pub returns-in-Err-clause-none : goal.returns-in-Err-clause-none
returns-in-Err-clause-none c n w = let e = (c.in-Err.ensures.width n).0 w in absurd cc
