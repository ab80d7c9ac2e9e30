use Rattle.hm_text_tables.proofs.InTables.{vector_none, vector_only}
use Rattle.hm_text_tables.proofs.tables.vector_row.Goals as goal

pub returns-in-Some-clause-only : goal.returns-in-Some-clause-only
returns-in-Some-clause-only c i is = vector_only c.args.text.now c.in-Some.v c.in-Some.ensures.only i is

pub returns-in-None-clause-only : goal.returns-in-None-clause-only
returns-in-None-clause-only c i is = absurd (vector_none c.args.text.now c.in-None.ensures.only i is)
