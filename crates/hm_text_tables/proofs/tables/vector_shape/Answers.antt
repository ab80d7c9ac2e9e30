use Rattle.hm_text_tables.proofs.InTables.{vector_found, vector_none, vector_seen}
use Rattle.hm_text_tables.proofs.tables.vector_shape.Goals as goal

pub returns-in-Some-clause-found : goal.returns-in-Some-clause-found
returns-in-Some-clause-found c = vector_found c.args.text.now c.in-Some._row c.in-Some.ensures.found

pub returns-in-Some-clause-only : goal.returns-in-Some-clause-only
returns-in-Some-clause-only c i u is = vector_seen c.args.text.now i u is

pub returns-in-None-clause-only : goal.returns-in-None-clause-only
returns-in-None-clause-only c i u is = absurd (vector_none c.args.text.now c.in-None.ensures.only i is)
