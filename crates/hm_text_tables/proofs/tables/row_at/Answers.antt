use Rattle.std.proofs.Common.{Some, inl}
use Rattle.hm_text_tables.proofs.InTables.{first_at, then_at, vector_at}
use Rattle.hm_text_tables.proofs.tables.row_at.Goals as goal

pub returns-in-Some-clause-found : goal.returns-in-Some-clause-found
returns-in-Some-clause-found c = let f = c.in-Some.ensures.found in record { label = f.0; has = inl f.1; reaches = f.2 }

pub returns-in-Some-clause-only : goal.returns-in-Some-clause-only
returns-in-Some-clause-only c =
    let f = c.in-Some.ensures.found in
    first_at c.args.text.now c.args.pc c.args.address (Some c.in-Some.i) c.in-Some.i f.0 f.1 c.in-Some.ensures.only

pub returns-in-None-clause-found : goal.returns-in-None-clause-found
returns-in-None-clause-found c = vector_at c.args.text.now c.args.pc c.args.address c.vector_row.result c.vector_row.ensures.found

pub returns-in-None-clause-only : goal.returns-in-None-clause-only
returns-in-None-clause-only c =
    then_at c.args.text.now c.args.pc c.args.address c.vector_row.result c.in-None.ensures.only c.vector_row.ensures.only
