use Rattle.std.proofs.Common.{Some, inl}
use Rattle.std.specs.Prelude.{option_map}
use Rattle.hm_tokens.specs.Tokens.{tok}
use Rattle.hm_text_tables.specs.Tables.{Seen}
use Rattle.hm_text_tables.proofs.InTables.{first_only, then_found, then_only}
use Rattle.hm_text_tables.proofs.tables.row_shape.Goals as goal

pub returns-in-Some-clause-found : goal.returns-in-Some-clause-found
returns-in-Some-clause-found c = let f = c.in-Some.ensures.found in (f.0, f.1, inl f.2, f.3, f.4)

pub returns-in-Some-clause-only : goal.returns-in-Some-clause-only
returns-in-Some-clause-only c =
    let f = c.in-Some.ensures.found in
    first_only c.args.text.now (Some (c.in-Some.shape.width, option_map tok c.in-Some.shape.label)) f.0 f.1 f.2 c.in-Some.ensures.only

pub returns-in-None-clause-found : goal.returns-in-None-clause-found
returns-in-None-clause-found c =
    then_found c.args.text.now c.vector_shape.result (λ s. s.width) (λ s. option_map tok s.label) c.vector_shape.ensures.found

pub returns-in-None-clause-only : goal.returns-in-None-clause-only
returns-in-None-clause-only c =
    then_only c.args.text.now (option_map {U = Seen} (λ s. (s.width, option_map tok s.label)) c.vector_shape.result) c.in-None.ensures.only
    c.vector_shape.ensures.only
