use Rattle.std.proofs.Common.{map}
use Rattle.std.specs.Prelude.{option_map}
use Rattle.hm_tokens.specs.Tokens.{tok}
use Rattle.hm_text_tables.proofs.InTables.{none_read, read_has, shape_found}
use Rattle.hm_text_tables.proofs.tables.token_shape.Goals as goal

pub returns-in_err-tokens-clause-only : goal.returns-in_err-tokens-clause-only
returns-in_err-tokens-clause-only c i u n = absurd (none_read c.args.text.now c.in_err-tokens.ensures.only i u n)

pub returns-clause-found : goal.returns-clause-found
returns-clause-found c =
    shape_found c.args.text.now (map tok c.in_ok-tokens.tokens.items) c.read_shape.result (λ s. s.width) (λ s. option_map tok s.label)
    c.in_ok-tokens.ensures.found (rw c.as_slice.ensures.value at c.read_shape.ensures.found)

pub returns-clause-only : goal.returns-clause-only
returns-clause-only c i u n =
    (rw c.as_slice.ensures.value at c.read_shape.ensures.only) i u
    (read_has c.args.text.now (map tok c.in_ok-tokens.tokens.items) c.in_ok-tokens.ensures.only i u n)
