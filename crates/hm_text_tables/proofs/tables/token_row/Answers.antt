use Rattle.std.proofs.Common.{map}
use Rattle.hm_tokens.specs.Tokens.{tok}
use Rattle.hm_text_tables.proofs.InTables.{at_found, at_only, none_read}
use Rattle.hm_text_tables.proofs.tables.token_row.Goals as goal

pub returns-in_err-tokens-clause-only : goal.returns-in_err-tokens-clause-only
returns-in_err-tokens-clause-only c i u n re = absurd (none_read c.args.text.now c.in_err-tokens.ensures.only i u n)

pub returns-clause-found : goal.returns-clause-found
returns-clause-found c =
    at_found c.args.text.now (map tok c.in_ok-tokens.tokens.items) c.args.pc c.args.address c.read_row.result c.in_ok-tokens.ensures.found
    (rw c.as_slice.ensures.value at c.read_row.ensures.found)

pub returns-clause-only : goal.returns-clause-only
returns-clause-only c =
    at_only c.args.text.now (map tok c.in_ok-tokens.tokens.items) c.args.pc c.args.address c.read_row.result c.in_ok-tokens.ensures.only
    (rw c.as_slice.ensures.value at c.read_row.ensures.only)
