use Rattle.std.proofs.Common.{map}
use Rattle.hm_tokens.specs.Tokens.{tok}
use Rattle.hm_textv.proofs.Parsing.{text_found, text_none, text_only}
use Rattle.hm_textv.proofs.parse_v.Goals as goal

pub returns-in_err-tokens-clause-only : goal.returns-in_err-tokens-clause-only
returns-in_err-tokens-clause-only c v is = absurd (text_none c.args.text.now c.in_err-tokens.ensures.only v is)

pub returns-clause-found : goal.returns-clause-found
returns-clause-found c =
    text_found c.args.text.now (map tok c.in_ok-tokens.tokens.items) c.row_with.result c.in_ok-tokens.ensures.found
    (rw c.as_slice.ensures.value at c.row_with.ensures.found)

pub returns-clause-only : goal.returns-clause-only
returns-clause-only c =
    text_only c.args.text.now (map tok c.in_ok-tokens.tokens.items) c.row_with.result c.in_ok-tokens.ensures.only
    (rw c.as_slice.ensures.value at c.row_with.ensures.only)
