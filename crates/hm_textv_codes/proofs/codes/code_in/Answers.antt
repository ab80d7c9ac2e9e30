use Rattle.std.proofs.Common.{map}
use Rattle.hm_tokens.specs.Tokens.{tok}
use Rattle.hm_textv_codes.proofs.Rows.{is_code_in}
use Rattle.hm_textv_codes.proofs.codes.code_in.Goals as goal

pub returns : goal.returns
returns c = record {
  code =
      is_code_in (map tok c.args.tokens.now) _ _ _ _ _ c.first_word.ensures.value c.span.ensures.parts c.read_vector_operands.ensures c.code_of.ensures.rows
      c.code_of.ensures.moved c.code_of.ensures.other_dot;
}
