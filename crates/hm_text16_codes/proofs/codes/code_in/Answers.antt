use Rattle.std.proofs.Common.{ap, ◌∙◌}
use Rattle.hm_text16_codes.specs.Operands.{read_narrow_operands}
use Rattle.hm_text16_codes.proofs.Rows.{row_law}
use Rattle.hm_text16_codes.proofs.codes.code_in.Goals as goal
use Rattle.hm_text_rows.specs.Operands.{first_word}

pub returns : goal.returns
returns c = record {
  code =
      λ r t label reaches e. c.code_of.ensures r t
      (c.first_word.ensures.value ∙ ap first_word e, c.read_narrow_operands.ensures ∙ ap read_narrow_operands e ∙ (row_law r).gives t label) reaches;
}
