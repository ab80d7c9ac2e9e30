use Rattle.hm_text_tables.proofs.Decided.{some_instruction, some_width_or_refusal}
use Rattle.hm_text_tables.proofs.Once.{late_refusal, not_refused, one_instruction, one_refusal, one_width}
use Rattle.hm_text_tables.proofs.laws.text_law.Goals as goal

pub returns : goal.returns
returns c = record {
  width = one_width;
  instruction = one_instruction;
  refusal = one_refusal;
  not_both = not_refused;
  label = late_refusal;
  some_width = some_width_or_refusal;
  some = some_instruction;
}
