use Rattle.std.proofs.Common.{subst}
use Rattle.hm_code_bytes.specs.Instructions.{IsDuplicateRow}
use Rattle.hm_isa.specs.declared.vectors.Element.{Element}
use Rattle.hm_kernel_instrs.proofs.rows.splat.Goals as goal

pub returns : goal.returns
returns c = record {
  row = subst (λ (size : Element). IsDuplicateRow size c.args.d 5 c.duplicate_row.result) c.element_of.ensures.value c.duplicate_row.ensures.row;
}
