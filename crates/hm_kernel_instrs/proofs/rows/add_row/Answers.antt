use Rattle.std.proofs.Common.{ℕ, ◌+◌, subst}
use Rattle.hm_code_bytes.specs.Instructions.{IsAddRow}
use Rattle.hm_kernel_instrs.proofs.rows.add_row.Goals as goal

pub returns : goal.returns
returns c = record {
  row = subst (λ (z : ℕ). IsAddRow z c.args.name c.args.d c.args.d (c.args.d + 1) c.add_row.result) c.size_of.ensures.value c.add_row.ensures.row;
}
