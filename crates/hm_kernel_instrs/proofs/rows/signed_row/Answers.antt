use Rattle.std.proofs.Common.{ℕ, ◌+◌, subst}
use Rattle.hm_code_bytes.specs.Instructions.{IsSignedRow}
use Rattle.hm_kernel_lang.specs.Machine.{size_code}
use Rattle.hm_kernel_instrs.proofs.rows.signed_row.Goals as goal

pub returns : goal.returns
returns c =
    let d = c.args.d in
    record {
      row = subst (λ (u : ℕ). IsSignedRow u (size_code c.args.t) c.args.name d d (d + 1) c.signed_row.result) c.unsigned_of.ensures.value
          (subst (λ (z : ℕ). IsSignedRow c.unsigned_of.result z c.args.name d d (d + 1) c.signed_row.result) c.size_of.ensures.value c.signed_row.ensures.row);
    }
