-- What is proved of each row: its text gives its operands, and is printed and read back.
use Rattle.std.proofs.Common.{◌≡◌, Bool, true, false, cond, [], ◌∷◌, ◌++◌, sym, subst, ◌∙◌}
use Rattle.hm_isa.specs.declared.widths.NarrowRow.{NarrowRow}
use Rattle.hm_tokens.specs.Tokens.{Tok}
use Rattle.hm_text_rows.proofs.Shown.{IsPrintedRow}
use Rattle.hm_text_rows.specs.Labels.{IsLabel}
use Rattle.hm_text16_codes.specs.declared.operands.Operands.{Operands}
use Rattle.hm_text16_codes.specs.Asked.{operands_of}
use Rattle.hm_text16_codes.specs.Operands.{read_narrow_operands}
use Rattle.hm_text16_rows.specs.Rows.{has_label, row_tokens, tokens_of}
use Rattle.hm_text16_codes.proofs.Forms.{Reads, ReadsAt}

pub record RowLaw (r : NarrowRow) : Type 0 where
  pub gives : (t : Tok) → IsLabel t → read_narrow_operands (tokens_of r t) ≡ operands_of r t
  pub prints : IsPrintedRow (has_label r) (row_tokens r)

-- of a row with no label
pub plain_row : (r : NarrowRow) (o : Operands) → has_label r ≡ false → ((t : Tok) → operands_of r t ≡ o) → Reads (row_tokens r) o → RowLaw r
plain_row r o plain same reads = record {
  gives =
      λ t l. subst (λ (b : Bool). read_narrow_operands (cond b (row_tokens r ++ t ∷ []) (row_tokens r)) ≡ operands_of r t) (sym plain)
      (reads.gives ∙ sym (same t));
  prints = subst (λ (b : Bool). IsPrintedRow b (row_tokens r)) (sym plain) reads.prints;
}

-- and of one with a label
pub label_row : (r : NarrowRow) → has_label r ≡ true → ReadsAt (row_tokens r) (operands_of r) → RowLaw r
label_row r yes_ reads = record {
  gives = λ t l. subst (λ (b : Bool). read_narrow_operands (cond b (row_tokens r ++ t ∷ []) (row_tokens r)) ≡ operands_of r t) (sym yes_) (reads.gives t l);
  prints = subst (λ (b : Bool). IsPrintedRow b (row_tokens r)) (sym yes_) reads.prints;
}
