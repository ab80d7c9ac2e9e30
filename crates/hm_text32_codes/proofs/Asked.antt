-- What is proved of each row: its text gives its mnemonic and its operands, and is printed and read back.
use Rattle.std.proofs.Common.{◌≡◌, Bool, true, false, cond, List, [], ◌∷◌, ◌++◌, ℕ, sym, subst, ◌∙◌}
use Rattle.hm_isa.specs.declared.widths.WideRow.{WideRow}
use Rattle.hm_tokens.specs.Tokens.{Tok, comma}
use Rattle.hm_text_rows.specs.Labels.{IsLabel}
use Rattle.hm_text_rows.proofs.Printed.{IsPrintedAt}
use Rattle.hm_text_rows.proofs.Shown.{IsPrintedRow}
use Rattle.hm_text32_codes.specs.declared.operands.Operands.{Operands}
use Rattle.hm_text32_codes.specs.Asked.{mnemonic_of, operands_of}
use Rattle.hm_text32_codes.specs.Operands.{operands_in}
use Rattle.hm_text32_rows.specs.Rows.{has_label, row_tokens, tokens_of}
use Rattle.hm_text32_codes.proofs.Forms.{Reads, mnemonic_in}

pub record RowLaw (r : WideRow) : Type 0 where
  pub mnemonic : (t : Tok) → mnemonic_in (tokens_of r t) ≡ mnemonic_of r
  pub gives : (t : Tok) → IsLabel t → operands_in (tokens_of r t) ≡ operands_of r t
  pub prints : IsPrintedRow (has_label r) (row_tokens r)

-- tokens before a label
pub record ReadsAt (ts : List Tok) (s : List ℕ) (o : Tok → Operands) : Type 0 where
  pub mnemonic : (t : Tok) → mnemonic_in (ts ++ t ∷ []) ≡ s
  pub gives : (t : Tok) → IsLabel t → operands_in (ts ++ t ∷ []) ≡ o t
  pub prints : IsPrintedAt ts

-- the tokens of a row with no label
abbrev pub RowReads : WideRow → Type 0
RowReads r = Reads (row_tokens r) (mnemonic_of r) (operands_of r comma)

-- of a row with no label
pub plain_row : (r : WideRow) → has_label r ≡ false → ((t : Tok) → operands_of r t ≡ operands_of r comma) → RowReads r → RowLaw r
plain_row r plain same reads = record {
  mnemonic = λ t. subst (λ (b : Bool). mnemonic_in (cond b (row_tokens r ++ t ∷ []) (row_tokens r)) ≡ mnemonic_of r) (sym plain) reads.mnemonic;
  gives =
      λ t l. subst (λ (b : Bool). operands_in (cond b (row_tokens r ++ t ∷ []) (row_tokens r)) ≡ operands_of r t) (sym plain)
      (reads.gives ∙ sym (same t));
  prints = subst (λ (b : Bool). IsPrintedRow b (row_tokens r)) (sym plain) reads.prints;
}

-- and of one with a label
abbrev pub LabelReads : WideRow → Type 0
LabelReads r = ReadsAt (row_tokens r) (mnemonic_of r) (operands_of r)

pub label_row : (r : WideRow) → has_label r ≡ true → LabelReads r → RowLaw r
label_row r yes_ reads = record {
  mnemonic = λ t. subst (λ (b : Bool). mnemonic_in (cond b (row_tokens r ++ t ∷ []) (row_tokens r)) ≡ mnemonic_of r) (sym yes_) (reads.mnemonic t);
  gives = λ t l. subst (λ (b : Bool). operands_in (cond b (row_tokens r ++ t ∷ []) (row_tokens r)) ≡ operands_of r t) (sym yes_) (reads.gives t l);
  prints = subst (λ (b : Bool). IsPrintedRow b (row_tokens r)) (sym yes_) reads.prints;
}
