-- Every row of two halfwords that is no vector row: its text gives its mnemonic and its operands, and is printed and read back; so does its other text.
use Rattle.std.proofs.Common.{◌≡◌, List, [], ◌∷◌, Some, refl, sym, subst, ap, ◌∙◌}
use Rattle.std.specs.Prelude.{nat_eq}
use Rattle.std.proofs.lemmas.Bool.{eqb-true}
use Rattle.hm_isa.specs.declared.arith.T11.TheVariants as t11
use Rattle.hm_isa.specs.declared.jumps.T16.TheVariants as t16
use Rattle.hm_isa.specs.declared.jumps.T23.TheVariants as t23
use Rattle.hm_isa.specs.declared.system.Barrier.{Barrier}
use Rattle.hm_isa.specs.declared.system.T18.TheVariants as t18
use Rattle.hm_isa.specs.declared.system.T19.TheVariants as t19
use Rattle.hm_isa.specs.declared.wide.T12.TheVariants as t12
use Rattle.hm_isa.specs.declared.widths.WideRow.{WideRow}
use Rattle.hm_isa.specs.declared.widths.WideRow.TheVariants as wide
use Rattle.hm_text_base.proofs.Steps.{some_is, test_some}
use Rattle.hm_text_rows.proofs.Printed.{IsPrinted}
use Rattle.hm_tokens.specs.Tokens.{Tok, word}
use Rattle.hm_text32_rows.specs.Mnemonics.{barrier_mnemonic}
use Rattle.hm_text32_rows.specs.Rows.{other_tokens}
use Rattle.hm_text32_codes.specs.Asked.{none_given}
use Rattle.hm_text32_codes.specs.Operands.{operands_in}
use Rattle.hm_text32_codes.proofs.Arith.{row_accumulate, row_long, row_operation, row_t10, row_t20, row_t8, row_t9}
use Rattle.hm_text32_codes.proofs.Asked.{RowLaw, label_row, plain_row}
use Rattle.hm_text32_codes.proofs.Data.{row_t3, row_t4, row_t5, row_t6, row_t7}
use Rattle.hm_text32_codes.proofs.Forms.{mnemonic_in}
use Rattle.hm_text32_codes.proofs.Lists.{row_t14}
use Rattle.hm_text32_codes.proofs.Memory.{row_indexed, row_literal, row_offset, row_scaled, row_t13}
use Rattle.hm_text32_codes.proofs.OnLabels.{row_always, row_conditional, row_end, row_wls, row_wlstp}
use Rattle.hm_text32_codes.proofs.Shifted.{row_t1, row_t2}
use Rattle.hm_text32_codes.proofs.System.{other_barrier_reads, row_barrier, row_dls, row_dlstp, row_lctp, row_nop, row_read}
use Rattle.hm_text32_codes.proofs.System.{row_t15, row_t17, row_t21, row_t22}
use Rattle.hm_text32_codes.proofs.System.{row_write}

pub row_law : (r : WideRow) → RowLaw r
row_law (wide.T1 i) = plain_row _ refl (λ t. refl) (row_t1 i)
row_law (wide.T2 i) = plain_row _ refl (λ t. refl) (row_t2 i)
row_law (wide.T3 i) = plain_row _ refl (λ t. refl) (row_t3 i)
row_law (wide.T4 i) = plain_row _ refl (λ t. refl) (row_t4 i)
row_law (wide.T5 i) = plain_row _ refl (λ t. refl) (row_t5 i)
row_law (wide.T6 i) = plain_row _ refl (λ t. refl) (row_t6 i)
row_law (wide.T7 i) = plain_row _ refl (λ t. refl) (row_t7 i)
row_law (wide.T8 i) = plain_row _ refl (λ t. refl) (row_t8 i)
row_law (wide.T9 i) = plain_row _ refl (λ t. refl) (row_t9 i)
row_law (wide.T10 i) = plain_row _ refl (λ t. refl) (row_t10 i)
row_law (wide.T11 (t11.Operation i)) = plain_row _ refl (λ t. refl) (row_operation i)
row_law (wide.T11 (t11.Accumulate i)) = plain_row _ refl (λ t. refl) (row_accumulate i)
row_law (wide.T11 (t11.Long i)) = plain_row _ refl (λ t. refl) (row_long i)
row_law (wide.T12 (t12.Offset i)) = plain_row _ refl (λ t. refl) (row_offset i)
row_law (wide.T12 (t12.Indexed i)) = plain_row _ refl (λ t. refl) (row_indexed i)
row_law (wide.T12 (t12.Shifted i)) = plain_row _ refl (λ t. refl) (row_scaled i)
row_law (wide.T12 (t12.Literal i)) = plain_row _ refl (λ t. refl) (row_literal i)
row_law (wide.T13 i) = plain_row _ refl (λ t. refl) (row_t13 i)
row_law (wide.T14 i) = row_t14 i
row_law (wide.T15 i) = plain_row _ refl (λ t. refl) (row_t15 i)
row_law (wide.T16 (t16.Conditional i)) = label_row _ refl (row_conditional i)
row_law (wide.T16 (t16.Always i)) = label_row _ refl (row_always i)
row_law (wide.T17 i) = plain_row _ refl (λ t. refl) (row_t17 i)
row_law (wide.T18 (t18.Read i)) = plain_row _ refl (λ t. refl) (row_read i)
row_law (wide.T18 (t18.Write i)) = plain_row _ refl (λ t. refl) (row_write i)
row_law (wide.T19 t19.Nop) = plain_row _ refl (λ t. refl) row_nop
row_law (wide.T19 (t19.Barrier i)) = plain_row _ refl (λ t. refl) (row_barrier i)
row_law (wide.T20 i) = plain_row _ refl (λ t. refl) (row_t20 i)
row_law (wide.T21 i) = plain_row _ refl (λ t. refl) (row_t21 i)
row_law (wide.T22 i) = plain_row _ refl (λ t. refl) (row_t22 i)
row_law (wide.T23 (t23.Dls i)) = plain_row _ refl (λ t. refl) (row_dls i)
row_law (wide.T23 (t23.Wls i)) = label_row _ refl (row_wls i)
row_law (wide.T23 (t23.Dlstp i)) = plain_row _ refl (λ t. refl) (row_dlstp i)
row_law (wide.T23 (t23.Wlstp i)) = label_row _ refl (row_wlstp i)
row_law (wide.T23 (t23.End i)) = label_row _ refl (row_end i)
row_law (wide.T23 t23.Lctp) = plain_row _ refl (λ t. refl) row_lctp

-- THE OTHER TEXT
-- tokens are those of a barrier of 15, alone
pub record Other (r : WideRow) (ts : List Tok) : Type 0 where
  pub barrier : Barrier
  pub is : r ≡ wide.T19 (t19.Barrier barrier)
  pub option : barrier.o.value ≡ 15
  pub mnemonic : mnemonic_in ts ≡ barrier_mnemonic barrier.name
  pub gives : operands_in ts ≡ none_given
  pub prints : IsPrinted ts

bare_barrier : (i : Barrier) (ts : List Tok) → i.o.value ≡ 15 → word (barrier_mnemonic i.name) ∷ [] ≡ ts → Other (wide.T19 (t19.Barrier i)) ts
bare_barrier i ts option is =
    let reads = other_barrier_reads i in
    record {
      barrier = i;
      is = refl;
      option = option;
      mnemonic = ap mnemonic_in (sym is) ∙ reads.mnemonic;
      gives = ap operands_in (sym is) ∙ reads.gives;
      prints = subst (λ (x : List Tok). IsPrinted x) is reads.prints;
    }

pub other_law : (r : WideRow) (ts : List Tok) → other_tokens r ≡ Some ts → Other r ts
other_law (wide.T19 t19.Nop) ts e = absurd cc
other_law (wide.T19 (t19.Barrier i)) ts e =
    let a = test_some (nat_eq i.o.value 15) (Some (word (barrier_mnemonic i.name) ∷ [])) ts e in
    bare_barrier i ts (eqb-true i.o.value 15 a.0) (some_is _ ts a.1)
other_law r ts e = absurd cc
