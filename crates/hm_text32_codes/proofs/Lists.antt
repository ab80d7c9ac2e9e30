-- Rows of lists of registers, T14: their texts give their mnemonics and their operands; and the code of a list.
use Rattle.std.proofs.Common.{◌≡◌, ℕ, zero, suc, ◌+◌, ◌<◌, true, List, ◌∷◌, ◌++◌, refl, sym, subst, ap, ◌∙◌, arith}
use Rattle.hm_isa.specs.declared.wide.T14.{T14}
use Rattle.hm_isa.specs.declared.wide.WideListName.{WideListName}
use Rattle.hm_isa.specs.declared.widths.WideRow.TheVariants as wide
use Rattle.hm_isa.specs.Code.{code_t14, wide_list_base}
use Rattle.hm_isa.specs.Standing.{◌↑◌}
use Rattle.hm_text_base.specs.Spans.{span}
use Rattle.hm_tokens.specs.Tokens.{Tok, word, point}
use Rattle.hm_text_rows.specs.Operands.{bits_of, braced, operand}
use Rattle.hm_text_rows.specs.Shapes.{braces}
use Rattle.hm_text_rows.proofs.Braces.{base_and_list, behind_base, braced_of, braces_bits, printed_list}
use Rattle.hm_text_rows.proofs.Words.{is_mnemonic, is_suffix}
use Rattle.hm_text32_rows.specs.Mnemonics.{wide_list_mnemonic, wide_list_suffix}
use Rattle.hm_text32_rows.proofs.Lists.{few_listed}
use Rattle.hm_text32_codes.specs.declared.operands.Operands.{Operands}
use Rattle.hm_text32_codes.specs.Asked.{operands_of}
use Rattle.hm_text32_codes.specs.Operands.{read_wide_operands, second_bang, wide_value}
use Rattle.hm_text32_codes.proofs.Asked.{RowLaw}
use Rattle.hm_text32_codes.proofs.Forms.{a_register, the_mnemonic}

mnemonic_list : (name : WideListName) → is_mnemonic (wide_list_mnemonic name) ≡ true
mnemonic_list name = grind arith

suffix_list : (name : WideListName) → is_suffix (wide_list_suffix name) ≡ true
suffix_list name = grind arith

-- what is read of a base and a list
bang_of : (s : List ℕ) (w n : ℕ) (us : List Tok) → w < 2 → second_bang (word s ∷ behind_base w n us) ≡ w
bang_of s zero n us lt = refl
bang_of s (suc zero) n us lt = refl
bang_of s (suc (suc w)) n us lt = absurd (omega arith)

behind_word : (s : List ℕ) (ts : List Tok) → braced (word s ∷ ts) ≡ braced ts
unfolding braced
behind_word s ts = refl

sum_of : (base w n list : ℕ) (s : List ℕ) (us : List Tok) → w < 2 → n < 16 → bits_of (braced us) ≡ list
    → base + second_bang (word s ∷ behind_base w n us) ↑ 21 + wide_value (operand 1 (word s ∷ behind_base w n us)) ↑ 16
    + bits_of (braced (word s ∷ behind_base w n us))
    ≡ base + w ↑ 21 + n ↑ 16 + list
sum_of base w n list s us hw hn bits =
    let bang = bang_of s w n us hw in
    let all = ap bits_of (behind_word s (behind_base w n us) ∙ braced_of w n us hw) ∙ bits in
    λ j. base + bang j ↑ 21 + (a_register n hn).value j ↑ 16 + all j

abbrev pub list_code : ℕ → Operands → ℕ
list_code base o = base + o.bang ↑ 21 + o.first ↑ 16 + o.registers

-- the tokens of a row, whatever its suffix is
list_sum : (i : T14) (s f : List ℕ)
    → list_code (wide_list_base i.name) (read_wide_operands f (word s ∷ base_and_list i.w.value i.n.value i.list.value)) ≡ code_t14 i
list_sum i s f = sum_of (wide_list_base i.name) i.w.value i.n.value i.list.value s (braces i.list.value) i.w.in_range i.n.in_range
    (braces_bits i.list.value i.list.in_range)

pub list_back : (i : T14) (t : Tok) (o : Operands) → o ≡ operands_of (wide.T14 i) t → list_code (wide_list_base i.name) o ≡ code_t14 i
list_back i t o e =
    subst (λ (x : Operands). list_code (wide_list_base i.name) x ≡ code_t14 i) (sym e)
    (list_sum i (wide_list_mnemonic i.name ++ wide_list_suffix i.name) (span point (wide_list_mnemonic i.name ++ wide_list_suffix i.name)).1)

pub row_t14 : (i : T14) → RowLaw (wide.T14 i)
row_t14 i = record {
  mnemonic =
      λ t. the_mnemonic (wide_list_mnemonic i.name) (wide_list_suffix i.name) (base_and_list i.w.value i.n.value i.list.value) (mnemonic_list i.name)
      (suffix_list i.name);
  gives = λ t l. refl;
  prints = printed_list (wide_list_mnemonic i.name) (wide_list_suffix i.name) i.w.value i.n.value i.list.value (mnemonic_list i.name) (suffix_list i.name)
      i.w.in_range i.n.in_range (few_listed i);
}
