-- Rows T1 and T2, of a constant and of a register that is shifted: their texts give their mnemonics and their operands.
use Rattle.std.proofs.Common.{◌≡◌, ℕ, ◌<◌, ◌^◌, Bool, true, false, cond, eqb, List, [], ◌++◌, refl, subst, inl, inr, arith}
use Rattle.std.specs.Prelude.{codes}
use Rattle.std.proofs.lemmas.Bool.{cases_Bool}
use Rattle.std.proofs.lemmas.Bool.Decides.{nat_tests}
use Rattle.hm_isa.specs.declared.data.DataName.{DataName}
use Rattle.hm_isa.specs.declared.data.DataName.TheVariants as data_
use Rattle.hm_isa.specs.declared.data.T1.{T1}
use Rattle.hm_isa.specs.declared.data.T2.{T2}
use Rattle.hm_isa.specs.declared.widths.WideRow.TheVariants as wide_row
use Rattle.hm_isa.specs.Words.{imm12, is_by_carry, shift_number}
use Rattle.hm_tokens.specs.Tokens.{Tok, word}
use Rattle.hm_text_rows.specs.Operands.{is_vector_name}
use Rattle.hm_text_rows.specs.Shapes.{and_constant, one, r, three, two}
use Rattle.hm_text_rows.proofs.Words.{is_mnemonic}
use Rattle.hm_text32_codes.specs.declared.operands.Operands.{Operands}
use Rattle.hm_text32_codes.specs.Asked.{Letters, given, kind_of, kind_operands, letters, letters_t1, letters_t2, number_read, single_kind}
use Rattle.hm_text32_codes.specs.Names.{kind_mnemonic}
use Rattle.hm_text32_codes.specs.Operands.{wide_word_value}
use Rattle.hm_text32_rows.specs.Rows.{and_shifted, is_unshifted, row_tokens, single_tokens}
use Rattle.hm_text32_rows.specs.Mnemonics.{carry_mnemonic, data_mnemonic, move_mnemonic, shift_mnemonic, test_mnemonic, shift_mnemonic_with_flags, wide}
use Rattle.hm_text32_codes.proofs.DataForms.{said_t1, said_t2}
use Rattle.hm_text32_codes.proofs.Immediates.{expanded, expanded_small}
use Rattle.hm_text32_codes.proofs.Forms.{Operand, Reads, Suffix, a_kind, a_register, bare, kind_given, no_suffix, reads_four, reads_one_constant, reads_three}
use Rattle.hm_text32_codes.proofs.Forms.{reads_three_shift, reads_two, reads_two_constant, reads_two_shift, suffix_wide, words_as}

-- SHIFTS
-- what is read of the kind of a shift: where none is written, that of 0
abbrev kind_read : ℕ → ℕ → ℕ
kind_read ty k = cond (is_by_carry ty k) 3 (kind_given ty (shift_number ty k))

kind_same : (ty k : ℕ) → ty < 4 → k < 32 → kind_read ty k ≡ ty
kind_same ty k ht hk = grind (arith, nat_tests)

number_small : (ty k : ℕ) → k < 32 → shift_number ty k < 2 ^ 32
number_small ty k lt = grind (arith, nat_tests)

rrx : Operand (codes "rrx") 3 false
unfolding wide_word_value is_vector_name
rrx = record { value = refl; vector = refl; is = refl }

two_shifted : (s f w x : List ℕ) (b c : Bool) (z m n ty k : ℕ) → is_mnemonic s ≡ true → Suffix f z → Operand w m b → Operand x n c → ty < 4 → k < 32
    → Reads (and_shifted (two (s ++ f) (word w) (word x)) ty k) s (words_as false z b m n (kind_read ty k) (number_read ty k) 0)
two_shifted s f w x b c z m n ty k mnemonic g p o ht hk =
    elim (cases_Bool (is_by_carry ty k)) [
      | inl e ↦ rw e (reads_three s f w x (codes "rrx") b c false z m n 3 mnemonic g p o rrx)
      | inr e ↦ rw e (reads_two_shift s f w x (shift_mnemonic ty) b c false z m n ty (shift_number ty k) mnemonic g p o (a_kind ty ht) (number_small ty k hk))
    ]

three_shifted : (s f w x y : List ℕ) (b c e : Bool) (z m n l ty k : ℕ) → is_mnemonic s ≡ true → Suffix f z → Operand w m b → Operand x n c → Operand y l e
    → ty < 4
    → k < 32
    → Reads (and_shifted (three (s ++ f) (word w) (word x) (word y)) ty k) s (words_as false z b m n l (kind_read ty k) (number_read ty k))
three_shifted s f w x y b c e z m n l ty k mnemonic g p o i ht hk =
    elim (cases_Bool (is_by_carry ty k)) [
      | inl is ↦ rw is (reads_four s f w x y (codes "rrx") b c e false z m n l 3 mnemonic g p o i rrx)
      | inr is ↦ rw is (reads_three_shift s f w x y (shift_mnemonic ty) b c e false z m n l ty (shift_number ty k) mnemonic g p o i (a_kind ty ht)
          (number_small ty k hk))
    ]

-- the same kind
kept : (ts : List Tok) (s : List ℕ) (o : ℕ → Operands) (ty k : ℕ) → ty < 4 → k < 32 → Reads ts s (o (kind_read ty k)) → Reads ts s (o ty)
kept ts s o ty k ht hk reads = subst (λ (v : ℕ). Reads ts s (o v)) (kind_same ty k ht hk) reads

three_reads : (s : List ℕ) (n d m ty k : ℕ) → is_mnemonic s ≡ true → n < 16 → d < 16 → m < 16 → ty < 4 → k < 32
    → Reads (and_shifted (three (s ++ wide) (r d) (r n) (r m)) ty k) s (given d n m ty (number_read ty k))
three_reads s n d m ty k mnemonic hn hd hm ht hk =
    kept _ _ (λ v. given d n m v (number_read ty k)) ty k ht hk
    (three_shifted s wide _ _ _ _ _ _ _ _ _ _ ty k mnemonic suffix_wide (a_register d hd) (a_register n hn) (a_register m hm) ht hk)

two_reads : (s : List ℕ) (d m ty k : ℕ) → is_mnemonic s ≡ true → d < 16 → m < 16 → ty < 4 → k < 32
    → Reads (and_shifted (two (s ++ wide) (r d) (r m)) ty k) s (given d m ty (number_read ty k) 0)
two_reads s d m ty k mnemonic hd hm ht hk =
    kept _ _ (λ v. given d m v (number_read ty k) 0) ty k ht hk
    (two_shifted s wide _ _ _ _ _ _ _ ty k mnemonic suffix_wide (a_register d hd) (a_register m hm) ht hk)

-- NO FIRST REGISTER
unshifted : (ty k : ℕ) → is_unshifted ty k ≡ true → (ty ≡ 0) × (k ≡ 0)
unshifted ty k e = grind (arith, nat_tests)

single_reads : (name : DataName) (s n d m ty k : ℕ) → is_mnemonic (kind_mnemonic (single_kind name s ty k)) ≡ true → d < 16 → m < 16 → ty < 4 → k < 32
    → Reads (single_tokens name s d m ty k) (kind_mnemonic (single_kind name s ty k))
    (kind_operands (single_kind name s ty k) (letters name s n d false m ty k))
single_reads data_.Orr s n d m ty k mnemonic hd hm ht hk =
    elim (cases_Bool (is_by_carry ty k)) [
      | inl e ↦ rw e
          (bare _ _ _
          (reads_two (carry_mnemonic s) [] _ _ _ _ _ _ _ (rw e at mnemonic) no_suffix (a_register d hd) (a_register m hm)))
      | inr e ↦
          elim (cases_Bool (is_unshifted ty k)) [
            | inl f ↦
                let p = unshifted ty k f in
                rw (p.0, p.1)
                (reads_two (move_mnemonic data_.Orr s) wide _ _ _ _ _ _ _ (rw (e, f) at mnemonic) suffix_wide (a_register d hd) (a_register m hm))
            | inr f ↦ rw (e, f, e)
                (reads_two_constant (shift_mnemonic_with_flags ty s) wide _ _ _ _ _ _ _ _ (rw (e, f) at mnemonic) suffix_wide (a_register d hd)
                (a_register m hm) (number_small ty k hk))
          ]
    ]
single_reads name s n d m ty k mnemonic hd hm ht hk = two_reads (move_mnemonic name s) d m ty k mnemonic hd hm ht hk

-- ALL
abbrev pub ReadsAll : List Tok → Letters → Type 0
ReadsAll ts l = Reads ts (kind_mnemonic (kind_of l)) (kind_operands (kind_of l) l)

pub row_t2 : (i : T2) → ReadsAll (row_tokens (wide_row.T2 i)) (letters_t2 i)
row_t2 i =
    let is = said_t2 i in
    elim (cases_Bool (eqb i.d.value 15)) [
      | inl e ↦ rw e
          (two_reads (test_mnemonic i.name) i.n.value i.m.value i.ty.value _ (rw e at is.mnemonic) i.n.in_range i.m.in_range is.type is.amount)
      | inr e ↦
          elim (cases_Bool (eqb i.n.value 15)) [
            | inl f ↦ rw (e, f)
                (single_reads i.name i.s.value i.n.value i.d.value i.m.value i.ty.value _
                (rw (e, f) at is.mnemonic) i.d.in_range i.m.in_range is.type is.amount)
            | inr f ↦ rw (e, f)
                (three_reads (data_mnemonic i.name i.s.value) i.n.value i.d.value i.m.value i.ty.value _ (rw (e, f) at is.mnemonic) i.n.in_range i.d.in_range
                i.m.in_range is.type is.amount)
          ]
    ]

-- CONSTANTS
move_constant : (name : DataName) (s n d x : ℕ) → is_mnemonic (kind_mnemonic (single_kind name s 0 0)) ≡ true → d < 16
    → Reads (and_constant (one (move_mnemonic name s ++ wide) (r d)) (expanded x)) (kind_mnemonic (single_kind name s 0 0))
    (kind_operands (single_kind name s 0 0) (letters name s n d true (expanded x) 0 0))
move_constant data_.Orr s n d x mnemonic hd =
    reads_one_constant (move_mnemonic data_.Orr s) wide _ _ _ _ _ mnemonic suffix_wide (a_register d hd) (expanded_small x)
move_constant name s n d x mnemonic hd =
    reads_one_constant (move_mnemonic name s) wide _ _ _ _ _ mnemonic suffix_wide (a_register d hd) (expanded_small x)

pub row_t1 : (i : T1) → ReadsAll (row_tokens (wide_row.T1 i)) (letters_t1 i)
row_t1 i =
    let mnemonic = (said_t1 i).mnemonic in
    let small = expanded_small (imm12 i.i.value i.i3.value i.i8.value) in
    elim (cases_Bool (eqb i.d.value 15)) [
      | inl e ↦ rw e
          (reads_one_constant (test_mnemonic i.name) wide _ _ _ _ _ (rw e at mnemonic) suffix_wide (a_register i.n.value i.n.in_range) small)
      | inr e ↦
          elim (cases_Bool (eqb i.n.value 15)) [
            | inl f ↦ rw (e, f) (move_constant i.name i.s.value i.n.value i.d.value _ (rw (e, f) at mnemonic) i.d.in_range)
            | inr f ↦ rw (e, f)
                (reads_two_constant (data_mnemonic i.name i.s.value) wide _ _ _ _ _ _ _ _ (rw (e, f) at mnemonic) suffix_wide
                (a_register i.d.value i.d.in_range) (a_register i.n.value i.n.in_range) small)
          ]
    ]
