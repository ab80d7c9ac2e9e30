-- Rows that load and store one register or two, T12 and T13: their texts give their mnemonics and their operands.
use Rattle.std.proofs.Common.{◌≡◌, ℕ, zero, suc, ◌+◌, ◌*◌, ◌<◌, ◌^◌, true, false, List, [], ◌∷◌, ◌++◌, refl, arith}
use Rattle.std.specs.Prelude.{codes}
use Rattle.hm_isa.specs.declared.narrow.AccessName.{AccessName}
use Rattle.hm_isa.specs.declared.wide.Indexed.{Indexed}
use Rattle.hm_isa.specs.declared.wide.Literal.{Literal}
use Rattle.hm_isa.specs.declared.wide.Offset.{Offset}
use Rattle.hm_isa.specs.declared.wide.Shifted.{Shifted}
use Rattle.hm_isa.specs.declared.wide.T12.TheVariants as t12
use Rattle.hm_isa.specs.declared.wide.T13.{T13}
use Rattle.hm_isa.specs.declared.widths.WideRow.TheVariants as rows
use Rattle.hm_tokens.specs.Names.{register_name}
use Rattle.hm_tokens.specs.Ranges.{singles}
use Rattle.hm_tokens.specs.Tokens.{word, comma}
use Rattle.hm_text_rows.specs.Mnemonics.{access_mnemonic}
use Rattle.hm_text_rows.specs.Operands.{bits_of, braced}
use Rattle.hm_text_rows.specs.Shapes.{indexed, r, scaled}
use Rattle.hm_text_rows.proofs.Words.{◌▹◌, is_mnemonic}
use Rattle.hm_text_rows.proofs.Printed.{short_bang, short_close, short_comma, short_hash, short_minus, short_number, short_open}
use Rattle.hm_text_rows.proofs.Printed.{short_word}
use Rattle.hm_text32_rows.specs.Mnemonics.{wide}
use Rattle.hm_text32_codes.specs.Asked.{placed}
use Rattle.hm_text32_codes.specs.Operands.{wide_word_value}
use Rattle.hm_text32_codes.proofs.Asked.{RowReads}
use Rattle.hm_text32_codes.proofs.Inverses.{indexed_some, pair_some}
use Rattle.hm_text32_codes.proofs.Forms.{Operand, Reads, Suffix, a_register, bare, min_small, no_suffix, reads_as, short, suffix_wide}

-- T12
mnemonic_access : (name : AccessName) → is_mnemonic (access_mnemonic name) ≡ true
mnemonic_access name = grind arith

-- a register
abbrev Register : ℕ → Type 0
Register n = Operand (register_name n) n false

reads_indexed : (s f : List ℕ) (t n p u w k : ℕ) → is_mnemonic s ≡ true → Suffix f 0 → Register t → Register n → p < 2 → u < 2 → w < 2 → 0 < p + w → k < 2 ^ 32
    → Reads (word (s ++ f) ∷ r t ∷ comma ∷ indexed p u w (r n) k) s (placed true p u w t n k 0 0)
unfolding singles bits_of braced
reads_indexed s f t n zero u zero k mnemonic g x y hp hu hw some hk = absurd (omega arith)
reads_indexed s f t n zero zero (suc zero) k mnemonic g x y hp hu hw some hk =
    reads_as s f _ _ mnemonic g.is
    (short x ▹ short_comma ▹ short_open ▹ short y ▹ short_close ▹ short_comma ▹ short_hash ▹ short_minus ▹ short_number k hk ▹ tt) refl (omega arith) refl
    (rw (g.size, x.vector, x.value, y.value, min_small k hk) refl)
reads_indexed s f t n zero (suc zero) (suc zero) k mnemonic g x y hp hu hw some hk =
    reads_as s f _ _ mnemonic g.is (short x ▹ short_comma ▹ short_open ▹ short y ▹ short_close ▹ short_comma ▹ short_hash ▹ short_number k hk ▹ tt) refl
    (omega arith) refl (rw (g.size, x.vector, x.value, y.value, min_small k hk) refl)
reads_indexed s f t n (suc zero) zero zero k mnemonic g x y hp hu hw some hk =
    reads_as s f _ _ mnemonic g.is
    (short x ▹ short_comma ▹ short_open ▹ short y ▹ short_comma ▹ short_hash ▹ short_minus ▹ short_number k hk ▹ short_close ▹ tt) refl (omega arith) refl
    (rw (g.size, x.vector, x.value, y.value, min_small k hk) refl)
reads_indexed s f t n (suc zero) (suc zero) zero k mnemonic g x y hp hu hw some hk =
    reads_as s f _ _ mnemonic g.is (short x ▹ short_comma ▹ short_open ▹ short y ▹ short_comma ▹ short_hash ▹ short_number k hk ▹ short_close ▹ tt) refl
    (omega arith) refl (rw (g.size, x.vector, x.value, y.value, min_small k hk) refl)
reads_indexed s f t n (suc zero) zero (suc zero) k mnemonic g x y hp hu hw some hk =
    reads_as s f _ _ mnemonic g.is
    (short x ▹ short_comma ▹ short_open ▹ short y ▹ short_comma ▹ short_hash ▹ short_minus ▹ short_number k hk ▹ short_close ▹ short_bang ▹ tt) refl
    (omega arith) refl (rw (g.size, x.vector, x.value, y.value, min_small k hk) refl)
reads_indexed s f t n (suc zero) (suc zero) (suc zero) k mnemonic g x y hp hu hw some hk =
    reads_as s f _ _ mnemonic g.is
    (short x ▹ short_comma ▹ short_open ▹ short y ▹ short_comma ▹ short_hash ▹ short_number k hk ▹ short_close ▹ short_bang ▹ tt) refl (omega arith) refl
    (rw (g.size, x.vector, x.value, y.value, min_small k hk) refl)
reads_indexed s f t n (suc (suc p)) u w k mnemonic g x y hp hu hw some hk = absurd (omega arith)
reads_indexed s f t n p (suc (suc u)) w k mnemonic g x y hp hu hw some hk = absurd (omega arith)
reads_indexed s f t n p u (suc (suc w)) k mnemonic g x y hp hu hw some hk = absurd (omega arith)

reads_scaled : (s f : List ℕ) (t n m k : ℕ) → is_mnemonic s ≡ true → Suffix f 0 → Register t → Register n → Register m → k < 2 ^ 32
    → Reads (word (s ++ f) ∷ r t ∷ comma ∷ scaled n m k) s (placed false 1 1 0 t n m 0 k)
unfolding singles wide_word_value bits_of braced
reads_scaled s f t n m k mnemonic g x y z hk =
    reads_as s f _ _ mnemonic g.is
    (short x ▹ short_comma ▹ short_open ▹ short y ▹ short_comma ▹ short z ▹ short_comma ▹ short_word (codes "lsl") refl ▹ short_hash ▹ short_number k hk
    ▹ short_close ▹ tt) refl (omega arith) refl (rw (g.size, x.vector, x.value, y.value, z.value, min_small k hk) refl)

pub row_offset : (i : Offset) → RowReads (rows.T12 (t12.Offset i))
row_offset i =
    reads_indexed _ wide i.t.value i.n.value 1 1 0 i.i.value (mnemonic_access i.name) suffix_wide (a_register i.t.value i.t.in_range)
    (a_register i.n.value i.n.in_range) (omega arith) (omega arith) (omega arith) (omega arith) (let lt = i.i.in_range in omega (arith, lt))

pub row_indexed : (i : Indexed) → RowReads (rows.T12 (t12.Indexed i))
row_indexed i =
    reads_indexed _ wide i.t.value i.n.value i.p.value i.u.value i.w.value i.i.value (mnemonic_access i.name) suffix_wide
    (a_register i.t.value i.t.in_range) (a_register i.n.value i.n.in_range) i.p.in_range i.u.in_range i.w.in_range (indexed_some i)
    (let lt = i.i.in_range in omega (arith, lt))

pub row_scaled : (i : Shifted) → RowReads (rows.T12 (t12.Shifted i))
row_scaled i =
    reads_scaled _ wide i.t.value i.n.value i.m.value i.i.value (mnemonic_access i.name) suffix_wide (a_register i.t.value i.t.in_range)
    (a_register i.n.value i.n.in_range) (a_register i.m.value i.m.in_range) (let lt = i.i.in_range in omega (arith, lt))

pub row_literal : (i : Literal) → RowReads (rows.T12 (t12.Literal i))
row_literal i =
    reads_indexed _ wide i.t.value 15 1 i.u.value 0 i.i.value (mnemonic_access i.name) suffix_wide (a_register i.t.value i.t.in_range)
    (a_register 15 (omega arith)) (omega arith) i.u.in_range (omega arith) (omega arith) (let lt = i.i.in_range in omega (arith, lt))

-- T13
reads_pair : (s f : List ℕ) (t v n p u w k : ℕ) → is_mnemonic s ≡ true → Suffix f 0 → Register t → Register v → Register n → p < 2 → u < 2 → w < 2 → 0 < p + w
    → k < 2 ^ 32
    → Reads (word (s ++ f) ∷ r t ∷ comma ∷ r v ∷ comma ∷ indexed p u w (r n) k) s (placed false p u w t v n k 0)
unfolding singles bits_of braced
reads_pair s f t v n zero u zero k mnemonic g x z y hp hu hw some hk = absurd (omega arith)
reads_pair s f t v n zero zero (suc zero) k mnemonic g x z y hp hu hw some hk =
    reads_as s f _ _ mnemonic g.is
    (short x ▹ short_comma ▹ short z ▹ short_comma ▹ short_open ▹ short y ▹ short_close ▹ short_comma ▹ short_hash ▹ short_minus ▹ short_number k hk ▹ tt)
    refl (omega arith) refl (rw (g.size, x.vector, x.value, z.value, y.value, min_small k hk) refl)
reads_pair s f t v n zero (suc zero) (suc zero) k mnemonic g x z y hp hu hw some hk =
    reads_as s f _ _ mnemonic g.is
    (short x ▹ short_comma ▹ short z ▹ short_comma ▹ short_open ▹ short y ▹ short_close ▹ short_comma ▹ short_hash ▹ short_number k hk ▹ tt) refl
    (omega arith) refl (rw (g.size, x.vector, x.value, z.value, y.value, min_small k hk) refl)
reads_pair s f t v n (suc zero) zero zero k mnemonic g x z y hp hu hw some hk =
    reads_as s f _ _ mnemonic g.is
    (short x ▹ short_comma ▹ short z ▹ short_comma ▹ short_open ▹ short y ▹ short_comma ▹ short_hash ▹ short_minus ▹ short_number k hk ▹ short_close ▹ tt)
    refl (omega arith) refl (rw (g.size, x.vector, x.value, z.value, y.value, min_small k hk) refl)
reads_pair s f t v n (suc zero) (suc zero) zero k mnemonic g x z y hp hu hw some hk =
    reads_as s f _ _ mnemonic g.is
    (short x ▹ short_comma ▹ short z ▹ short_comma ▹ short_open ▹ short y ▹ short_comma ▹ short_hash ▹ short_number k hk ▹ short_close ▹ tt) refl
    (omega arith) refl (rw (g.size, x.vector, x.value, z.value, y.value, min_small k hk) refl)
reads_pair s f t v n (suc zero) zero (suc zero) k mnemonic g x z y hp hu hw some hk =
    reads_as s f _ _ mnemonic g.is
    (short x ▹ short_comma ▹ short z ▹ short_comma ▹ short_open ▹ short y ▹ short_comma ▹ short_hash ▹ short_minus ▹ short_number k hk ▹ short_close
    ▹ short_bang ▹ tt) refl (omega arith) refl (rw (g.size, x.vector, x.value, z.value, y.value, min_small k hk) refl)
reads_pair s f t v n (suc zero) (suc zero) (suc zero) k mnemonic g x z y hp hu hw some hk =
    reads_as s f _ _ mnemonic g.is
    (short x ▹ short_comma ▹ short z ▹ short_comma ▹ short_open ▹ short y ▹ short_comma ▹ short_hash ▹ short_number k hk ▹ short_close ▹ short_bang ▹ tt) refl
    (omega arith) refl (rw (g.size, x.vector, x.value, z.value, y.value, min_small k hk) refl)
reads_pair s f t v n (suc (suc p)) u w k mnemonic g x z y hp hu hw some hk = absurd (omega arith)
reads_pair s f t v n p (suc (suc u)) w k mnemonic g x z y hp hu hw some hk = absurd (omega arith)
reads_pair s f t v n p u (suc (suc w)) k mnemonic g x z y hp hu hw some hk = absurd (omega arith)

pub row_t13 : (i : T13) → RowReads (rows.T13 i)
row_t13 i =
    bare _ _ _
    (reads_pair _ [] i.t.value i.u.value i.n.value i.p.value i.add.value i.w.value (4 * i.i.value) (grind arith) no_suffix
    (a_register i.t.value i.t.in_range) (a_register i.u.value i.u.in_range) (a_register i.n.value i.n.in_range) i.p.in_range i.add.in_range i.w.in_range
    (pair_some i) (let lt = i.i.in_range in omega (arith, lt)))
