-- Every row's texts: what they give a reader is what is said of the row, and they are printed and read back.
use Rattle.std.proofs.Common.{◌≡◌, ◌⊎◌, ℕ, zero, suc, ◌+◌, ◌*◌, ◌^◌, ◌<◌, ◌≤◌, true, false, eqb, ltb, List, ◌++◌, Option, Some, inl, inr}
use Rattle.std.proofs.Common.{refl, ap, subst, ◌∙◌, append_assoc, arith}
use Rattle.std.specs.Prelude.{◌&&◌, ◌||◌, codes, nat_eq, nat_le, nat_lt, not}
use Rattle.std.proofs.lemmas.Bool.{and_parts, cases_Bool, eqb-true, ltb-true}
use Rattle.std.proofs.lemmas.Bool.Decides.{nat_tests}
use Rattle.hm_isa.specs.declared.Vector.{Vector}
use Rattle.hm_isa.specs.declared.Vector.TheVariants as vector
use Rattle.hm_isa.specs.declared.fields.Below.{Below}
use Rattle.hm_isa.specs.declared.vectors.BitwiseName.{BitwiseName}
use Rattle.hm_isa.specs.declared.vectors.BitwiseName.TheVariants as bitwise
use Rattle.hm_isa.specs.declared.vectors.ConstantShiftName.{ConstantShiftName}
use Rattle.hm_isa.specs.declared.vectors.ConstantShiftName.TheVariants as by_constant
use Rattle.hm_isa.specs.declared.vectors.Dot.{Dot}
use Rattle.hm_isa.specs.declared.vectors.Element.{Element}
use Rattle.hm_isa.specs.declared.vectors.V12.TheVariants as v12
use Rattle.hm_isa.specs.declared.vectors.V13.TheVariants as v13
use Rattle.hm_isa.specs.declared.vectors.V19.TheVariants as v19
use Rattle.hm_isa.specs.declared.vectors.V20.TheVariants as v20
use Rattle.hm_isa.specs.declared.vectors.V21.TheVariants as v21
use Rattle.hm_isa.specs.declared.vectors.V22.TheVariants as v22
use Rattle.hm_isa.specs.Code.{vector_code}
use Rattle.hm_isa.specs.Letters.{constant_shift_amount, constant_shift_size}
use Rattle.hm_isa.specs.MemoryRules.{is_interleaved}
use Rattle.hm_isa.specs.Words.{imm8}
use Rattle.hm_text_base.specs.Spans.{span}
use Rattle.hm_text_base.proofs.Steps.{some_is, test_some}
use Rattle.hm_tokens.specs.Tokens.{Tok, point}
use Rattle.hm_text_rows.specs.Mnemonics.{element_suffix}
use Rattle.hm_text_rows.specs.Shapes.{either, q, r, three, two}
use Rattle.hm_text_rows.proofs.Printed.{IsReadBack}
use Rattle.hm_text_rows.proofs.Words.{◌▹◌, below_holds, is_mnemonic}
use Rattle.hm_text_rows.specs.Operands.{first_word}
use Rattle.hm_textv_rows.specs.Mnemonics.{access_mnemonic, block_letters, block_mnemonic, block_word, compare_suffix, compare_word}
use Rattle.hm_textv_rows.specs.Mnemonics.{other_dot_mnemonic, size_number}
use Rattle.hm_textv_rows.specs.Rows.{HasTokens, compare_first_word, interleaved_tokens, long_part, other_bitwise, other_tokens}
use Rattle.hm_textv_codes.specs.declared.operands.Operands.{Operands}
use Rattle.hm_textv_codes.specs.Asked.{Asks, AsksOther, IsCodeIn, IsCodeOf, IsOtherCodeOf, interleaved_given, long_given, long_mnemonic}
use Rattle.hm_textv_codes.specs.Names.{interleaved_mnemonic}
use Rattle.hm_textv_codes.specs.Operands.{read_vector_operands}
use Rattle.hm_textv_codes.proofs.Addresses.{reads_at_offsets, reads_indexed, reads_pair, reads_quad}
use Rattle.hm_textv_codes.proofs.Constants.{constant_reads}
use Rattle.hm_textv_codes.proofs.Endings.{Suffix, no_suffix, signed_access, suffix_access, suffix_by_sign, suffix_compare, suffix_complex_sum}
use Rattle.hm_textv_codes.proofs.Endings.{suffix_element, suffix_integer, suffix_narrowing, suffix_one, suffix_scalar, suffix_shift, suffix_signed}
use Rattle.hm_textv_codes.proofs.Endings.{suffix_unsigned, suffix_widening}
use Rattle.hm_textv_codes.proofs.Forms.{Reads, RowLaw, a_condition, a_register, a_vector, bare, even, low, odd, read_text, reads_four, reads_none}
use Rattle.hm_textv_codes.proofs.Forms.{reads_one, reads_three, reads_three_constant, reads_two, reads_two_constant, register_or_zero}
use Rattle.hm_textv_codes.proofs.Told.{access_at, interleaved_at}

-- MNEMONICS
named_by : (bit : ℕ) (s t : List ℕ) → is_mnemonic s ≡ true → is_mnemonic t ≡ true → is_mnemonic (either bit s t) ≡ true
named_by bit s t first second = elim (cases_Bool (nat_eq bit 0)) [ inl e ↦ rw e first | inr e ↦ rw e second ]

mnemonic_compare : (k : ℕ) → k < 16 → is_mnemonic (block_mnemonic compare_word k) ≡ true
mnemonic_compare k lt = below_holds (λ j. is_mnemonic (block_mnemonic compare_word j)) 16 k refl lt

mnemonic_block : (k : ℕ) → k < 16 → is_mnemonic (block_mnemonic block_word k) ≡ true
mnemonic_block k lt = below_holds (λ j. is_mnemonic (block_mnemonic block_word j)) 16 k refl lt

mnemonic_access : (l y : ℕ) → l < 2 → y < 3 → is_mnemonic (access_mnemonic l y) ≡ true
mnemonic_access l y hl hy = access_at (λ k j. is_mnemonic (access_mnemonic k j) ≡ true) l y hl hy (refl ▹ refl ▹ refl ▹ tt) (refl ▹ refl ▹ refl ▹ tt)

-- NUMBERS are few digits
size_small : (x : ℕ) → x < 64 → constant_shift_size x < 3
size_small x lt = ltb-true _ _ (below_holds (λ k. ltb (constant_shift_size k) 3) 64 x refl lt)

shift_small : (name : ConstantShiftName) (x : ℕ) → x < 64 → constant_shift_amount name x < 1000
shift_small by_constant.Shr x lt = ltb-true _ _ (below_holds (λ k. ltb (constant_shift_amount by_constant.Shr k) 1000) 64 x refl lt)
shift_small name x lt = ltb-true _ _ (below_holds (λ k. ltb (constant_shift_amount name k) 1000) 64 x refl lt)

power_small : (k : ℕ) → k < 4 → 2 ^ k < 9
power_small k lt = ltb-true _ _ (below_holds (λ j. ltb (2 ^ j) 9) 4 k refl lt)

full_small : (z : ℕ) → z < 2 → 8 * 2 ^ z < 1000
full_small z lt = let p = power_small z (omega arith) in omega (arith, p)

offset_small : (i y : ℕ) → i < 128 → y < 3 → i * 2 ^ y < 1000
offset_small i (suc (suc (suc y))) hi hy = absurd (omega arith)
offset_small i y hi hy = omega arith

size_below : (size : Element) → size_number size < 3
size_below size = grind arith

no_more : (m n : ℕ) → nat_le m n ≡ true → m ≤ n
no_more m n e = grind (arith, nat_tests)

-- PARTS OF ROWS
-- V12
long_reads : (t : ℕ) (f : List ℕ) (u z k : ℕ) (d m : Below 8) → t < 2 → Suffix f false u z → k < 1000
    → Reads (long_part t f d.value m.value k) (long_mnemonic t k) (long_given u z d.value m.value k)
long_reads t f u z k d m ht g small =
    elim (cases_Bool (eqb k 0)) [
      | inl e ↦ rw (eqb-true k 0 e) (reads_two (named_by t _ _ refl refl) g (a_vector d) (a_vector m))
      | inr e ↦ rw e (reads_two_constant (named_by t _ _ refl refl) g (a_vector d) (a_vector m) small)
    ]

-- V20: the first word is its mnemonic and what stands behind the point
compared : (k c z : ℕ) {x y w : Tok} {s : List ℕ} {o : Operands} → Reads (three (block_mnemonic compare_word k ++ compare_suffix c z) x y w) s o
    → Reads (three (compare_first_word k c z) x y w) s o
compared k c z {x = x} {y = y} {w = w} {s = s} {o = o} reads =
    subst (λ (name : List ℕ). Reads (three name x y w) s o) (append_assoc (compare_word k) (block_letters k) (compare_suffix c z)) reads

-- V28
interleaved_reads : (f l p z d w : ℕ) (n : Below 16) → f < 2 → z < 3 → w < 2 → is_interleaved n.value d p f ≡ true
    → is_mnemonic (interleaved_mnemonic f l p) ≡ true
    → Reads (interleaved_tokens (interleaved_mnemonic f l p ++ element_suffix z) f d (r n.value) w) (interleaved_mnemonic f l p)
    (interleaved_given f z w d n.value)
interleaved_reads zero l p z d w n hf hz hw e mnemonic =
    let parts = and_parts (not (nat_eq n.value 15)) (nat_lt p 2 && nat_le d 6) e in
    let last = no_more _ _ (and_parts (nat_lt p 2) (nat_le d 6) parts.1).1 in
    reads_pair w mnemonic (suffix_element (omega arith)) (omega (arith, last)) (a_register n) hw
interleaved_reads (suc zero) l p z d w n hf hz hw e mnemonic =
    let last = no_more _ _ (and_parts (not (nat_eq n.value 15)) (nat_le d 4) e).1 in
    reads_quad w mnemonic (suffix_element (omega arith)) (omega (arith, last)) (a_register n) hw
interleaved_reads (suc (suc f)) l p z d w n hf hz hw e mnemonic = absurd (omega arith)

-- ROWS AS THEY ARE PRINTED
pub row_law : (v : Vector) → RowLaw v
row_law (vector.V1 i) = reads_three (grind arith) (suffix_integer i.z.in_range) (a_vector i.d) (a_vector i.n) (a_vector i.m)
row_law (vector.V2 i) = bare (reads_three (grind arith) no_suffix (a_vector i.d) (a_vector i.n) (a_vector i.m))
row_law (vector.V3 i) = reads_three (grind arith) (suffix_by_sign i.u.in_range i.z.in_range) (a_vector i.d) (a_vector i.n) (a_vector i.m)
row_law (vector.V4 i) = reads_three (grind arith) (suffix_by_sign i.u.in_range i.z.in_range) (a_vector i.d) (a_vector i.m) (a_vector i.n)
row_law (vector.V5 i) = reads_three (grind arith) (suffix_signed i.z.in_range) (a_vector i.d) (a_vector i.n) (a_vector i.m)
row_law (vector.V6 i) =
    reads_three (named_by i.t.value _ _ refl refl) (suffix_by_sign i.u.in_range i.z.in_range) (a_vector i.d) (a_vector i.n) (a_vector i.m)
row_law (vector.V7 i) = reads_three (grind arith) (suffix_by_sign i.u.in_range i.z.in_range) (a_vector i.d) (a_vector i.n) (a_vector i.m)
row_law (vector.V8 i) = reads_three (grind arith) (suffix_integer (omega arith)) (a_vector i.d) (a_vector i.n) (a_vector i.m)
row_law (vector.V9 i) =
    reads_three_constant (grind arith) (suffix_complex_sum i.name i.z.in_range) (a_vector i.d) (a_vector i.n) (a_vector i.m)
    (grind arith)
row_law (vector.V10 i) =
    reads_three (grind arith) (suffix_scalar i.name i.u.in_range i.z.in_range i.signs) (a_vector i.d) (a_vector i.n) (a_register i.m)
row_law (vector.V11 i) =
    let lt = i.x.in_range in
    reads_two_constant (grind arith) (suffix_shift i.name i.u.in_range (size_small i.x.value lt) i.signs) (a_vector i.d) (a_vector i.m)
    (shift_small i.name i.x.value lt)
row_law (vector.V12 (v12.Bytes i)) =
    long_reads i.t.value _ _ _ i.k.value i.d i.m i.t.in_range (suffix_by_sign i.u.in_range (omega arith)) (let lt = i.k.in_range in omega arith)
row_law (vector.V12 (v12.Halves i)) =
    long_reads i.t.value _ _ _ i.k.value i.d i.m i.t.in_range (suffix_by_sign i.u.in_range (omega arith)) (let lt = i.k.in_range in omega arith)
row_law (vector.V12 (v12.Full i)) =
    reads_two_constant (named_by i.t.value _ _ refl refl) (suffix_by_sign i.u.in_range (let lt = i.z.in_range in omega arith)) (a_vector i.d)
    (a_vector i.m) (full_small i.z.value i.z.in_range)
row_law (vector.V13 (v13.Elements i)) = reads_two (grind arith) (suffix_one i.name i.z.in_range) (a_vector i.d) (a_vector i.m)
row_law (vector.V13 (v13.Not i)) = reads_two {s = codes "vmvn"} refl no_suffix (a_vector i.d) (a_vector i.m)
row_law (vector.V14 i) = reads_two (grind arith) (suffix_element (let lt = i.z.in_range in omega arith)) (a_vector i.d) (a_vector i.m)
row_law (vector.V15 i) =
    let small : imm8 i.i.value i.i3.value i.i4.value < 1000 = omega (arith, i.i.in_range, i.i3.in_range, i.i4.in_range) in
    constant_reads i.op.value i.cm.value (imm8 i.i.value i.i3.value i.i4.value) i.d i.op.in_range i.cm.in_range small
row_law (vector.V16 i) = reads_two (grind arith) (suffix_narrowing i.name i.z.in_range) (a_vector i.d) (a_vector i.m)
row_law (vector.V17 i) =
    reads_two_constant {s = codes "vshlc"} refl no_suffix (a_vector i.d) (a_register i.m) (grind (arith, i.k.in_range))
row_law (vector.V18 i) =
    reads_two {s = codes "vdup"} refl (suffix_element (let lt = size_below i.size in omega arith)) (a_vector i.d) (a_register i.t)
row_law (vector.V19 (v19.Free i)) =
    let step = power_small i.k.value i.k.in_range in
    reads_two_constant (grind arith) (suffix_unsigned i.z.in_range) (a_vector i.d) (even i.n) (omega arith)
row_law (vector.V19 (v19.Wrapped i)) =
    let step = power_small i.k.value i.k.in_range in
    reads_three_constant (grind arith) (suffix_unsigned i.z.in_range) (a_vector i.d) (even i.n) (odd i.r) (omega arith)
row_law (vector.V20 (v20.Vectors i)) =
    compared i.k.value i.c.value i.z.value
    (reads_three (mnemonic_compare i.k.value i.k.in_range) (suffix_compare i.c.in_range i.z.in_range) (a_condition i.c) (a_vector i.n) (a_vector i.m))
row_law (vector.V20 (v20.Scalar i)) =
    compared i.k.value i.c.value i.z.value
    (reads_three (mnemonic_compare i.k.value i.k.in_range) (suffix_compare i.c.in_range i.z.in_range) (a_condition i.c) (a_vector i.n) (register_or_zero i.m))
row_law (vector.V21 (v21.Block i)) = bare (reads_none (mnemonic_block i.k.value i.k.in_range) no_suffix)
row_law (vector.V21 (v21.Select i)) = reads_three {s = codes "vpsel"} refl no_suffix (a_vector i.d) (a_vector i.n) (a_vector i.m)
row_law (vector.V21 (v21.Tail i)) = reads_one {s = codes "vctp"} refl (suffix_element i.z.in_range) (a_register i.n)
row_law (vector.V22 (v22.Sum i)) =
    reads_two (named_by i.a.value _ _ refl refl) (suffix_by_sign i.u.in_range i.z.in_range) (even i.l) (a_vector i.m)
row_law (vector.V22 (v22.Dot i)) =
    reads_three (named_by i.a.value _ _ refl refl) (suffix_by_sign i.u.in_range (size_below i.size)) (even i.l) (a_vector i.n) (a_vector i.m)
row_law (vector.V22 (v22.LongSum i)) =
    reads_three (named_by i.a.value _ _ refl refl) (suffix_by_sign i.u.in_range (omega arith)) (even i.l) (odd i.h) (a_vector i.m)
row_law (vector.V22 (v22.LongDot i)) =
    reads_four (named_by i.a.value _ _ refl refl) (suffix_by_sign i.u.in_range (let lt = i.s.in_range in omega arith)) (even i.l) (odd i.h)
    (a_vector i.n) (a_vector i.m)
row_law (vector.V23 i) = reads_two (grind arith) (suffix_by_sign i.u.in_range i.z.in_range) (a_register i.t) (a_vector i.m)
row_law (vector.V24 i) =
    let used = and_parts (nat_lt 0 (i.p.value + i.w.value)) (not (nat_eq i.n.value 15)) i.rule in
    reads_indexed i.p.value i.a.value i.w.value (mnemonic_access i.l.value i.z.value i.l.in_range i.z.in_range)
    (suffix_access i.l.in_range (omega arith) i.z.in_range) (a_vector i.d) (a_register i.n) (offset_small i.i.value i.z.value i.i.in_range i.z.in_range)
    i.p.in_range i.a.in_range i.w.in_range (ltb-true _ _ used.0)
row_law (vector.V25 i) =
    let parts = and_parts (nat_lt 0 (i.p.value + i.w.value) && nat_lt i.h.value i.z.value) (nat_eq i.l.value 1 || nat_eq i.u.value 0) i.rule in
    let used = and_parts (nat_lt 0 (i.p.value + i.w.value)) (nat_lt i.h.value i.z.value) parts.0 in
    let small : i.h.value < 3 = let h = i.h.in_range in omega arith in
    reads_indexed i.p.value i.a.value i.w.value (mnemonic_access i.l.value i.h.value i.l.in_range small)
    (suffix_widening i.l.in_range i.u.in_range i.z.in_range parts.1) (a_vector i.d) (low i.n) (offset_small i.i.value i.h.value i.i.in_range small)
    i.p.in_range i.a.in_range i.w.in_range (ltb-true _ _ used.0)
row_law (vector.V26 i) =
    reads_at_offsets i.o.value (mnemonic_access i.l.value i.y.value i.l.in_range i.y.in_range)
    (suffix_widening i.l.in_range i.u.in_range i.z.in_range (signed_access i.u.value i.l.value i.d.value i.z.value i.y.value i.m.value i.access))
    (a_vector i.d) (a_register i.n) (a_vector i.m) i.o.in_range (let h = i.y.in_range in omega arith)
row_law (vector.V27 i) =
    reads_indexed 1 i.a.value i.w.value (mnemonic_access i.l.value 2 i.l.in_range (omega arith)) (suffix_access i.l.in_range (omega arith) (omega arith))
    (a_vector i.d) (a_vector i.m) (let h = i.i.in_range in omega arith) (omega arith) i.a.in_range i.w.in_range (omega arith)
row_law (vector.V28 i) =
    interleaved_reads i.f.value i.l.value i.p.value i.z.value i.d.value i.w.value i.n i.f.in_range i.z.in_range i.w.in_range i.rule
    (interleaved_at (λ f l p. is_mnemonic (interleaved_mnemonic f l p) ≡ true) i
    (refl ▹ refl ▹ tt, refl ▹ refl ▹ tt, refl ▹ refl ▹ refl ▹ refl ▹ tt, refl ▹ refl ▹ refl ▹ refl ▹ tt))

-- ALL TEXTS
-- the mnemonic and the operands of a text are those of a row that has it, and it is printed and read back
pub record Text (v : Vector) (ts : List Tok) : Type 0 where
  pub asks : Asks v (read_text ts).0 (read_text ts).1 ⊎ AsksOther v (read_text ts).0 (read_text ts).1
  pub prints : IsReadBack ts

told : {ts : List Tok} {s : List ℕ} {o : Operands} → Reads ts s o → ((read_text ts).0 ≡ s) × ((read_text ts).1 ≡ o)
told reads = (ap (λ (x : List ℕ × Operands). x.0) reads.gives, ap (λ (x : List ℕ × Operands). x.1) reads.gives)

moved : (name : BitwiseName) (n d m : ℕ) (ts : List Tok) → other_bitwise name (nat_eq n m) d m ≡ Some ts
    → (name ≡ bitwise.Orr) × (n ≡ m) × (two (codes "vmov") (q d) (q m) ≡ ts)
moved bitwise.Orr n d m ts e =
    let a = test_some (nat_eq n m) (Some (two (codes "vmov") (q d) (q m))) ts e in
    (refl, eqb-true n m a.0, some_is (two (codes "vmov") (q d) (q m)) ts a.1)
moved name n d m ts e = absurd cc

other_law : (v : Vector) (ts : List Tok) → other_tokens v ≡ Some ts → Text v ts
other_law (vector.V2 i) ts e =
    let a = moved i.name i.n.value i.d.value i.m.value ts e in
    let reads = reads_two {s = codes "vmov"} refl no_suffix (a_vector i.d) (a_vector i.m) in
    subst (λ (x : List Tok). Text (vector.V2 i) x) a.2 (record { asks = inr (a.0, a.1, (told reads).0, (told reads).1); prints = reads.prints })
other_law (vector.V22 (v22.Dot i)) ts e =
    let reads =
    reads_three {s = other_dot_mnemonic i.a.value} (named_by i.a.value _ _ refl refl) (suffix_by_sign i.u.in_range (size_below i.size)) (even i.l)
    (a_vector i.n) (a_vector i.m) in
    subst (λ (x : List Tok). Text (vector.V22 (v22.Dot i)) x) (some_is _ ts e) (record { asks = inr (told reads); prints = reads.prints })
other_law v ts e = absurd cc

pub text_law : (v : Vector) (ts : List Tok) → HasTokens v ts → Text v ts
text_law v ts (inl e) = subst (λ (x : List Tok). Text v x) e (record { asks = inl (told (row_law v)); prints = (row_law v).prints })
text_law v ts (inr e) = other_law v ts e

-- and the code of a mnemonic and operands is that of tokens that give these
other_code : (v : Vector) (s : List ℕ) (o : Operands) (code : Option ℕ) → IsOtherCodeOf vector.V2 s o code
    → IsOtherCodeOf (λ (i : Dot). vector.V22 (v22.Dot i)) s o code → AsksOther v s o → code ≡ Some (vector_code v)
other_code (vector.V2 i) s o code moves products asks = moves i asks
other_code (vector.V22 (v22.Dot i)) s o code moves products asks = products i asks
other_code v s o code moves products asks = absurd asks

pub is_code_in : (ts : List Tok) (w s suffix : List ℕ) (o : Operands) (code : Option ℕ) → w ≡ first_word ts → (s, suffix) ≡ span point w
    → o ≡ read_vector_operands suffix ts → IsCodeOf (λ (v : Vector). v) s o code → IsOtherCodeOf vector.V2 s o code
    → IsOtherCodeOf (λ (i : Dot). vector.V22 (v22.Dot i)) s o code → IsCodeIn ts code
is_code_in ts w s suffix o code first cut read rows moves products v has =
    let parts : (s, suffix) ≡ span point (first_word ts) = cut ∙ ap (λ (x : List ℕ). span point x) first in
    let mnemonic : s ≡ (read_text ts).0 = ap (λ (x : List ℕ × List ℕ). x.0) parts in
    let operands : o ≡ (read_text ts).1 = read ∙ ap (λ (x : List ℕ × List ℕ). read_vector_operands x.1 ts) parts in
    elim (text_law v ts has).asks [
      | inl a ↦ rows v (mnemonic ∙ a.0, operands ∙ a.1)
      | inr a ↦ other_code v s o code moves products (rw (← mnemonic, ← operands) at a)
    ]
