-- What the text of each row gives a reader, its mnemonic and its operands as numbers, and what a reader owes for it.
use Rattle.std.specs.Prelude.{◌≡◌, ℕ, ◌+◌, ◌*◌, ◌/◌, ◌%◌, ◌^◌, Bool, true, false, cond, List, [], ◌∷◌, get_or, Option, Some, codes, nat_eq}
use Rattle.std.specs.Prelude.{if◌then◌else◌, nat_lt}
use Rattle.hm_isa.specs.declared.Vector.{Vector}
use Rattle.hm_isa.specs.declared.Vector.TheVariants as vector
use Rattle.hm_isa.specs.declared.vectors.BitwiseName.TheVariants as bitwise
use Rattle.hm_isa.specs.declared.vectors.NarrowingName.{NarrowingName}
use Rattle.hm_isa.specs.declared.vectors.NarrowingName.TheVariants as narrowing
use Rattle.hm_isa.specs.declared.vectors.V12.TheVariants as v12
use Rattle.hm_isa.specs.declared.vectors.V13.TheVariants as v13
use Rattle.hm_isa.specs.declared.vectors.V15.{V15}
use Rattle.hm_isa.specs.declared.vectors.V19.TheVariants as v19
use Rattle.hm_isa.specs.declared.vectors.V20.TheVariants as v20
use Rattle.hm_isa.specs.declared.vectors.V21.TheVariants as v21
use Rattle.hm_isa.specs.declared.vectors.V22.TheVariants as v22
use Rattle.hm_isa.specs.Code.{vector_code}
use Rattle.hm_isa.specs.Letters.{constant_shift_amount, constant_shift_size}
use Rattle.hm_isa.specs.Words.{imm8, zero_as_32}
use Rattle.hm_tokens.specs.Tokens.{Tok}
use Rattle.hm_textv_rows.specs.Mnemonics.{access_mnemonic, add_mnemonic, bitwise_mnemonic, block_mnemonic, block_word, carry_mnemonic, compare_word}
use Rattle.hm_textv_rows.specs.Mnemonics.{complex_sum_mnemonic, constant_shift_mnemonic, dot_mnemonic, doubling_mnemonic, extreme_mnemonic, high_mnemonic}
use Rattle.hm_textv_rows.specs.Mnemonics.{long_dot_mnemonic, long_move_mnemonic, long_product_mnemonic, long_shift_mnemonic, long_sum_mnemonic}
use Rattle.hm_textv_rows.specs.Mnemonics.{narrowing_mnemonic, offsets_mnemonic, one_mnemonic, other_dot_mnemonic}
use Rattle.hm_textv_rows.specs.Mnemonics.{reverse_mnemonic, scalar_mnemonic, signed_mnemonic, size_number, sum_mnemonic, vector_shift_mnemonic}
use Rattle.hm_textv_rows.specs.Mnemonics.{wrapped_mnemonic}
use Rattle.hm_textv_rows.specs.Rows.{HasTokens}
use Rattle.hm_textv_codes.specs.declared.operands.Kind.{Kind}
use Rattle.hm_textv_codes.specs.declared.operands.Kind.TheVariants as kinds
use Rattle.hm_textv_codes.specs.declared.operands.Operands.{Operands}
use Rattle.hm_textv_codes.specs.Names.{constant_mnemonic, interleaved_mnemonic}

-- MNEMONICS
-- V12: VSHLLB and VSHLLT by k; a shift by 0 is written as a move, VMOVLB or VMOVLT (DDI0553, "VSHLL" and "VMOVL")
abbrev pub long_mnemonic : ℕ → ℕ → List ℕ
long_mnemonic t k = cond (nat_eq k 0) (long_move_mnemonic t) (long_shift_mnemonic t)

-- V15: VMOV, VMVN, VORR and VBIC as 0 to 3, by op and cm: an odd cm below 12 is of those that merge, and 14 is of VMOV alone
-- (DDI0553, "VMOV (immediate) (vector)", "VMVN (immediate)", "VORR (immediate)" and "VBIC (immediate)")
abbrev pub constant_number : ℕ → ℕ → ℕ
constant_number op cm = if nat_lt cm 12 then cm % 2 * 2 + op else (if nat_lt cm 14 then op else 0)

-- the mnemonic of each row, which is its first word up to the point; V13: VMVN; V17: VSHLC; V18: VDUP; V21: VPSEL and VCTP
-- (DDI0553, "VMVN (register)", "VSHLC", "VDUP", "VPSEL" and "VCTP")
abbrev pub mnemonic_of : Vector → List ℕ
mnemonic_of (vector.V1 i) = add_mnemonic i.name
mnemonic_of (vector.V2 i) = bitwise_mnemonic i.name
mnemonic_of (vector.V3 i) = signed_mnemonic i.name
mnemonic_of (vector.V4 i) = vector_shift_mnemonic i.name
mnemonic_of (vector.V5 i) = doubling_mnemonic i.name
mnemonic_of (vector.V6 i) = long_product_mnemonic i.t.value
mnemonic_of (vector.V7 i) = high_mnemonic i.name
mnemonic_of (vector.V8 i) = carry_mnemonic i.name
mnemonic_of (vector.V9 i) = complex_sum_mnemonic i.name
mnemonic_of (vector.V10 i) = scalar_mnemonic i.name
mnemonic_of (vector.V11 i) = constant_shift_mnemonic i.name
mnemonic_of (vector.V12 (v12.Bytes i)) = long_mnemonic i.t.value i.k.value
mnemonic_of (vector.V12 (v12.Halves i)) = long_mnemonic i.t.value i.k.value
mnemonic_of (vector.V12 (v12.Full i)) = long_shift_mnemonic i.t.value
mnemonic_of (vector.V13 (v13.Elements i)) = one_mnemonic i.name
mnemonic_of (vector.V13 (v13.Not i)) = codes "vmvn"
mnemonic_of (vector.V14 i) = reverse_mnemonic i.name
mnemonic_of (vector.V15 i) = constant_mnemonic (constant_number i.op.value i.cm.value)
mnemonic_of (vector.V16 i) = narrowing_mnemonic i.name i.t.value
mnemonic_of (vector.V17 i) = codes "vshlc"
mnemonic_of (vector.V18 i) = codes "vdup"
mnemonic_of (vector.V19 (v19.Free i)) = offsets_mnemonic i.name
mnemonic_of (vector.V19 (v19.Wrapped i)) = wrapped_mnemonic i.name
mnemonic_of (vector.V20 (v20.Vectors i)) = block_mnemonic compare_word i.k.value
mnemonic_of (vector.V20 (v20.Scalar i)) = block_mnemonic compare_word i.k.value
mnemonic_of (vector.V21 (v21.Block i)) = block_mnemonic block_word i.k.value
mnemonic_of (vector.V21 (v21.Select i)) = codes "vpsel"
mnemonic_of (vector.V21 (v21.Tail i)) = codes "vctp"
mnemonic_of (vector.V22 (v22.Sum i)) = sum_mnemonic i.a.value
mnemonic_of (vector.V22 (v22.Dot i)) = dot_mnemonic i.a.value
mnemonic_of (vector.V22 (v22.LongSum i)) = long_sum_mnemonic i.a.value
mnemonic_of (vector.V22 (v22.LongDot i)) = long_dot_mnemonic i.a.value
mnemonic_of (vector.V23 i) = extreme_mnemonic i.name
mnemonic_of (vector.V24 i) = access_mnemonic i.l.value i.z.value
mnemonic_of (vector.V25 i) = access_mnemonic i.l.value i.h.value
mnemonic_of (vector.V26 i) = access_mnemonic i.l.value i.y.value
mnemonic_of (vector.V27 i) = access_mnemonic i.l.value 2
mnemonic_of (vector.V28 i) = interleaved_mnemonic i.f.value i.l.value i.p.value

-- OPERANDS
-- whether the first word has no point, the sign u and the size z of the elements, what the third operand and the base of an address are, how an
-- offset is used, by the bits P, A and W, and up to five operands
abbrev pub given_access : Bool → ℕ → ℕ → Kind → Kind → ℕ → ℕ → ℕ → ℕ → ℕ → ℕ → ℕ → ℕ → Operands
given_access bare u z kind base p a w b c e g h = record {
  is_bare = bare;
  sign = u;
  size = z;
  third_kind = kind;
  first = b;
  second = c;
  third = e;
  fourth = g;
  fifth = h;
  added = a;
  before = p;
  back = w;
  base_kind = base;
}

-- up to four operands, with no address
abbrev pub given : Bool → ℕ → ℕ → Kind → ℕ → ℕ → ℕ → ℕ → Operands
given bare u z kind a b c e = given_access bare u z kind kinds.Number 1 1 0 a b c e 0

-- up to three operands behind a first word that has no point
abbrev pub bare_given : Kind → ℕ → ℕ → ℕ → Operands
bare_given kind a b c = given true 0 0 kind a b c 0

-- two operands behind a first word with a point
abbrev pub two_given : ℕ → ℕ → ℕ → ℕ → Operands
two_given u z a b = given false u z kinds.Missing a b 0 0

-- and three, the third a vector
abbrev pub three_given : ℕ → ℕ → ℕ → ℕ → ℕ → Operands
three_given u z a b c = given false u z kinds.Vector a b c 0

-- two operands and a number
abbrev pub shift_given : ℕ → ℕ → ℕ → ℕ → ℕ → Operands
shift_given u z a b k = given false u z kinds.Number a b k 0

-- V12: two operands of VSHLLB, VSHLLT, VMOVLB and VMOVLT, and the number k, which the moves do not have (DDI0553, "VSHLL" and "VMOVL")
abbrev pub long_given : ℕ → ℕ → ℕ → ℕ → ℕ → Operands
long_given u z d m k = given false u z (if nat_eq k 0 then kinds.Missing else kinds.Number) d m k 0

-- V15: the operands of VMOV, VMVN, VORR and VBIC by op and cm: the size of the element, and how the immediate x is shifted in it: 0 brings in zeros,
-- and 1 brings in ones
-- (DDI0553, "VMOV (immediate) (vector)", "VMVN (immediate)", "VORR (immediate)" and "VBIC (immediate)")
abbrev pub constant_given : ℕ → ℕ → ℕ → ℕ → Operands
constant_given op cm d x =
    if nat_lt cm 8 then given false 0 2 kinds.Word d x 0 (cm / 2 * 8)
    else if nat_lt cm 12 then given false 0 1 kinds.Word d x 0 (cm % 4 / 2 * 8)
    else if nat_lt cm 14 then given false 0 2 kinds.Word d x 1 (cm % 2 * 8 + 8)
    else two_given 0 (if nat_eq op 0 then 0 else 3) d x

-- V16: 1 where the wide elements are unsigned: those of VQMOVNB and VQMOVNT of unsigned elements, and of no VMOVNB, VMOVNT, VQMOVUNB or
-- VQMOVUNT; else 0 (DDI0553, "VMOVN", "VQMOVN" and "VQMOVUN")
abbrev pub narrowing_sign : NarrowingName → ℕ
narrowing_sign narrowing.Unsigned = 1
narrowing_sign name = 0

-- V20: 1 where the condition of VCMP or VPT is of unsigned numbers, cs and hi (DDI0553, "VCMP (vector)" and "VPT")
abbrev pub compare_sign : ℕ → ℕ
compare_sign c = get_or (0 ∷ 0 ∷ 1 ∷ 1 ∷ 0 ∷ 0 ∷ 0 ∷ 0 ∷ []) c 0

-- V24 and V27: the sign u of VLDRB, VLDRH and VLDRW; VSTRB, VSTRH and VSTRW have none
-- (DDI0553, "VLDRB, VLDRH, VLDRW", "VSTRB, VSTRH, VSTRW", "VLDRB, VLDRH, VLDRW, VLDRD (vector)" and "VSTRB, VSTRH, VSTRW, VSTRD (vector)")
abbrev pub access_sign : ℕ → ℕ → ℕ
access_sign l u = cond (nat_eq l 0) 0 u

-- V28: the registers from d up, two of VLD20, VLD21, VST20 and VST21, or four of VLD40, VLD41, VLD42, VLD43, VST40, VST41, VST42 and VST43 where f is 1,
-- and the base n behind them (DDI0553, "VLD2", "VLD4", "VST2" and "VST4")
abbrev pub interleaved_given : ℕ → ℕ → ℕ → ℕ → ℕ → Operands
interleaved_given f z w d n =
    given_access false 0 z (if nat_eq f 0 then kinds.Word else kinds.Vector) kinds.Word 1 1 w d (d + 1) (if nat_eq f 0 then n else d + 2)
    (if nat_eq f 0 then 0 else d + 3) (if nat_eq f 0 then 0 else n)

-- the operands of each row
abbrev pub operands_of : Vector → Operands
operands_of (vector.V1 i) = three_given 0 i.z.value i.d.value i.n.value i.m.value
operands_of (vector.V2 i) = bare_given kinds.Vector i.d.value i.n.value i.m.value
operands_of (vector.V3 i) = three_given i.u.value i.z.value i.d.value i.n.value i.m.value
operands_of (vector.V4 i) = three_given i.u.value i.z.value i.d.value i.m.value i.n.value
operands_of (vector.V5 i) = three_given 0 i.z.value i.d.value i.n.value i.m.value
operands_of (vector.V6 i) = three_given i.u.value i.z.value i.d.value i.n.value i.m.value
operands_of (vector.V7 i) = three_given i.u.value i.z.value i.d.value i.n.value i.m.value
operands_of (vector.V8 i) = three_given 0 2 i.d.value i.n.value i.m.value
operands_of (vector.V9 i) = given false 0 i.z.value kinds.Vector i.d.value i.n.value i.m.value (cond (nat_eq i.t.value 0) 90 270)
operands_of (vector.V10 i) = given false i.u.value i.z.value kinds.Word i.d.value i.n.value i.m.value 0
operands_of (vector.V11 i) =
    shift_given i.u.value (constant_shift_size i.x.value) i.d.value i.m.value (constant_shift_amount i.name i.x.value)
operands_of (vector.V12 (v12.Bytes i)) = long_given i.u.value 0 i.d.value i.m.value i.k.value
operands_of (vector.V12 (v12.Halves i)) = long_given i.u.value 1 i.d.value i.m.value i.k.value
operands_of (vector.V12 (v12.Full i)) = shift_given i.u.value i.z.value i.d.value i.m.value (8 * 2 ^ i.z.value)
operands_of (vector.V13 (v13.Elements i)) = two_given 0 i.z.value i.d.value i.m.value
operands_of (vector.V13 (v13.Not i)) = bare_given kinds.Missing i.d.value i.m.value 0
operands_of (vector.V14 i) = two_given 0 i.z.value i.d.value i.m.value
operands_of (vector.V15 i) = constant_given i.op.value i.cm.value i.d.value (imm8 i.i.value i.i3.value i.i4.value)
operands_of (vector.V16 i) = two_given (narrowing_sign i.name) (i.z.value + 1) i.d.value i.m.value
operands_of (vector.V17 i) = bare_given kinds.Number i.d.value i.m.value (zero_as_32 i.k.value)
operands_of (vector.V18 i) = two_given 0 (size_number i.size) i.d.value i.t.value
operands_of (vector.V19 (v19.Free i)) = shift_given 1 i.z.value i.d.value (2 * i.n.value) (2 ^ i.k.value)
operands_of (vector.V19 (v19.Wrapped i)) = given false 1 i.z.value kinds.Word i.d.value (2 * i.n.value) (2 * i.r.value + 1) (2 ^ i.k.value)
operands_of (vector.V20 (v20.Vectors i)) = three_given (compare_sign i.c.value) i.z.value i.c.value i.n.value i.m.value
operands_of (vector.V20 (v20.Scalar i)) = given false (compare_sign i.c.value) i.z.value kinds.Word i.c.value i.n.value i.m.value 0
operands_of (vector.V21 (v21.Block i)) = bare_given kinds.Missing 0 0 0
operands_of (vector.V21 (v21.Select i)) = bare_given kinds.Vector i.d.value i.n.value i.m.value
operands_of (vector.V21 (v21.Tail i)) = two_given 0 i.z.value i.n.value 0
operands_of (vector.V22 (v22.Sum i)) = two_given i.u.value i.z.value (2 * i.l.value) i.m.value
operands_of (vector.V22 (v22.Dot i)) = three_given i.u.value (size_number i.size) (2 * i.l.value) i.n.value i.m.value
operands_of (vector.V22 (v22.LongSum i)) = three_given i.u.value 2 (2 * i.l.value) (2 * i.h.value + 1) i.m.value
operands_of (vector.V22 (v22.LongDot i)) =
    given false i.u.value (i.s.value + 1) kinds.Vector (2 * i.l.value) (2 * i.h.value + 1) i.n.value i.m.value
operands_of (vector.V23 i) = two_given i.u.value i.z.value i.t.value i.m.value
operands_of (vector.V24 i) =
    given_access false (access_sign i.l.value 1) i.z.value kinds.Number kinds.Word i.p.value i.a.value i.w.value i.d.value i.n.value
    (i.i.value * 2 ^ i.z.value) 0 0
operands_of (vector.V25 i) =
    given_access false i.u.value i.z.value kinds.Number kinds.Word i.p.value i.a.value i.w.value i.d.value i.n.value (i.i.value * 2 ^ i.h.value) 0 0
operands_of (vector.V26 i) =
    given_access false i.u.value i.z.value kinds.Vector kinds.Word 1 1 0 i.d.value i.n.value i.m.value i.o.value (cond (nat_eq i.o.value 0) 0 i.y.value)
operands_of (vector.V27 i) =
    given_access false (access_sign i.l.value 1) 2 kinds.Number kinds.Vector 1 i.a.value i.w.value i.d.value i.m.value (4 * i.i.value) 0 0
operands_of (vector.V28 i) = interleaved_given i.f.value i.z.value i.w.value i.d.value i.n.value

-- WHAT A READER OWES
-- a mnemonic and operands are those of a row as it is printed
abbrev pub Asks : Vector → List ℕ → Operands → Type 0
Asks v s o = (s ≡ mnemonic_of v) × (o ≡ operands_of v)

-- V2 and V22: a mnemonic and operands are those of a row's other text: VMOV for VORR of a register with itself, VMLAV and VMLAVA for VMLADAV and VMLADAVA
-- (DDI0553, "VORR" and "VMLADAV")
abbrev pub AsksOther : Vector → List ℕ → Operands → Type 0
AsksOther (vector.V2 i) s o =
    (i.name ≡ bitwise.Orr) × (i.n.value ≡ i.m.value) × (s ≡ codes "vmov") × (o ≡ bare_given kinds.Missing i.d.value i.m.value 0)
AsksOther (vector.V22 (v22.Dot i)) s o = (s ≡ other_dot_mnemonic i.a.value) × (o ≡ operands_of (vector.V22 (v22.Dot i)))
AsksOther v s o = ⊥

-- a mnemonic and operands are given the code of the row of this kind that asks so; what they are given where none asks is not said
abbrev pub IsCodeOf : {A : Type 0} → (A → Vector) → List ℕ → Operands → Option ℕ → Type 0
IsCodeOf {A} row s o code = (i : A) → Asks (row i) s o → code ≡ Some (vector_code (row i))

-- and of the row whose other text asks so
abbrev pub IsOtherCodeOf : {A : Type 0} → (A → Vector) → List ℕ → Operands → Option ℕ → Type 0
IsOtherCodeOf {A} row s o code = (i : A) → AsksOther (row i) s o → code ≡ Some (vector_code (row i))

-- V15: the number of a mnemonic, VMOV, VMVN, VORR or VBIC, and operands are those of this row
-- (DDI0553, "VMOV (immediate) (vector)", "VMVN (immediate)", "VORR (immediate)" and "VBIC (immediate)")
abbrev pub AsksConstant : V15 → ℕ → Operands → Type 0
AsksConstant i k o = (k ≡ constant_number i.op.value i.cm.value) × (o ≡ operands_of (vector.V15 i))

-- tokens are given the code of the row that has them
abbrev pub IsCodeIn : List Tok → Option ℕ → Type 0
IsCodeIn ts code = (v : Vector) → HasTokens v ts → code ≡ Some (vector_code v)
