-- The mnemonics of the vector rows, and what stands behind the point.
use Rattle.std.specs.Prelude.{ℕ, ◌+◌, cond, List, [], ◌∷◌, ◌++◌, get_or, codes, nat_eq}
use Rattle.hm_isa.specs.declared.vectors.AddName.{AddName}
use Rattle.hm_isa.specs.declared.vectors.AddName.TheVariants as add
use Rattle.hm_isa.specs.declared.vectors.BitwiseName.{BitwiseName}
use Rattle.hm_isa.specs.declared.vectors.BitwiseName.TheVariants as bitwise
use Rattle.hm_isa.specs.declared.vectors.SignedName.{SignedName}
use Rattle.hm_isa.specs.declared.vectors.SignedName.TheVariants as signed_
use Rattle.hm_isa.specs.declared.vectors.VectorShiftName.{VectorShiftName}
use Rattle.hm_isa.specs.declared.vectors.VectorShiftName.TheVariants as by_vector
use Rattle.hm_isa.specs.declared.vectors.DoublingName.{DoublingName}
use Rattle.hm_isa.specs.declared.vectors.DoublingName.TheVariants as doubling
use Rattle.hm_isa.specs.declared.vectors.HighName.{HighName}
use Rattle.hm_isa.specs.declared.vectors.HighName.TheVariants as high
use Rattle.hm_isa.specs.declared.vectors.CarryName.{CarryName}
use Rattle.hm_isa.specs.declared.vectors.CarryName.TheVariants as carry
use Rattle.hm_isa.specs.declared.vectors.ComplexSumName.{ComplexSumName}
use Rattle.hm_isa.specs.declared.vectors.ComplexSumName.TheVariants as complex_sum
use Rattle.hm_isa.specs.declared.vectors.ScalarName.{ScalarName}
use Rattle.hm_isa.specs.declared.vectors.ScalarName.TheVariants as by_scalar
use Rattle.hm_isa.specs.declared.vectors.ConstantShiftName.{ConstantShiftName}
use Rattle.hm_isa.specs.declared.vectors.ConstantShiftName.TheVariants as by_constant
use Rattle.hm_isa.specs.declared.vectors.OneName.{OneName}
use Rattle.hm_isa.specs.declared.vectors.OneName.TheVariants as one
use Rattle.hm_isa.specs.declared.vectors.ReverseName.{ReverseName}
use Rattle.hm_isa.specs.declared.vectors.ReverseName.TheVariants as reverse_
use Rattle.hm_isa.specs.declared.vectors.NarrowingName.{NarrowingName}
use Rattle.hm_isa.specs.declared.vectors.NarrowingName.TheVariants as narrowing
use Rattle.hm_isa.specs.declared.vectors.OffsetsName.{OffsetsName}
use Rattle.hm_isa.specs.declared.vectors.OffsetsName.TheVariants as offsets
use Rattle.hm_isa.specs.declared.vectors.ExtremeName.{ExtremeName}
use Rattle.hm_isa.specs.declared.vectors.ExtremeName.TheVariants as extreme
use Rattle.hm_isa.specs.declared.vectors.Element.{Element}
use Rattle.hm_isa.specs.declared.vectors.Element.TheVariants as element
use Rattle.hm_text_rows.specs.Mnemonics.{element_bits, element_suffix}
use Rattle.hm_text_rows.specs.Shapes.{either}

-- BEHIND THE POINT
-- the bits of an element behind the point, of an integer whose sign does not count
abbrev pub integer : ℕ → List ℕ
integer z = codes ".i" ++ element_bits z

-- the bits of an element behind the point, of a signed integer
abbrev pub signed : ℕ → List ℕ
signed z = codes ".s" ++ element_bits z

-- the bits of an element behind the point, of an unsigned integer
abbrev pub unsigned : ℕ → List ℕ
unsigned z = codes ".u" ++ element_bits z

-- signed where u is 0
abbrev pub by_sign : ℕ → ℕ → List ℕ
by_sign u z = cond (nat_eq u 0) (signed z) (unsigned z)

-- V18 and V22: the number of the size of the elements of VDUP, and of VMLADAV and VMLADAVA, 0, 1 and 2 (DDI0553, "VDUP" and "VMLADAV")
abbrev pub size_number : Element → ℕ
size_number element.Bytes = 0
size_number element.Halves = 1
size_number element.Words = 2

-- MNEMONICS
-- V1: the mnemonic of each name, VADD, VSUB and VMUL (DDI0553, "VADD (vector)", "VSUB (vector)" and "VMUL (vector)")
abbrev pub add_mnemonic : AddName → List ℕ
add_mnemonic add.Add = codes "vadd"
add_mnemonic add.Sub = codes "vsub"
add_mnemonic add.Mul = codes "vmul"

-- V2: the mnemonic of each name, VAND, VBIC, VORR, VORN and VEOR (DDI0553, "VAND", "VBIC (register)", "VORR", "VORN" and "VEOR")
abbrev pub bitwise_mnemonic : BitwiseName → List ℕ
bitwise_mnemonic bitwise.And = codes "vand"
bitwise_mnemonic bitwise.Bic = codes "vbic"
bitwise_mnemonic bitwise.Orr = codes "vorr"
bitwise_mnemonic bitwise.Orn = codes "vorn"
bitwise_mnemonic bitwise.Eor = codes "veor"

-- V3: the mnemonic of each name, VMAX, VMIN, VABD, VHADD, VRHADD, VHSUB, VQADD and VQSUB
-- (DDI0553, "VMAX, VMAXA", "VMIN, VMINA", "VABD", "VHADD", "VRHADD", "VHSUB", "VQADD" and "VQSUB")
abbrev pub signed_mnemonic : SignedName → List ℕ
signed_mnemonic signed_.Max = codes "vmax"
signed_mnemonic signed_.Min = codes "vmin"
signed_mnemonic signed_.Abd = codes "vabd"
signed_mnemonic signed_.Hadd = codes "vhadd"
signed_mnemonic signed_.Rhadd = codes "vrhadd"
signed_mnemonic signed_.Hsub = codes "vhsub"
signed_mnemonic signed_.Qadd = codes "vqadd"
signed_mnemonic signed_.Qsub = codes "vqsub"

-- V4: the mnemonic of each name, VSHL, VQSHL, VRSHL and VQRSHL (DDI0553, "VSHL", "VQSHL, VQSHLU", "VRSHL" and "VQRSHL")
abbrev pub vector_shift_mnemonic : VectorShiftName → List ℕ
vector_shift_mnemonic by_vector.Shl = codes "vshl"
vector_shift_mnemonic by_vector.Qshl = codes "vqshl"
vector_shift_mnemonic by_vector.Rshl = codes "vrshl"
vector_shift_mnemonic by_vector.Qrshl = codes "vqrshl"

-- V5: the mnemonic of each name, VQDMULH and VQRDMULH (DDI0553, "VQDMULH, VQRDMULH (vector)")
abbrev pub doubling_mnemonic : DoublingName → List ℕ
doubling_mnemonic doubling.Qdmulh = codes "vqdmulh"
doubling_mnemonic doubling.Qrdmulh = codes "vqrdmulh"

-- V6: VMULLB, or VMULLT where t is 1 (DDI0553, "VMULL (integer)")
abbrev pub long_product_mnemonic : ℕ → List ℕ
long_product_mnemonic t = either t (codes "vmullb") (codes "vmullt")

-- V7: the mnemonic of each name, VMULH and VRMULH (DDI0553, "VMULH, VRMULH")
abbrev pub high_mnemonic : HighName → List ℕ
high_mnemonic high.Mulh = codes "vmulh"
high_mnemonic high.Rmulh = codes "vrmulh"

-- V8: the mnemonic of each name, VADC, VADCI, VSBC and VSBCI (DDI0553, "VADC" and "VSBC")
abbrev pub carry_mnemonic : CarryName → List ℕ
carry_mnemonic carry.Adc = codes "vadc"
carry_mnemonic carry.Adci = codes "vadci"
carry_mnemonic carry.Sbc = codes "vsbc"
carry_mnemonic carry.Sbci = codes "vsbci"

-- V9: the mnemonic of each name, VCADD and VHCADD (DDI0553, "VCADD" and "VHCADD")
abbrev pub complex_sum_mnemonic : ComplexSumName → List ℕ
complex_sum_mnemonic complex_sum.Cadd = codes "vcadd"
complex_sum_mnemonic complex_sum.Hcadd = codes "vhcadd"

-- V10: the mnemonic of each name, VADD, VSUB, VMUL, VHADD, VHSUB, VQADD, VQSUB, VQDMULH, VQRDMULH, VMLA and VMLAS
-- (DDI0553, the forms with a scalar of "VADD (vector)", "VSUB (vector)", "VMUL (vector)", "VHADD", "VHSUB", "VQADD", "VQSUB" and
-- "VQDMULH, VQRDMULH (vector)", and "VMLA (vector by scalar plus vector)" and "VMLAS (vector by vector plus scalar)")
abbrev pub scalar_mnemonic : ScalarName → List ℕ
scalar_mnemonic by_scalar.Add = codes "vadd"
scalar_mnemonic by_scalar.Sub = codes "vsub"
scalar_mnemonic by_scalar.Mul = codes "vmul"
scalar_mnemonic by_scalar.Hadd = codes "vhadd"
scalar_mnemonic by_scalar.Hsub = codes "vhsub"
scalar_mnemonic by_scalar.Qadd = codes "vqadd"
scalar_mnemonic by_scalar.Qsub = codes "vqsub"
scalar_mnemonic by_scalar.Qdmulh = codes "vqdmulh"
scalar_mnemonic by_scalar.Qrdmulh = codes "vqrdmulh"
scalar_mnemonic by_scalar.Mla = codes "vmla"
scalar_mnemonic by_scalar.Mlas = codes "vmlas"

-- V11: the mnemonic of each name, VSHR, VRSHR, VQSHL, VQSHLU, VSHL, VSRI and VSLI (DDI0553, "VSHR", "VRSHR", "VQSHL, VQSHLU", "VSHL", "VSRI" and "VSLI")
abbrev pub constant_shift_mnemonic : ConstantShiftName → List ℕ
constant_shift_mnemonic by_constant.Shr = codes "vshr"
constant_shift_mnemonic by_constant.Rshr = codes "vrshr"
constant_shift_mnemonic by_constant.Qshl = codes "vqshl"
constant_shift_mnemonic by_constant.Qshlu = codes "vqshlu"
constant_shift_mnemonic by_constant.Shl = codes "vshl"
constant_shift_mnemonic by_constant.Sri = codes "vsri"
constant_shift_mnemonic by_constant.Sli = codes "vsli"

-- V12: VSHLLB, or VSHLLT where t is 1 (DDI0553, "VSHLL")
abbrev pub long_shift_mnemonic : ℕ → List ℕ
long_shift_mnemonic t = either t (codes "vshllb") (codes "vshllt")

-- V12: VMOVLB, or VMOVLT where t is 1, which shift by 0 (DDI0553, "VMOVL")
abbrev pub long_move_mnemonic : ℕ → List ℕ
long_move_mnemonic t = either t (codes "vmovlb") (codes "vmovlt")

-- V13: the mnemonic of each name, VCLS, VCLZ, VABS, VNEG, VQABS and VQNEG (DDI0553, "VCLS", "VCLZ", "VABS (vector)", "VNEG (vector)", "VQABS" and "VQNEG")
abbrev pub one_mnemonic : OneName → List ℕ
one_mnemonic one.Cls = codes "vcls"
one_mnemonic one.Clz = codes "vclz"
one_mnemonic one.Abs = codes "vabs"
one_mnemonic one.Neg = codes "vneg"
one_mnemonic one.Qabs = codes "vqabs"
one_mnemonic one.Qneg = codes "vqneg"

-- V14: the mnemonic of each name, VREV64, VREV32 and VREV16 (DDI0553, "VREV64", "VREV32" and "VREV16")
abbrev pub reverse_mnemonic : ReverseName → List ℕ
reverse_mnemonic reverse_.Rev64 = codes "vrev64"
reverse_mnemonic reverse_.Rev32 = codes "vrev32"
reverse_mnemonic reverse_.Rev16 = codes "vrev16"

-- V15: VMOV, or VMVN where op is 1, but for elements of 64 bits (DDI0553, "VMOV (immediate) (vector)" and "VMVN (immediate)")
abbrev pub constant_move_mnemonic : ℕ → List ℕ
constant_move_mnemonic op = either op (codes "vmov") (codes "vmvn")

-- V15: VORR, or VBIC where op is 1 (DDI0553, "VORR (immediate)" and "VBIC (immediate)")
abbrev pub constant_merge_mnemonic : ℕ → List ℕ
constant_merge_mnemonic op = either op (codes "vorr") (codes "vbic")

-- V16: the mnemonic of each name, VMOVNB, VQMOVUNB and VQMOVNB for the lower part of each wide element, or VMOVNT, VQMOVUNT and VQMOVNT for the upper
-- (DDI0553, "VMOVN", "VQMOVN" and "VQMOVUN")
abbrev pub narrowing_mnemonic : NarrowingName → ℕ → List ℕ
narrowing_mnemonic narrowing.Plain t = cond (nat_eq t 0) (codes "vmovnb") (codes "vmovnt")
narrowing_mnemonic narrowing.ToUnsigned t = cond (nat_eq t 0) (codes "vqmovunb") (codes "vqmovunt")
narrowing_mnemonic narrowing.Signed t = cond (nat_eq t 0) (codes "vqmovnb") (codes "vqmovnt")
narrowing_mnemonic narrowing.Unsigned t = cond (nat_eq t 0) (codes "vqmovnb") (codes "vqmovnt")

-- V22: VADDV, or VADDVA where a is 1, with which the sum goes on from the old value (DDI0553, "VADDV")
abbrev pub sum_mnemonic : ℕ → List ℕ
sum_mnemonic a = either a (codes "vaddv") (codes "vaddva")

-- V22: VMLADAV, or VMLADAVA where a is 1 (DDI0553, "VMLADAV")
abbrev pub dot_mnemonic : ℕ → List ℕ
dot_mnemonic a = either a (codes "vmladav") (codes "vmladava")

-- V22: the other spelling of VMLADAV and VMLADAVA, VMLAV and VMLAVA (DDI0553, "VMLADAV")
abbrev pub other_dot_mnemonic : ℕ → List ℕ
other_dot_mnemonic a = either a (codes "vmlav") (codes "vmlava")

-- V22: VADDLV, or VADDLVA where a is 1 (DDI0553, "VADDLV")
abbrev pub long_sum_mnemonic : ℕ → List ℕ
long_sum_mnemonic a = either a (codes "vaddlv") (codes "vaddlva")

-- V22: VMLALDAV, or VMLALDAVA where a is 1 (DDI0553, "VMLALDAV")
abbrev pub long_dot_mnemonic : ℕ → List ℕ
long_dot_mnemonic a = either a (codes "vmlaldav") (codes "vmlaldava")

-- V23: the mnemonic of each name, VMAXV and VMINV (DDI0553, "VMAXV, VMAXAV" and "VMINV, VMINAV")
abbrev pub extreme_mnemonic : ExtremeName → List ℕ
extreme_mnemonic extreme.Max = codes "vmaxv"
extreme_mnemonic extreme.Min = codes "vminv"

-- V19: the mnemonic of each name from one register, VIDUP and VDDUP (DDI0553, "VIDUP, VIWDUP" and "VDDUP, VDWDUP")
abbrev pub offsets_mnemonic : OffsetsName → List ℕ
offsets_mnemonic offsets.Up = codes "vidup"
offsets_mnemonic offsets.Down = codes "vddup"

-- V19: the mnemonic of each name that goes round, VIWDUP and VDWDUP (DDI0553, "VIDUP, VIWDUP" and "VDDUP, VDWDUP")
abbrev pub wrapped_mnemonic : OffsetsName → List ℕ
wrapped_mnemonic offsets.Up = codes "viwdup"
wrapped_mnemonic offsets.Down = codes "vdwdup"

-- V24 to V27: the mnemonic of VSTRB, VSTRH and VSTRW where l is 0, or VLDRB, VLDRH and VLDRW, of elements that have the size y in memory
-- (DDI0553, "VLDRB, VLDRH, VLDRW", "VSTRB, VSTRH, VSTRW", "VLDRB, VLDRH, VLDRW, VLDRD (vector)" and "VSTRB, VSTRH, VSTRW, VSTRD (vector)")
abbrev pub access_mnemonic : ℕ → ℕ → List ℕ
access_mnemonic l y =
    either l
    (get_or (codes "vstrb" ∷ codes "vstrh" ∷ codes "vstrw" ∷ []) y [])
    (get_or (codes "vldrb" ∷ codes "vldrh" ∷ codes "vldrw" ∷ []) y [])

-- V28: the mnemonic of part p of two registers, VST20 and VST21 where l is 0, or VLD20 and VLD21 (DDI0553, "VLD2" and "VST2")
abbrev pub pair_mnemonic : ℕ → ℕ → List ℕ
pair_mnemonic l p =
    either l
    (get_or (codes "vst20" ∷ codes "vst21" ∷ []) p [])
    (get_or (codes "vld20" ∷ codes "vld21" ∷ []) p [])

-- V28: the mnemonic of part p of four registers, VST40, VST41, VST42 and VST43 where l is 0, or VLD40, VLD41, VLD42 and VLD43
-- (DDI0553, "VLD4" and "VST4")
abbrev pub quad_mnemonic : ℕ → ℕ → List ℕ
quad_mnemonic l p =
    either l
    (get_or (codes "vst40" ∷ codes "vst41" ∷ codes "vst42" ∷ codes "vst43" ∷ []) p [])
    (get_or (codes "vld40" ∷ codes "vld41" ∷ codes "vld42" ∷ codes "vld43" ∷ []) p [])

-- WHAT STANDS BEHIND THE POINT, BY NAME
-- V9: VCADD is of integers, and VHCADD of signed ones (DDI0553, "VCADD" and "VHCADD")
abbrev pub complex_sum_suffix : ComplexSumName → ℕ → List ℕ
complex_sum_suffix complex_sum.Cadd z = integer z
complex_sum_suffix complex_sum.Hcadd z = signed z

-- V10: VADD, VSUB and VMUL are of integers, VQDMULH and VQRDMULH of signed ones, and VHADD, VHSUB, VQADD, VQSUB, VMLA and VMLAS of either sign
-- (DDI0553, the forms with a scalar of "VADD (vector)", "VSUB (vector)", "VMUL (vector)", "VHADD", "VHSUB", "VQADD", "VQSUB" and
-- "VQDMULH, VQRDMULH (vector)", and "VMLA (vector by scalar plus vector)" and "VMLAS (vector by vector plus scalar)")
abbrev pub scalar_suffix : ScalarName → ℕ → ℕ → List ℕ
scalar_suffix by_scalar.Add u z = integer z
scalar_suffix by_scalar.Sub u z = integer z
scalar_suffix by_scalar.Mul u z = integer z
scalar_suffix by_scalar.Qdmulh u z = signed z
scalar_suffix by_scalar.Qrdmulh u z = signed z
scalar_suffix name u z = by_sign u z

-- V11: VQSHLU is of signed integers, VSHL of integers, VSRI and VSLI have no type, and VSHR, VRSHR and VQSHL are of either sign
-- (DDI0553, "VSHR", "VRSHR", "VQSHL, VQSHLU", "VSHL", "VSRI" and "VSLI")
abbrev pub constant_shift_suffix : ConstantShiftName → ℕ → ℕ → List ℕ
constant_shift_suffix by_constant.Qshlu u z = signed z
constant_shift_suffix by_constant.Shl u z = integer z
constant_shift_suffix by_constant.Sri u z = element_suffix z
constant_shift_suffix by_constant.Sli u z = element_suffix z
constant_shift_suffix name u z = by_sign u z

-- V13: VCLZ is of integers, and VCLS, VABS, VNEG, VQABS and VQNEG of signed ones
-- (DDI0553, "VCLS", "VCLZ", "VABS (vector)", "VNEG (vector)", "VQABS" and "VQNEG")
abbrev pub one_suffix : OneName → ℕ → List ℕ
one_suffix one.Clz z = integer z
one_suffix name z = signed z

-- V16: the size of the wide elements of VMOVNB, VMOVNT, VQMOVUNB, VQMOVUNT, VQMOVNB and VQMOVNT, by the bit that is 0 where they have 16 bits,
-- and their type (DDI0553, "VMOVN", "VQMOVN" and "VQMOVUN")
abbrev pub narrowing_suffix : NarrowingName → ℕ → List ℕ
narrowing_suffix narrowing.Plain z = integer (z + 1)
narrowing_suffix narrowing.ToUnsigned z = signed (z + 1)
narrowing_suffix narrowing.Signed z = signed (z + 1)
narrowing_suffix narrowing.Unsigned z = unsigned (z + 1)

-- V24 to V27: the size and the sign of the elements of VLDRB, VLDRH and VLDRW, and the size of those of VSTRB, VSTRH and VSTRW, which have no sign
-- (DDI0553, "VLDRB, VLDRH, VLDRW", "VSTRB, VSTRH, VSTRW", "VLDRB, VLDRH, VLDRW, VLDRD (vector)" and "VSTRB, VSTRH, VSTRW, VSTRD (vector)")
abbrev pub access_suffix : ℕ → ℕ → ℕ → List ℕ
access_suffix l u z = either l (element_suffix z) (by_sign u z)

-- V20: VCMP and VPT by the condition: eq and ne are of integers, cs and hi of unsigned numbers, and ge, lt, gt and le of signed ones
-- (DDI0553, "VCMP (vector)" and "VPT")
abbrev pub compare_suffix : ℕ → ℕ → List ℕ
compare_suffix c z = get_or (integer z ∷ integer z ∷ unsigned z ∷ unsigned z ∷ signed z ∷ signed z ∷ signed z ∷ signed z ∷ []) c []

-- V20: the condition of VCMP and VPT (DDI0553, "VCMP (vector)" and "VPT")
abbrev pub compare_condition : ℕ → List ℕ
compare_condition c = get_or (codes "eq" ∷ codes "ne" ∷ codes "cs" ∷ codes "hi" ∷ codes "ge" ∷ codes "lt" ∷ codes "gt" ∷ codes "le" ∷ []) c []

-- V20 and V21: the letters of a block of VPT or VPST, by its mask: t where an instruction has the sense of the first, e where it has the other
-- (DDI0553, "VPT" and "VPST")
abbrev pub block_letters : ℕ → List ℕ
block_letters mask = get_or
    (codes "" ∷ codes "ttt" ∷ codes "tt" ∷ codes "tte" ∷ codes "t" ∷ codes "tee" ∷ codes "te" ∷ codes "tet"
    ∷ codes "" ∷ codes "eee" ∷ codes "ee" ∷ codes "eet" ∷ codes "e" ∷ codes "ett" ∷ codes "et" ∷ codes "ete" ∷ [])
    mask []

-- V20: VCMP where the mask is 0, else VPT (DDI0553, "VCMP (vector)" and "VPT")
abbrev pub compare_word : ℕ → List ℕ
compare_word mask = cond (nat_eq mask 0) (codes "vcmp") (codes "vpt")

-- V21: VPNOT where the mask is 0, else VPST (DDI0553, "VPST" and "VPNOT")
abbrev pub block_word : ℕ → List ℕ
block_word mask = cond (nat_eq mask 0) (codes "vpnot") (codes "vpst")

-- V20 and V21: the mnemonic of VCMP or VPT, or of VPNOT or VPST, by its mask: one of these words and the letters of the block
-- (DDI0553, "VCMP (vector)", "VPT", "VPNOT" and "VPST")
abbrev pub block_mnemonic : (ℕ → List ℕ) → ℕ → List ℕ
block_mnemonic name mask = name mask ++ block_letters mask
