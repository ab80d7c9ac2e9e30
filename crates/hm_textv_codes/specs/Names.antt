-- The names of vector rows that a mnemonic may be of, alone and with a part, a size or a mask.
use Rattle.std.specs.Prelude.{ℕ, ◌/◌, ◌%◌, List, [], ◌∷◌, Option}
use Rattle.hm_isa.specs.declared.vectors.AddName.{AddName}
use Rattle.hm_isa.specs.declared.vectors.AddName.TheVariants as add
use Rattle.hm_isa.specs.declared.vectors.BitwiseName.{BitwiseName}
use Rattle.hm_isa.specs.declared.vectors.BitwiseName.TheVariants as bitwise
use Rattle.hm_isa.specs.declared.vectors.SignedName.{SignedName}
use Rattle.hm_isa.specs.declared.vectors.SignedName.TheVariants as signed
use Rattle.hm_isa.specs.declared.vectors.VectorShiftName.{VectorShiftName}
use Rattle.hm_isa.specs.declared.vectors.VectorShiftName.TheVariants as by_vector
use Rattle.hm_isa.specs.declared.vectors.DoublingName.{DoublingName}
use Rattle.hm_isa.specs.declared.vectors.DoublingName.TheVariants as doubling
use Rattle.hm_isa.specs.declared.vectors.HighName.{HighName}
use Rattle.hm_isa.specs.declared.vectors.HighName.TheVariants as high
use Rattle.hm_isa.specs.declared.vectors.CarryName.{CarryName}
use Rattle.hm_isa.specs.declared.vectors.CarryName.TheVariants as carry
use Rattle.hm_isa.specs.declared.vectors.ComplexSumName.{ComplexSumName}
use Rattle.hm_isa.specs.declared.vectors.ComplexSumName.TheVariants as complex_sum
use Rattle.hm_isa.specs.declared.vectors.ScalarName.{ScalarName}
use Rattle.hm_isa.specs.declared.vectors.ScalarName.TheVariants as by_scalar
use Rattle.hm_isa.specs.declared.vectors.ConstantShiftName.{ConstantShiftName}
use Rattle.hm_isa.specs.declared.vectors.ConstantShiftName.TheVariants as by_constant
use Rattle.hm_isa.specs.declared.vectors.OneName.{OneName}
use Rattle.hm_isa.specs.declared.vectors.OneName.TheVariants as one
use Rattle.hm_isa.specs.declared.vectors.ReverseName.{ReverseName}
use Rattle.hm_isa.specs.declared.vectors.ReverseName.TheVariants as reverse_
use Rattle.hm_isa.specs.declared.vectors.NarrowingName.{NarrowingName}
use Rattle.hm_isa.specs.declared.vectors.NarrowingName.TheVariants as narrowing
use Rattle.hm_isa.specs.declared.vectors.OffsetsName.{OffsetsName}
use Rattle.hm_isa.specs.declared.vectors.OffsetsName.TheVariants as offsets
use Rattle.hm_isa.specs.declared.vectors.ExtremeName.{ExtremeName}
use Rattle.hm_isa.specs.declared.vectors.ExtremeName.TheVariants as extreme
use Rattle.hm_text_rows.specs.Names.{block_masks, named, named_with_bit}
use Rattle.hm_text_rows.specs.Shapes.{either}
use Rattle.hm_textv_rows.specs.Mnemonics.{access_mnemonic, constant_merge_mnemonic, constant_move_mnemonic, narrowing_mnemonic, pair_mnemonic, quad_mnemonic}

-- V1: VADD, VSUB and VMUL (DDI0553, "VADD (vector)", "VSUB (vector)" and "VMUL (vector)")
abbrev pub add_names : List AddName
add_names = add.Add ∷ add.Sub ∷ add.Mul ∷ []

-- V2: VAND, VBIC, VORR, VORN and VEOR (DDI0553, "VAND", "VBIC (register)", "VORR", "VORN" and "VEOR")
abbrev pub bitwise_names : List BitwiseName
bitwise_names = bitwise.And ∷ bitwise.Bic ∷ bitwise.Orr ∷ bitwise.Orn ∷ bitwise.Eor ∷ []

-- V3: VMAX, VMIN, VABD, VHADD, VRHADD, VHSUB, VQADD and VQSUB (DDI0553, "VMAX, VMAXA", "VMIN, VMINA", "VABD", "VHADD", "VRHADD", "VHSUB", "VQADD" and "VQSUB")
abbrev pub signed_names : List SignedName
signed_names = signed.Max ∷ signed.Min ∷ signed.Abd ∷ signed.Hadd ∷ signed.Rhadd ∷ signed.Hsub ∷ signed.Qadd ∷ signed.Qsub ∷ []

-- V4: VSHL, VQSHL, VRSHL and VQRSHL (DDI0553, "VSHL", "VQSHL, VQSHLU", "VRSHL" and "VQRSHL")
abbrev pub vector_shift_names : List VectorShiftName
vector_shift_names = by_vector.Shl ∷ by_vector.Qshl ∷ by_vector.Rshl ∷ by_vector.Qrshl ∷ []

-- V5: VQDMULH and VQRDMULH (DDI0553, "VQDMULH, VQRDMULH (vector)")
abbrev pub doubling_names : List DoublingName
doubling_names = doubling.Qdmulh ∷ doubling.Qrdmulh ∷ []

-- V7: VMULH and VRMULH (DDI0553, "VMULH, VRMULH")
abbrev pub high_names : List HighName
high_names = high.Mulh ∷ high.Rmulh ∷ []

-- V8: VADC, VADCI, VSBC and VSBCI (DDI0553, "VADC" and "VSBC")
abbrev pub carry_names : List CarryName
carry_names = carry.Adc ∷ carry.Adci ∷ carry.Sbc ∷ carry.Sbci ∷ []

-- V9: VCADD and VHCADD (DDI0553, "VCADD" and "VHCADD")
abbrev pub complex_sum_names : List ComplexSumName
complex_sum_names = complex_sum.Cadd ∷ complex_sum.Hcadd ∷ []

-- V10: VADD, VSUB, VMUL, VHADD, VHSUB, VQADD, VQSUB, VQDMULH, VQRDMULH, VMLA and VMLAS
-- (DDI0553, the forms with a scalar of "VADD (vector)", "VSUB (vector)", "VMUL (vector)", "VHADD", "VHSUB", "VQADD", "VQSUB" and
-- "VQDMULH, VQRDMULH (vector)", and "VMLA (vector by scalar plus vector)" and "VMLAS (vector by vector plus scalar)")
abbrev pub scalar_names : List ScalarName
scalar_names =
    by_scalar.Add ∷ by_scalar.Sub ∷ by_scalar.Mul ∷ by_scalar.Hadd ∷ by_scalar.Hsub ∷ by_scalar.Qadd ∷ by_scalar.Qsub ∷ by_scalar.Qdmulh
    ∷ by_scalar.Qrdmulh ∷ by_scalar.Mla ∷ by_scalar.Mlas ∷ []

-- V11: VSHR, VRSHR, VQSHL, VQSHLU, VSHL, VSRI and VSLI (DDI0553, "VSHR", "VRSHR", "VQSHL, VQSHLU", "VSHL", "VSRI" and "VSLI")
abbrev pub constant_shift_names : List ConstantShiftName
constant_shift_names =
    by_constant.Shr ∷ by_constant.Rshr ∷ by_constant.Qshl ∷ by_constant.Qshlu ∷ by_constant.Shl ∷ by_constant.Sri ∷ by_constant.Sli ∷ []

-- V13: VCLS, VCLZ, VABS, VNEG, VQABS and VQNEG (DDI0553, "VCLS", "VCLZ", "VABS (vector)", "VNEG (vector)", "VQABS" and "VQNEG")
abbrev pub one_names : List OneName
one_names = one.Cls ∷ one.Clz ∷ one.Abs ∷ one.Neg ∷ one.Qabs ∷ one.Qneg ∷ []

-- V14: VREV64, VREV32 and VREV16 (DDI0553, "VREV64", "VREV32" and "VREV16")
abbrev pub reverse_names : List ReverseName
reverse_names = reverse_.Rev64 ∷ reverse_.Rev32 ∷ reverse_.Rev16 ∷ []

-- V19: VIDUP and VIWDUP, VDDUP and VDWDUP (DDI0553, "VIDUP, VIWDUP" and "VDDUP, VDWDUP")
abbrev pub offsets_names : List OffsetsName
offsets_names = offsets.Up ∷ offsets.Down ∷ []

-- V23: VMAXV and VMINV (DDI0553, "VMAXV, VMAXAV" and "VMINV, VMINAV")
abbrev pub extreme_names : List ExtremeName
extreme_names = extreme.Max ∷ extreme.Min ∷ []

-- V20 and V21: the masks of a block that VPT and VPST begin, and 0, which VCMP and VPNOT have (DDI0553, "VCMP (vector)", "VPT", "VPST" and "VPNOT")
abbrev pub masks : List ℕ
masks = 0 ∷ block_masks

-- V15: the mnemonics of 0 to 3, VMOV, VMVN, VORR and VBIC: bit 0 is 1 for VMVN and VBIC, and bit 1 is 1 where the immediate is merged
-- (DDI0553, "VMOV (immediate) (vector)", "VMVN (immediate)", "VORR (immediate)" and "VBIC (immediate)")
abbrev pub constant_mnemonic : ℕ → List ℕ
constant_mnemonic k = either (k / 2) (constant_move_mnemonic (k % 2)) (constant_merge_mnemonic (k % 2))

-- V15: VMOV, VMVN, VORR and VBIC as 0 to 3, by the mnemonic
-- (DDI0553, "VMOV (immediate) (vector)", "VMVN (immediate)", "VORR (immediate)" and "VBIC (immediate)")
abbrev pub constant_in : List ℕ → Option ℕ
constant_in s = named constant_mnemonic (0 ∷ 1 ∷ 2 ∷ 3 ∷ []) s

-- V16: the name and the part, by the mnemonic, of VMOVNB, VMOVNT, VQMOVUNB, VQMOVUNT, VQMOVNB and VQMOVNT; the last two of unsigned elements differ
-- in the sign alone
-- (DDI0553, "VMOVN", "VQMOVN" and "VQMOVUN")
abbrev pub narrowing_in : List ℕ → Option (NarrowingName × ℕ)
narrowing_in s = named_with_bit narrowing_mnemonic (narrowing.Plain ∷ narrowing.ToUnsigned ∷ narrowing.Signed ∷ []) s

-- V24 to V27: 1 for a load, and the size in memory of the elements of VSTRB, VSTRH, VSTRW, VLDRB, VLDRH and VLDRW, by the mnemonic
-- (DDI0553, "VLDRB, VLDRH, VLDRW", "VSTRB, VSTRH, VSTRW", "VLDRB, VLDRH, VLDRW, VLDRD (vector)" and "VSTRB, VSTRH, VSTRW, VSTRD (vector)")
abbrev pub access_in : List ℕ → Option (ℕ × ℕ)
access_in s = named (λ (p : ℕ × ℕ). access_mnemonic p.0 p.1) ((0, 0) ∷ (0, 1) ∷ (0, 2) ∷ (1, 0) ∷ (1, 1) ∷ (1, 2) ∷ []) s

-- V28: the mnemonic of part p of two registers where f is 0, else of four, of a store where l is 0, else of a load: VST20, VST21, VLD20, VLD21,
-- VST40, VST41, VST42, VST43, VLD40, VLD41, VLD42 and VLD43
-- (DDI0553, "VLD2", "VLD4", "VST2" and "VST4")
abbrev pub interleaved_mnemonic : ℕ → ℕ → ℕ → List ℕ
interleaved_mnemonic f l p = either f (pair_mnemonic l p) (quad_mnemonic l p)

-- V28: 1 for four registers, 1 for a load, and the part, by the mnemonic, of VST20, VST21, VLD20, VLD21, VST40, VST41, VST42, VST43, VLD40, VLD41,
-- VLD42 and VLD43
-- (DDI0553, "VLD2", "VLD4", "VST2" and "VST4")
abbrev pub interleaved_in : List ℕ → Option (ℕ × ℕ × ℕ)
interleaved_in s =
    named (λ (x : ℕ × ℕ × ℕ). interleaved_mnemonic x.0 x.1 x.2)
    ((0, 0, 0) ∷ (0, 0, 1) ∷ (0, 1, 0) ∷ (0, 1, 1) ∷ (1, 0, 0) ∷ (1, 0, 1) ∷ (1, 0, 2) ∷ (1, 0, 3) ∷ (1, 1, 0) ∷ (1, 1, 1) ∷ (1, 1, 2) ∷ (1, 1, 3) ∷ []) s
