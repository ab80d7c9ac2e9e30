-- The text of each vector row, as tokens.
use Rattle.std.specs.Prelude.{◌≡◌, ◌⊎◌, ℕ, ◌+◌, ◌*◌, ◌^◌, Bool, cond, List, [], ◌∷◌, ◌++◌, get_or, codes, nat_eq, Option, Some, None, if◌then◌else◌}
use Rattle.hm_isa.specs.declared.Vector.{Vector}
use Rattle.hm_isa.specs.declared.Vector.TheVariants.{V1, V2, V3, V4, V5, V6, V7, V8, V9, V10, V11, V12, V13, V14, V15, V16, V17, V18, V19, V20, V21, V22, V23}
use Rattle.hm_isa.specs.declared.Vector.TheVariants.{V24, V25, V26, V27, V28}
use Rattle.hm_isa.specs.declared.vectors.V11.{V11 as ShiftRow}
use Rattle.hm_isa.specs.declared.vectors.V12.{V12 as LongRow}
use Rattle.hm_isa.specs.declared.vectors.V12.TheVariants as v12
use Rattle.hm_isa.specs.declared.vectors.V13.{V13 as OneRow}
use Rattle.hm_isa.specs.declared.vectors.V13.TheVariants as v13
use Rattle.hm_isa.specs.declared.vectors.V15.{V15 as ConstantRow}
use Rattle.hm_isa.specs.declared.vectors.V19.{V19 as OffsetsRow}
use Rattle.hm_isa.specs.declared.vectors.V19.TheVariants as v19
use Rattle.hm_isa.specs.declared.vectors.V20.{V20 as CompareRow}
use Rattle.hm_isa.specs.declared.vectors.V20.TheVariants as v20
use Rattle.hm_isa.specs.declared.vectors.V21.{V21 as PredicateRow}
use Rattle.hm_isa.specs.declared.vectors.V21.TheVariants as v21
use Rattle.hm_isa.specs.declared.vectors.V22.{V22 as SumRow}
use Rattle.hm_isa.specs.declared.vectors.V22.TheVariants as v22
use Rattle.hm_isa.specs.declared.vectors.BitwiseName.{BitwiseName}
use Rattle.hm_isa.specs.declared.vectors.BitwiseName.TheVariants as bitwise
use Rattle.hm_isa.specs.Letters.{constant_shift_amount, constant_shift_size}
use Rattle.hm_isa.specs.Words.{imm8, zero_as_32}
use Rattle.hm_tokens.specs.Lines.{IsLineOf}
use Rattle.hm_tokens.specs.Tokens.{Tok, word, close_brace, close_bracket, comma, open_brace, open_bracket}
use Rattle.hm_text_rows.specs.Mnemonics.{element_suffix}
use Rattle.hm_text_rows.specs.Shapes.{and_constant, and_any_shift, back, constant, either, four, indexed, inside, one, or_zero, q, r, three, two}
use Rattle.hm_textv_rows.specs.Mnemonics.{access_mnemonic, access_suffix, add_mnemonic, bitwise_mnemonic, block_letters, block_mnemonic, block_word}
use Rattle.hm_textv_rows.specs.Mnemonics.{by_sign, carry_mnemonic, compare_condition, compare_suffix, compare_word, complex_sum_mnemonic}
use Rattle.hm_textv_rows.specs.Mnemonics.{complex_sum_suffix, constant_merge_mnemonic, constant_move_mnemonic, constant_shift_mnemonic}
use Rattle.hm_textv_rows.specs.Mnemonics.{constant_shift_suffix, dot_mnemonic, doubling_mnemonic}
use Rattle.hm_textv_rows.specs.Mnemonics.{extreme_mnemonic, high_mnemonic, integer, long_dot_mnemonic, long_move_mnemonic, long_product_mnemonic}
use Rattle.hm_textv_rows.specs.Mnemonics.{long_shift_mnemonic, long_sum_mnemonic, narrowing_mnemonic}
use Rattle.hm_textv_rows.specs.Mnemonics.{narrowing_suffix, offsets_mnemonic, one_mnemonic, one_suffix}
use Rattle.hm_textv_rows.specs.Mnemonics.{other_dot_mnemonic, pair_mnemonic, quad_mnemonic, reverse_mnemonic, scalar_mnemonic, scalar_suffix}
use Rattle.hm_textv_rows.specs.Mnemonics.{signed, signed_mnemonic, size_number, sum_mnemonic, unsigned, vector_shift_mnemonic, wrapped_mnemonic}

-- ROWS
-- V11: the tokens of a shift by a constant, VSHR, VRSHR, VQSHL, VQSHLU, VSHL, VSRI and VSLI
-- (DDI0553, "VSHR", "VRSHR", "VQSHL, VQSHLU", "VSHL", "VSRI" and "VSLI")
abbrev pub shift_tokens : ShiftRow → List Tok
shift_tokens i =
    let name = constant_shift_mnemonic i.name ++ constant_shift_suffix i.name i.u.value (constant_shift_size i.x.value) in
    and_constant (two name (q i.d.value) (q i.m.value)) (constant_shift_amount i.name i.x.value)

-- V12: the tokens of VSHLLB or VSHLLT by k; a shift by 0 is written as a move, VMOVLB or VMOVLT (DDI0553, "VSHLL" and "VMOVL")
abbrev pub long_part : ℕ → List ℕ → ℕ → ℕ → ℕ → List Tok
long_part t suffix d m k =
    cond (nat_eq k 0)
    (two (long_move_mnemonic t ++ suffix) (q d) (q m))
    (and_constant (two (long_shift_mnemonic t ++ suffix) (q d) (q m)) k)

-- V12: the tokens of VSHLLB, VSHLLT, VMOVLB and VMOVLT (DDI0553, "VSHLL" and "VMOVL")
abbrev pub long_tokens : LongRow → List Tok
long_tokens (v12.Bytes i) = long_part i.t.value (by_sign i.u.value 0) i.d.value i.m.value i.k.value
long_tokens (v12.Halves i) = long_part i.t.value (by_sign i.u.value 1) i.d.value i.m.value i.k.value
long_tokens (v12.Full i) = and_constant (two (long_shift_mnemonic i.t.value ++ by_sign i.u.value i.z.value) (q i.d.value) (q i.m.value))
    (8 * 2 ^ i.z.value)

-- V13: the tokens of VCLS, VCLZ, VABS, VNEG, VQABS and VQNEG, and of VMVN of a vector
-- (DDI0553, "VCLS", "VCLZ", "VABS (vector)", "VNEG (vector)", "VQABS", "VQNEG" and "VMVN (register)")
abbrev pub one_tokens : OneRow → List Tok
one_tokens (v13.Elements i) = two (one_mnemonic i.name ++ one_suffix i.name i.z.value) (q i.d.value) (q i.m.value)
one_tokens (v13.Not i) = two (codes "vmvn") (q i.d.value) (q i.m.value)

-- V15: the tokens of VMOV, VMVN, VORR or VBIC with an immediate, `qd,#x`
-- (DDI0553, "VMOV (immediate) (vector)", "VMVN (immediate)", "VORR (immediate)" and "VBIC (immediate)")
abbrev pub unshifted : List ℕ → ℕ → ℕ → List Tok
unshifted name d x = and_constant (one name (q d)) x

-- V15: the tokens of VMOV, VMVN, VORR or VBIC with an immediate and how far it is shifted, `qd,#x,lsl #n`
-- (DDI0553, "VMOV (immediate) (vector)", "VMVN (immediate)", "VORR (immediate)" and "VBIC (immediate)")
abbrev pub shifted : List ℕ → List ℕ → ℕ → ℕ → ℕ → List Tok
shifted name kind n d x = and_any_shift (unshifted name d x) kind n

-- V15: the tokens of VMOV, VMVN, VORR and VBIC by cm: the element, where the immediate stands in it, and by op one of two operations
-- (DDI0553, "VMOV (immediate) (vector)", "VMVN (immediate)", "VORR (immediate)" and "VBIC (immediate)")
abbrev pub constant_forms : ℕ → ℕ → ℕ → List (List Tok)
constant_forms op d x =
    shifted (constant_move_mnemonic op ++ codes ".i32") (codes "lsl") 0 d x
    ∷ shifted (constant_merge_mnemonic op ++ codes ".i32") (codes "lsl") 0 d x
    ∷ shifted (constant_move_mnemonic op ++ codes ".i32") (codes "lsl") 8 d x
    ∷ shifted (constant_merge_mnemonic op ++ codes ".i32") (codes "lsl") 8 d x
    ∷ shifted (constant_move_mnemonic op ++ codes ".i32") (codes "lsl") 16 d x
    ∷ shifted (constant_merge_mnemonic op ++ codes ".i32") (codes "lsl") 16 d x
    ∷ shifted (constant_move_mnemonic op ++ codes ".i32") (codes "lsl") 24 d x
    ∷ shifted (constant_merge_mnemonic op ++ codes ".i32") (codes "lsl") 24 d x
    ∷ shifted (constant_move_mnemonic op ++ codes ".i16") (codes "lsl") 0 d x
    ∷ shifted (constant_merge_mnemonic op ++ codes ".i16") (codes "lsl") 0 d x
    ∷ shifted (constant_move_mnemonic op ++ codes ".i16") (codes "lsl") 8 d x
    ∷ shifted (constant_merge_mnemonic op ++ codes ".i16") (codes "lsl") 8 d x
    ∷ shifted (constant_move_mnemonic op ++ codes ".i32") (codes "msl") 8 d x
    ∷ shifted (constant_move_mnemonic op ++ codes ".i32") (codes "msl") 16 d x
    ∷ unshifted (codes "vmov" ++ either op (codes ".i8") (codes ".i64")) d x
    ∷ []

-- V15: the tokens of VMOV, VMVN, VORR and VBIC with an immediate
-- (DDI0553, "VMOV (immediate) (vector)", "VMVN (immediate)", "VORR (immediate)" and "VBIC (immediate)")
abbrev pub constant_tokens : ConstantRow → List Tok
constant_tokens i = get_or (constant_forms i.op.value i.d.value (imm8 i.i.value i.i3.value i.i4.value)) i.cm.value []

-- V19: the tokens of VIDUP, VDDUP, VIWDUP and VDWDUP (DDI0553, "VIDUP, VIWDUP" and "VDDUP, VDWDUP")
abbrev pub offsets_tokens : OffsetsRow → List Tok
offsets_tokens (v19.Free i) = and_constant (two (offsets_mnemonic i.name ++ unsigned i.z.value) (q i.d.value) (r (2 * i.n.value))) (2 ^ i.k.value)
offsets_tokens (v19.Wrapped i) =
    and_constant (three (wrapped_mnemonic i.name ++ unsigned i.z.value) (q i.d.value) (r (2 * i.n.value)) (r (2 * i.r.value + 1))) (2 ^ i.k.value)

-- V20: the first word: VCMP, or VPT and the letters of its block, and the suffix (DDI0553, "VCMP (vector)" and "VPT")
abbrev pub compare_first_word : ℕ → ℕ → ℕ → List ℕ
compare_first_word k c z = compare_word k ++ (block_letters k ++ compare_suffix c z)

-- V20: the tokens of VCMP and VPT, with a vector or a core register behind the first vector (DDI0553, "VCMP (vector)" and "VPT")
abbrev pub compare_tokens : CompareRow → List Tok
compare_tokens (v20.Vectors i) = three (compare_first_word i.k.value i.c.value i.z.value) (word (compare_condition i.c.value)) (q i.n.value) (q i.m.value)
compare_tokens (v20.Scalar i) = three (compare_first_word i.k.value i.c.value i.z.value) (word (compare_condition i.c.value)) (q i.n.value) (or_zero i.m.value)

-- V21: the tokens of VPNOT, VPST with the letters of its block, VPSEL and VCTP (DDI0553, "VPST", "VPNOT", "VPSEL" and "VCTP")
abbrev pub predicate_tokens : PredicateRow → List Tok
predicate_tokens (v21.Block i) = word (block_mnemonic block_word i.k.value) ∷ []
predicate_tokens (v21.Select i) = three (codes "vpsel") (q i.d.value) (q i.n.value) (q i.m.value)
predicate_tokens (v21.Tail i) = word (codes "vctp" ++ element_suffix i.z.value) ∷ r i.n.value ∷ []

-- V22: the tokens of VADDV, VMLADAV, VADDLV and VMLALDAV, and of VADDVA, VMLADAVA, VADDLVA and VMLALDAVA, whose sum goes on from the old value
-- (DDI0553, "VADDV", "VMLADAV", "VADDLV" and "VMLALDAV")
abbrev pub sum_tokens : SumRow → List Tok
sum_tokens (v22.Sum i) = two (sum_mnemonic i.a.value ++ by_sign i.u.value i.z.value) (r (2 * i.l.value)) (q i.m.value)
sum_tokens (v22.Dot i) =
    three (dot_mnemonic i.a.value ++ by_sign i.u.value (size_number i.size)) (r (2 * i.l.value)) (q i.n.value) (q i.m.value)
sum_tokens (v22.LongSum i) =
    three (long_sum_mnemonic i.a.value ++ by_sign i.u.value 2) (r (2 * i.l.value)) (r (2 * i.h.value + 1)) (q i.m.value)
sum_tokens (v22.LongDot i) =
    four (long_dot_mnemonic i.a.value ++ by_sign i.u.value (i.s.value + 1)) (r (2 * i.l.value)) (r (2 * i.h.value + 1))
    (q i.n.value) (q i.m.value)

-- LOADS AND STORES
-- V26: the scale of the offsets of VLDRB, VLDRH, VLDRW, VSTRB, VSTRH and VSTRW, `,uxtw #y` where they are in elements of memory, and nothing where
-- they are in bytes
-- (DDI0553, "VLDRB, VLDRH, VLDRW, VLDRD (vector)" and "VSTRB, VSTRH, VSTRW, VSTRD (vector)")
abbrev pub scale : ℕ → ℕ → List Tok
scale o y = cond (nat_eq o 0) [] (comma ∷ word (codes "uxtw") ∷ constant y)

-- V26: the address of VLDRB, VLDRH, VLDRW, VSTRB, VSTRH and VSTRW that has a base and offsets in the vector m
-- (DDI0553, "VLDRB, VLDRH, VLDRW, VLDRD (vector)" and "VSTRB, VSTRH, VSTRW, VSTRD (vector)")
abbrev pub at_offsets : Tok → ℕ → ℕ → ℕ → List Tok
at_offsets base m o y = open_bracket ∷ base ∷ comma ∷ q m ∷ (scale o y ++ close_bracket ∷ [])

-- V24 to V27: the tokens of VLDRB, VLDRH, VLDRW, VSTRB, VSTRH and VSTRW: a register and an address
-- (DDI0553, "VLDRB, VLDRH, VLDRW", "VSTRB, VSTRH, VSTRW", "VLDRB, VLDRH, VLDRW, VLDRD (vector)" and "VSTRB, VSTRH, VSTRW, VSTRD (vector)")
abbrev pub access : List ℕ → ℕ → List Tok → List Tok
access name d address = word name ∷ q d ∷ comma ∷ address

-- V28: the registers of VLD20, VLD21, VST20 and VST21, `{qd,qe}`, and of VLD40, VLD41, VLD42, VLD43, VST40, VST41, VST42 and VST43, `{qd,qe,qf,qg}`,
-- where f is 1 (DDI0553, "VLD2", "VLD4", "VST2" and "VST4")
abbrev pub registers : ℕ → ℕ → List Tok
registers f d =
    cond (nat_eq f 0)
    (open_brace ∷ q d ∷ comma ∷ q (d + 1) ∷ close_brace ∷ [])
    (open_brace ∷ q d ∷ comma ∷ q (d + 1) ∷ comma ∷ q (d + 2) ∷ comma ∷ q (d + 3) ∷ close_brace ∷ [])

-- V28: the tokens of VLD20, VLD21, VLD40, VLD41, VLD42, VLD43, VST20, VST21, VST40, VST41, VST42 and VST43, with `!` where the base is written back
-- (DDI0553, "VLD2", "VLD4", "VST2" and "VST4")
abbrev pub interleaved_tokens : List ℕ → ℕ → ℕ → Tok → ℕ → List Tok
interleaved_tokens name f d base w = word name ∷ (registers f d ++ comma ∷ open_bracket ∷ base ∷ close_bracket ∷ back w)

-- the tokens of each row as it is printed; V17: VSHLC (DDI0553, "VSHLC"); V18: VDUP (DDI0553, "VDUP")
abbrev pub tokens_of : Vector → List Tok
tokens_of (V1 i) = three (add_mnemonic i.name ++ integer i.z.value) (q i.d.value) (q i.n.value) (q i.m.value)
tokens_of (V2 i) = three (bitwise_mnemonic i.name) (q i.d.value) (q i.n.value) (q i.m.value)
tokens_of (V3 i) = three (signed_mnemonic i.name ++ by_sign i.u.value i.z.value) (q i.d.value) (q i.n.value) (q i.m.value)
tokens_of (V4 i) = three (vector_shift_mnemonic i.name ++ by_sign i.u.value i.z.value) (q i.d.value) (q i.m.value) (q i.n.value)
tokens_of (V5 i) = three (doubling_mnemonic i.name ++ signed i.z.value) (q i.d.value) (q i.n.value) (q i.m.value)
tokens_of (V6 i) = three (long_product_mnemonic i.t.value ++ by_sign i.u.value i.z.value) (q i.d.value) (q i.n.value) (q i.m.value)
tokens_of (V7 i) = three (high_mnemonic i.name ++ by_sign i.u.value i.z.value) (q i.d.value) (q i.n.value) (q i.m.value)
tokens_of (V8 i) = three (carry_mnemonic i.name ++ codes ".i32") (q i.d.value) (q i.n.value) (q i.m.value)
tokens_of (V9 i) = and_constant (three (complex_sum_mnemonic i.name ++ complex_sum_suffix i.name i.z.value) (q i.d.value) (q i.n.value) (q i.m.value))
    (cond (nat_eq i.t.value 0) 90 270)
tokens_of (V10 i) = three (scalar_mnemonic i.name ++ scalar_suffix i.name i.u.value i.z.value) (q i.d.value) (q i.n.value) (r i.m.value)
tokens_of (V11 i) = shift_tokens i
tokens_of (V12 i) = long_tokens i
tokens_of (V13 i) = one_tokens i
tokens_of (V14 i) = two (reverse_mnemonic i.name ++ element_suffix i.z.value) (q i.d.value) (q i.m.value)
tokens_of (V15 i) = constant_tokens i
tokens_of (V16 i) = two (narrowing_mnemonic i.name i.t.value ++ narrowing_suffix i.name i.z.value) (q i.d.value) (q i.m.value)
tokens_of (V17 i) = and_constant (two (codes "vshlc") (q i.d.value) (r i.m.value)) (zero_as_32 i.k.value)
tokens_of (V18 i) = two (codes "vdup" ++ element_suffix (size_number i.size)) (q i.d.value) (r i.t.value)
tokens_of (V19 i) = offsets_tokens i
tokens_of (V20 i) = compare_tokens i
tokens_of (V21 i) = predicate_tokens i
tokens_of (V22 i) = sum_tokens i
tokens_of (V23 i) = two (extreme_mnemonic i.name ++ by_sign i.u.value i.z.value) (r i.t.value) (q i.m.value)
tokens_of (V24 i) =
    access (access_mnemonic i.l.value i.z.value ++ access_suffix i.l.value 1 i.z.value) i.d.value
    (indexed i.p.value i.a.value i.w.value (r i.n.value) (i.i.value * 2 ^ i.z.value))
tokens_of (V25 i) =
    access (access_mnemonic i.l.value i.h.value ++ access_suffix i.l.value i.u.value i.z.value) i.d.value
    (indexed i.p.value i.a.value i.w.value (r i.n.value) (i.i.value * 2 ^ i.h.value))
tokens_of (V26 i) =
    access (access_mnemonic i.l.value i.y.value ++ access_suffix i.l.value i.u.value i.z.value) i.d.value
    (at_offsets (r i.n.value) i.m.value i.o.value i.y.value)
tokens_of (V27 i) =
    access (access_mnemonic i.l.value 2 ++ access_suffix i.l.value 1 2) i.d.value (inside i.a.value i.w.value (q i.m.value) (4 * i.i.value))
tokens_of (V28 i) =
    interleaved_tokens (either i.f.value (pair_mnemonic i.l.value i.p.value) (quad_mnemonic i.l.value i.p.value) ++ element_suffix i.z.value) i.f.value
    i.d.value (r i.n.value) i.w.value

-- V2: the other text of VORR of a register with itself, VMOV (DDI0553, "VORR")
abbrev pub other_bitwise : BitwiseName → Bool → ℕ → ℕ → Option (List Tok)
other_bitwise bitwise.Orr same d m = if same then Some (two (codes "vmov") (q d) (q m)) else None
other_bitwise name same d m = None

-- V2 and V22: the other text that is read as a row: VMOV of a register as VORR, and VMLAV, VMLAVA as VMLADAV, VMLADAVA (DDI0553, "VORR" and "VMLADAV")
abbrev pub other_tokens : Vector → Option (List Tok)
other_tokens (V2 i) = other_bitwise i.name (nat_eq i.n.value i.m.value) i.d.value i.m.value
other_tokens (V22 (v22.Dot i)) =
    Some (three (other_dot_mnemonic i.a.value ++ by_sign i.u.value (size_number i.size)) (r (2 * i.l.value)) (q i.n.value) (q i.m.value))
other_tokens v = None

-- the tokens are one of the row's texts
abbrev pub HasTokens : Vector → List Tok → Type 0
HasTokens v ts = (tokens_of v ≡ ts) ⊎ (other_tokens v ≡ Some ts)

-- the text is one of the row's
abbrev pub IsTextOf : List ℕ → Vector → Type 0
IsTextOf text v = (ts : List Tok) × IsLineOf text ts × HasTokens v ts
