-- The forms of vector rows that give elements of a vector register, and merge a word of it on each beat.
use Rattle.std.specs.Prelude.{ℕ, zero, suc, ◌+◌, ◌-◌, ◌*◌, ◌/◌, ◌%◌, ◌^◌, Bool, true, false, not, ◌&&◌, ◌||◌, cond, eqb, nat_eq, List, [], ◌∷◌, map}
use Rattle.std.specs.Prelude.{reverse, Option, Some, None, ℤ, ◌+ℤ◌, ◌-ℤ◌}
use Rattle.hm_base.specs.declared.Place.{Place}
use Rattle.hm_base.specs.declared.Place.TheVariants.{R, Carry}
use Rattle.hm_isa.specs.declared.vectors.V6.{V6}
use Rattle.hm_isa.specs.declared.vectors.V8.{V8}
use Rattle.hm_isa.specs.declared.vectors.CarryName.{CarryName}
use Rattle.hm_isa.specs.declared.vectors.CarryName.TheVariants as carry
use Rattle.hm_isa.specs.declared.vectors.V9.{V9}
use Rattle.hm_isa.specs.declared.vectors.ComplexSumName.{ComplexSumName}
use Rattle.hm_isa.specs.declared.vectors.ComplexSumName.TheVariants as complex_sum
use Rattle.hm_isa.specs.declared.vectors.V14.{V14}
use Rattle.hm_isa.specs.declared.vectors.ReverseName.{ReverseName}
use Rattle.hm_isa.specs.declared.vectors.ReverseName.TheVariants as rev
use Rattle.hm_isa.specs.declared.vectors.V15.{V15}
use Rattle.hm_isa.specs.declared.vectors.V16.{V16}
use Rattle.hm_isa.specs.declared.vectors.NarrowingName.{NarrowingName}
use Rattle.hm_isa.specs.declared.vectors.NarrowingName.TheVariants as narrowing
use Rattle.hm_isa.specs.declared.vectors.V17.{V17}
use Rattle.hm_isa.specs.declared.vectors.OffsetsName.{OffsetsName}
use Rattle.hm_isa.specs.declared.vectors.OffsetsName.TheVariants as offsets
use Rattle.hm_isa.specs.declared.vectors.Select.{Select}
use Rattle.hm_isa.specs.Words.{zero_as_32}
use Rattle.hm_isa.specs.declared.fields.Below.{Below}
use Rattle.hm_lane.specs.declared.lanes.Size.{Size}
use Rattle.hm_lane.specs.declared.lanes.Size.TheVariants.{Byte, Half, Word}
use Rattle.hm_lane.specs.Lanes.{bytes_of, lanes, merged, paired, per_word, unlanes, word_of}
use Rattle.hm_lane.specs.Predicate.{first}
use Rattle.hm_beat.specs.Rows.{word_place}
use Rattle.hm_kinds.specs.Row.{Out, Row}
use Rattle.hm_lane_fns.specs.LaneFns.{clamped, cut, extended_lane, halved, is_outside, lane_of, lane_product, lane_saturates, lane_value, saturates}
use Rattle.hm_lane_fns.specs.Words.{any_both, lane_tests3, lanewise3, operand_of, operand_places, size_of, truths}
use Rattle.hm_forms_elements.specs.declared.lanes.Lanes.{Lanes}
use Rattle.hm_forms_elements.specs.declared.widening.Widening.{Widening}
use Rattle.hm_forms_elements.specs.declared.offsets.Steps.{Steps}
use Rattle.hm_forms_elements.specs.Constants.{constant_op, imm_word}

-- ROWS THAT MERGE A WORD
-- the new bytes of an active byte, and those of the old word elsewhere; the old word comes first
abbrev pub merged_word : List Bool → ℕ → List ℕ → ℕ
merged_word active new (old ∷ vs) = word_of (merged active (bytes_of old) (bytes_of new))
merged_word active new [] = 0

-- word b of vector register d takes f of the slice and of what was read
abbrev pub word_out : ℕ → ℕ → (ℕ → List ℕ → ℕ) → Out
word_out d b f = record { place = word_place d b; value = λ slice active vs. merged_word active (f slice vs) vs }

-- a row whose beat b merges into word b of vector register d what f makes of the slice, the old word and its sources
abbrev pub words_row : Bool → ℕ → (ℕ → List Place) → (ℕ → ℕ → List ℕ → ℕ) → Option (ℕ → List Bool → List ℕ → Bool) → Row
words_row always_slice d sources f mark = record {
  always_slice = always_slice;
  reads = λ b. word_place d b ∷ sources b;
  links = λ b. [];
  outs = λ b. word_out d b (f b) ∷ [];
  slice = None;
  mask = None;
  mark = mark;
}

-- LANES OF TWO OPERANDS AND OF THE OLD WORD
-- the new word of a row of lanes: its function, lane by lane, of the old word and of two operands
abbrev pub lanes_new : Lanes → List ℕ → ℕ
lanes_new l (old ∷ x ∷ ys) = word_of (lanewise3 l.z (lane_of l.f l.unsigned l.z) (bytes_of old) (bytes_of x) (bytes_of (operand_of l.z l.by ys)))
lanes_new l _ = 0

-- whether an active lane of a word saturates
abbrev pub lanes_mark : Lanes → List Bool → List ℕ → Bool
lanes_mark l active (old ∷ x ∷ ys) =
    any_both active (lane_tests3 l.z (lane_saturates l.f l.unsigned l.z) (bytes_of old) (bytes_of x) (bytes_of (operand_of l.z l.by ys)))
lanes_mark l active _ = false

-- a row of lanes: on each beat a word is merged, and QC is set where its function can saturate and an active lane does
abbrev pub lanes_row : Lanes → Row
lanes_row l = words_row false l.d.value (λ b. word_place l.n.value b ∷ operand_places l.by b) (λ b slice. lanes_new l)
    (cond (saturates l.f) (Some (λ b. lanes_mark l)) None)

-- A CONSTANT
-- V15: the new word b of VMOV, VMVN, VORR or VBIC, by the old word
-- (DDI0553, "VMOV (immediate) (vector)", "VMVN (immediate)", "VORR (immediate)" and "VBIC (immediate)")
abbrev pub constant_new : V15 → ℕ → List ℕ → ℕ
constant_new r b (old ∷ vs) = constant_op r old (imm_word r b)
constant_new r b [] = 0

-- V15: VMOV, VMVN, VORR and VBIC with a constant, beat by beat
-- (DDI0553, "VMOV (immediate) (vector)", "VMVN (immediate)", "VORR (immediate)" and "VBIC (immediate)")
abbrev pub constant_row : V15 → Row
constant_row r = words_row false r.d.value (λ b. []) (λ b slice. constant_new r b) None

-- NARROW ELEMENTS
-- V16: whether an instruction saturates: VQMOVNB, VQMOVNT, VQMOVUNB and VQMOVUNT do, and VMOVNB and VMOVNT do not
-- (DDI0553, "VMOVN", "VQMOVN" and "VQMOVUN")
abbrev pub narrowing_saturates : NarrowingName → Bool
narrowing_saturates narrowing.Plain = false
narrowing_saturates n = true

-- V16: whether the wide elements are unsigned: those of VQMOVNB and VQMOVNT of unsigned elements, and of no VMOVNB, VMOVNT, VQMOVUNB or VQMOVUNT
-- (DDI0553, "VMOVN", "VQMOVN" and "VQMOVUN")
abbrev pub takes_unsigned : NarrowingName → Bool
takes_unsigned narrowing.Unsigned = true
takes_unsigned n = false

-- V16: whether the narrow elements are unsigned: those of VQMOVUNB and VQMOVUNT, and of VQMOVNB and VQMOVNT of unsigned elements, and of no
-- VMOVNB or VMOVNT (DDI0553, "VMOVN", "VQMOVN" and "VQMOVUN")
abbrev pub gives_unsigned : NarrowingName → Bool
gives_unsigned narrowing.Unsigned = true
gives_unsigned narrowing.ToUnsigned = true
gives_unsigned n = false

-- V16: the narrow element of a wide one that VMOVNB and VMOVNT give, or that VQMOVNB, VQMOVNT, VQMOVUNB and VQMOVUNT give, brought into its range
-- (DDI0553, "VMOVN", "VQMOVN" and "VQMOVUN")
abbrev pub narrowed : NarrowingName → Size → Size → ℕ → ℕ
narrowed f wide small x =
    let v = lane_value (takes_unsigned f) wide x in
    cut small (cond (narrowing_saturates f) (clamped (gives_unsigned f) small v) v)

-- V16: whether a wide element of VMOVNB, VMOVNT, VQMOVNB, VQMOVNT, VQMOVUNB or VQMOVUNT is outside the range of the narrow one
-- (DDI0553, "VMOVN", "VQMOVN" and "VQMOVUN")
abbrev pub narrowing_outside : NarrowingName → Size → Size → ℕ → Bool
narrowing_outside f wide small x = is_outside (gives_unsigned f) small (lane_value (takes_unsigned f) wide x)

-- V16: narrow elements in the lower part of the wide ones' places by VMOVNB, VQMOVNB and VQMOVUNB, in the upper by VMOVNT, VQMOVNT and VQMOVUNT:
-- of two halves or of the whole of an operand's four bytes (DDI0553, "VMOVN", "VQMOVN" and "VQMOVUN")
abbrev pub narrowing_bytes : Bool → Bool → NarrowingName → List ℕ → List ℕ → List ℕ
narrowing_bytes false false f (a ∷ b ∷ c ∷ d ∷ l) (p ∷ q ∷ r ∷ s ∷ v) = narrowed f Half Byte (p + 256 * q) ∷ b ∷ narrowed f Half Byte (r + 256 * s) ∷ d ∷ []
narrowing_bytes false true f (a ∷ b ∷ c ∷ d ∷ l) (p ∷ q ∷ r ∷ s ∷ v) = a ∷ narrowed f Half Byte (p + 256 * q) ∷ c ∷ narrowed f Half Byte (r + 256 * s) ∷ []
narrowing_bytes true false f (a ∷ b ∷ c ∷ d ∷ l) (p ∷ q ∷ r ∷ s ∷ v) =
    let n = narrowed f Word Half (p + 256 * q + 65536 * r + 16777216 * s) in n % 256 ∷ n / 256 ∷ c ∷ d ∷ []
narrowing_bytes true true f (a ∷ b ∷ c ∷ d ∷ l) (p ∷ q ∷ r ∷ s ∷ v) =
    let n = narrowed f Word Half (p + 256 * q + 65536 * r + 16777216 * s) in a ∷ b ∷ n % 256 ∷ n / 256 ∷ []
narrowing_bytes z t f _ _ = []

-- V16: where wide elements of VMOVNB, VMOVNT, VQMOVNB, VQMOVNT, VQMOVUNB or VQMOVUNT are outside the range of the narrow ones,
-- at the lowest byte of each narrow one
-- (DDI0553, "VMOVN", "VQMOVN" and "VQMOVUN")
abbrev pub narrowing_tests : Bool → Bool → NarrowingName → List ℕ → List Bool
narrowing_tests false false f (p ∷ q ∷ r ∷ s ∷ v) =
    narrowing_outside f Half Byte (p + 256 * q) ∷ false ∷ narrowing_outside f Half Byte (r + 256 * s) ∷ false ∷ []
narrowing_tests false true f (p ∷ q ∷ r ∷ s ∷ v) =
    false ∷ narrowing_outside f Half Byte (p + 256 * q) ∷ false ∷ narrowing_outside f Half Byte (r + 256 * s) ∷ []
narrowing_tests true false f (p ∷ q ∷ r ∷ s ∷ v) = narrowing_outside f Word Half (p + 256 * q + 65536 * r + 16777216 * s) ∷ false ∷ false ∷ false ∷ []
narrowing_tests true true f (p ∷ q ∷ r ∷ s ∷ v) = false ∷ false ∷ narrowing_outside f Word Half (p + 256 * q + 65536 * r + 16777216 * s) ∷ false ∷ []
narrowing_tests z t f _ = []

-- V16: the new word of VMOVNB, VMOVNT, VQMOVNB, VQMOVNT, VQMOVUNB or VQMOVUNT, by the old word and that of the operand
-- (DDI0553, "VMOVN", "VQMOVN" and "VQMOVUN")
abbrev pub narrowing_new : V16 → List ℕ → ℕ
narrowing_new r (old ∷ x ∷ vs) = word_of (narrowing_bytes (nat_eq r.z.value 1) (nat_eq r.t.value 1) r.name (bytes_of old) (bytes_of x))
narrowing_new r _ = 0

-- V16: whether VQMOVNB, VQMOVNT, VQMOVUNB or VQMOVUNT sets QC: whether an active narrow element of a word saturates
-- (DDI0553, "VQMOVN" and "VQMOVUN")
abbrev pub narrowing_mark : V16 → List Bool → List ℕ → Bool
narrowing_mark r active (old ∷ x ∷ vs) = any_both active (narrowing_tests (nat_eq r.z.value 1) (nat_eq r.t.value 1) r.name (bytes_of x))
narrowing_mark r active _ = false

-- V16: VMOVNB, VMOVNT, VQMOVNB, VQMOVNT, VQMOVUNB and VQMOVUNT, beat by beat (DDI0553, "VMOVN", "VQMOVN" and "VQMOVUN")
abbrev pub narrowing_row : V16 → Row
narrowing_row r = words_row false r.d.value (λ b. word_place r.m.value b ∷ []) (λ b slice. narrowing_new r)
    (cond (narrowing_saturates r.name) (Some (λ b. narrowing_mark r)) None)

-- A CARRY FROM WORD TO WORD
-- V8: whether an instruction subtracts: VSBC and VSBCI do, and VADC and VADCI do not (DDI0553, "VADC" and "VSBC")
abbrev pub subtracts : CarryName → Bool
subtracts carry.Sbc = true
subtracts carry.Sbci = true
subtracts name = false

-- V8: whether the first word begins with a carry of its own: that of VADCI and VSBCI does, and that of VADC and VSBC does not
-- (DDI0553, "VADC" and "VSBC")
abbrev pub begins : CarryName → Bool
begins carry.Adci = true
begins carry.Sbci = true
begins name = false

-- V8: the place of the carry of VADC, VADCI, VSBC and VSBCI, which holds N, Z, C, V from bit 3 down; beat 0 of VADCI and VSBCI does not read it
-- (DDI0553, "VADC" and "VSBC")
abbrev pub carry_places : CarryName → ℕ → List Place
carry_places name b = cond (begins name && eqb b 0) [] (Carry ∷ [])

-- V8: the flags before a word of VADC, VADCI, VSBC or VSBCI is added: those that were read, or else those that VADCI or VSBCI begins with
-- (DDI0553, "VADC" and "VSBC")
abbrev pub flags_before : CarryName → List ℕ → ℕ
flags_before name [] = cond (subtracts name) 2 0
flags_before name (flags ∷ vs) = flags

-- V8: the sum of two words and the carry, in 33 bits, by VADC and VADCI; VSBC and VSBCI invert the second word (DDI0553, "VADC" and "VSBC")
abbrev pub carry_sum : CarryName → List ℕ → ℕ
carry_sum name (old ∷ x ∷ y ∷ flags) = x + cond (subtracts name) (0xffffffff - y) y + flags_before name flags / 2 % 2
carry_sum name _ = 0

-- V8: the new word of VADC, VADCI, VSBC or VSBCI: the sum modulo 2^32 (DDI0553, "VADC" and "VSBC")
abbrev pub carry_new : CarryName → List ℕ → ℕ
carry_new name vs = carry_sum name vs % 2 ^ 32

-- V8: the flags after a word of VADC, VADCI, VSBC or VSBCI: an active one leaves its carry, and an inactive one the flags before it
-- (DDI0553, "VADC" and "VSBC")
abbrev pub carry_flags : CarryName → List Bool → List ℕ → ℕ
carry_flags name active (old ∷ x ∷ y ∷ flags) = cond (first active) (2 * (carry_sum name (old ∷ x ∷ y ∷ flags) / 2 ^ 32)) (flags_before name flags)
carry_flags name active _ = 0

-- V8: VADC, VADCI, VSBC and VSBCI, beat by beat (DDI0553, "VADC" and "VSBC")
abbrev pub carry_row : V8 → Row
carry_row r = record {
  always_slice = false;
  reads = λ b. word_place r.d.value b ∷ word_place r.n.value b ∷ word_place r.m.value b ∷ carry_places r.name b;
  links = λ b. record { place = Carry; value = λ slice. carry_flags r.name } ∷ [];
  outs = λ b. word_out r.d.value b (λ slice. carry_new r.name) ∷ [];
  slice = None;
  mask = None;
  mark = None;
}

-- A REGISTER SHIFTED THROUGH THE WORDS
-- V17: by how many bits VSHLC shifts, 32 coded 0 (DDI0553, "VSHLC")
abbrev pub shift_of : V17 → ℕ
shift_of r = zero_as_32 r.k.value

-- V17: the new word of VSHLC: the old one shifted to the left, with bits of the core register let in below (DDI0553, "VSHLC")
abbrev pub shift_new : V17 → List ℕ → ℕ
shift_new r (c ∷ m ∷ vs) = c * 2 ^ shift_of r % 2 ^ 32 + m % 2 ^ shift_of r
shift_new r _ = 0

-- V17: what VSHLC leaves in the core register: the bits that an active word lets out, or what stood there (DDI0553, "VSHLC")
abbrev pub shift_next : V17 → List Bool → List ℕ → ℕ
shift_next r active (c ∷ m ∷ vs) = cond (first active) (c / 2 ^ (32 - shift_of r)) m
shift_next r active _ = 0

-- V17: VSHLC, beat by beat (DDI0553, "VSHLC")
abbrev pub shift_row : V17 → Row
shift_row r = record {
  always_slice = false;
  reads = λ b. word_place r.d.value b ∷ R r.m.value ∷ [];
  links = λ b. record { place = R r.m.value; value = λ slice. shift_next r } ∷ [];
  outs = λ b. word_out r.d.value b (λ slice. shift_new r) ∷ [];
  slice = None;
  mask = None;
  mark = None;
}

-- OFFSETS
-- V19: the register at which the offsets of VIWDUP and VDWDUP go round, where there is one (DDI0553, "VIDUP, VIWDUP" and "VDDUP, VDWDUP")
abbrev pub round_places : Option (Below 6) → List Place
round_places None = []
round_places (Some r) = R (2 * r.value + 1) ∷ []

-- V19: the number at which the offsets of VIWDUP and VDWDUP go round, where it was read (DDI0553, "VIDUP, VIWDUP" and "VDDUP, VDWDUP")
abbrev pub round_of : List ℕ → Option ℕ
round_of [] = None
round_of (m ∷ vs) = Some m

-- V19: the next offset: a step on for VIDUP and VIWDUP, back for VDDUP and VDWDUP; where offsets go round, VIWDUP takes 0 in place of the number
-- at which they do, and VDWDUP steps back from that number where it stands at 0 (DDI0553, "VIDUP, VIWDUP" and "VDDUP, VDWDUP")
abbrev pub stepped : OffsetsName → ℕ → Option ℕ → ℕ → ℕ
stepped offsets.Up step None o = (o + step) % 2 ^ 32
stepped offsets.Up step (Some m) o = let x = (o + step) % 2 ^ 32 in cond (eqb x m) 0 x
stepped offsets.Down step None o = (o + (2 ^ 32 - step)) % 2 ^ 32
stepped offsets.Down step (Some m) o = (cond (eqb o 0) m o + (2 ^ 32 - step)) % 2 ^ 32

-- V19: the next offset of VIDUP, VIWDUP, VDDUP or VDWDUP, a step of 2 to the power k on or back (DDI0553, "VIDUP, VIWDUP" and "VDDUP, VDWDUP")
abbrev pub next_offset : Steps → Option ℕ → ℕ → ℕ
next_offset r m o = stepped r.name (2 ^ r.k.value) m o

-- V19: the offset of VIDUP, VIWDUP, VDDUP or VDWDUP after n steps (DDI0553, "VIDUP, VIWDUP" and "VDDUP, VDWDUP")
abbrev pub offset_after : Steps → Option ℕ → ℕ → ℕ → ℕ
offset_after r m zero o = o
offset_after r m (suc n) o = next_offset r m (offset_after r m n o)

-- V19: n offsets of VIDUP, VIWDUP, VDDUP or VDWDUP from one on (DDI0553, "VIDUP, VIWDUP" and "VDDUP, VDWDUP")
abbrev pub offsets_from : Steps → Option ℕ → ℕ → ℕ → List ℕ
offsets_from r m zero o = []
offsets_from r m (suc n) o = o ∷ offsets_from r m n (next_offset r m o)

-- V19: the new word b of VIDUP, VIWDUP, VDDUP or VDWDUP: the offsets of its elements (DDI0553, "VIDUP, VIWDUP" and "VDDUP, VDWDUP")
abbrev pub offsets_new : Steps → ℕ → List ℕ → ℕ
offsets_new r b (old ∷ o ∷ ms) =
    let m = round_of ms in
    word_of (unlanes r.z (offsets_from r m (per_word r.z) (offset_after r m (per_word r.z * b) o)))
offsets_new r b _ = 0

-- V19: the offset of VIDUP, VIWDUP, VDDUP or VDWDUP after all elements of a vector register, which goes back to the core register
-- (DDI0553, "VIDUP, VIWDUP" and "VDDUP, VDWDUP")
abbrev pub offsets_last : Steps → List ℕ → ℕ
offsets_last r (old ∷ o ∷ ms) = offset_after r (round_of ms) (4 * per_word r.z) o
offsets_last r _ = 0

-- V19: VIDUP, VIWDUP, VDDUP and VDWDUP, beat by beat (DDI0553, "VIDUP, VIWDUP" and "VDDUP, VDWDUP")
abbrev pub offsets_row : Steps → Row
offsets_row r = record {
  always_slice = false;
  reads = λ b. word_place r.d.value b ∷ R (2 * r.n.value) ∷ round_places r.round;
  links = λ b. [];
  outs = λ b. word_out r.d.value b (λ slice. offsets_new r b)
      ∷ cond (eqb b 3) (record { place = R (2 * r.n.value); value = λ slice active. offsets_last r } ∷ []) [];
  slice = None;
  mask = None;
  mark = None;
}

-- A CHOICE
-- V21: the new word of VPSEL: the bytes of Qn where P0 has a bit, and those of Qm elsewhere (DDI0553, "VPSEL")
abbrev pub select_new : ℕ → List ℕ → ℕ
select_new slice (old ∷ x ∷ y ∷ vs) = word_of (merged (truths slice) (bytes_of y) (bytes_of x))
select_new slice _ = 0

-- V21: VPSEL, beat by beat (DDI0553, "VPSEL")
abbrev pub select_row : Select → Row
select_row r = words_row true r.d.value (λ b. word_place r.n.value b ∷ word_place r.m.value b ∷ []) (λ b. select_new) None

-- LONG PRODUCTS
-- V6: the word of a register that elements of beat b of VMULLB or VMULLT stand in; both words of a product of 64 bits come of one
-- (DDI0553, "VMULL (integer)")
abbrev pub long_product_at : V6 → ℕ → ℕ
long_product_at r b = cond (nat_eq r.z.value 2) (2 * (b / 2) + r.t.value) b

-- V6: the product of two lanes, for VMULLB and VMULLT (DDI0553, "VMULL (integer)")
abbrev pub product : V6 → ℕ → ℕ → ℕ
product r x y = lane_product (nat_eq r.u.value 1) (size_of r.z.value) x y

-- those with even numbers, or those with odd ones
abbrev pub every_second : Bool → List ℕ → List ℕ
every_second odd (x ∷ y ∷ l) = cond odd y x ∷ every_second odd l
every_second odd _ = []

-- V6: products of half as many lanes, each in two lanes' place: of the even ones for VMULLB, of the odd ones for VMULLT (DDI0553, "VMULL (integer)")
abbrev pub products : V6 → Size → Size → ℕ → ℕ → ℕ
products r z wide x y =
    let odd = nat_eq r.t.value 1 in
    word_of (unlanes wide (paired (product r) (every_second odd (lanes z (bytes_of x))) (every_second odd (lanes z (bytes_of y)))))

-- V6: word b of the products of VMULLB or VMULLT; of a product of 64 bits an even beat takes the low half, an odd one the high half
-- (DDI0553, "VMULL (integer)")
abbrev pub long_product_word : V6 → Size → ℕ → ℕ → ℕ → ℕ
long_product_word r Byte b x y = products r Byte Half x y
long_product_word r Half b x y = products r Half Word x y
long_product_word r Word b x y = cond (eqb (b % 2) 0) (product r x y % 2 ^ 32) (product r x y / 2 ^ 32)

-- V6: the new word b of VMULLB or VMULLT, by words of both operands (DDI0553, "VMULL (integer)")
abbrev pub long_product_new : V6 → ℕ → List ℕ → ℕ
long_product_new r b (old ∷ x ∷ y ∷ vs) = long_product_word r (size_of r.z.value) b x y
long_product_new r b _ = 0

-- V6: VMULLB and VMULLT, beat by beat (DDI0553, "VMULL (integer)")
abbrev pub long_product_row : V6 → Row
long_product_row r = words_row false r.d.value (λ b. word_place r.n.value (long_product_at r b) ∷ word_place r.m.value (long_product_at r b) ∷ [])
    (λ b slice. long_product_new r b) None

-- NEIGHBOURS
-- the other word of a pair
abbrev pub other_word : ℕ → ℕ
other_word b = cond (eqb (b % 2) 0) (b + 1) (b - 1)

-- V9: the word of the second operand that beat b of VCADD or VHCADD takes: the other one of its pair where elements are words, and else word b
-- (DDI0553, "VCADD" and "VHCADD")
abbrev pub complex_sum_at : V9 → ℕ → ℕ
complex_sum_at r b = cond (nat_eq r.z.value 2) (other_word b) b

-- each two neighbours exchanged
abbrev pub exchanged : List ℕ → List ℕ
exchanged (x ∷ y ∷ l) = y ∷ x ∷ exchanged l
exchanged l = l

-- f of the elements of two lists, whose first argument says of every second one that it is even
abbrev pub in_turn : (Bool → ℕ → ℕ → ℕ) → Bool → List ℕ → List ℕ → List ℕ
in_turn f even (x ∷ xs) (y ∷ ys) = f even x y ∷ in_turn f (not even) xs ys
in_turn f even _ _ = []

-- V9: whether results are halved: those of VHCADD are, and those of VCADD are not (DDI0553, "VCADD" and "VHCADD")
abbrev pub halves : ComplexSumName → Bool
halves complex_sum.Cadd = false
halves complex_sum.Hcadd = true

-- V9: whether by VCADD and VHCADD its neighbour is taken from an element and not added: from even ones for 90, from odd ones for 270
-- (DDI0553, "VCADD" and "VHCADD")
abbrev pub takes_away : V9 → Bool → Bool
takes_away r even = cond (nat_eq r.t.value 0) even (not even)

-- V9: a sum or a difference of two numbers, as it is for VCADD, halved for VHCADD (DDI0553, "VCADD" and "VHCADD")
abbrev pub combined : Bool → Bool → ℤ → ℤ → ℤ
combined minus half a b = let v = cond minus (a -ℤ b) (a +ℤ b) in cond half (halved v) v

-- V9: the new element of VCADD or VHCADD, of an even number or an odd one, by its own and its neighbour of the second operand (DDI0553, "VCADD" and "VHCADD")
abbrev pub complex_sum_lane : V9 → Size → Bool → ℕ → ℕ → ℕ
complex_sum_lane r z even x y = cut z (combined (takes_away r even) (halves r.name) (lane_value false z x) (lane_value false z y))

-- V9: whether the number of the first element of word b of VCADD or VHCADD is even (DDI0553, "VCADD" and "VHCADD")
abbrev pub begins_even : V9 → ℕ → Bool
begins_even r b = not (nat_eq r.z.value 2) || eqb (b % 2) 0

-- V9: the new word of VCADD or VHCADD, by words of both operands and whether its first element has an even number (DDI0553, "VCADD" and "VHCADD")
abbrev pub complex_sum_word : V9 → Size → Bool → ℕ → ℕ → ℕ
complex_sum_word r z even x y = word_of (unlanes z (in_turn (complex_sum_lane r z) even (lanes z (bytes_of x)) (exchanged (lanes z (bytes_of y)))))

-- V9: the new word b of VCADD or VHCADD, by what was read (DDI0553, "VCADD" and "VHCADD")
abbrev pub complex_sum_new : V9 → ℕ → List ℕ → ℕ
complex_sum_new r b (old ∷ x ∷ y ∷ vs) = complex_sum_word r (size_of r.z.value) (begins_even r b) x y
complex_sum_new r b _ = 0

-- V9: VCADD and VHCADD, beat by beat (DDI0553, "VCADD" and "VHCADD")
abbrev pub complex_sum_row : V9 → Row
complex_sum_row r = words_row false r.d.value (λ b. word_place r.n.value b ∷ word_place r.m.value (complex_sum_at r b) ∷ []) (λ b slice. complex_sum_new r b)
    None

-- ELEMENTS IN REVERSE
-- V14: the word that beat b of VREV64, VREV32 or VREV16 is made of: VREV64 exchanges the two words of 64 bits (DDI0553, "VREV64", "VREV32" and "VREV16")
abbrev pub reversed_at : ReverseName → ℕ → ℕ
reversed_at rev.Rev64 b = other_word b
reversed_at name b = b

-- V14: the elements of a word in reverse, by VREV64 and VREV32; VREV16 exchanges the bytes of each pair (DDI0553, "VREV64", "VREV32" and "VREV16")
abbrev pub reversed_word : ReverseName → Size → ℕ → ℕ
reversed_word rev.Rev16 z x = word_of (exchanged (bytes_of x))
reversed_word name z x = word_of (unlanes z (reverse (lanes z (bytes_of x))))

-- V14: the new word of VREV64, VREV32 or VREV16, by what was read (DDI0553, "VREV64", "VREV32" and "VREV16")
abbrev pub reversed_new : V14 → List ℕ → ℕ
reversed_new r (old ∷ x ∷ vs) = reversed_word r.name (size_of r.z.value) x
reversed_new r _ = 0

-- V14: VREV64, VREV32 and VREV16, beat by beat (DDI0553, "VREV64", "VREV32" and "VREV16")
abbrev pub reversed_row : V14 → Row
reversed_row r = words_row false r.d.value (λ b. word_place r.m.value (reversed_at r.name b) ∷ []) (λ b slice. reversed_new r) None

-- LANES WIDENED
-- V12: a lane of VSHLLB, VSHLLT, VMOVLB or VMOVLT extended and shifted, which is times a factor (DDI0553, "VSHLL" and "VMOVL")
abbrev pub widened : Widening → Size → ℕ → ℕ
widened r z x = extended_lane r.unsigned z x * r.factor % 2 ^ 64

-- V12: the even lanes of a word widened by VSHLLB and VMOVLB, the odd ones by VSHLLT and VMOVLT, in lanes of twice their size (DDI0553, "VSHLL" and "VMOVL")
abbrev pub long_lanes : Widening → Size → Size → ℕ → ℕ
long_lanes r z wide x = word_of (unlanes wide (map (widened r z) (every_second r.odd (lanes z (bytes_of x)))))

-- V12: the new word of VSHLLB, VSHLLT, VMOVLB or VMOVLT, by that of the operand, whose lanes are halfwords or bytes (DDI0553, "VSHLL" and "VMOVL")
abbrev pub widening_word : Widening → ℕ → ℕ
widening_word r x = cond r.halves (long_lanes r Half Word x) (long_lanes r Byte Half x)

-- V12: the new word of VSHLLB, VSHLLT, VMOVLB or VMOVLT, by what was read (DDI0553, "VSHLL" and "VMOVL")
abbrev pub widening_new : Widening → List ℕ → ℕ
widening_new r (old ∷ x ∷ vs) = widening_word r x
widening_new r _ = 0

-- V12: VSHLLB, VSHLLT, VMOVLB and VMOVLT, beat by beat (DDI0553, "VSHLL" and "VMOVL")
abbrev pub widening_row : Widening → Row
widening_row r = words_row false r.d.value (λ b. word_place r.m.value b ∷ []) (λ b slice. widening_new r) None
