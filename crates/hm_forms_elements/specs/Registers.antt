-- What forms that give elements of a vector register do to whole registers, as lists of elements in rising order.
use Rattle.std.specs.Prelude.{ℕ, ◌+◌, ◌-◌, ◌*◌, ◌/◌, ◌%◌, ◌^◌, Bool, true, false, ◌&&◌, cond, List, [], ◌∷◌, ◌++◌, map, nat_eq, Option, Some, None}
use Rattle.std.specs.List.{flat_map}
use Rattle.hm_base.specs.declared.Place.TheVariants.{R, P0, Carry}
use Rattle.hm_isa.specs.declared.vectors.V6.{V6}
use Rattle.hm_isa.specs.declared.vectors.V8.{V8}
use Rattle.hm_isa.specs.declared.vectors.CarryName.{CarryName}
use Rattle.hm_isa.specs.declared.vectors.V9.{V9}
use Rattle.hm_isa.specs.declared.vectors.V14.{V14}
use Rattle.hm_isa.specs.declared.vectors.V15.{V15}
use Rattle.hm_isa.specs.declared.vectors.V16.{V16}
use Rattle.hm_isa.specs.declared.vectors.V17.{V17}
use Rattle.hm_isa.specs.declared.vectors.Select.{Select}
use Rattle.hm_isa.specs.declared.vectors.ReverseName.{ReverseName}
use Rattle.hm_isa.specs.declared.vectors.ReverseName.TheVariants as rev
use Rattle.hm_lane.specs.declared.lanes.Size.{Size}
use Rattle.hm_lane.specs.declared.lanes.Size.TheVariants.{Byte, Half, Word}
use Rattle.hm_lane.specs.Lanes.{bytes_of, firsts, merged, paired, per_word, spread, unlanes}
use Rattle.hm_regs.specs.Writes.{write}
use Rattle.hm_state.specs.State.{Cell, State, Value, at, into}
use Rattle.hm_beat.specs.Rows.{predicate_at, register_at, word_place}
use Rattle.hm_lane_fns.specs.LaneFns.{lane_of, lane_saturates, saturates}
use Rattle.hm_lane_fns.specs.Registers.{elements, merges, merges_under, operand_register, saturating}
use Rattle.hm_lane_fns.specs.Words.{any_both, lane_tests3, lanewise3, size_of, truths}
use Rattle.hm_forms_elements.specs.declared.lanes.Lanes.{Lanes}
use Rattle.hm_forms_elements.specs.declared.widening.Widening.{Widening}
use Rattle.hm_forms_elements.specs.declared.offsets.Steps.{Steps}
use Rattle.hm_isa.specs.declared.fields.Below.{Below}
use Rattle.hm_forms_elements.specs.Constants.{constant_op, imm_word}
use Rattle.hm_forms_elements.specs.Forms.{begins, every_second, exchanged, in_turn, widened, narrowing_outside, narrowing_saturates, narrowed, offset_after}
use Rattle.hm_forms_elements.specs.Forms.{offsets_from, product, shift_of, subtracts, complex_sum_lane}

-- the four words of a register, the lowest first
abbrev pub words_at : ℕ → State → List ℕ
words_at q s = at (word_place q 0) s ∷ at (word_place q 1) s ∷ at (word_place q 2) s ∷ at (word_place q 3) s ∷ []

-- LANES
-- the 16 new bytes of a row of lanes, lane by lane
abbrev pub lanes_result : Lanes → State → List ℕ
lanes_result l s = lanewise3 l.z (lane_of l.f l.unsigned l.z) (register_at l.d.value s) (register_at l.n.value s) (operand_register l.z l.by s)

-- where lanes saturate, at the lowest byte of each
abbrev pub lanes_saturated : Lanes → State → List Bool
lanes_saturated l s = lane_tests3 l.z (lane_saturates l.f l.unsigned l.z) (register_at l.d.value s) (register_at l.n.value s) (operand_register l.z l.by s)

-- a row of lanes: the 16 bytes are merged, and QC is set where an active lane saturates
abbrev pub lanes_whole : Lanes → State → State
lanes_whole l s = saturating (saturates l.f && any_both (predicate_at s) (lanes_saturated l s)) (merges l.d.value (lanes_result l s) s) s

-- CONSTANTS, CHOICES, NARROW ELEMENTS
-- V15: a constant of four words takes the register's place by VMOV and VMVN, its bits are set there by VORR, or cleared by VBIC
-- (DDI0553, "VMOV (immediate) (vector)", "VMVN (immediate)", "VORR (immediate)" and "VBIC (immediate)")
abbrev pub constant_result : V15 → State → List ℕ
constant_result r s = unlanes Word (paired (constant_op r) (words_at r.d.value s) (map (imm_word r) (0 ∷ 1 ∷ 2 ∷ 3 ∷ [])))

-- V21: the 16 new bytes of VPSEL: those of one register where P0 has a bit, and those of the other elsewhere (DDI0553, "VPSEL")
abbrev pub select_result : Select → State → List ℕ
select_result r s = merged (truths (at (P0 0) s) ++ truths (at (P0 1) s) ++ truths (at (P0 2) s) ++ truths (at (P0 3) s)) (register_at r.m.value s)
    (register_at r.n.value s)

-- new elements in the even places or in the odd ones, beside the old ones that stand in the others
abbrev pub placed : Bool → List ℕ → List ℕ → List ℕ
placed odd (a ∷ b ∷ l) (x ∷ xs) = cond odd a x ∷ cond odd x b ∷ placed odd l xs
placed odd _ _ = []

-- tests in the even places or in the odd ones, and false in the others
abbrev pub placed_tests : Bool → List Bool → List Bool
placed_tests odd (t ∷ ts) = cond odd false t ∷ cond odd t false ∷ placed_tests odd ts
placed_tests odd [] = []

-- V16: the wide elements of the operand, each narrowed to one of half the size, in the even places by VMOVNB, VQMOVNB and VQMOVUNB,
-- or in the odd ones by VMOVNT, VQMOVNT and VQMOVUNT (DDI0553, "VMOVN", "VQMOVN" and "VQMOVUN")
abbrev pub narrowed_result : V16 → Size → Size → State → List ℕ
narrowed_result r wide small s =
    unlanes small (placed (nat_eq r.t.value 1) (elements small r.d.value s) (map (narrowed r.name wide small) (elements wide r.m.value s)))

-- V16: the 16 new bytes of VMOVNB, VMOVNT, VQMOVNB, VQMOVNT, VQMOVUNB and VQMOVUNT (DDI0553, "VMOVN", "VQMOVN" and "VQMOVUN")
abbrev pub narrowing_result : V16 → State → List ℕ
narrowing_result r s = cond (nat_eq r.z.value 1) (narrowed_result r Word Half s) (narrowed_result r Half Byte s)

-- V16: where wide elements of the operand of VMOVNB, VMOVNT, VQMOVNB, VQMOVNT, VQMOVUNB or VQMOVUNT are outside the range of narrow ones,
-- at the lowest byte of each narrow one
-- (DDI0553, "VMOVN", "VQMOVN" and "VQMOVUN")
abbrev pub narrowed_tests : V16 → Size → Size → State → List Bool
narrowed_tests r wide small s = spread small (placed_tests (nat_eq r.t.value 1) (map (narrowing_outside r.name wide small) (elements wide r.m.value s)))

-- V16: where wide elements of VMOVNB, VMOVNT, VQMOVNB, VQMOVNT, VQMOVUNB or VQMOVUNT, of the size that the row says, are outside the
-- range of narrow ones
-- (DDI0553, "VMOVN", "VQMOVN" and "VQMOVUN")
abbrev pub narrowing_saturated : V16 → State → List Bool
narrowing_saturated r s = cond (nat_eq r.z.value 1) (narrowed_tests r Word Half s) (narrowed_tests r Half Byte s)

-- V16: VMOVNB, VMOVNT, VQMOVNB, VQMOVNT, VQMOVUNB and VQMOVUNT as a whole, with QC (DDI0553, "VMOVN", "VQMOVN" and "VQMOVUN")
abbrev pub narrowing_whole : V16 → State → State
narrowing_whole r s =
    saturating (narrowing_saturates r.name && any_both (predicate_at s) (narrowing_saturated r s)) (merges r.d.value (narrowing_result r s) s) s

-- A CARRY from word to word
-- V8: the sum of two words and a carry, which stands in bit 1 of the flags, by VADC and VADCI; VSBC and VSBCI invert the second word
-- (DDI0553, "VADC" and "VSBC")
abbrev pub sum_with : CarryName → ℕ → ℕ → ℕ → ℕ
sum_with name flags x y = x + cond (subtracts name) (0xffffffff - y) y + flags / 2 % 2

-- V8: the flags after a word of VADC, VADCI, VSBC or VSBCI: an active one gives its carry, and another one leaves the flags (DDI0553, "VADC" and "VSBC")
abbrev pub flags_after : CarryName → Bool → ℕ → ℕ → ℕ → ℕ
flags_after name active flags x y = cond active (2 * (sum_with name flags x y / 2 ^ 32)) flags

-- V8: the sums of words one after another by VADC, VADCI, VSBC or VSBCI, each with the carry that those before it leave (DDI0553, "VADC" and "VSBC")
abbrev pub sums_from : CarryName → List Bool → List ℕ → List ℕ → ℕ → List ℕ
sums_from name (p ∷ ps) (x ∷ xs) (y ∷ ys) flags = sum_with name flags x y % 2 ^ 32 ∷ sums_from name ps xs ys (flags_after name p flags x y)
sums_from name _ _ _ flags = []

-- V8: the flags after the sums of all words one after another by VADC, VADCI, VSBC or VSBCI (DDI0553, "VADC" and "VSBC")
abbrev pub flags_from : CarryName → List Bool → List ℕ → List ℕ → ℕ → ℕ
flags_from name (p ∷ ps) (x ∷ xs) (y ∷ ys) flags = flags_from name ps xs ys (flags_after name p flags x y)
flags_from name _ _ _ flags = flags

-- V8: VADC, VADCI, VSBC and VSBCI under 16 truth values: what the flags and a vector register get (DDI0553, "VADC" and "VSBC")
abbrev pub carry_under : List Bool → V8 → State → List (Cell × Value)
carry_under ps r s =
    let start = cond (begins r.name) (cond (subtracts r.name) 2 0) (at Carry s) in
    let active = firsts Word ps in
    let result = unlanes Word (sums_from r.name active (words_at r.n.value s) (words_at r.m.value s) start) in
    let flags = flags_from r.name active (words_at r.n.value s) (words_at r.m.value s) start in
    into (write Carry flags) ∷ merges_under ps r.d.value result s

-- V8: what VADC, VADCI, VSBC and VSBCI write, which is under the predicate (DDI0553, "VADC" and "VSBC")
abbrev pub carry_writes : V8 → State → List (Cell × Value)
carry_writes r s = carry_under (predicate_at s) r s

-- BITS from word to word
-- V17: what an active word of VSHLC lets out, and what goes by another one (DDI0553, "VSHLC")
abbrev pub bits_after : ℕ → Bool → ℕ → ℕ → ℕ
bits_after n active m c = cond active (c / 2 ^ (32 - n)) m

-- V17: words shifted up by n one after another by VSHLC, each taking in the bits before it (DDI0553, "VSHLC")
abbrev pub shifted_from : ℕ → List Bool → List ℕ → ℕ → List ℕ
shifted_from n (p ∷ ps) (c ∷ cs) m = (c * 2 ^ n % 2 ^ 32 + m % 2 ^ n) ∷ shifted_from n ps cs (bits_after n p m c)
shifted_from n _ _ m = []

-- V17: the bits that come out after VSHLC has shifted all words one after another (DDI0553, "VSHLC")
abbrev pub bits_from : ℕ → List Bool → List ℕ → ℕ → ℕ
bits_from n (p ∷ ps) (c ∷ cs) m = bits_from n ps cs (bits_after n p m c)
bits_from n _ _ m = m

-- V17: VSHLC under 16 truth values: what a core register and a vector register get (DDI0553, "VSHLC")
abbrev pub shift_under : List Bool → V17 → State → List (Cell × Value)
shift_under ps r s =
    let place = R r.m.value in
    let active = firsts Word ps in
    let result = unlanes Word (shifted_from (shift_of r) active (words_at r.d.value s) (at place s)) in
    let bits = bits_from (shift_of r) active (words_at r.d.value s) (at place s) in
    into (write place bits) ∷ merges_under ps r.d.value result s

-- V17: what VSHLC writes, which is under the predicate (DDI0553, "VSHLC")
abbrev pub shift_writes : V17 → State → List (Cell × Value)
shift_writes r s = shift_under (predicate_at s) r s

-- NEIGHBOURS
-- V9: the 16 new bytes of VCADD and VHCADD: to each element its neighbour is added, or it is taken away, and by VHCADD halved (DDI0553, "VCADD" and "VHCADD")
abbrev pub complex_sum_result : V9 → State → List ℕ
complex_sum_result r s =
    let z = size_of r.z.value in
    unlanes z (in_turn (complex_sum_lane r z) true (elements z r.n.value s) (exchanged (elements z r.m.value s)))

-- V12: every second element of one size, the even ones by VSHLLB and VMOVLB, the odd ones by VSHLLT and VMOVLT, becomes one of the other
-- (DDI0553, "VSHLL" and "VMOVL")
abbrev pub widened_result : Widening → Size → Size → State → List ℕ
widened_result r z wide s = unlanes wide (map (widened r z) (every_second r.odd (elements z r.m.value s)))

-- V12: the 16 new bytes of VSHLLB, VSHLLT, VMOVLB and VMOVLT (DDI0553, "VSHLL" and "VMOVL")
abbrev pub widening_result : Widening → State → List ℕ
widening_result r s = cond r.halves (widened_result r Half Word s) (widened_result r Byte Half s)

-- V6: the products of the even elements of two lists for VMULLB, of the odd ones for VMULLT (DDI0553, "VMULL (integer)")
abbrev pub products_of : V6 → List ℕ → List ℕ → List ℕ
products_of r xs ys = let odd = nat_eq r.t.value 1 in paired (product r) (every_second odd xs) (every_second odd ys)

-- numbers of 64 bits as bytes
abbrev pub long_bytes : List ℕ → List ℕ
long_bytes l = flat_map (λ (x : ℕ). bytes_of x ++ bytes_of (x / 2 ^ 32)) l

-- V6: the 16 new bytes of VMULLB and VMULLT: the products of every second elements of a size, each of twice that size (DDI0553, "VMULL (integer)")
abbrev pub long_product_result : V6 → Size → State → List ℕ
long_product_result r Byte s = unlanes Half (products_of r (elements Byte r.n.value s) (elements Byte r.m.value s))
long_product_result r Half s = unlanes Word (products_of r (elements Half r.n.value s) (elements Half r.m.value s))
long_product_result r Word s = long_bytes (products_of r (words_at r.n.value s) (words_at r.m.value s))

-- each four elements of a list in reverse
abbrev pub fours : List ℕ → List ℕ
fours (a ∷ b ∷ c ∷ d ∷ l) = d ∷ c ∷ b ∷ a ∷ fours l
fours l = l

-- each eight elements of a list in reverse
abbrev pub eights : List ℕ → List ℕ
eights (a ∷ b ∷ c ∷ d ∷ e ∷ f ∷ g ∷ h ∷ l) = h ∷ g ∷ f ∷ e ∷ d ∷ c ∷ b ∷ a ∷ eights l
eights l = l

-- V14: elements in reverse within groups of 64 bits by VREV64, of 32 by VREV32 and of 16 by VREV16; a group of one element stays, and no row has elements
-- that are longer than a group (DDI0553, "VREV64", "VREV32" and "VREV16")
abbrev pub in_groups : ReverseName → Size → List ℕ → List ℕ
in_groups rev.Rev64 Byte l = eights l
in_groups rev.Rev64 Half l = fours l
in_groups rev.Rev64 Word l = exchanged l
in_groups rev.Rev32 Byte l = fours l
in_groups rev.Rev32 Half l = exchanged l
in_groups rev.Rev32 Word l = l
in_groups rev.Rev16 Byte l = exchanged l
in_groups rev.Rev16 Half l = l
in_groups rev.Rev16 Word l = l

-- V14: the 16 new bytes of VREV64, VREV32 and VREV16 (DDI0553, "VREV64", "VREV32" and "VREV16")
abbrev pub reversed_result : V14 → State → List ℕ
reversed_result r s = let z = size_of r.z.value in unlanes z (in_groups r.name z (elements z r.m.value s))

-- V19: the number at which the offsets of VIWDUP and VDWDUP go round, where there is one (DDI0553, "VIDUP, VIWDUP" and "VDDUP, VDWDUP")
abbrev pub round_at : Option (Below 6) → State → Option ℕ
round_at None s = None
round_at (Some q) s = Some (at (R (2 * q.value + 1)) s)

-- V19: VIDUP, VIWDUP, VDDUP and VDWDUP under 16 truth values: offsets from a register on, which gets the next one
-- (DDI0553, "VIDUP, VIWDUP" and "VDDUP, VDWDUP")
abbrev pub offsets_under : List Bool → Steps → State → List (Cell × Value)
offsets_under ps r s =
    let place = R (2 * r.n.value) in
    let count = 4 * per_word r.z in
    let result = unlanes r.z (offsets_from r (round_at r.round s) count (at place s)) in
    let next = offset_after r (round_at r.round s) count (at place s) in
    merges_under ps r.d.value result s ++ (into (write place next) ∷ [])

-- V19: what VIDUP, VIWDUP, VDDUP and VDWDUP write, which is under the predicate (DDI0553, "VIDUP, VIWDUP" and "VDDUP, VDWDUP")
abbrev pub offsets_writes : Steps → State → List (Cell × Value)
offsets_writes r s = offsets_under (predicate_at s) r s
