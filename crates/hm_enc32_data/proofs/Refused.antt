-- Codes whose fields break the rule of one of the rows T1 to T7, or of `mla`, `mls`, `smull`, `umull`, `smlal` and `umlal`.
use Rattle.std.proofs.Common.{◌≡◌, ◌+◌, ◌-◌, ◌*◌, ◌^◌, ℕ, true, false, [], ◌∷◌, refl, arith}
use Rattle.hm_isa.specs.Rules.{is_general, is_accumulated, is_long_product}
use Rattle.hm_isa.specs.DataRules.{is_constant_row, is_shifted_row, is_wide_sum, is_saturated, is_bit_field, is_inserted}
use Rattle.hm_isa.specs.DataCodes.{data_operation, code_t1, code_t2, code_t3, code_t4, code_t5, code_t6, code_t7}
use Rattle.hm_isa.specs.ArithCodes.{code_accumulate, code_long_product}
use Rattle.hm_isa.specs.declared.arith.Accumulate.{Accumulate}
use Rattle.hm_isa.specs.declared.arith.LongProduct.{LongProduct}
use Rattle.hm_isa.specs.declared.data.DataName.{DataName}
use Rattle.hm_isa.specs.declared.data.T1.{T1}
use Rattle.hm_isa.specs.declared.data.T2.{T2}
use Rattle.hm_isa.specs.declared.data.T3.{T3}
use Rattle.hm_isa.specs.declared.data.T4.{T4}
use Rattle.hm_isa.specs.declared.data.T5.{T5}
use Rattle.hm_isa.specs.declared.data.T6.{T6}
use Rattle.hm_isa.specs.declared.data.T7.{T7}
use Rattle.hm_layout.proofs.Places.{digits}
use Rattle.hm_layout.proofs.Rows.{named, plain}
use Rattle.hm_code_fields.proofs.AtPlaces.{places_named, places_plain, read}
use Rattle.hm_codes.proofs.ArithRows.{row_accumulate, row_long_product}
use Rattle.hm_codes.proofs.DataRows.{row_t1, row_t2, row_t3, row_t4, row_t5, row_t6, row_t7}

same_operation : (x y : DataName) → data_operation x ≡ data_operation y → x ≡ y
same_operation x y e = grind arith

pub refused_t1 : (w s n d i i3 b : ℕ) (x : DataName) → digits (places_named row_t1) w ≡ s ∷ n ∷ d ∷ i ∷ i3 ∷ b ∷ []
    → (rest : ℕ) → 0xf0000000 + data_operation x * 2 ^ 21 ≡ rest → rest ≡ w - s * 2 ^ 20 - n * 2 ^ 16 - d * 2 ^ 8 - i * 2 ^ 26 - i3 * 2 ^ 12 - b
    → is_constant_row x s n d i i3 b ≡ false → (r : T1) → code_t1 r ≡ w → ⊥
refused_t1 w s n d i i3 b x split rest base without refused r e =
    let stands : digits (places_named row_t1) w ≡ r.s.value ∷ r.n.value ∷ r.d.value ∷ r.i.value ∷ r.i3.value ∷ r.i8.value ∷ [] =
    read (named row_t1) refl w r e in
    let fs : s ≡ r.s.value = cc in
    let fn : n ≡ r.n.value = cc in
    let fd : d ≡ r.d.value = cc in
    let fi : i ≡ r.i.value = cc in
    let f3 : i3 ≡ r.i3.value = cc in
    let fb : b ≡ r.i8.value = cc in
    let same : data_operation r.name ≡ data_operation x = omega arith in
    let name : r.name ≡ x = same_operation _ _ same in
    let rules : is_constant_row r.name r.s.value r.n.value r.d.value r.i.value r.i3.value r.i8.value ≡ true = r.rules in
    cc

pub refused_t2 : (w s n d i3 i2 ty m : ℕ) (x : DataName) → digits (places_named row_t2) w ≡ s ∷ n ∷ d ∷ i3 ∷ i2 ∷ ty ∷ m ∷ []
    → (rest : ℕ) → 0xea000000 + data_operation x * 2 ^ 21 ≡ rest
    → rest ≡ w - s * 2 ^ 20 - n * 2 ^ 16 - d * 2 ^ 8 - i3 * 2 ^ 12 - i2 * 2 ^ 6 - ty * 2 ^ 4 - m
    → is_shifted_row x s n d i3 i2 ty m ≡ false → (r : T2) → code_t2 r ≡ w → ⊥
refused_t2 w s n d i3 i2 ty m x split rest base without refused r e =
    let stands : digits (places_named row_t2) w
    ≡ r.s.value ∷ r.n.value ∷ r.d.value ∷ r.i3.value ∷ r.i2.value ∷ r.ty.value ∷ r.m.value ∷ [] =
    read (named row_t2) refl w r e in
    let fs : s ≡ r.s.value = cc in
    let fn : n ≡ r.n.value = cc in
    let fd : d ≡ r.d.value = cc in
    let f3 : i3 ≡ r.i3.value = cc in
    let f2 : i2 ≡ r.i2.value = cc in
    let ft : ty ≡ r.ty.value = cc in
    let fm : m ≡ r.m.value = cc in
    let same : data_operation r.name ≡ data_operation x = omega arith in
    let name : r.name ≡ x = same_operation _ _ same in
    let rules : is_shifted_row r.name r.s.value r.n.value r.d.value r.i3.value r.i2.value r.ty.value r.m.value ≡ true = r.rules in
    cc

pub refused_t3 : (w n d i i3 b : ℕ) → digits (places_named row_t3) w ≡ n ∷ d ∷ i ∷ i3 ∷ b ∷ [] → is_wide_sum n d ≡ false → (r : T3) → code_t3 r ≡ w → ⊥
refused_t3 w n d i i3 b split refused r e =
    let stands : digits (places_named row_t3) w ≡ r.n.value ∷ r.d.value ∷ r.i.value ∷ r.i3.value ∷ r.i8.value ∷ [] = read (named row_t3) refl w r e in
    let rules : is_wide_sum r.n.value r.d.value ≡ true = r.rules in
    cc

pub refused_t4 : (w d i4 i i3 b : ℕ) → digits (places_named row_t4) w ≡ d ∷ i4 ∷ i ∷ i3 ∷ b ∷ [] → is_general d ≡ false → (r : T4) → code_t4 r ≡ w → ⊥
refused_t4 w d i4 i i3 b split refused r e =
    let stands : digits (places_named row_t4) w ≡ r.d.value ∷ r.i4.value ∷ r.i.value ∷ r.i3.value ∷ r.i8.value ∷ [] = read (named row_t4) refl w r e in
    let rules : is_general r.d.value ≡ true = r.rules in
    cc

pub refused_t5 : (w sh n d i3 i2 s : ℕ) → digits (places_named row_t5) w ≡ sh ∷ n ∷ d ∷ i3 ∷ i2 ∷ s ∷ [] → is_saturated sh n d i3 i2 ≡ false
    → (r : T5) → code_t5 r ≡ w → ⊥
refused_t5 w sh n d i3 i2 s split refused r e =
    let stands : digits (places_named row_t5) w ≡ r.sh.value ∷ r.n.value ∷ r.d.value ∷ r.i3.value ∷ r.i2.value ∷ r.s.value ∷ [] =
    read (named row_t5) refl w r e in
    let rules : is_saturated r.sh.value r.n.value r.d.value r.i3.value r.i2.value ≡ true = r.rules in
    cc

pub refused_t6 : (w n d i3 i2 width : ℕ) → digits (places_named row_t6) w ≡ n ∷ d ∷ i3 ∷ i2 ∷ width ∷ [] → is_bit_field n d i3 i2 width ≡ false
    → (r : T6) → code_t6 r ≡ w → ⊥
refused_t6 w n d i3 i2 width split refused r e =
    let stands : digits (places_named row_t6) w ≡ r.n.value ∷ r.d.value ∷ r.i3.value ∷ r.i2.value ∷ r.w.value ∷ [] = read (named row_t6) refl w r e in
    let rules : is_bit_field r.n.value r.d.value r.i3.value r.i2.value r.w.value ≡ true = r.rules in
    cc

pub refused_t7 : (w n d i3 i2 end : ℕ) → digits (places_plain row_t7) w ≡ n ∷ d ∷ i3 ∷ i2 ∷ end ∷ [] → is_inserted n d i3 i2 end ≡ false
    → (r : T7) → code_t7 r ≡ w → ⊥
refused_t7 w n d i3 i2 end split refused r e =
    let stands : digits (places_plain row_t7) w ≡ r.n.value ∷ r.d.value ∷ r.i3.value ∷ r.i2.value ∷ r.e.value ∷ [] = read (plain row_t7) refl w r e in
    let rules : is_inserted r.n.value r.d.value r.i3.value r.i2.value r.e.value ≡ true = r.rules in
    cc

pub refused_accumulate : (w n a d m : ℕ) → digits (places_named row_accumulate) w ≡ n ∷ a ∷ d ∷ m ∷ [] → is_accumulated n a d m ≡ false
    → (r : Accumulate) → code_accumulate r ≡ w → ⊥
refused_accumulate w n a d m split refused r e =
    let stands : digits (places_named row_accumulate) w ≡ r.n.value ∷ r.a.value ∷ r.d.value ∷ r.m.value ∷ [] = read (named row_accumulate) refl w r e in
    let rules : is_accumulated r.n.value r.a.value r.d.value r.m.value ≡ true = r.rules in
    cc

pub refused_long_product : (w n l h m : ℕ) → digits (places_named row_long_product) w ≡ n ∷ l ∷ h ∷ m ∷ [] → is_long_product n l h m ≡ false
    → (r : LongProduct) → code_long_product r ≡ w → ⊥
refused_long_product w n l h m split refused r e =
    let stands : digits (places_named row_long_product) w ≡ r.n.value ∷ r.l.value ∷ r.h.value ∷ r.m.value ∷ [] =
    read (named row_long_product) refl w r e in
    let rules : is_long_product r.n.value r.l.value r.h.value r.m.value ≡ true = r.rules in
    cc
