-- The fields of rows whose texts show them otherwise: shifts, steps, immediates and offsets.
use Rattle.std.proofs.Common.{◌≡◌, ℕ, suc, ◌+◌, ◌-◌, ◌*◌, ◌/◌, ◌%◌, ◌^◌, ◌<◌, true, false, cond, ltb, refl, arith}
use Rattle.std.specs.Prelude.{◌&&◌, ◌||◌, ◌==◌, if◌then◌else◌, nat_eq, nat_le, nat_lt}
use Rattle.std.proofs.lemmas.Bool.{and_parts, ltb-true}
use Rattle.std.proofs.lemmas.Bool.Decides.{nat_tests}
use Rattle.hm_isa.specs.declared.memory.V25.{V25}
use Rattle.hm_isa.specs.declared.vectors.ConstantShiftName.{ConstantShiftName}
use Rattle.hm_isa.specs.declared.vectors.ConstantShiftName.TheVariants as by_constant
use Rattle.hm_isa.specs.declared.vectors.V11.{V11}
use Rattle.hm_isa.specs.declared.vectors.V15.{V15}
use Rattle.hm_isa.specs.Code.{step_code}
use Rattle.hm_isa.specs.Letters.{constant_shift_amount, constant_shift_size}
use Rattle.hm_isa.specs.Words.{imm8}
use Rattle.hm_text_rows.proofs.Words.{below_is}
use Rattle.hm_textv_codes.specs.declared.operands.Operands.{Operands}
use Rattle.hm_textv_codes.specs.Asked.{AsksConstant, constant_given, constant_number}

-- V11: the field, by the size and the shift
abbrev pub field_of : ConstantShiftName → ℕ → ℕ → ℕ
field_of by_constant.Shr bits n = 2 * bits - n
field_of by_constant.Rshr bits n = 2 * bits - n
field_of by_constant.Sri bits n = 2 * bits - n
field_of name bits n = bits + n

abbrev pub bits_of : ℕ → ℕ
bits_of z = if z == 0 then 8 else (if z == 1 then 16 else 32)

-- a field below 8 has no size
not_less : (x : ℕ) → nat_le 8 x ≡ true → ltb x 8 ≡ false
not_less x e = grind (arith, nat_tests)

is_field : (name : ConstantShiftName) (x : ℕ) → x < 64 → nat_le 8 x ≡ true
    → field_of name (bits_of (constant_shift_size x)) (constant_shift_amount name x) ≡ x
is_field by_constant.Shr x lt e =
    rw (not_less x e) at
    (below_is (λ k. cond (ltb k 8) k (field_of by_constant.Shr (bits_of (constant_shift_size k)) (constant_shift_amount by_constant.Shr k))) (λ k. k) 64 x
    refl lt)
is_field name x lt e =
    rw (not_less x e) at
    (below_is (λ k. cond (ltb k 8) k (field_of name (bits_of (constant_shift_size k)) (constant_shift_amount name k))) (λ k. k) 64 x refl lt)

pub field_back : (i : V11) (name : ConstantShiftName) (z n : ℕ) → name ≡ i.name → z ≡ constant_shift_size i.x.value
    → n ≡ constant_shift_amount i.name i.x.value → field_of name (bits_of z) n ≡ i.x.value
field_back i name z n en ez ea = rw (en, ez, ea) (is_field i.name i.x.value i.x.in_range i.size)

-- V19: the power of a step, where it stands in a code, by the step
abbrev pub step_of : ℕ → ℕ
step_of n = if n == 2 then 1 else if n == 4 then 0x80 else if n == 8 then 0x81 else 0

pub step_back : (k : ℕ) → k < 4 → step_code k ≡ step_of (2 ^ k)
step_back k lt = below_is step_code (λ j. step_of (2 ^ j)) 4 k refl lt

-- V15: the number of a mnemonic
pub number_below : (op cm : ℕ) → op < 2 → constant_number op cm < 4
number_below op cm lt = grind (arith, nat_tests, lt)

-- V15: the fields cm and op, by the number of the mnemonic and the operands
abbrev pub mode_in : ℕ → Operands → ℕ
mode_in k o =
    if o.size == 0 then 14
    else if o.size == 3 then 14
    else if o.third == 1 then 11 + o.fourth / 8
    else o.size % 2 * 8 + o.fourth / 8 * 2 + k / 2

abbrev pub operation_in : ℕ → Operands → ℕ
operation_in k o = if o.size == 3 then 1 else k % 2

mode_back : (op cm d x : ℕ) → op < 2 → cm < 15 → mode_in (constant_number op cm) (constant_given op cm d x) ≡ cm
mode_back (suc (suc op)) cm d x ho hc = absurd (omega arith)
mode_back op cm d x ho hc = below_is (λ c. mode_in (constant_number op c) (constant_given op c d x)) (λ c. c) 15 cm refl hc

operation_back : (op cm d x : ℕ) → op < 2 → cm < 15 → operation_in (constant_number op cm) (constant_given op cm d x) ≡ op
operation_back (suc (suc op)) cm d x ho hc = absurd (omega arith)
operation_back op cm d x ho hc = below_is (λ c. operation_in (constant_number op c) (constant_given op c d x)) (λ c. op) 15 cm refl hc

-- V15: what all that asks for a row tells
pub record Constant (i : V15) (k : ℕ) (o : Operands) : Type 0 where
  pub mode : mode_in k o ≡ i.cm.value
  pub operation : operation_in k o ≡ i.op.value
  pub register : o.first ≡ i.d.value
  pub byte : o.second ≡ imm8 i.i.value i.i3.value i.i4.value

pub asks_constant : (i : V15) (k : ℕ) (o : Operands) → AsksConstant i k o → Constant i k o
asks_constant i k o asks =
    let op = i.op.value in
    let cm = i.cm.value in
    let x = imm8 i.i.value i.i3.value i.i4.value in
    rw (asks.0, asks.1)
    (record {
      mode = mode_back op cm i.d.value x i.op.in_range i.cm.in_range;
      operation = operation_back op cm i.d.value x i.op.in_range i.cm.in_range;
      register = grind arith;
      byte = grind arith;
    })

-- V24 and V25: an offset in elements
pub in_elements : (i y : ℕ) → y < 3 → i * 2 ^ y / 2 ^ y ≡ i
in_elements i (suc (suc (suc y))) hy = absurd (omega arith)
in_elements i y hy = omega arith

-- V25: elements are narrower in memory
pub is_narrower : (i : V25) → i.h.value < i.z.value
is_narrower i =
    let parts = and_parts (nat_lt 0 (i.p.value + i.w.value) && nat_lt i.h.value i.z.value) (nat_eq i.l.value 1 || nat_eq i.u.value 0) i.rule in
    ltb-true _ _ (and_parts (nat_lt 0 (i.p.value + i.w.value)) (nat_lt i.h.value i.z.value) parts.0).1
