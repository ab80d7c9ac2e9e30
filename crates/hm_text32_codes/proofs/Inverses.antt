-- The fields of rows, by the numbers that their texts have.
use Rattle.std.proofs.Common.{◌≡◌, ℕ, ◌+◌, ◌-◌, ◌/◌, ◌%◌, ◌<◌, true, arith}
use Rattle.std.proofs.lemmas.Bool.Decides.{nat_tests}
use Rattle.hm_isa.specs.declared.data.T2.{T2}
use Rattle.hm_isa.specs.declared.data.T4.{T4}
use Rattle.hm_isa.specs.declared.data.T7.{T7}
use Rattle.hm_isa.specs.declared.wide.Indexed.{Indexed}
use Rattle.hm_isa.specs.declared.wide.Offset.{Offset}
use Rattle.hm_isa.specs.declared.wide.PairName.{PairName}
use Rattle.hm_isa.specs.declared.wide.T13.{T13}
use Rattle.hm_isa.specs.declared.wide.T15.{T15}
use Rattle.hm_isa.specs.Rules.{is_pair}
use Rattle.hm_isa.specs.Words.{imm12, imm16, imm5}
use Rattle.hm_text32_codes.specs.Asked.{number_read}

-- NUMBERS OF FIVE BITS
pub five_below : (j l : ℕ) → j < 8 → l < 4 → imm5 j l < 32
five_below j l hj hl = omega arith

-- T2: what is read of a shift, where 32 is 0
read_back : (ty k : ℕ) → ty < 4 → k < 32 → number_read ty k % 32 ≡ k
read_back ty k ht hk = grind (arith, nat_tests)

pub number_back : (i : T2) → number_read i.ty.value (imm5 i.i3.value i.i2.value) % 32 ≡ imm5 i.i3.value i.i2.value
number_back i = read_back i.ty.value (imm5 i.i3.value i.i2.value) i.ty.in_range (five_below i.i3.value i.i2.value i.i3.in_range i.i2.in_range)

-- T4
pub sixteen_top : (i : T4) → imm16 i.i4.value i.i.value i.i3.value i.i8.value / 4096 ≡ i.i4.value
sixteen_top i = let a = i.i.in_range in let b = i.i3.in_range in let c = i.i8.in_range in omega (arith, a, b, c)

pub sixteen_rest : (i : T4) → imm16 i.i4.value i.i.value i.i3.value i.i8.value % 4096 ≡ imm12 i.i.value i.i3.value i.i8.value
sixteen_rest i = let a = i.i.in_range in let b = i.i3.in_range in let c = i.i8.in_range in omega (arith, a, b, c)

-- T7: the last bit of a field, which is no lower than its first
pub insert_end : (i : T7) → imm5 i.i3.value i.i2.value + (i.e.value + 1 - imm5 i.i3.value i.i2.value) - 1 ≡ i.e.value
insert_end i = let r = i.rules in grind (arith, nat_tests, r)

-- T15: how many registers stand from the first to the last
pub some_doubles : (i : T15) → (0 < i.k.value) × (i.v.value + i.k.value < 17)
some_doubles i = let r = i.rules in (grind (arith, nat_tests, r), grind (arith, nat_tests, r))

pub stack_count : (i : T15) → i.v.value + i.k.value - 1 + 1 - i.v.value ≡ i.k.value
stack_count i = let some = (some_doubles i).0 in omega (arith, some)

-- T12: an offset that is added, and an index, have a base that is not pc
pub offset_base : (i : Offset) → i.n.value ≡ 15 → ⊥
offset_base i is = let r = i.rules in grind (arith, nat_tests, r, is)

pub indexed_base : (i : Indexed) → i.n.value ≡ 15 → ⊥
indexed_base i is = let r = i.rules in grind (arith, nat_tests, r, is)

-- an index is written back, or taken off
pub indexed_some : (i : Indexed) → 0 < i.p.value + i.w.value
indexed_some i = let r = i.rules in let lt = i.w.in_range in grind (arith, nat_tests, r, lt)

pub indexed_use : (i : Indexed) → i.w.value ≡ 0 → i.u.value ≡ 1 → ⊥
indexed_use i none added = let r = i.rules in grind (arith, nat_tests, r, none, added)

-- T13: an address is written back, or has an offset
pub pair_some : (i : T13) → 0 < i.p.value + i.w.value
pair_some i = some_pair i.name i.p.value i.w.value i.n.value i.t.value i.u.value i.rules
  where
    some_pair : (name : PairName) (p w n t u : ℕ) → is_pair name p w n t u ≡ true → 0 < p + w
    some_pair name p w n t u e = grind (arith, nat_tests, e)
