-- The fields of rows with a label, by the address that this names.
use Rattle.std.proofs.Common.{◌≡◌, ℕ, ◌+◌, ◌*◌, ◌/◌, ◌%◌, ◌^◌, ◌<◌, ◌≤◌, refl, inl, inr, arith}
use Rattle.std.specs.Prelude.{nat_lt}
use Rattle.std.proofs.lemmas.Bool.{cases_Bool}
use Rattle.std.proofs.lemmas.Bool.Decides.{nat_tests}
use Rattle.hm_isa.specs.declared.narrow.Always.{Always}
use Rattle.hm_isa.specs.declared.narrow.Conditional.{Conditional}
use Rattle.hm_isa.specs.Distances.{always_distance, conditional_distance}
use Rattle.hm_isa.specs.Words.{sign_extended}
use Rattle.hm_text_rows.specs.Labels.{behind, distance}
use Rattle.hm_text_rows.proofs.Branches.{distance_back}
use Rattle.hm_text16_rows.specs.Targets.{literal_target}

pub literal_field : (pc i a : ℕ) → pc < 2 ^ 32 → i < 256 → literal_target pc i ≡ a → distance ((pc + 4) / 4 * 4) a / 4 % 256 ≡ i
literal_field pc i a hp hi e =
    let d = distance_back ((pc + 4) / 4 * 4) (4 * i) a (omega arith) (omega arith) e in
    rw d (omega arith)

pub zero_field : (pc i a : ℕ) → pc < 2 ^ 32 → i < 64 → behind pc (2 * i) ≡ a → distance (pc + 4) a / 2 % 64 ≡ i
zero_field pc i a hp hi e =
    let d = distance_back (pc + 4) (2 * i) a (omega arith) (omega arith) e in
    rw d (omega arith)

-- the distance as a number of 32 bits, and its field
record Field (half d i : ℕ) : Type 0 where
  small : d < 2 ^ 32
  back : d / 2 % (2 * half) ≡ i

near_field : (x i : ℕ) → x ≡ 2 * i → i < 256 → Field 128 (sign_extended 9 x) i
near_field x i e lt =
    let same : x % 2 ^ 9 ≡ x = omega arith in
    rw same
    (elim (cases_Bool (nat_lt x (2 ^ 8))) [
      | inl f ↦ let low : x < 2 ^ 8 = grind (arith, nat_tests, f) in rw f (record { small = omega arith; back = omega arith })
      | inr f ↦ let high : 2 ^ 8 ≤ x = grind (arith, nat_tests, f) in rw f (record { small = omega arith; back = omega arith })
    ])

far_field : (x i : ℕ) → x ≡ 2 * i → i < 2048 → Field 1024 (sign_extended 12 x) i
far_field x i e lt =
    let same : x % 2 ^ 12 ≡ x = omega arith in
    rw same
    (elim (cases_Bool (nat_lt x (2 ^ 11))) [
      | inl f ↦ let low : x < 2 ^ 11 = grind (arith, nat_tests, f) in rw f (record { small = omega arith; back = omega arith })
      | inr f ↦ let high : 2 ^ 11 ≤ x = grind (arith, nat_tests, f) in rw f (record { small = omega arith; back = omega arith })
    ])

branch_field : (half i d pc a : ℕ) → pc < 2 ^ 32 → Field half d i → behind pc d ≡ a → distance (pc + 4) a / 2 % (2 * half) ≡ i
branch_field half i d pc a hp f e =
    let back = distance_back (pc + 4) d a (omega arith) f.small e in
    rw back (f.back)

pub conditional_field : (i : Conditional) (pc a : ℕ) → pc < 2 ^ 32 → behind pc (conditional_distance i) ≡ a → distance (pc + 4) a / 2 % 256 ≡ i.i.value
conditional_field i pc a hp = branch_field 128 i.i.value (conditional_distance i) pc a hp (near_field (2 * i.i.value) i.i.value refl i.i.in_range)

pub always_field : (i : Always) (pc a : ℕ) → pc < 2 ^ 32 → behind pc (always_distance i) ≡ a → distance (pc + 4) a / 2 % 2048 ≡ i.i.value
always_field i pc a hp = branch_field 1024 i.i.value (always_distance i) pc a hp (far_field (2 * i.i.value) i.i.value refl i.i.in_range)
