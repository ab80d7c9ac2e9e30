-- Codes whose fields break a rule of the row V26.
use Rattle.std.proofs.Common.{◌≡◌, ◌/◌, ◌%◌, ◌*◌, ◌+◌, ◌^◌, ℕ, true, false, [], ◌∷◌, refl, arith}
use Rattle.hm_isa.specs.declared.memory.V26.{V26}
use Rattle.hm_isa.specs.MemoryRules.{is_access}
use Rattle.hm_isa.specs.MemoryCodes.{code_v26}
use Rattle.hm_layout.proofs.Places.{digits}
use Rattle.hm_layout.proofs.Rows.{plain}
use Rattle.hm_code_fields.proofs.AtPlaces.{places_plain, read}
use Rattle.hm_codes.proofs.MemoryRows.{row_v26}

pub refused_v26 : (w u l d z y m : ℕ) → u ≡ w / 2 ^ 28 % 2 → l ≡ w / 2 ^ 20 % 2 → d ≡ w / 2 ^ 13 % 8 → z ≡ w / 2 ^ 7 % 4
    → y ≡ w / 2 ^ 6 % 2 * 2 + w / 2 ^ 4 % 2 → m ≡ w / 2 ^ 1 % 8 → is_access u l d z y m ≡ false → (r : V26) → code_v26 r ≡ w → ⊥
refused_v26 w u l d z y m eu el ed ez ey em refused r e =
    let stands : digits (places_plain row_v26) w
    ≡ r.u.value ∷ r.l.value ∷ r.n.value ∷ r.d.value ∷ r.z.value ∷ r.y.value % 2 ^ 1 ∷ r.y.value / 2 ^ 1 ∷ r.m.value ∷ r.o.value ∷ [] =
    read (plain row_v26) refl w r e in
    let fu : w / 2 ^ 28 % 2 ^ 1 ≡ r.u.value = cc in
    let fl : w / 2 ^ 20 % 2 ^ 1 ≡ r.l.value = cc in
    let fd : w / 2 ^ 13 % 2 ^ 3 ≡ r.d.value = cc in
    let fz : w / 2 ^ 7 % 2 ^ 2 ≡ r.z.value = cc in
    let low : w / 2 ^ 4 % 2 ^ 1 ≡ r.y.value % 2 ^ 1 = cc in
    let high : w / 2 ^ 6 % 2 ^ 1 ≡ r.y.value / 2 ^ 1 = cc in
    let fm : w / 2 ^ 1 % 2 ^ 3 ≡ r.m.value = cc in
    let gu : u ≡ r.u.value = omega arith in
    let gl : l ≡ r.l.value = omega arith in
    let gd : d ≡ r.d.value = omega arith in
    let gz : z ≡ r.z.value = omega arith in
    let gy : y ≡ r.y.value = omega arith in
    let gm : m ≡ r.m.value = omega arith in
    let rules : is_access r.u.value r.l.value r.d.value r.z.value r.y.value r.m.value ≡ true = r.access in
    cc
