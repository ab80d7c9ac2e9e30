-- The twelve bits that stand for a constant are those that it is expanded from.
use Rattle.std.proofs.Common.{◌≡◌, ℕ, ◌+◌, ◌-◌, ◌*◌, ◌/◌, ◌%◌, ◌<◌, ◌≤◌, ◌^◌, Bool, true, false, eqb, refl, sym, subst, ap, inl, inr}
use Rattle.std.proofs.Common.{◌∙◌, arith}
use Rattle.std.specs.Prelude.{nat_le, nat_lt, ◌&&◌, ◌||◌}
use Rattle.std.proofs.lemmas.Bool.{agree_below, and_parts, cases_Bool}
use Rattle.std.proofs.lemmas.Bool.Decides.{nat_tests}
use Rattle.hm_isa.specs.declared.data.T1.{T1}
use Rattle.hm_isa.specs.DataRules.{is_constant, is_first, is_result}
use Rattle.hm_isa.specs.Words.{expand_imm_c, imm12, repeats}
use Rattle.hm_text32_codes.specs.Constants.{constant_field, shift_of}
use Rattle.hm_text32_rows.specs.Rows.{constant_in}
use Rattle.hm_text_rows.proofs.Words.{below_holds, below_is}

abbrev pub expanded : ℕ → ℕ
expanded x = (expand_imm_c x false).result

repeats_small : (b k : ℕ) → b < 256 → b * repeats k < 2 ^ 32
repeats_small b k lt = grind (arith, nat_tests)

pub word_small : (x : ℕ) → x % 2 ^ 32 < 2 ^ 32
word_small x = omega arith

pub expanded_small : (x : ℕ) → expanded x < 2 ^ 32
expanded_small x =
    elim (cases_Bool (nat_lt x 0x400)) [
      | inl e ↦ rw (e, expanded) (repeats_small (x % 0x100) (x / 0x100) (omega arith))
      | inr e ↦ rw (e, expanded) (word_small _)
    ]

-- a byte as it is
back_byte : (x : ℕ) → x < 256 → constant_field (expanded x) ≡ x
unfolding constant_field
back_byte x lt = below_is (λ j. constant_field (expanded j)) (λ j. j) 256 x refl lt

-- a fact of numbers, computed at j places behind each of n bases
in_blocks : (base : ℕ → ℕ) (n m k j : ℕ)
    → agree_below (λ q. agree_below (λ i. eqb (constant_field (expanded (base q + i))) (base q + i)) (λ i. true) m) (λ q. true) n ≡ true
    → k < n → j < m → constant_field (expanded (base k + j)) ≡ base k + j
in_blocks base n m k j e lk lj =
    below_is (λ i. constant_field (expanded (base k + i))) (λ i. base k + i) m j
    (below_holds (λ q. agree_below (λ i. eqb (constant_field (expanded (base q + i))) (base q + i)) (λ i. true) m) n k e lk) lj

-- at several places, where it is not 0
back_repeated : (k j : ℕ) → k < 3 → j < 255 → constant_field (expanded (256 * k + 257 + j)) ≡ 256 * k + 257 + j
unfolding constant_field
back_repeated k j lk lj = in_blocks (λ q. 256 * q + 257) 3 255 k j refl lk lj

-- rotated
back_rotated : (q j : ℕ) → q < 24 → j < 128 → constant_field (expanded (1024 + 128 * q + j)) ≡ 1024 + 128 * q + j
unfolding constant_field shift_of
back_rotated q j lq lj = in_blocks (λ p. 1024 + 128 * p) 24 128 q j refl lq lj

-- every one that a row has
abbrev is_told : ℕ → Bool
is_told x = nat_lt x 256 || (nat_le 1024 x || nat_lt 0 (x % 256))

back_expanded : (x : ℕ) → x < 4096 → is_told x ≡ true → constant_field (expanded x) ≡ x
back_expanded x lt told =
    elim (cases_Bool (nat_lt x 256)) [
      | inl e ↦ let h : x < 256 = grind (arith, nat_tests, e) in back_byte x h
      | inr e ↦
          let h : 256 ≤ x = grind (arith, nat_tests, e) in
          elim (cases_Bool (nat_le 1024 x)) [
            | inl f ↦
                let g : 1024 ≤ x = grind (arith, nat_tests, f) in
                let is : 1024 + 128 * (x / 128 - 8) + x % 128 ≡ x = omega arith in
                subst (λ (y : ℕ). constant_field (expanded y) ≡ y) is (back_rotated (x / 128 - 8) (x % 128) (omega arith) (omega arith))
            | inr f ↦
                let g : x < 1024 = grind (arith, nat_tests, f) in
                let some : 0 < x % 256 = some_byte x (rw (e, f) at told) in
                let is : 256 * (x / 256 - 1) + 257 + (x % 256 - 1) ≡ x = omega (arith, some) in
                subst (λ (y : ℕ). constant_field (expanded y) ≡ y) is (back_repeated (x / 256 - 1) (x % 256 - 1) (omega arith) (omega (arith, some)))
          ]
    ]
  where
    some_byte : (y : ℕ) → nat_lt 0 (y % 256) ≡ true → 0 < y % 256
    some_byte y e = grind (arith, nat_tests, e)

told_of : (i i3 i8 : ℕ) → i < 2 → i3 < 8 → i8 < 256 → is_constant i i3 i8 ≡ true → is_told (imm12 i i3 i8) ≡ true
told_of i i3 i8 hi h3 h8 e = grind (arith, nat_tests)

back : (i i3 i8 : ℕ) → i < 2 → i3 < 8 → i8 < 256 → is_constant i i3 i8 ≡ true → constant_field (constant_in i i3 i8) ≡ imm12 i i3 i8
back i i3 i8 hi h3 h8 e = back_expanded (imm12 i i3 i8) (omega arith) (told_of i i3 i8 hi h3 h8 e)

-- of a row
pub field_back : (i : T1) (c : ℕ) → constant_in i.i.value i.i3.value i.i8.value ≡ c → constant_field c ≡ imm12 i.i.value i.i3.value i.i8.value
field_back i c e =
    let rules =
    and_parts (is_first i.name i.n.value && is_result i.name i.s.value i.n.value i.d.value) (is_constant i.i.value i.i3.value i.i8.value) i.rules in
    ap constant_field (sym e) ∙ back i.i.value i.i3.value i.i8.value i.i.in_range i.i3.in_range i.i8.in_range rules.1
