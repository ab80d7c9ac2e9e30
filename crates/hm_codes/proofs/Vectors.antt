-- The rows of vector codes.
use Rattle.std.proofs.Common.{◌+◌, ◌/◌, ◌%◌, ap, ◌≡◌, ◌<◌, ◌≤◌, ◌^◌, ℕ, List, [], ◌∷◌, arith, refl, IsTrue}
use Rattle.std.specs.Prelude.{if◌then◌else◌}
use Rattle.std.proofs.lemmas.Bool.Decides.{nat_tests}
use Rattle.hm_isa.specs.declared.Vector.{Vector}
use Rattle.hm_isa.specs.declared.Vector.TheVariants as vector
use Rattle.hm_isa.specs.declared.vectors.ScalarName.{ScalarName}
use Rattle.hm_isa.specs.declared.vectors.OffsetsName.{OffsetsName}
use Rattle.hm_isa.specs.declared.vectors.V10.{V10}
use Rattle.hm_isa.specs.declared.vectors.ConstantShiftName.{ConstantShiftName}
use Rattle.hm_isa.specs.declared.vectors.V11.{V11}
use Rattle.hm_isa.specs.declared.vectors.V12.{V12}
use Rattle.hm_isa.specs.declared.vectors.V12.TheVariants as v12
use Rattle.hm_isa.specs.declared.vectors.V13.{V13}
use Rattle.hm_isa.specs.declared.vectors.V13.TheVariants as v13
use Rattle.hm_isa.specs.declared.vectors.V19.{V19}
use Rattle.hm_isa.specs.declared.vectors.V19.TheVariants as v19
use Rattle.hm_isa.specs.declared.vectors.V20.{V20}
use Rattle.hm_isa.specs.declared.vectors.V20.TheVariants as v20
use Rattle.hm_isa.specs.declared.vectors.V21.{V21}
use Rattle.hm_isa.specs.declared.vectors.V21.TheVariants as v21
use Rattle.hm_isa.specs.declared.vectors.V22.{V22}
use Rattle.hm_isa.specs.declared.vectors.V22.TheVariants as v22
use Rattle.hm_isa.specs.contracts.Vector as vector_
use Rattle.hm_isa.specs.contracts.vectors.AddName as add_
use Rattle.hm_isa.specs.contracts.vectors.BitwiseName as bitwise_
use Rattle.hm_isa.specs.contracts.vectors.SignedName as signed_
use Rattle.hm_isa.specs.contracts.vectors.VectorShiftName as by_vector_
use Rattle.hm_isa.specs.contracts.vectors.DoublingName as doubling_
use Rattle.hm_isa.specs.contracts.vectors.HighName as high_
use Rattle.hm_isa.specs.contracts.vectors.CarryName as carry_
use Rattle.hm_isa.specs.contracts.vectors.ComplexSumName as turn_
use Rattle.hm_isa.specs.contracts.vectors.ScalarName as by_scalar_
use Rattle.hm_isa.specs.contracts.vectors.ConstantShiftName as by_constant_
use Rattle.hm_isa.specs.contracts.vectors.OneName as one_
use Rattle.hm_isa.specs.contracts.vectors.ReverseName as reverse_
use Rattle.hm_isa.specs.contracts.vectors.NarrowingName as narrowing
use Rattle.hm_isa.specs.contracts.vectors.Element as element_
use Rattle.hm_isa.specs.contracts.vectors.OffsetsName as direction_
use Rattle.hm_isa.specs.contracts.vectors.ExtremeName as extreme_
use Rattle.hm_isa.specs.contracts.vectors.V1 as v1_
use Rattle.hm_isa.specs.contracts.vectors.V2 as v2_
use Rattle.hm_isa.specs.contracts.vectors.V3 as v3_
use Rattle.hm_isa.specs.contracts.vectors.V4 as v4_
use Rattle.hm_isa.specs.contracts.vectors.V5 as v5_
use Rattle.hm_isa.specs.contracts.vectors.V6 as v6_
use Rattle.hm_isa.specs.contracts.vectors.V7 as v7_
use Rattle.hm_isa.specs.contracts.vectors.V8 as v8_
use Rattle.hm_isa.specs.contracts.vectors.V9 as v9_
use Rattle.hm_isa.specs.contracts.vectors.V10 as v10_
use Rattle.hm_isa.specs.contracts.vectors.V11 as v11_
use Rattle.hm_isa.specs.contracts.vectors.LongBytes as long_bytes_
use Rattle.hm_isa.specs.contracts.vectors.LongHalves as long_halves_
use Rattle.hm_isa.specs.contracts.vectors.LongFull as long_full_
use Rattle.hm_isa.specs.contracts.vectors.V12 as v12_
use Rattle.hm_isa.specs.contracts.vectors.OneElement as one_element_
use Rattle.hm_isa.specs.contracts.vectors.Invert as invert_
use Rattle.hm_isa.specs.contracts.vectors.V13 as v13_
use Rattle.hm_isa.specs.contracts.vectors.V14 as v14_
use Rattle.hm_isa.specs.contracts.vectors.V15 as v15_
use Rattle.hm_isa.specs.contracts.vectors.V16 as v16_
use Rattle.hm_isa.specs.contracts.vectors.V17 as v17_
use Rattle.hm_isa.specs.contracts.vectors.V18 as v18_
use Rattle.hm_isa.specs.contracts.vectors.Offsets as offsets_
use Rattle.hm_isa.specs.contracts.vectors.WrappedOffsets as wrapped_offsets_
use Rattle.hm_isa.specs.contracts.vectors.V19 as v19_
use Rattle.hm_isa.specs.contracts.vectors.CompareVectors as compare_vectors_
use Rattle.hm_isa.specs.contracts.vectors.CompareScalar as compare_scalar_
use Rattle.hm_isa.specs.contracts.vectors.V20 as v20_
use Rattle.hm_isa.specs.contracts.vectors.Block as block_
use Rattle.hm_isa.specs.contracts.vectors.Select as select_
use Rattle.hm_isa.specs.contracts.vectors.Tail as tail_
use Rattle.hm_isa.specs.contracts.vectors.V21 as v21_
use Rattle.hm_isa.specs.contracts.vectors.Sum as sum_
use Rattle.hm_isa.specs.contracts.vectors.Dot as dot_
use Rattle.hm_isa.specs.contracts.vectors.LongSum as long_sum_
use Rattle.hm_isa.specs.contracts.vectors.LongDot as long_dot_
use Rattle.hm_isa.specs.contracts.vectors.V22 as v22_
use Rattle.hm_isa.specs.contracts.vectors.V23 as v23_
use Rattle.hm_isa.specs.Rules.{has_sign, has_size, is_shifted_by, is_signed_by, shift_has_sign}
use Rattle.hm_isa.specs.Code.{add_base, bitwise_base, signed_base, vector_shift_base, constant_shift_base, doubling_base, high_base, carry_base}
use Rattle.hm_isa.specs.Code.{complex_sum_base, scalar_base, one_base, reverse_base, narrowing_base, dup_base, offsets_base, dot_base, extreme_base}
use Rattle.hm_isa.specs.Code.{code_v1, code_v2, code_v3, code_v4, code_v5, code_v6, code_v7, code_v8, code_v9, code_v10, code_v11, code_long_bytes}
use Rattle.hm_isa.specs.Code.{code_long_halves, code_long_full, code_v12, code_one_element, code_invert, code_v13, code_v14, code_v15, code_v16, code_v17}
use Rattle.hm_isa.specs.Code.{code_v18}
use Rattle.hm_isa.specs.Code.{code_offsets, code_wrapped_offsets, code_v19, code_compare_vectors, code_compare_scalar, code_v20, code_block, code_select}
use Rattle.hm_isa.specs.Code.{code_tail, code_v21, code_sum, code_dot, code_long_sum, code_long_dot, code_v22, code_v23, vector_code}
use Rattle.hm_layout.proofs.Places.{head_or, rest_of, Place, place}
use Rattle.hm_layout.proofs.Search.{no_rule, one_rule, decided_both, decided_test, decided_differ}
use Rattle.hm_layout.proofs.Coded.{Coded, digit}
use Rattle.hm_layout.proofs.Rows.{CodeRow, sparing, at, spread, the_name, Named, named, coded, Plain, plain, Varied, varied}
use Rattle.hm_layout.proofs.Tables.{of_table, ◌▹◌}
use Rattle.hm_codes.proofs.MemoryRows.{row_v24, spared_v25, row_v26, row_v27, row_v28}

abbrev pub row_v1 : Named v1_.the_type add_.enum code_v1 add_base
row_v1 = record {
  layout = (the_name tt, (at 20 2 3, (at 17 3 8, (at 13 3 8, (at 1 3 8, tt)))));
  is_code = λ r. omega arith;
  rules = λ v. no_rule;
}

abbrev pub row_v2 : Named v2_.the_type bitwise_.enum code_v2 bitwise_base
row_v2 = record {
  layout = (the_name tt, (at 17 3 8, (at 13 3 8, (at 1 3 8, tt))));
  is_code = λ r. omega arith;
  rules = λ v. no_rule;
}

abbrev pub row_v3 : Named v3_.the_type signed_.enum code_v3 signed_base
row_v3 = record {
  layout = (the_name tt, (at 28 1 2, (at 20 2 3, (at 17 3 8, (at 13 3 8, (at 1 3 8, tt))))));
  is_code = λ r. omega arith;
  rules = λ v. no_rule;
}

abbrev pub row_v4 : Named v4_.the_type by_vector_.enum code_v4 vector_shift_base
row_v4 = record {
  layout = (the_name tt, (at 28 1 2, (at 20 2 3, (at 17 3 8, (at 13 3 8, (at 1 3 8, tt))))));
  is_code = λ r. omega arith;
  rules = λ v. no_rule;
}

abbrev pub row_v5 : Named v5_.the_type doubling_.enum code_v5 doubling_base
row_v5 = record {
  layout = (the_name tt, (at 20 2 3, (at 17 3 8, (at 13 3 8, (at 1 3 8, tt)))));
  is_code = λ r. omega arith;
  rules = λ v. no_rule;
}

abbrev pub row_v6 : Plain v6_.the_type code_v6
row_v6 = record {
  base = 0xee010e00;
  layout = (at 28 1 2, (at 20 2 3, (at 12 1 2, (at 17 3 8, (at 13 3 8, (at 1 3 8, tt))))));
  is_code = λ r. omega arith;
  rules = λ v. one_rule;
}

abbrev pub row_v7 : Named v7_.the_type high_.enum code_v7 high_base
row_v7 = record {
  layout = (the_name tt, (at 28 1 2, (at 20 2 3, (at 17 3 8, (at 13 3 8, (at 1 3 8, tt))))));
  is_code = λ r. omega arith;
  rules = λ v. no_rule;
}

abbrev pub row_v8 : Named v8_.the_type carry_.enum code_v8 carry_base
row_v8 = record {
  layout = (the_name tt, (at 17 3 8, (at 13 3 8, (at 1 3 8, tt))));
  is_code = λ r. omega arith;
  rules = λ v. no_rule;
}

abbrev pub row_v9 : Named v9_.the_type turn_.enum code_v9 complex_sum_base
row_v9 = record {
  layout = (the_name tt, (at 20 2 3, (at 12 1 2, (at 17 3 8, (at 13 3 8, (at 1 3 8, tt))))));
  is_code = λ r. omega arith;
  rules = λ v. one_rule;
}

-- u stands in the codes of the names alone that have a sign
abbrev pub places_v10 : ScalarName → List Place
places_v10 x = place 28 (if has_sign x then 1 else 0) ∷ place 20 2 ∷ place 17 3 ∷ place 13 3 ∷ place 0 4 ∷ []

pub sign_fits : (x : ScalarName) (u : ℕ) → IsTrue (is_signed_by x u) → u < 2 → u < 2 ^ (if has_sign x then 1 else 0)
sign_fits x u s h = grind (arith, nat_tests)

abbrev pub row_v10 : Varied v10_.the_type by_scalar_.enum code_v10 scalar_base
row_v10 = record {
  layout = (the_name tt, (at 28 1 2, (at 20 2 3, (at 17 3 8, (at 13 3 8, (at 0 4 16, tt))))));
  places = places_v10;
  fits = λ r. (sign_fits r.name r.u.value r.signs r.u.in_range, (omega arith, (omega arith, (omega arith, (omega arith, tt)))));
  is_code = λ r. omega arith;
  rules = λ v. decided_both (decided_test _) (decided_both (decided_differ _ _) (decided_both (decided_differ _ _) no_rule));
}

-- where z would be 3 other rows stand
pub no_third_size : (z n : ℕ) → z < 3 → n / 2 ^ 20 % 2 ^ 2 ≡ z → n / 2 ^ 20 % 2 ^ 2 ≡ 3 → ⊥
no_third_size z n h d e = omega arith

abbrev pub spared_v10 : CodeRow V10
spared_v10 =
    sparing (varied row_v10) (λ x. (digit 20 2 3 ∷ []) ∷ [])
    (λ r d. (λ e. no_third_size r.z.value (code_v10 r) r.z.in_range (ap (λ (xs : List ℕ). head_or (rest_of xs)) d) e.0, tt))

abbrev pub places_v11 : ConstantShiftName → List Place
places_v11 x = place 28 (if shift_has_sign x then 1 else 0) ∷ place 16 6 ∷ place 13 3 ∷ place 1 3 ∷ []

pub shift_sign_fits : (x : ConstantShiftName) (u : ℕ) → IsTrue (is_shifted_by x u) → u < 2 → u < 2 ^ (if shift_has_sign x then 1 else 0)
shift_sign_fits x u s h = grind (arith, nat_tests)

abbrev pub row_v11 : Varied v11_.the_type by_constant_.enum code_v11 constant_shift_base
row_v11 = record {
  layout = (the_name tt, (at 28 1 2, (at 16 6 64, (at 13 3 8, (at 1 3 8, tt)))));
  places = places_v11;
  fits = λ r. (shift_sign_fits r.name r.u.value r.signs r.u.in_range, (omega arith, (omega arith, (omega arith, tt))));
  is_code = λ r. omega arith;
  rules = λ v. decided_both (decided_test _) (decided_both (decided_test _) no_rule);
}

-- where the three highest bits of x would be 0 there are immediates
pub no_low_size : (x n : ℕ) → IsTrue (has_size x) → n / 2 ^ 16 % 2 ^ 6 ≡ x → n / 2 ^ 19 % 2 ^ 3 ≡ 0 → ⊥
no_low_size x n s d e =
    let low : 8 ≤ x = grind (arith, nat_tests) in
    omega arith

abbrev pub spared_v11 : CodeRow V11
spared_v11 =
    sparing (varied row_v11) (λ x. (digit 19 3 0 ∷ []) ∷ [])
    (λ r d. (λ e. no_low_size r.x.value (code_v11 r) r.size (ap (λ (xs : List ℕ). head_or (rest_of xs)) d) e.0, tt))

abbrev pub row_long_bytes : Plain long_bytes_.the_type code_long_bytes
row_long_bytes = record {
  base = 0xeea80f40;
  layout = (at 28 1 2, (at 16 3 8, (at 12 1 2, (at 13 3 8, (at 1 3 8, tt)))));
  is_code = λ r. omega arith;
  rules = λ v. no_rule;
}

abbrev pub row_long_halves : Plain long_halves_.the_type code_long_halves
row_long_halves = record {
  base = 0xeeb00f40;
  layout = (at 28 1 2, (at 16 4 16, (at 12 1 2, (at 13 3 8, (at 1 3 8, tt)))));
  is_code = λ r. omega arith;
  rules = λ v. no_rule;
}

abbrev pub row_long_full : Plain long_full_.the_type code_long_full
row_long_full = record {
  base = 0xee310e01;
  layout = (at 28 1 2, (at 18 1 2, (at 12 1 2, (at 13 3 8, (at 1 3 8, tt)))));
  is_code = λ r. omega arith;
  rules = λ v. no_rule;
}

abbrev pub coded_v12 : Coded V12
coded_v12 =
    of_table v12_.enum code_v12 (coded (plain row_long_bytes) ▹ coded (plain row_long_halves) ▹ coded (plain row_long_full) ▹ tt)
    (elim [ v12.Bytes r ↦ refl | v12.Halves r ↦ refl | v12.Full r ↦ refl ])

abbrev pub row_one_element : Named one_element_.the_type one_.enum code_one_element one_base
row_one_element = record {
  layout = (the_name tt, (at 18 2 3, (at 13 3 8, (at 1 3 8, tt))));
  is_code = λ r. omega arith;
  rules = λ v. no_rule;
}

abbrev pub row_invert : Plain invert_.the_type code_invert
row_invert = record {
  base = 0xffb005c0;
  layout = (at 13 3 8, (at 1 3 8, tt));
  is_code = λ r. omega arith;
  rules = λ v. no_rule;
}

abbrev pub coded_v13 : Coded V13
coded_v13 =
    of_table v13_.enum code_v13 (coded (named row_one_element) ▹ coded (plain row_invert) ▹ tt)
    (elim [ v13.Elements r ↦ refl | v13.Not r ↦ refl ])

abbrev pub row_v14 : Named v14_.the_type reverse_.enum code_v14 reverse_base
row_v14 = record {
  layout = (the_name tt, (at 18 2 3, (at 13 3 8, (at 1 3 8, tt))));
  is_code = λ r. omega arith;
  rules = λ v. one_rule;
}

abbrev pub row_v15 : Plain v15_.the_type code_v15
row_v15 = record {
  base = 0xef800050;
  layout = (at 28 1 2, (at 16 3 8, (at 13 3 8, (at 8 4 15, (at 5 1 2, (at 0 4 16, tt))))));
  is_code = λ r. omega arith;
  rules = λ v. no_rule;
}

abbrev pub row_v16 : Named v16_.the_type narrowing.enum code_v16 narrowing_base
row_v16 = record {
  layout = (the_name tt, (at 18 1 2, (at 12 1 2, (at 13 3 8, (at 1 3 8, tt)))));
  is_code = λ r. omega arith;
  rules = λ v. no_rule;
}

abbrev pub row_v17 : Plain v17_.the_type code_v17
row_v17 = record {
  base = 0xeea00fc0;
  layout = (at 16 5 32, (at 13 3 8, (at 0 4 16, tt)));
  is_code = λ r. omega arith;
  rules = λ v. decided_both (decided_differ _ _) (decided_both (decided_differ _ _) no_rule);
}

abbrev pub row_v18 : Named v18_.the_type element_.enum code_v18 dup_base
row_v18 = record {
  layout = (the_name tt, (at 17 3 8, (at 12 4 16, tt)));
  is_code = λ r. omega arith;
  rules = λ v. decided_both (decided_differ _ _) (decided_both (decided_differ _ _) no_rule);
}

-- 7 in place of a register for none
abbrev pub free_base : OffsetsName → ℕ
free_base x = offsets_base x + 0xe

abbrev pub row_offsets : Named offsets_.the_type direction_.enum code_offsets free_base
row_offsets = record {
  layout = (the_name tt, (at 20 2 3, (at 17 3 8, (at 13 3 8, (spread (place 0 1 ∷ place 7 1 ∷ []) 4, tt)))));
  is_code = λ r. omega arith;
  rules = λ v. no_rule;
}

abbrev pub row_wrapped_offsets : Named wrapped_offsets_.the_type direction_.enum code_wrapped_offsets offsets_base
row_wrapped_offsets = record {
  layout = (the_name tt, (at 20 2 3, (at 17 3 8, (at 13 3 8, (spread (place 0 1 ∷ place 7 1 ∷ []) 4, (at 1 3 6, tt))))));
  is_code = λ r. omega arith;
  rules = λ v. no_rule;
}

abbrev pub coded_v19 : Coded V19
coded_v19 =
    of_table v19_.enum code_v19 (coded (named row_offsets) ▹ coded (named row_wrapped_offsets) ▹ tt)
    (elim [ v19.Free r ↦ refl | v19.Wrapped r ↦ refl ])

abbrev pub row_compare_vectors : Plain compare_vectors_.the_type code_compare_vectors
row_compare_vectors = record {
  base = 0xfe010f00;
  layout = (spread (place 13 3 ∷ place 22 1 ∷ []) 16, (at 20 2 3, (at 17 3 8, (spread (place 7 1 ∷ place 0 1 ∷ place 12 1 ∷ []) 8, (at 1 3 8, tt)))));
  is_code = λ r. omega arith;
  rules = λ v. no_rule;
}

abbrev pub row_compare_scalar : Plain compare_scalar_.the_type code_compare_scalar
row_compare_scalar = record {
  base = 0xfe010f40;
  layout = (spread (place 13 3 ∷ place 22 1 ∷ []) 16, (at 20 2 3, (at 17 3 8, (spread (place 7 1 ∷ place 5 1 ∷ place 12 1 ∷ []) 8, (at 0 4 16, tt)))));
  is_code = λ r. omega arith;
  rules = λ v. decided_both (decided_differ _ _) no_rule;
}

abbrev pub coded_v20 : Coded V20
coded_v20 =
    of_table v20_.enum code_v20 (coded (plain row_compare_vectors) ▹ coded (plain row_compare_scalar) ▹ tt)
    (elim [ v20.Vectors r ↦ refl | v20.Scalar r ↦ refl ])

abbrev pub row_block : Plain block_.the_type code_block
row_block = record {
  base = 0xfe310f4d;
  layout = (spread (place 13 3 ∷ place 22 1 ∷ []) 16, tt);
  is_code = λ r. omega arith;
  rules = λ v. no_rule;
}

abbrev pub row_select : Plain select_.the_type code_select
row_select = record {
  base = 0xfe310f01;
  layout = (at 17 3 8, (at 13 3 8, (at 1 3 8, tt)));
  is_code = λ r. omega arith;
  rules = λ v. no_rule;
}

abbrev pub row_tail : Plain tail_.the_type code_tail
row_tail = record {
  base = 0xf000e801;
  layout = (at 20 2 4, (at 16 4 16, tt));
  is_code = λ r. omega arith;
  rules = λ v. decided_both (decided_differ _ _) (decided_both (decided_differ _ _) no_rule);
}

abbrev pub coded_v21 : Coded V21
coded_v21 =
    of_table v21_.enum code_v21 (coded (plain row_block) ▹ coded (plain row_select) ▹ coded (plain row_tail) ▹ tt)
    (elim [ v21.Block r ↦ refl | v21.Select r ↦ refl | v21.Tail r ↦ refl ])

abbrev pub row_sum : Plain sum_.the_type code_sum
row_sum = record {
  base = 0xeef10f00;
  layout = (at 28 1 2, (at 18 2 3, (at 13 3 8, (at 5 1 2, (at 1 3 8, tt)))));
  is_code = λ r. omega arith;
  rules = λ v. no_rule;
}

abbrev pub row_dot : Named dot_.the_type element_.enum code_dot dot_base
row_dot = record {
  layout = (the_name tt, (at 28 1 2, (at 17 3 8, (at 13 3 8, (at 5 1 2, (at 1 3 8, tt))))));
  is_code = λ r. omega arith;
  rules = λ v. no_rule;
}

abbrev pub row_long_sum : Plain long_sum_.the_type code_long_sum
row_long_sum = record {
  base = 0xee890f00;
  layout = (at 28 1 2, (at 20 3 6, (at 13 3 8, (at 5 1 2, (at 1 3 8, tt)))));
  is_code = λ r. omega arith;
  rules = λ v. no_rule;
}

abbrev pub row_long_dot : Plain long_dot_.the_type code_long_dot
row_long_dot = record {
  base = 0xee800e00;
  layout = (at 28 1 2, (at 20 3 6, (at 17 3 8, (at 16 1 2, (at 13 3 8, (at 5 1 2, (at 1 3 8, tt)))))));
  is_code = λ r. omega arith;
  rules = λ v. no_rule;
}

abbrev pub coded_v22 : Coded V22
coded_v22 =
    of_table v22_.enum code_v22 (coded (plain row_sum) ▹ coded (named row_dot) ▹ coded (plain row_long_sum) ▹ coded (plain row_long_dot) ▹ tt)
    (elim [ v22.Sum r ↦ refl | v22.Dot r ↦ refl | v22.LongSum r ↦ refl | v22.LongDot r ↦ refl ])

abbrev pub row_v23 : Named v23_.the_type extreme_.enum code_v23 extreme_base
row_v23 = record {
  layout = (the_name tt, (at 28 1 2, (at 18 2 3, (at 12 4 16, (at 1 3 8, tt)))));
  is_code = λ r. omega arith;
  rules = λ v. decided_both (decided_differ _ _) (decided_both (decided_differ _ _) no_rule);
}

-- all rows
abbrev pub coded_vector : Coded Vector
coded_vector =
    of_table vector_.enum vector_code (
    coded (named row_v1) ▹
    coded (named row_v2) ▹
    coded (named row_v3) ▹
    coded (named row_v4) ▹
    coded (named row_v5) ▹
    coded (plain row_v6) ▹
    coded (named row_v7) ▹
    coded (named row_v8) ▹
    coded (named row_v9) ▹
    coded spared_v10 ▹
    coded spared_v11 ▹
    coded_v12 ▹
    coded_v13 ▹
    coded (named row_v14) ▹
    coded (plain row_v15) ▹
    coded (named row_v16) ▹
    coded (plain row_v17) ▹
    coded (named row_v18) ▹
    coded_v19 ▹
    coded_v20 ▹
    coded_v21 ▹
    coded_v22 ▹
    coded (named row_v23) ▹
    coded (plain row_v24) ▹
    coded spared_v25 ▹
    coded (plain row_v26) ▹
    coded (plain row_v27) ▹
    coded (plain row_v28) ▹
    tt)
    (elim [ vector.V1 r ↦ refl | v ↦ refl ])

pub unique_vector : (u v : Vector) → vector_code u ≡ vector_code v → u ≡ v
unique_vector = coded_vector.one refl
