-- The rows of 16-bit codes.
use Rattle.std.proofs.Common.{◌≡◌, ◌<◌, ◌+◌, ◌/◌, ◌%◌, ◌^◌, ℕ, List, [], ◌∷◌, arith, ap, IsTrue}
use Rattle.std.proofs.lemmas.Bool.Decides.{nat_tests}
use Rattle.hm_isa.specs.declared.narrow.ListName.{ListName}
use Rattle.hm_isa.specs.declared.narrow.ListName.TheVariants as list
use Rattle.hm_isa.specs.declared.narrow.S21.{S21}
use Rattle.hm_isa.specs.contracts.narrow.ShiftName as shift_
use Rattle.hm_isa.specs.contracts.narrow.SumName as sum_
use Rattle.hm_isa.specs.contracts.narrow.ByteName as byte_
use Rattle.hm_isa.specs.contracts.narrow.LogicName as logic_
use Rattle.hm_isa.specs.contracts.narrow.BaseName as base_
use Rattle.hm_isa.specs.contracts.narrow.ExtendName as extend_
use Rattle.hm_isa.specs.contracts.narrow.SwapName as swap_
use Rattle.hm_isa.specs.contracts.narrow.MaskingName as masking_
use Rattle.hm_isa.specs.contracts.narrow.AccessName as access_
use Rattle.hm_isa.specs.contracts.narrow.PlainName as plain_
use Rattle.hm_isa.specs.contracts.narrow.WordName as word_
use Rattle.hm_isa.specs.contracts.narrow.HintName as hint_
use Rattle.hm_isa.specs.contracts.narrow.ListName as list_
use Rattle.hm_isa.specs.contracts.narrow.S1 as s1_
use Rattle.hm_isa.specs.contracts.narrow.S2 as s2_
use Rattle.hm_isa.specs.contracts.narrow.S3 as s3_
use Rattle.hm_isa.specs.contracts.narrow.S4 as s4_
use Rattle.hm_isa.specs.contracts.narrow.S5 as s5_
use Rattle.hm_isa.specs.contracts.narrow.S6 as s6_
use Rattle.hm_isa.specs.contracts.narrow.S7 as s7_
use Rattle.hm_isa.specs.contracts.narrow.S8 as s8_
use Rattle.hm_isa.specs.contracts.narrow.S9 as s9_
use Rattle.hm_isa.specs.contracts.narrow.S10 as s10_
use Rattle.hm_isa.specs.contracts.narrow.S11 as s11_
use Rattle.hm_isa.specs.contracts.narrow.S12 as s12_
use Rattle.hm_isa.specs.contracts.narrow.S13 as s13_
use Rattle.hm_isa.specs.contracts.narrow.S14 as s14_
use Rattle.hm_isa.specs.contracts.narrow.S15 as s15_
use Rattle.hm_isa.specs.contracts.narrow.S16 as s16_
use Rattle.hm_isa.specs.contracts.narrow.S17 as s17_
use Rattle.hm_isa.specs.contracts.narrow.S18 as s18_
use Rattle.hm_isa.specs.contracts.narrow.S19 as s19_
use Rattle.hm_isa.specs.contracts.narrow.S20 as s20_
use Rattle.hm_isa.specs.contracts.narrow.S21 as s21_
use Rattle.hm_isa.specs.Rules.{keeps_it, keeps_list}
use Rattle.hm_isa.specs.Standing.{◌↑◌}
use Rattle.hm_isa.specs.Code.{shift_base, code_s1, sum_base, code_s2, code_s3, byte_base, code_s4, logic_base, code_s5, code_s6, code_s7, code_s8, address_base}
use Rattle.hm_isa.specs.Code.{code_s9, stack_sum_base, code_s10, extend_base, code_s11, swap_base, code_s12, masking_base, code_s13, code_s14, access_base}
use Rattle.hm_isa.specs.Code.{code_s15, plain_base, code_s16, word_base, code_s17, code_s18, hint_base, code_s19, list_base, code_s20, code_s21}
use Rattle.hm_layout.proofs.Coded.{digit}
use Rattle.hm_layout.proofs.Places.{Place, place, Fits, placed, head_or, rest_of}
use Rattle.hm_layout.proofs.Search.{no_rule, one_rule}
use Rattle.hm_layout.proofs.Rows.{CodeRow, at, spread, the_name, Named, Plain, plain, sparing, Varied}

abbrev pub row_s1 : Named s1_.the_type shift_.enum code_s1 shift_base
row_s1 = record {
  layout = (the_name tt, (at 6 5 32, (at 3 3 8, (at 0 3 8, tt))));
  is_code = λ r. omega arith;
  rules = λ v. no_rule;
}

abbrev pub row_s2 : Named s2_.the_type sum_.enum code_s2 sum_base
row_s2 = record {
  layout = (the_name tt, (at 6 3 8, (at 3 3 8, (at 0 3 8, tt))));
  is_code = λ r. omega arith;
  rules = λ v. no_rule;
}

abbrev pub row_s3 : Named s3_.the_type sum_.enum code_s3 (λ x. sum_base x + 0x0400)
row_s3 = record {
  layout = (the_name tt, (at 6 3 8, (at 3 3 8, (at 0 3 8, tt))));
  is_code = λ r. omega arith;
  rules = λ v. no_rule;
}

abbrev pub row_s4 : Named s4_.the_type byte_.enum code_s4 byte_base
row_s4 = record {
  layout = (the_name tt, (at 8 3 8, (at 0 8 256, tt)));
  is_code = λ r. omega arith;
  rules = λ v. no_rule;
}

abbrev pub row_s5 : Named s5_.the_type logic_.enum code_s5 logic_base
row_s5 = record {
  layout = (the_name tt, (at 3 3 8, (at 0 3 8, tt)));
  is_code = λ r. omega arith;
  rules = λ v. no_rule;
}

abbrev pub row_s6 : Plain s6_.the_type code_s6
row_s6 = record {
  base = 0x4400;
  layout = (spread (place 0 3 ∷ place 7 1 ∷ []) 16, (at 3 4 16, tt));
  is_code = λ r. omega arith;
  rules = λ v. one_rule;
}

abbrev pub row_s7 : Plain s7_.the_type code_s7
row_s7 = record {
  base = 0x4500;
  layout = (spread (place 0 3 ∷ place 7 1 ∷ []) 16, (at 3 4 16, tt));
  is_code = λ r. omega arith;
  rules = λ v. one_rule;
}

abbrev pub row_s8 : Plain s8_.the_type code_s8
row_s8 = record {
  base = 0x4600;
  layout = (spread (place 0 3 ∷ place 7 1 ∷ []) 16, (at 3 4 16, tt));
  is_code = λ r. omega arith;
  rules = λ v. no_rule;
}

abbrev pub row_s9 : Named s9_.the_type base_.enum code_s9 address_base
row_s9 = record {
  layout = (the_name tt, (at 8 3 8, (at 0 8 256, tt)));
  is_code = λ r. omega arith;
  rules = λ v. no_rule;
}

abbrev pub row_s10 : Named s10_.the_type sum_.enum code_s10 stack_sum_base
row_s10 = record {
  layout = (the_name tt, (at 0 7 128, tt));
  is_code = λ r. omega arith;
  rules = λ v. no_rule;
}

abbrev pub row_s11 : Named s11_.the_type extend_.enum code_s11 extend_base
row_s11 = record {
  layout = (the_name tt, (at 3 3 8, (at 0 3 8, tt)));
  is_code = λ r. omega arith;
  rules = λ v. no_rule;
}

abbrev pub row_s12 : Named s12_.the_type swap_.enum code_s12 swap_base
row_s12 = record {
  layout = (the_name tt, (at 3 3 8, (at 0 3 8, tt)));
  is_code = λ r. omega arith;
  rules = λ v. no_rule;
}

abbrev pub row_s13 : Named s13_.the_type masking_.enum code_s13 masking_base
row_s13 = record {
  layout = (the_name tt, tt);
  is_code = λ r. omega arith;
  rules = λ v. no_rule;
}

abbrev pub row_s14 : Plain s14_.the_type code_s14
row_s14 = record {
  base = 0x4800;
  layout = (at 8 3 8, (at 0 8 256, tt));
  is_code = λ r. omega arith;
  rules = λ v. no_rule;
}

abbrev pub row_s15 : Named s15_.the_type access_.enum code_s15 access_base
row_s15 = record {
  layout = (the_name tt, (at 6 3 8, (at 3 3 8, (at 0 3 8, tt))));
  is_code = λ r. omega arith;
  rules = λ v. no_rule;
}

abbrev pub row_s16 : Named s16_.the_type plain_.enum code_s16 plain_base
row_s16 = record {
  layout = (the_name tt, (at 6 5 32, (at 3 3 8, (at 0 3 8, tt))));
  is_code = λ r. omega arith;
  rules = λ v. no_rule;
}

abbrev pub row_s17 : Named s17_.the_type word_.enum code_s17 word_base
row_s17 = record {
  layout = (the_name tt, (at 8 3 8, (at 0 8 256, tt)));
  is_code = λ r. omega arith;
  rules = λ v. no_rule;
}

abbrev pub row_s18 : Plain s18_.the_type code_s18
row_s18 = record {
  base = 0xbe00;
  layout = (at 0 8 256, tt);
  is_code = λ r. omega arith;
  rules = λ v. no_rule;
}

abbrev pub row_s19 : Named s19_.the_type hint_.enum code_s19 hint_base
row_s19 = record {
  layout = (the_name tt, tt);
  is_code = λ r. omega arith;
  rules = λ v. no_rule;
}

-- x and n stand at one place, each in the codes of its names
abbrev pub places_s20 : ListName → List Place
places_s20 list.Push = place 8 1 ∷ place 9 0 ∷ place 0 8 ∷ []
places_s20 list.Pop = place 8 1 ∷ place 9 0 ∷ place 0 8 ∷ []
places_s20 list.Stm = place 8 0 ∷ place 8 3 ∷ place 0 8 ∷ []
places_s20 list.Ldm = place 8 0 ∷ place 8 3 ∷ place 0 8 ∷ []

pub fits_s20 : (name : ListName) (x n r : ℕ) → x < 2 → n < 8 → r < 256 → IsTrue (keeps_list name x n r)
    → Fits (places_s20 name) (x ∷ n ∷ r ∷ []) × (list_base name + x ↑ 8 + n ↑ 8 + r ≡ list_base name + placed (places_s20 name) (x ∷ n ∷ r ∷ []))
fits_s20 list.Push x n r h i j k = let z : n ≡ 0 = grind (arith, nat_tests) in ((omega arith, (omega arith, (omega arith, tt))), omega arith)
fits_s20 list.Pop x n r h i j k = let z : n ≡ 0 = grind (arith, nat_tests) in ((omega arith, (omega arith, (omega arith, tt))), omega arith)
fits_s20 list.Stm x n r h i j k = let z : x ≡ 0 = grind (arith, nat_tests) in ((omega arith, (omega arith, (omega arith, tt))), omega arith)
fits_s20 list.Ldm x n r h i j k = let z : x ≡ 0 = grind (arith, nat_tests) in ((omega arith, (omega arith, (omega arith, tt))), omega arith)

abbrev pub row_s20 : Varied s20_.the_type list_.enum code_s20 list_base
row_s20 = record {
  layout = (the_name tt, (at 8 1 2, (at 8 3 8, (at 0 8 256, tt))));
  places = places_s20;
  fits = λ r. (fits_s20 r.name r.x.value r.n.value r.list.value r.x.in_range r.n.in_range r.list.in_range r.row).0;
  is_code = λ r. (fits_s20 r.name r.x.value r.n.value r.list.value r.x.in_range r.n.in_range r.list.in_range r.row).1;
  rules = λ v. one_rule;
}

abbrev pub row_s21 : Plain s21_.the_type code_s21
row_s21 = record {
  base = 0xbf00;
  layout = (at 4 4 15, (at 0 4 16, tt));
  is_code = λ r. omega arith;
  rules = λ v. one_rule;
}

pub some_mask : (c mask n : ℕ) → IsTrue (keeps_it c mask) → n / 2 ^ 0 % 2 ^ 4 ≡ mask → n / 2 ^ 0 % 2 ^ 4 ≡ 0 → ⊥
some_mask c mask n k d e = grind (arith, nat_tests)

-- with no mask other rows stand
abbrev pub spared_s21 : CodeRow S21
spared_s21 =
    sparing (plain row_s21) (λ x. (digit 0 4 0 ∷ []) ∷ [])
    (λ r d. (λ e. some_mask r.c.value r.mask.value (code_s21 r) r.row (ap (λ (xs : List ℕ). head_or (rest_of xs)) d) e.0, tt))
