-- The rows of shifts, products, quotients and choices of 32-bit codes.
use Rattle.std.proofs.Common.{◌≡◌, ℕ, List, [], ◌∷◌, arith, refl, ap, sym, ◌∙◌, IsTrue}
use Rattle.std.proofs.lemmas.Bool.Decides.{nat_tests}
use Rattle.hm_isa.specs.declared.arith.BitsName.{BitsName}
use Rattle.hm_isa.specs.declared.arith.Accumulate.{Accumulate}
use Rattle.hm_isa.specs.declared.arith.T11.{T11}
use Rattle.hm_isa.specs.declared.arith.T11.TheVariants as t11
use Rattle.hm_isa.specs.contracts.narrow.ExtendName as extend_
use Rattle.hm_isa.specs.contracts.arith.WideShiftName as wide_shift_
use Rattle.hm_isa.specs.contracts.arith.BitsName as bits_
use Rattle.hm_isa.specs.contracts.arith.OperationName as operation_name_
use Rattle.hm_isa.specs.contracts.arith.AccumulateName as accumulate_name_
use Rattle.hm_isa.specs.contracts.arith.LongProductName as long_product_name_
use Rattle.hm_isa.specs.contracts.arith.SelectName as select_
use Rattle.hm_isa.specs.contracts.arith.T8 as t8_
use Rattle.hm_isa.specs.contracts.arith.T9 as t9_
use Rattle.hm_isa.specs.contracts.arith.T10 as t10_
use Rattle.hm_isa.specs.contracts.arith.T11 as t11_
use Rattle.hm_isa.specs.contracts.arith.Operation as operation_
use Rattle.hm_isa.specs.contracts.arith.Accumulate as accumulate_
use Rattle.hm_isa.specs.contracts.arith.LongProduct as long_product_
use Rattle.hm_isa.specs.contracts.arith.T20 as t20_
use Rattle.hm_isa.specs.Rules.{is_accumulated}
use Rattle.hm_isa.specs.ArithCodes.{wide_shift_base, code_t8, wide_extend_base, code_t9, bits_base, code_t10, operation_base, code_operation, accumulate_base}
use Rattle.hm_isa.specs.ArithCodes.{code_accumulate, long_product_base, code_long_product, code_t11, select_base, code_t20}
use Rattle.hm_layout.proofs.Same.{same_below, same_struct}
use Rattle.hm_layout.proofs.Places.{place, head_or, rest_of}
use Rattle.hm_layout.proofs.Search.{one_rule, try_below, try_names, try_pair, try_unit}
use Rattle.hm_layout.proofs.Coded.{Coded, digit}
use Rattle.hm_layout.proofs.Rows.{CodeRow, at, by_name, the_name, Named, named, Split, coded, sparing}
use Rattle.hm_layout.proofs.Tables.{of_table, ◌▹◌}

abbrev pub row_t8 : Named t8_.the_type wide_shift_.enum code_t8 wide_shift_base
row_t8 = record {
  layout = (the_name tt, (at 20 1 2, (at 16 4 16, (at 8 4 16, (at 0 4 16, tt)))));
  is_code = λ r. omega arith;
  rules = λ v. one_rule;
}

abbrev pub row_t9 : Named t9_.the_type extend_.enum code_t9 wide_extend_base
row_t9 = record {
  layout = (the_name tt, (at 8 4 16, (at 4 2 4, (at 0 4 16, tt))));
  is_code = λ r. omega arith;
  rules = λ v. one_rule;
}

-- the operand stands at two places
abbrev pub row_t10 : Split t10_.the_type BitsName code_t10
row_t10 = record {
  sorts = by_name bits_.enum tt (λ r. r.name);
  base = bits_base;
  places = λ x. place 16 4 ∷ place 8 4 ∷ place 0 4 ∷ [];
  numbers = λ r. r.m.value ∷ r.d.value ∷ r.m.value ∷ [];
  fits = λ r. (r.m.in_range, (r.d.in_range, (r.m.in_range, tt)));
  is_code = λ r. omega arith;
  told = λ a b name numbers.
      let d : a.d ≡ b.d = same_below 16 a.d b.d (ap (λ (xs : List ℕ). head_or (rest_of xs)) numbers) in
      let m : a.m ≡ b.m = same_below 16 a.m b.m (ap head_or numbers) in
      same_struct t10_.the_type a b (λ i. (name i, (d i, (m i, tt))));
  tried = try_pair (try_names bits_.enum tt) (try_pair (try_below 16) (try_pair (try_below 16) try_unit));
  rules = λ v. one_rule;
}

abbrev pub row_operation : Named operation_.the_type operation_name_.enum code_operation operation_base
row_operation = record {
  layout = (the_name tt, (at 16 4 16, (at 8 4 16, (at 0 4 16, tt))));
  is_code = λ r. omega arith;
  rules = λ v. one_rule;
}

abbrev pub row_accumulate : Named accumulate_.the_type accumulate_name_.enum code_accumulate accumulate_base
row_accumulate = record {
  layout = (the_name tt, (at 16 4 16, (at 12 4 16, (at 8 4 16, (at 0 4 16, tt)))));
  is_code = λ r. omega arith;
  rules = λ v. one_rule;
}

pub some_sum : (n a d m : ℕ) → IsTrue (is_accumulated n a d m) → a ≡ 15 → ⊥
some_sum n a d m h e = grind (arith, nat_tests)

-- where pc would be added to, the product stands alone
abbrev pub spared_accumulate : CodeRow Accumulate
spared_accumulate =
    sparing (named row_accumulate) (λ x. (digit 12 4 15 ∷ []) ∷ [])
    (λ r d. (λ e. some_sum r.n.value r.a.value r.d.value r.m.value r.rules (sym (ap (λ (xs : List ℕ). head_or (rest_of xs)) d) ∙ e.0), tt))

abbrev pub row_long_product : Named long_product_.the_type long_product_name_.enum code_long_product long_product_base
row_long_product = record {
  layout = (the_name tt, (at 16 4 16, (at 12 4 16, (at 8 4 16, (at 0 4 16, tt)))));
  is_code = λ r. omega arith;
  rules = λ v. one_rule;
}

abbrev pub coded_t11 : Coded T11
coded_t11 =
    of_table t11_.enum code_t11 (coded (named row_operation) ▹ coded spared_accumulate ▹ coded (named row_long_product) ▹ tt)
    (elim [ t11.Operation r ↦ refl | t11.Accumulate r ↦ refl | t11.Long r ↦ refl ])

abbrev pub row_t20 : Named t20_.the_type select_.enum code_t20 select_base
row_t20 = record {
  layout = (the_name tt, (at 16 4 16, (at 8 4 16, (at 4 4 14, (at 0 4 16, tt)))));
  is_code = λ r. omega arith;
  rules = λ v. one_rule;
}
