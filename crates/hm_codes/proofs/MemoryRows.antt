-- The rows of vector codes that load and store.
use Rattle.std.proofs.Common.{◌≡◌, ◌+◌, ◌/◌, ◌%◌, ℕ, IsTrue, List, [], ◌∷◌, arith, sym, ◌∙◌, ap}
use Rattle.std.proofs.lemmas.Bool.Decides.{nat_tests}
use Rattle.hm_isa.specs.declared.memory.V25.{V25}
use Rattle.hm_isa.specs.contracts.memory.V24 as v24_
use Rattle.hm_isa.specs.contracts.memory.V25 as v25_
use Rattle.hm_isa.specs.contracts.memory.V26 as v26_
use Rattle.hm_isa.specs.contracts.memory.V27 as v27_
use Rattle.hm_isa.specs.contracts.memory.V28 as v28_
use Rattle.hm_isa.specs.MemoryRules.{is_widening}
use Rattle.hm_isa.specs.MemoryCodes.{code_v24, code_v25, code_v26, code_v27, code_v28}
use Rattle.hm_layout.proofs.Places.{place, head_or, rest_of}
use Rattle.hm_layout.proofs.Search.{no_rule, one_rule, decided_both, decided_test}
use Rattle.hm_layout.proofs.Coded.{digit}
use Rattle.hm_layout.proofs.Rows.{CodeRow, at, spread, Plain, plain, sparing}

abbrev pub row_v24 : Plain v24_.the_type code_v24
row_v24 = record {
  base = 0xec001e00;
  layout = (at 24 1 2, (at 23 1 2, (at 21 1 2, (at 20 1 2, (at 16 4 16, (at 13 3 8, (at 7 2 3, (at 0 7 128, tt))))))));
  is_code = λ r. omega arith;
  rules = λ v. one_rule;
}

abbrev pub row_v25 : Plain v25_.the_type code_v25
row_v25 = record {
  base = 0xec000e00;
  layout =
      (at 28 1 2, (at 24 1 2, (at 23 1 2, (at 21 1 2, (at 20 1 2, (at 19 1 2, (at 16 3 8, (at 13 3 8, (at 7 2 3, (at 0 7 128, tt))))))))));
  is_code = λ r. omega arith;
  rules = λ v. one_rule;
}

pub some_index : (u p w l h z : ℕ) → IsTrue (is_widening u p w l h z) → p ≡ 0 → w ≡ 0 → ⊥
some_index u p w l h z k e f = grind (arith, nat_tests)

-- with neither an offset nor writeback loads and stores at offsets stand
abbrev pub spared_v25 : CodeRow V25
spared_v25 =
    sparing (plain row_v25) (λ x. (digit 24 1 0 ∷ digit 21 1 0 ∷ []) ∷ [])
    (λ r d. (
      λ e.
          some_index r.u.value r.p.value r.w.value r.l.value r.h.value r.z.value r.rule
          (sym (ap (λ (xs : List ℕ). head_or (rest_of xs)) d) ∙ e.0)
          (sym (ap (λ (xs : List ℕ). head_or (rest_of (rest_of (rest_of xs)))) d) ∙ e.1.0),
      tt,
    ))

abbrev pub row_v26 : Plain v26_.the_type code_v26
row_v26 = record {
  base = 0xec800e00;
  layout =
      (at 28 1 2, (at 20 1 2, (at 16 4 16, (at 13 3 8, (at 7 2 3, (spread (place 4 1 ∷ place 6 1 ∷ []) 3, (at 1 3 8, (at 0 1 2, tt))))))));
  is_code = λ r. omega arith;
  rules = λ v. decided_both (decided_test _) (decided_both (decided_test _) no_rule);
}

abbrev pub row_v27 : Plain v27_.the_type code_v27
row_v27 = record {
  base = 0xfd001e00;
  layout = (at 23 1 2, (at 21 1 2, (at 20 1 2, (at 17 3 8, (at 13 3 8, (at 0 7 128, tt))))));
  is_code = λ r. omega arith;
  rules = λ v. one_rule;
}

abbrev pub row_v28 : Plain v28_.the_type code_v28
row_v28 = record {
  base = 0xfc801e00;
  layout = (at 21 1 2, (at 20 1 2, (at 16 4 16, (at 13 3 8, (at 7 2 3, (at 5 2 4, (at 0 1 2, tt)))))));
  is_code = λ r. omega arith;
  rules = λ v. one_rule;
}
