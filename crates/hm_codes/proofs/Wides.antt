-- The rows of 32-bit codes that are no vector rows.
use Rattle.std.proofs.Common.{sym, ◌∙◌, ◌≡◌, ◌+◌, ℕ, List, [], ◌∷◌, arith, refl, ap, IsTrue}
use Rattle.std.proofs.lemmas.Bool.Decides.{nat_tests}
use Rattle.hm_isa.specs.declared.narrow.AccessName.{AccessName}
use Rattle.hm_isa.specs.declared.wide.T12.{T12}
use Rattle.hm_isa.specs.declared.wide.T12.TheVariants as t12
use Rattle.hm_isa.specs.declared.wide.PairName.{PairName}
use Rattle.hm_isa.specs.declared.wide.T13.{T13}
use Rattle.hm_isa.specs.contracts.narrow.AccessName as access_
use Rattle.hm_isa.specs.contracts.wide.PairName as pair_
use Rattle.hm_isa.specs.contracts.wide.WideListName as wide_list_
use Rattle.hm_isa.specs.contracts.wide.StackName as stack_
use Rattle.hm_isa.specs.contracts.wide.T12 as t12_
use Rattle.hm_isa.specs.contracts.wide.Offset as offset_
use Rattle.hm_isa.specs.contracts.wide.Indexed as indexed_
use Rattle.hm_isa.specs.contracts.wide.Shifted as shifted_
use Rattle.hm_isa.specs.contracts.wide.Literal as literal_
use Rattle.hm_isa.specs.contracts.wide.T13 as t13_
use Rattle.hm_isa.specs.contracts.wide.T14 as t14_
use Rattle.hm_isa.specs.contracts.wide.T15 as t15_
use Rattle.hm_isa.specs.Rules.{is_offset, is_pair}
use Rattle.hm_isa.specs.Code.{wide_access_base, code_offset, code_indexed, code_shifted, code_literal, code_t12, pair_base, code_t13, wide_list_base, code_t14}
use Rattle.hm_isa.specs.Code.{stack_base, code_t15}
use Rattle.hm_layout.proofs.Bits.{both_left}
use Rattle.hm_layout.proofs.Places.{head_or, rest_of}
use Rattle.hm_layout.proofs.Search.{one_rule}
use Rattle.hm_layout.proofs.Coded.{Coded, Digit, digit}
use Rattle.hm_layout.proofs.Rows.{CodeRow, at, the_name, Named, named, coded, sparing}
use Rattle.hm_layout.proofs.Tables.{of_table, ◌▹◌}

abbrev pub row_offset : Named offset_.the_type access_.enum code_offset (λ x. wide_access_base x + 0x00800000)
row_offset = record {
  layout = (the_name tt, (at 16 4 16, (at 12 4 16, (at 0 12 4096, tt))));
  is_code = λ r. omega arith;
  rules = λ v. one_rule;
}

abbrev pub row_indexed : Named indexed_.the_type access_.enum code_indexed (λ x. wide_access_base x + 0x0800)
row_indexed = record {
  layout = (the_name tt, (at 16 4 16, (at 12 4 16, (at 10 1 2, (at 9 1 2, (at 8 1 2, (at 0 8 256, tt)))))));
  is_code = λ r. omega arith;
  rules = λ v. one_rule;
}

abbrev pub row_shifted : Named shifted_.the_type access_.enum code_shifted wide_access_base
row_shifted = record {
  layout = (the_name tt, (at 16 4 16, (at 12 4 16, (at 4 2 4, (at 0 4 16, tt)))));
  is_code = λ r. omega arith;
  rules = λ v. one_rule;
}

abbrev pub row_literal : Named literal_.the_type access_.enum code_literal (λ x. wide_access_base x + 0x000f0000)
row_literal = record {
  layout = (the_name tt, (at 23 1 2, (at 12 4 16, (at 0 12 4096, tt))));
  is_code = λ r. omega arith;
  rules = λ v. one_rule;
}

pub no_pc : (x : AccessName) (n t : ℕ) → IsTrue (is_offset x n t) → n ≡ 15 → ⊥
no_pc x n t h e = grind (arith, nat_tests)

-- the program counter is the base of a literal alone
abbrev pub no_base : List (List Digit)
no_base = (digit 16 4 15 ∷ []) ∷ []

abbrev pub coded_t12 : Coded T12
coded_t12 =
    of_table t12_.enum code_t12 (
    coded (sparing (named row_offset) (λ x. no_base) (λ r d. (λ e. no_pc r.name r.n.value r.t.value r.rules (sym (ap head_or d) ∙ e.0), tt))) ▹
    coded (sparing (named row_indexed) (λ x. no_base) (λ r d. (λ e. no_pc r.name r.n.value r.t.value (both_left _ _ r.rules) (sym (ap head_or d) ∙ e.0), tt))) ▹
    coded (sparing (named row_shifted) (λ x. no_base) (λ r d. (λ e. no_pc r.name r.n.value r.t.value (both_left _ _ r.rules) (sym (ap head_or d) ∙ e.0), tt))) ▹
    coded (named row_literal) ▹
    tt)
    (elim [ t12.Offset r ↦ refl | t12.Indexed r ↦ refl | t12.Shifted r ↦ refl | t12.Literal r ↦ refl ])

abbrev pub row_t13 : Named t13_.the_type pair_.enum code_t13 pair_base
row_t13 = record {
  layout = (the_name tt, (at 24 1 2, (at 23 1 2, (at 21 1 2, (at 16 4 16, (at 12 4 16, (at 8 4 16, (at 0 8 256, tt))))))));
  is_code = λ r. omega arith;
  rules = λ v. one_rule;
}

pub some_use : (x : PairName) (p w n t u : ℕ) → IsTrue (is_pair x p w n t u) → p ≡ 0 → w ≡ 0 → ⊥
some_use x p w n t u k e f = grind (arith, nat_tests)

-- with neither an offset nor writeback other rows stand
abbrev pub spared_t13 : CodeRow T13
spared_t13 =
    sparing (named row_t13) (λ x. (digit 24 1 0 ∷ digit 21 1 0 ∷ []) ∷ [])
    (λ r d. (
      λ e.
          some_use r.name r.p.value r.w.value r.n.value r.t.value r.u.value r.rules (sym (ap head_or d) ∙ e.0)
          (sym (ap (λ (xs : List ℕ). head_or (rest_of (rest_of xs))) d) ∙ e.1.0),
      tt,
    ))

abbrev pub row_t14 : Named t14_.the_type wide_list_.enum code_t14 wide_list_base
row_t14 = record {
  layout = (the_name tt, (at 21 1 2, (at 16 4 16, (at 0 16 65536, tt))));
  is_code = λ r. omega arith;
  rules = λ v. one_rule;
}

abbrev pub row_t15 : Named t15_.the_type stack_.enum code_t15 stack_base
row_t15 = record {
  layout = (the_name tt, (at 12 4 16, (at 1 5 17, tt)));
  is_code = λ r. omega arith;
  rules = λ v. one_rule;
}
