-- The rows of 32-bit codes that branch.
use Rattle.std.proofs.Common.{◌≡◌, ◌≢◌, ◌+◌, ℕ, List, [], ◌∷◌, arith, refl, sym, ◌∙◌, ap}
use Rattle.hm_isa.specs.declared.fields.Below.{Below}
use Rattle.hm_isa.specs.declared.jumps.T16.{T16}
use Rattle.hm_isa.specs.declared.jumps.T16.TheVariants as t16
use Rattle.hm_isa.specs.declared.jumps.Dlstp.{Dlstp}
use Rattle.hm_isa.specs.declared.jumps.Wlstp.{Wlstp}
use Rattle.hm_isa.specs.declared.jumps.T23.{T23}
use Rattle.hm_isa.specs.declared.jumps.T23.TheVariants as t23
use Rattle.hm_isa.specs.contracts.jumps.WideConditional as wide_conditional_
use Rattle.hm_isa.specs.contracts.jumps.WideBranchName as wide_branch_
use Rattle.hm_isa.specs.contracts.jumps.WideAlways as wide_always_
use Rattle.hm_isa.specs.contracts.jumps.T16 as t16_
use Rattle.hm_isa.specs.contracts.jumps.TableName as table_
use Rattle.hm_isa.specs.contracts.jumps.T17 as t17_
use Rattle.hm_isa.specs.contracts.jumps.Dls as dls_
use Rattle.hm_isa.specs.contracts.jumps.Wls as wls_
use Rattle.hm_isa.specs.contracts.jumps.Dlstp as dlstp_
use Rattle.hm_isa.specs.contracts.jumps.Wlstp as wlstp_
use Rattle.hm_isa.specs.contracts.jumps.LoopEndName as loop_end_name_
use Rattle.hm_isa.specs.contracts.jumps.LoopEnd as loop_end_
use Rattle.hm_isa.specs.contracts.jumps.T23 as t23_
use Rattle.hm_isa.specs.JumpCodes.{code_wide_conditional, wide_branch_base, code_wide_always, code_t16, table_base, code_t17, code_dls, code_wls, code_dlstp}
use Rattle.hm_isa.specs.JumpCodes.{code_wlstp, loop_end_base, code_loop_end, code_t23}
use Rattle.hm_layout.proofs.Places.{place, head_or, rest_of}
use Rattle.hm_layout.proofs.Search.{Decided, no_rule, decided_both, decided_differ}
use Rattle.hm_layout.proofs.Coded.{Coded, Digit, digit}
use Rattle.hm_layout.proofs.Rows.{Placing, CodeRow, at, spread, the_name, Named, named, Plain, plain, coded, sparing}
use Rattle.hm_layout.proofs.Tables.{of_table, ◌▹◌}
use Rattle.hm_codes.proofs.SystemRows.{one_code}

abbrev pub row_wide_conditional : Plain wide_conditional_.the_type code_wide_conditional
row_wide_conditional = record {
  base = 0xf0008000;
  layout = (at 26 1 2, (at 22 4 14, (at 16 6 64, (at 13 1 2, (at 11 1 2, (at 0 11 2048, tt))))));
  is_code = λ r. omega arith;
  rules = λ v. no_rule;
}

abbrev pub row_wide_always : Named wide_always_.the_type wide_branch_.enum code_wide_always wide_branch_base
row_wide_always = record {
  layout = (the_name tt, (at 26 1 2, (at 16 10 1024, (at 13 1 2, (at 11 1 2, (at 0 11 2048, tt))))));
  is_code = λ r. omega arith;
  rules = λ v. no_rule;
}

abbrev pub coded_t16 : Coded T16
coded_t16 =
    of_table t16_.enum code_t16 (coded (plain row_wide_conditional) ▹ coded (named row_wide_always) ▹ tt)
    (elim [ t16.Conditional r ↦ refl | t16.Always r ↦ refl ])

-- neither sp nor pc
abbrev pub general : (n : ℕ) → Decided ((n ≢ 13) × ((n ≢ 15) × Unit {0}))
general n = decided_both (decided_differ _ _) (decided_both (decided_differ _ _) no_rule)

abbrev pub row_t17 : Named t17_.the_type table_.enum code_t17 table_base
row_t17 = record {
  layout = (the_name tt, (at 16 4 16, (at 0 4 16, tt)));
  is_code = λ r. omega arith;
  rules = λ v. decided_both (decided_differ _ _) (general _);
}

-- the lowest bit of a distance stands highest
abbrev pub label : Placing (Below 2048)
label = spread (place 11 1 ∷ place 1 10 ∷ []) 2048

abbrev pub row_dls : Plain dls_.the_type code_dls
row_dls = record {
  base = 0xf040e001;
  layout = (at 16 4 16, tt);
  is_code = λ r. omega arith;
  rules = λ v. general _;
}

abbrev pub row_wls : Plain wls_.the_type code_wls
row_wls = record {
  base = 0xf040c001;
  layout = (at 16 4 16, (label, tt));
  is_code = λ r. omega arith;
  rules = λ v. general _;
}

abbrev pub row_dlstp : Plain dlstp_.the_type code_dlstp
row_dlstp = record {
  base = 0xf000e001;
  layout = (at 20 2 4, (at 16 4 16, tt));
  is_code = λ r. omega arith;
  rules = λ v. general _;
}

abbrev pub row_wlstp : Plain wlstp_.the_type code_wlstp
row_wlstp = record {
  base = 0xf000c001;
  layout = (at 20 2 4, (at 16 4 16, (label, tt)));
  is_code = λ r. omega arith;
  rules = λ v. general _;
}

abbrev pub row_loop_end : Named loop_end_.the_type loop_end_name_.enum code_loop_end loop_end_base
row_loop_end = record {
  layout = (the_name tt, (label, tt));
  is_code = λ r. omega arith;
  rules = λ v. no_rule;
}

-- with pc for the count other rows stand
abbrev pub no_count : List (List Digit)
no_count = (digit 16 4 15 ∷ []) ∷ []

abbrev pub spared_dlstp : CodeRow Dlstp
spared_dlstp = sparing (plain row_dlstp) (λ x. no_count) (λ r d. (λ e. r.not_pc (sym (ap (λ (xs : List ℕ). head_or (rest_of xs)) d) ∙ e.0), tt))

abbrev pub spared_wlstp : CodeRow Wlstp
spared_wlstp = sparing (plain row_wlstp) (λ x. no_count) (λ r d. (λ e. r.not_pc (sym (ap (λ (xs : List ℕ). head_or (rest_of xs)) d) ∙ e.0), tt))

abbrev pub coded_t23 : Coded T23
coded_t23 =
    of_table t23_.enum code_t23 (
    coded (plain row_dls) ▹
    coded (plain row_wls) ▹
    coded spared_dlstp ▹
    coded spared_wlstp ▹
    coded (named row_loop_end) ▹
    coded (one_code 0xf00fe001) ▹
    tt)
    (elim [ t23.Dls r ↦ refl | t23.Wls r ↦ refl | t23.Dlstp r ↦ refl | t23.Wlstp r ↦ refl | t23.End r ↦ refl | t23.Lctp ↦ refl ])
