-- The rows of branches.
use Rattle.std.proofs.Common.{[], ◌∷◌, arith, refl}
use Rattle.hm_isa.specs.declared.narrow.S25.{S25}
use Rattle.hm_isa.specs.declared.narrow.S25.TheVariants as s25
use Rattle.hm_isa.specs.contracts.narrow.JumpName as jump_
use Rattle.hm_isa.specs.contracts.narrow.ZeroName as zero_
use Rattle.hm_isa.specs.contracts.narrow.S23 as s23_
use Rattle.hm_isa.specs.contracts.narrow.S24 as s24_
use Rattle.hm_isa.specs.contracts.narrow.S25 as s25_
use Rattle.hm_isa.specs.contracts.narrow.Conditional as conditional_
use Rattle.hm_isa.specs.contracts.narrow.Always as always_
use Rattle.hm_isa.specs.Code.{jump_base, code_s23, zero_base, code_s24, code_conditional, code_always, code_s25}
use Rattle.hm_layout.proofs.Places.{place}
use Rattle.hm_layout.proofs.Search.{no_rule, decided_both, decided_differ}
use Rattle.hm_layout.proofs.Coded.{Coded}
use Rattle.hm_layout.proofs.Rows.{at, spread, the_name, Named, Plain, plain, coded}
use Rattle.hm_layout.proofs.Tables.{of_table, ◌▹◌}

abbrev pub row_s23 : Named s23_.the_type jump_.enum code_s23 jump_base
row_s23 = record {
  layout = (the_name tt, (at 3 4 16, tt));
  is_code = λ r. omega arith;
  rules = λ v. decided_both (decided_differ _ _) (decided_both (decided_differ _ _) no_rule);
}

abbrev pub row_s24 : Named s24_.the_type zero_.enum code_s24 zero_base
row_s24 = record {
  layout = (the_name tt, (spread (place 3 5 ∷ place 9 1 ∷ []) 64, (at 0 3 8, tt)));
  is_code = λ r. omega arith;
  rules = λ v. no_rule;
}

abbrev pub row_conditional : Plain conditional_.the_type code_conditional
row_conditional = record {
  base = 0xd000;
  layout = (at 8 4 14, (at 0 8 256, tt));
  is_code = λ r. omega arith;
  rules = λ v. no_rule;
}

abbrev pub row_always : Plain always_.the_type code_always
row_always = record {
  base = 0xe000;
  layout = (at 0 11 2048, tt);
  is_code = λ r. omega arith;
  rules = λ v. no_rule;
}

abbrev pub coded_s25 : Coded S25
coded_s25 =
    of_table s25_.enum code_s25 (coded (plain row_conditional) ▹ coded (plain row_always) ▹ tt)
    (elim [ s25.Conditional r ↦ refl | s25.Always r ↦ refl ])
