-- The rows of special registers, barriers, and of scalar instructions on vector registers.
use Rattle.std.proofs.Common.{ℕ, [], ◌∷◌, arith, refl, inl, true}
use Rattle.hm_isa.specs.declared.system.T18.{T18}
use Rattle.hm_isa.specs.declared.system.T18.TheVariants as t18
use Rattle.hm_isa.specs.declared.system.T19.{T19}
use Rattle.hm_isa.specs.declared.system.T19.TheVariants as t19
use Rattle.hm_isa.specs.contracts.system.ReadName as read_
use Rattle.hm_isa.specs.contracts.system.WrittenName as written_
use Rattle.hm_isa.specs.contracts.system.BarrierName as barrier_name_
use Rattle.hm_isa.specs.contracts.system.SystemMoveName as system_move_
use Rattle.hm_isa.specs.contracts.system.LaneMoveName as lane_move_
use Rattle.hm_isa.specs.contracts.system.Mrs as mrs_
use Rattle.hm_isa.specs.contracts.system.Msr as msr_
use Rattle.hm_isa.specs.contracts.system.T18 as t18_
use Rattle.hm_isa.specs.contracts.system.Barrier as barrier_
use Rattle.hm_isa.specs.contracts.system.T19 as t19_
use Rattle.hm_isa.specs.contracts.system.T21 as t21_
use Rattle.hm_isa.specs.contracts.system.T22 as t22_
use Rattle.hm_isa.specs.SystemCodes.{read_base, code_mrs, written_base, code_msr, code_t18, barrier_base, code_barrier, code_t19, system_move_base, code_t21}
use Rattle.hm_isa.specs.SystemCodes.{lane_move_base, code_t22}
use Rattle.hm_layout.proofs.Places.{place}
use Rattle.hm_layout.proofs.Search.{no_rule, one_rule, decided_both, decided_differ, try_unit}
use Rattle.hm_layout.proofs.Coded.{Coded}
use Rattle.hm_layout.proofs.Rows.{CodeRow, at, spread, the_name, Named, named, coded}
use Rattle.hm_layout.proofs.Tables.{of_table, ◌▹◌}

abbrev pub row_mrs : Named mrs_.the_type read_.enum code_mrs read_base
row_mrs = record {
  layout = (the_name tt, (at 8 4 16, tt));
  is_code = λ r. omega arith;
  rules = λ v. decided_both (decided_differ _ _) (decided_both (decided_differ _ _) no_rule);
}

abbrev pub row_msr : Named msr_.the_type written_.enum code_msr written_base
row_msr = record {
  layout = (the_name tt, (at 16 4 16, tt));
  is_code = λ r. omega arith;
  rules = λ v. decided_both (decided_differ _ _) (decided_both (decided_differ _ _) no_rule);
}

abbrev pub coded_t18 : Coded T18
coded_t18 =
    of_table t18_.enum code_t18 (coded (named row_mrs) ▹ coded (named row_msr) ▹ tt)
    (elim [ t18.Read r ↦ refl | t18.Write r ↦ refl ])

-- a row of one code
abbrev pub one_code : ℕ → CodeRow (Unit {0})
one_code c = record {
  Name = Unit {0};
  names = tt ∷ [];
  name = λ r. tt;
  listed = λ r. inl refl;
  base = λ x. c;
  places = λ x. [];
  without = λ x. [];
  is_fit = true;
  code = λ r. c;
  numbers = λ r. [];
  fits = λ e r. tt;
  is_code = λ r. omega arith;
  spared = λ e r d. tt;
  told = λ e a b name numbers. refl;
  tried = try_unit;
}

abbrev pub row_barrier : Named barrier_.the_type barrier_name_.enum code_barrier barrier_base
row_barrier = record {
  layout = (the_name tt, (at 0 4 16, tt));
  is_code = λ r. omega arith;
  rules = λ v. no_rule;
}

abbrev pub coded_t19 : Coded T19
coded_t19 =
    of_table t19_.enum code_t19 (coded (one_code 0xf3af8000) ▹ coded (named row_barrier) ▹ tt)
    (elim [ t19.Nop ↦ refl | t19.Barrier r ↦ refl ])

abbrev pub row_t21 : Named t21_.the_type system_move_.enum code_t21 system_move_base
row_t21 = record {
  layout = (the_name tt, (at 12 4 16, tt));
  is_code = λ r. omega arith;
  rules = λ v. one_rule;
}

abbrev pub row_t22 : Named t22_.the_type lane_move_.enum code_t22 lane_move_base
row_t22 = record {
  layout = (the_name tt, (spread (place 21 1 ∷ place 16 1 ∷ []) 4, (at 17 3 8, (at 12 4 16, tt))));
  is_code = λ r. omega arith;
  rules = λ v. decided_both (decided_differ _ _) (decided_both (decided_differ _ _) no_rule);
}
