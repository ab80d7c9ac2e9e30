use Rattle.std.proofs.Common.{arith}
use Rattle.std.proofs.lemmas.Bool.Decides.{nat_tests}
use Rattle.hm_isa.specs.declared.jumps.T23.TheVariants as t23
use Rattle.hm_enc32_control.proofs.jumps.decode_t23.Goals as goal

pub returns-clause-none : goal.returns-clause-none
returns-clause-none c =
    elim [
      | t23.Dls r ↦ c.in_default.ensures.none r
      | t23.Wls r ↦ c.in_default-decode_wls.ensures.none r
      | t23.Dlstp r ↦ c.in_default-decode_dlstp.ensures.none r
      | t23.Wlstp r ↦ c.in_default-decode_wlstp.ensures.none r
      | t23.End r ↦ c.in_default-decode_loop_end.ensures.none r
      | t23.Lctp ↦ λ e. grind (arith, nat_tests)
    ]
