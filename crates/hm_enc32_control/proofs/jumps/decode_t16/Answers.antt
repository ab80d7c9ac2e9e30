use Rattle.hm_isa.specs.declared.jumps.T16.TheVariants as t16
use Rattle.hm_enc32_control.proofs.jumps.decode_t16.Goals as goal

pub returns-clause-none : goal.returns-clause-none
returns-clause-none c =
    elim [ t16.Conditional r ↦ c.in_default.ensures.none r | t16.Always r ↦ c.in_default-decode_wide_always.ensures.none r ]
