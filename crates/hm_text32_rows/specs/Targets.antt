-- The address that the label of a row names.
use Rattle.std.specs.Prelude.{ℕ, ◌-◌, ◌*◌, ◌^◌, Option, Some, None}
use Rattle.hm_isa.specs.declared.widths.WideRow.{WideRow}
use Rattle.hm_isa.specs.declared.widths.WideRow.TheVariants.{T16, T23}
use Rattle.hm_isa.specs.declared.jumps.T16.{T16 as WideBranchRow}
use Rattle.hm_isa.specs.declared.jumps.T16.TheVariants as t16
use Rattle.hm_isa.specs.declared.jumps.T23.{T23 as LoopRow}
use Rattle.hm_isa.specs.declared.jumps.T23.TheVariants as t23
use Rattle.hm_text_rows.specs.Labels.{behind}
use Rattle.hm_isa.specs.Distances.{wide_always_distance, wide_conditional_distance}

-- T16: the address that the label of B and BL at pc names (DDI0553, "B", encodings T3 and T4, and "BL")
abbrev pub wide_target : WideBranchRow → ℕ → ℕ
wide_target (t16.Conditional i) pc = behind pc (wide_conditional_distance i)
wide_target (t16.Always i) pc = behind pc (wide_always_distance i)

-- T23: the address that the label of WLS and WLSTP, forward, and of LE and LETP, backward, at pc names; None of DLS, DLSTP and LCTP, which have none
-- (DDI0553, "WLS, DLS, WLSTP, DLSTP", "LE, LETP" and "LCTP")
abbrev pub loop_target : LoopRow → ℕ → Option ℕ
loop_target (t23.Wls i) pc = Some (behind pc (2 * i.v.value))
loop_target (t23.Wlstp i) pc = Some (behind pc (2 * i.v.value))
loop_target (t23.End i) pc = Some (behind pc (2 ^ 32 - 2 * i.v.value))
loop_target i pc = None

-- the address that the label of a row of two halfwords names, where the instruction stands at pc: of B and BL of T16,
-- and of WLS, WLSTP, LE and LETP of T23; None where it has none
-- (DDI0553, "B", encodings T3 and T4, "BL", "WLS, DLS, WLSTP, DLSTP" and "LE, LETP")
abbrev pub target : WideRow → ℕ → Option ℕ
target (T16 i) pc = Some (wide_target i pc)
target (T23 i) pc = loop_target i pc
target i pc = None
