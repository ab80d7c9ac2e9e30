-- Why a whole instruction does not go on to the next.
use Rattle.std.specs.Prelude.{ℕ, Option, Some, None}
use Rattle.hm_base.specs.declared.Fault.{Fault}
use Rattle.hm_isa.specs.declared.Instr.{Instr}
use Rattle.hm_isa.specs.declared.Instr.TheVariants as instr
use Rattle.hm_isa.specs.declared.Scalar.{Scalar}
use Rattle.hm_isa.specs.declared.Scalar.TheVariants as scalar
use Rattle.hm_run.specs.declared.Reason.{Reason}

-- it halts, its output has no room, or it has a fault
pub data WholeStop : Type 0 where
  Halt : Reason → WholeStop
  Full : WholeStop
  Faults : Fault → WholeStop

-- S18: the number of BKPT, if a scalar row is one (DDI0553, "BKPT")
abbrev pub scalar_break : Scalar → Option ℕ
scalar_break (scalar.S18 i) = Some i.i.value
scalar_break i = None

-- S18: the number of BKPT, if an instruction is one (DDI0553, "BKPT")
abbrev pub break_of : Instr → Option ℕ
break_of (instr.Scalar i) = scalar_break i
break_of i = None

-- S18: what BKPT does, by its number, or else what any other instruction does (DDI0553, "BKPT")
abbrev pub at_break : {A : Type 0} → (ℕ → A) → Option ℕ → A → A
at_break f (Some k) r = f k
at_break f None r = r
