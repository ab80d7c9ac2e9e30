-- Instructions as they are executed.
use Rattle.hm_exec.specs.Families.{row_of}
use Rattle.hm_isa.specs.declared.Instr.{Instr}
use Rattle.hm_isa.specs.declared.Instr.TheVariants as instr
use Rattle.hm_recent.specs.declared.decoded.Decoded.{Decoded}
use Rattle.hm_recent.specs.declared.decoded.Decoded.TheVariants.{Whole, Beats}

-- the instruction that was decoded
abbrev pub instr_of : Decoded → Instr
instr_of (Whole x) = x.instr
instr_of (Beats x) = instr.Vector (row_of x)
