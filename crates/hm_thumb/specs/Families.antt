-- The families of rows, each of which has a crate for its code.
use Rattle.std.specs.Prelude.{Bool, true, false, not}
use Rattle.hm_isa.specs.declared.Instr.{Instr}
use Rattle.hm_isa.specs.declared.Instr.TheVariants as instr
use Rattle.hm_isa.specs.declared.Scalar.{Scalar}
use Rattle.hm_isa.specs.declared.Scalar.TheVariants as scalar

-- whether a scalar row loads or stores: bytes, halfwords or words, pairs of words, or registers of a list
abbrev pub loads_or_stores : Scalar → Bool
loads_or_stores (scalar.S14 i) = true
loads_or_stores (scalar.S15 i) = true
loads_or_stores (scalar.S16 i) = true
loads_or_stores (scalar.S17 i) = true
loads_or_stores (scalar.S20 i) = true
loads_or_stores (scalar.T12 i) = true
loads_or_stores (scalar.T13 i) = true
loads_or_stores (scalar.T14 i) = true
loads_or_stores (scalar.T15 i) = true
loads_or_stores i = false

-- whether an instruction is of a scalar row that loads or stores
abbrev pub is_memory_row : Instr → Bool
is_memory_row (instr.Scalar i) = loads_or_stores i
is_memory_row i = false

-- whether an instruction is of a scalar row that neither loads nor stores
abbrev pub is_register_row : Instr → Bool
is_register_row (instr.Scalar i) = not (loads_or_stores i)
is_register_row i = false

-- whether an instruction is of a branch row: a branch, a call, the begin or end of a loop, or LCTP
abbrev pub is_branch_row : Instr → Bool
is_branch_row (instr.Branch i) = true
is_branch_row i = false

-- whether an instruction is of a vector row
abbrev pub is_vector_row : Instr → Bool
is_vector_row (instr.Vector v) = true
is_vector_row i = false
