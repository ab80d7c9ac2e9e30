-- A beat of each vector row, as the part of the whole that belongs to it.
use Rattle.std.specs.Prelude.{ℕ, Result, Ok}
use Rattle.hm_base.specs.declared.Stop.{Stop}
use Rattle.hm_isa.specs.declared.Vector.{Vector}
use Rattle.hm_mem.specs.Memory.{Around}
use Rattle.hm_state.specs.State.{State}
use Rattle.hm_rows.specs.Rows.{Kind, Moves, Registers, kind_of}
use Rattle.hm_beat_laws.specs.MovedParts.{move_part}
use Rattle.hm_beat_laws.specs.Parts.{form_part}

-- beat b of a kind, where it is known who accesses the memory
abbrev pub kind_part : Kind → Around → ℕ → State → Result State Stop
kind_part (Registers f) x b s = Ok (form_part f b s)
kind_part (Moves t) x b s = move_part x t b s

-- beat b of a row
abbrev pub row_part : Vector → Around → ℕ → State → Result State Stop
row_part v = kind_part (kind_of v)
