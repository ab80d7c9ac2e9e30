-- The registers of a state, as an entry puts them away and a return gives them back.
use Rattle.std.specs.Prelude.{ℕ, Bool, cond, eqb, []}
use Rattle.hm_base.specs.declared.Place.{Place}
use Rattle.hm_base.specs.declared.Place.TheVariants.{Sticky}
use Rattle.hm_mem.specs.Memory.{first_devices, no_bounds, thread_under}
use Rattle.hm_mem.specs.declared.Actor.{Actor}
use Rattle.hm_regs.specs.Place.{value_at}
use Rattle.hm_regs.specs.declared.Regs.{Regs}
use Rattle.hm_state.specs.State.{State, Cell, At, Byte, Value, Rest, is_cell, rest_with, word}

-- what stands in the places, the sticky flag, the program counter, and what stands in no place but the devices, the output and who
-- accesses the memory
pub record Registers : Type 0 where
  pub place : Place → Value
  pub sticky : Bool
  pub pc : ℕ
  pub beside : Rest

-- what stands in no place, without devices, output and who accesses the memory
abbrev pub bare : Rest → Rest
bare r = record r { devices = first_devices; output = []; around = thread_under no_bounds }

-- the registers of a state, as an entry puts them away
abbrev pub registers_in : State → Registers
registers_in s = record { place = λ p. s.cell (At p); sticky = s.sticky; pc = s.pc; beside = bare s.rest }

-- the same of the machine's registers, which are those of every state that is made of them
abbrev pub registers_of : Regs → Registers
registers_of r = record {
  place = λ p. word (cond (is_cell p) (value_at p r) 0);
  sticky = eqb (value_at Sticky r) 1;
  pc = r.pc;
  beside = rest_with r first_devices (thread_under no_bounds) [];
}

-- what each cell holds where the places get back what stood in them, and the bytes stay
abbrev pub cell_back : Registers → State → Cell → Value
cell_back r s (At p) = r.place p
cell_back r s (Byte a) = s.cell (Byte a)

-- the state with these registers, in which this actor accesses the memory: the bytes, the devices and the output stay
abbrev pub restored : Registers → Actor → State → State
restored r actor s = record {
  cell = cell_back r s;
  sticky = r.sticky;
  pc = r.pc;
  rest = record r.beside { devices = s.rest.devices; output = s.rest.output; around = record s.rest.around { actor = actor } };
}
