-- The two words for whole instructions in order: `seq` of a machine that overlaps beats, and `in_order` of an image.
use Rattle.std.specs.Prelude.{◌≡◌, ℕ, Ok, Err}
use Rattle.hm_order.specs.Machine.{next, seq}
use Rattle.hm_run.specs.Program.{Program}
use Rattle.hm_run.specs.Stops as why
use Rattle.hm_run.specs.Stops.{WholeStop}
use Rattle.hm_base.specs.declared.Fault.{Fault}
use Rattle.hm_state.specs.State.{State}

-- n whole instructions in order end in a state, and the next one stops there
pub record StopsFrom (M : Program) (first : State) (n : ℕ) (s : State) (w : WholeStop) : Type 0 where
  pub runs : seq M n first ≡ Ok s
  pub stop : next M s ≡ Err w

-- the next one, at this program counter, has a fault
pub record FaultsAt (M : Program) (first : State) (n : ℕ) (f : Fault) (pc : ℕ) : Type 0 where
  pub state : State
  pub stops : StopsFrom M first n state (why.Faults f)
  pub at : state.pc ≡ pc
