-- What always holds of the machine, so that an exception may enter and a handler return.
use Rattle.std.specs.Prelude.{ℕ, ◌≡◌, ◌≢◌, ◌<◌, false, true, List, [], ◌∷◌}
use Rattle.hm_exc.specs.Entry.{FitsEntry, window_in}
use Rattle.hm_exc.specs.Frame.{is_between}
use Rattle.hm_run_laws.specs.Blocks.{IsBlockByte}
use Rattle.hm_run_laws.specs.Levels.{HasLevels}
use Rattle.hm_mem.specs.declared.Actor.{Actor}
use Rattle.hm_mem.specs.declared.Dev.{Dev}
use Rattle.hm_order.specs.Machine.{Config}
use Rattle.hm_sched.specs.Schedule.{Sched}
use Rattle.hm_state.specs.State.{State, regs_of}
use Rattle.hm_sys.specs.Exceptions.{IsException, priority_of}
use Rattle.hm_window.specs.declared.rule.Window.{Window}
use Rattle.hm_run_laws.specs.Entries.{least_active, position_of}
use Rattle.hm_run_laws.specs.Nested.{Interrupted, Nested, around_under}
use Rattle.hm_run_laws.specs.Registers.{restored}

-- THE EXCEPTION NUMBER: 0 in the thread, and in a handler the number of the newest activation
abbrev pub number_under : List Interrupted → ℕ
number_under [] = 0
number_under (x ∷ acts) = x.stacked.number

-- the position that an activation was entered at
abbrev pub interrupted_at : Interrupted → Window
interrupted_at x = record { a = x.a; b = x.b }

-- An entry put this away while those were active: what it stacked is the position and the registers that a return gives back.
pub record IsStacked (x : Interrupted) (acts : List Interrupted) : Type 0 where
  pub exception : IsException x.stacked.number
  pub fits : FitsEntry x.stacked
  pub position : window_in x.stacked ≡ interrupted_at x
  pub registers : (actor : Actor) (t : State) → regs_of (restored x.registers actor t) ≡ x.stacked.regs
  pub number : x.stacked.regs.ipsr ≡ number_under acts
  pub block : IsBlockByte x.stacked.regs.it
  pub context : is_between (interrupted_at x) ≡ false → x.stacked.regs.fpca ≡ true

-- entries put all these away, each while those behind it were active
abbrev pub AreStacked : List Interrupted → Type 0
AreStacked [] = Unit {0}
AreStacked (x ∷ acts) = IsStacked x acts × AreStacked acts

-- each active exception is more urgent than all those that it interrupted
abbrev pub AreUrgent : Dev → List Interrupted → Type 0
AreUrgent d [] = Unit {0}
AreUrgent d (x ∷ acts) = (priority_of d x.stacked.number < least_active d acts) × AreUrgent d acts

-- inside an instruction no IT block is open, and there is a context
abbrev pub FitsInside : Config State → Type 0
FitsInside c = is_between (position_of c) ≡ false → (c.state.rest.it ≡ 0) × (c.state.rest.fpca ≡ true)

-- WHAT ALWAYS HOLDS
-- who accesses the memory, the priorities, the exception number, the stack, the IT byte, the position, and what entries put away all fit together
pub record IsSound (s : Sched) (x : Nested) : Type 0 where
  pub around : x.config.state.rest.around ≡ around_under s x.acts
  pub levels : HasLevels x.config.state.rest.devices
  pub number : x.config.state.rest.ipsr ≡ number_under x.acts
  pub selects : x.config.state.rest.ipsr ≢ 0 → x.config.state.rest.spsel ≡ false
  pub block : IsBlockByte x.config.state.rest.it
  pub inside : FitsInside x.config
  pub stacked : AreStacked x.acts
  pub urgent : AreUrgent x.config.state.rest.devices x.acts
