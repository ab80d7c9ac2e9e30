-- What the parts of a machine that letters of a schedule change stand for.
use Rattle.std.specs.Prelude.{◌≡◌, ℕ, ◌+◌, ◌<◌, ◌≤◌, IsTrue, List, map, Result, Ok, Err}
use Rattle.std.specs.Vec.{vec_capacity}
use Rattle.arrayvec.specs.ArrayVec.{array_vec_len}
use Rattle.hm_cpu.specs.declared.cpu.Cpu.{Cpu}
use Rattle.hm_cpu.specs.declared.step_ends.StepEnd.{StepEnd}
use Rattle.hm_cpu.specs.declared.step_ends.StepEnd.TheVariants as step_end
use Rattle.hm_cpu.specs.declared.step_ends.LetterEnd.{LetterEnd}
use Rattle.hm_cpu.specs.declared.step_ends.LetterEnd.TheVariants as letter_end
use Rattle.hm_exc.specs.Entry.{newest_first, window_in}
use Rattle.hm_exc.specs.Return.{return_rule}
use Rattle.hm_exc.specs.declared.types.Activation.{Activation}
use Rattle.hm_run_laws.specs.Nested.{Ended, Interrupted, Nested, NestedEnd, NestedStep, Offends, around_under, returned}
use Rattle.hm_run_laws.specs.Registers.{registers_of}
use Rattle.hm_run_laws.specs.Sound.{AreStacked, IsSound}
use Rattle.hm_mem.specs.Memory.{Around, memory_of}
use Rattle.hm_mem.specs.Seen.{IsSameElsewhere}
use Rattle.hm_mem.specs.declared.Actor.TheVariants.{Thread}
use Rattle.hm_order.specs.Machine as order
use Rattle.hm_order.specs.Machine.{Config, End}
use Rattle.hm_run.specs.declared.Cause.{Cause}
use Rattle.hm_window.specs.declared.rule.Rule.{Rule}
use Rattle.hm_isa.specs.declared.Instr.{Instr}
use Rattle.hm_run.specs.Program.{Stepped, steps_left, vector_in}
use Rattle.hm_sched.specs.Schedule.{Sched}
use Rattle.hm_state.specs.State.{State, regs_of, state_of}
use Rattle.hm_whole.specs.Whole.{seen_in}

-- the state that the registers, the memory and the output of a machine make
abbrev pub state_in : Cpu → State
state_in x = state_of x.regs (memory_of x.mem) x.output.items

-- the position, what is counted, and the state of a machine
abbrev pub config_of : Cpu → Config State
config_of x = record { a = x.window.a; b = x.window.b; n = x.retired; steps = x.older_steps; state = state_in x }

-- what an instruction answered, and the state that it left
abbrev pub executed : Result Unit Cause → State → Result State Cause
executed (Ok u) s = Ok s
executed (Err e) s = Err e

-- what a step of the older answered, and where it left the machine
abbrev pub reached : Result Unit Cause → Cpu → Stepped
reached (Ok u) x = Ok (config_of x)
reached (Err e) x = Err (order.Stopped (config_of x) e)

-- why a step does not go on, where the machine stands so
abbrev pub step_ended : StepEnd → Config State → End State Cause Rule
step_ended (step_end.Stopped e) c = order.Stopped c e
step_ended (step_end.Broken r) c = order.Broken c r

-- what a step of the younger answered
abbrev pub reached_younger : Result Unit StepEnd → Cpu → Stepped
reached_younger (Ok u) x = Ok (config_of x)
reached_younger (Err h) x = Err (step_ended h (config_of x))

-- THE MACHINE WITH HANDLERS
-- what an entry put away: its position is that of its frame
abbrev pub interrupted_of : Activation → Interrupted
interrupted_of x = record { a = (window_in x).a; b = (window_in x).b; registers = registers_of x.regs; stacked = x }

-- a machine with what its handlers interrupted, the newest first
abbrev pub nested_of : Cpu → Nested
nested_of x = record { config = config_of x; acts = map interrupted_of (newest_first x.acts) }

-- why a letter does not go on, where the machine stands so
abbrev pub letter_ended : LetterEnd → Nested → NestedEnd
letter_ended (letter_end.Step h) x = Ended (step_ended h x.config) x.acts
letter_ended (letter_end.Offends what) x = Offends what x.config x.acts

-- what a step answered, and where it left the machine
abbrev pub stepped : Result Unit LetterEnd → Cpu → NestedStep
stepped (Ok u) x = Ok (nested_of x)
stepped (Err e) x = Err (letter_ended e (nested_of x))

-- a return to a value, under the newest activation and the others
abbrev pub returns : ℕ → Activation → List Activation → Cpu → NestedStep
returns value y rest x =
    returned (return_rule (regs_of (state_in x)) (seen_in (state_in x)).byte value y) (config_of x) (interrupted_of y) (map interrupted_of rest) (state_in x)

-- who accesses the memory under a schedule: the thread, or the newest handler
abbrev pub IsUnder : Sched → Cpu → Type 0
IsUnder s x = (memory_of x.mem).around ≡ around_under s (nested_of x).acts

-- entries made all that is put away, and a handler runs where there is some
abbrev pub AreEntered : Cpu → Type 0
AreEntered x = AreStacked (nested_of x).acts

-- the thread runs
abbrev pub IsThread : Cpu → Type 0
IsThread x = array_vec_len x.acts ≡ 0

-- a handler runs
abbrev pub IsHandler : Cpu → Type 0
IsHandler x = 0 < array_vec_len x.acts

-- what always holds of the machine, under a schedule
abbrev pub IsSoundUnder : Sched → Cpu → Type 0
IsSoundUnder s x = IsSound s (nested_of x)

-- what always holds of the machine, under some schedule
abbrev pub IsSoundUnderSome : Cpu → Type 0
IsSoundUnderSome x = (s : Sched) × IsSoundUnder s x

-- Where a machine may stand: the older instruction has less than four beats and the younger two at most, and only a vector row,
-- which made a context, has some.
abbrev pub IsPosition : Cpu → Type 0
IsPosition x = (x.window.a < 4) × (x.window.b ≤ 2) × (0 < x.window.a → IsTrue x.regs.fpca)

-- What stays while instructions are done: flash and who accesses the memory, how much room the output has, and what is put away.
pub record Keeps (old new : Cpu) : Type 0 where
  pub memory : IsSameElsewhere (memory_of old.mem) (memory_of new.mem)
  pub position : IsPosition new
  pub room : vec_capacity new.output ≡ vec_capacity old.output
  pub acts : new.acts ≡ old.acts

-- where a handler may store, whoever accesses the memory now
abbrev pub places_of : Around → Around
places_of x = record x { actor = Thread }

-- What stays also where a handler returns or an exception enters: flash, where a handler may store, and how much room the output has.
pub record KeepsFlash (old new : Cpu) : Type 0 where
  pub flash : (memory_of new.mem).flash ≡ (memory_of old.mem).flash
  pub places : places_of (memory_of new.mem).around ≡ places_of (memory_of old.mem).around
  pub room : vec_capacity new.output ≡ vec_capacity old.output

-- What a breakpoint leaves: the memory, whether there is a context, what is counted, and how much room the output has.
pub record IsServed (old new : Cpu) : Type 0 where
  pub memory : new.mem ≡ old.mem
  pub context : new.regs.fpca ≡ old.regs.fpca
  pub window : new.window ≡ old.window
  pub retired : new.retired ≡ old.retired
  pub steps : new.older_steps ≡ old.older_steps
  pub room : vec_capacity new.output ≡ vec_capacity old.output
  pub acts : new.acts ≡ old.acts

-- a step retires one instruction at most, and counts once
abbrev pub CountsOne : Cpu → Cpu → Type 0
CountsOne old new = (new.retired ≤ old.retired + 1) × (new.older_steps ≤ old.older_steps + 1)

-- what is counted stays
abbrev pub CountsNone : Cpu → Cpu → Type 0
CountsNone old new = (new.retired ≡ old.retired) × (new.older_steps ≡ old.older_steps)

-- where an instruction had more than one step left, it stands at the same address, has one less, and what is put away stays
abbrev pub LeavesTheRest : Instr → Cpu → Cpu → Type 0
LeavesTheRest i old new = let left = λ (x : Cpu). steps_left (vector_in i) x.window.a in
    1 < left old → (new.regs.pc ≡ old.regs.pc) × (left new + 1 ≡ left old) × (new.acts ≡ old.acts)
