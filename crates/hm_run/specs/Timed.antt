-- What is shown of a run, the outcomes of what stops, and what the end of a tick leaves.
use Rattle.std.specs.Prelude.{ℕ, ◌+◌, ◌%◌, ◌^◌, if◌then◌else◌, List, [], ◌∷◌, Option, Some, None}
use Rattle.hm_base.specs.declared.Stop.{Stop}
use Rattle.hm_base.specs.declared.Stop.TheVariants as stop
use Rattle.hm_codes.specs.Listing.{Listing}
use Rattle.hm_exc.specs.declared.types.Activation.{Activation}
use Rattle.hm_mem.specs.Memory.{Bounds, thread_under}
use Rattle.hm_mem.specs.declared.Dev.{Dev}
use Rattle.hm_order.specs.Machine.{Config}
use Rattle.hm_run.specs.declared.Cause.{Cause}
use Rattle.hm_run.specs.declared.Cause.TheVariants as cause
use Rattle.hm_run.specs.declared.Outcome.{Outcome}
use Rattle.hm_run.specs.declared.Outcome.TheVariants as outcome
use Rattle.hm_run.specs.declared.Offence.TheVariants as offence
use Rattle.hm_run.specs.declared.Who.{Who}
use Rattle.hm_run.specs.declared.Who.TheVariants.{Thread, Handler}
use Rattle.hm_run.specs.Program.{Program, Stopping, core}
use Rattle.hm_sched.specs.Schedule.{Sched}
use Rattle.hm_sys.specs.Ticks.{arrived, counted}
use Rattle.hm_state.specs.State.{State}

-- the bounds of handlers and of stacks that a schedule gives
abbrev pub bounds_of : Sched → Bounds
bounds_of s = record { lo = s.lo; hi = s.hi; floor = s.floor; process = s.process }

-- the outcome, or None while it runs; the position, the numbers of retired instructions and of older steps, and the
-- state; the activations, the newest first; the ticks that were begun
pub record Timed : Type 0 where
  pub outcome : Option Outcome
  pub config : Config State
  pub acts : List Activation
  pub ticks : ℕ

-- who runs: the thread, where there is no activation
abbrev pub who_runs : List Activation → Who
who_runs [] = Thread
who_runs (x ∷ acts) = Handler

-- the address of the instruction that stops: the younger of two stands 4 bytes on
abbrev pub pc_of : Config State → Stopping → ℕ
pc_of c e = if e.younger then (c.state.pc + 4) % 2 ^ 32 else c.state.pc

-- the outcome of an instruction that stops in tick t
abbrev pub outcome_of_stop : ℕ → List Activation → Config State → ℕ → Stop → Outcome
outcome_of_stop t acts c pc (stop.Fault f) = outcome.Fault (who_runs acts) f pc c.n
outcome_of_stop t acts c pc (stop.Tainted addr) = outcome.TaintedRead t pc addr
outcome_of_stop t acts c pc (stop.Denied addr) = outcome.HandlerBroken t (offence.Store addr)

-- the outcome of an instruction at pc that does not go on in tick t, by the cause
abbrev pub outcome_of_cause : ℕ → List Activation → Config State → ℕ → Cause → Outcome
outcome_of_cause t acts c pc (cause.Halt reason) = outcome.Halted reason (c.n + 1)
outcome_of_cause t acts c pc cause.Full = outcome.OutputFull t
outcome_of_cause t acts c pc (cause.Stop e) = outcome_of_stop t acts c pc e

-- the outcome of an instruction that does not go on in tick t, the older or the younger
abbrev pub outcome_of : ℕ → List Activation → Config State → Stopping → Outcome
outcome_of t acts c e = outcome_of_cause t acts c (pc_of c e) e.cause

-- how many instructions are retired where one does not go on: one that halts is
abbrev pub retired_by : Cause → ℕ → ℕ
retired_by (cause.Halt reason) n = n + 1
retired_by cause.Full n = n
retired_by (cause.Stop e) n = n

-- the machine where an instruction stops: one that halts is counted as retired, and a step of the older as a step
abbrev pub at_stop : Config State → Stopping → Config State
at_stop c e = record c { n = retired_by e.cause c.n; steps = if e.younger then c.steps else c.steps + 1 }

-- the state with its devices changed
abbrev pub with_devices : (Dev → Dev) → State → State
with_devices f s = record s { rest = record s.rest { devices = f s.rest.devices } }

-- what SysTick and the interrupts of a tick leave
abbrev pub counted_with : List ℕ → Dev → Dev
counted_with irq d = arrived irq (counted d)

-- where no tick is left, a run that has no other outcome ends
abbrev pub or_out : Option Outcome → Option Outcome
or_out None = Some outcome.OutOfTicks
or_out (Some o) = Some o

-- the thread of a program under a schedule
abbrev pub thread_program : Listing → Sched → Program
thread_program listing s = core listing (thread_under (bounds_of s))
