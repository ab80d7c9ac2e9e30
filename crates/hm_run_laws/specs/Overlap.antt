-- What holds of a position after each tick of any schedule, by the outcome.
use Rattle.std.specs.Prelude.{◌≡◌, ◌+◌, ℕ, List, Option, Some, None}
use Rattle.hm_base.specs.Image.{Segment}
use Rattle.hm_codes.specs.Listing.{Listing}
use Rattle.hm_order.specs.Beats.{Live}
use Rattle.hm_order.specs.Machine.{Config}
use Rattle.hm_order.specs.Position.{Holds}
use Rattle.hm_run.specs.declared.Outcome.{Outcome}
use Rattle.hm_run.specs.declared.Outcome.TheVariants as outcome
use Rattle.hm_run.specs.declared.Reason.{Reason}
use Rattle.hm_run.specs.declared.Who.TheVariants.{Thread, Handler, Entry}
use Rattle.hm_run.specs.Program.{Program}
use Rattle.hm_whole.specs.Watched.{view}
use Rattle.hm_run.specs.Stops as why
use Rattle.hm_run.specs.Stops.{WholeStop}
use Rattle.hm_run.specs.Timed.{Timed, thread_program}
use Rattle.hm_sched.specs.Schedule.{Sched}
use Rattle.hm_state.specs.Start.{start}
use Rattle.hm_state.specs.State.{State}
use Rattle.hm_run_laws.specs.Sequence.{StopsFrom, FaultsAt}

-- After n instructions in order the next one stops so, and the machine stands before it, between two instructions, in a state
-- that agrees with theirs.
pub record StopsBetween (M : Program) (first : State) (n : ℕ) (w : WholeStop) (c : Config State) : Type 0 where
  pub order : State
  pub stops : StopsFrom M first n order w
  pub a : c.a ≡ 0
  pub b : c.b ≡ 0
  pub live : Live view c.state order
  pub pc : c.state.pc ≡ order.pc

-- the n-th instruction in order halts, for this reason
pub record HaltsAfter (M : Program) (first : State) (reason : Reason) (n : ℕ) (c : Config State) : Type 0 where
  pub before : ℕ
  pub number : n ≡ before + 1
  pub between : StopsBetween M first before (why.Halt reason) c

-- While a run goes on, and where it is out of ticks, whole instructions in order agree with its position. Where it
-- halts after n, instruction n in order halts for the same reason in the same state; where the thread has a fault after
-- n, the next instruction has it, at the same pc; where the output is full, it has no room for that of the next one.
abbrev pub AgreesAfter : Program → State → Option Outcome → Config State → Type 0
AgreesAfter M first None c = Holds M first c
AgreesAfter M first (Some outcome.OutOfTicks) c = Holds M first c
AgreesAfter M first (Some (outcome.Halted reason n)) c = HaltsAfter M first reason n c
AgreesAfter M first (Some (outcome.Fault Thread f pc n)) c = FaultsAt M first n f pc
AgreesAfter M first (Some (outcome.Fault Handler f pc n)) c = Unit {0}
AgreesAfter M first (Some (outcome.Fault Entry f pc n)) c = Unit {0}
AgreesAfter M first (Some (outcome.RuleBroken t step r)) c = Unit {0}
AgreesAfter M first (Some (outcome.HandlerBroken t what)) c = Unit {0}
AgreesAfter M first (Some (outcome.TaintedRead t pc addr)) c = Unit {0}
AgreesAfter M first (Some (outcome.StackSpent t sp)) c = Unit {0}
AgreesAfter M first (Some (outcome.OutputFull t)) c = StopsBetween M first c.n why.Full c

-- what is shown of a run of an image under a schedule agrees with whole instructions in order, from a reset to the image
abbrev pub StaysInOrder : Listing → List Segment → Sched → Timed → Type 0
StaysInOrder listing image s x = AgreesAfter (thread_program listing s) (start image) x.outcome x.config
