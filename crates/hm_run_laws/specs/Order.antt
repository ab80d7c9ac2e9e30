-- What holds after each tick of any schedule: of the thread, with its position and registers and the memory as it is now.
use Rattle.std.specs.Prelude.{◌≡◌, List, [], ◌∷◌, Option, Some, None}
use Rattle.hm_base.specs.Image.{Segment}
use Rattle.hm_codes.specs.Listing.{Listing}
use Rattle.hm_mem.specs.declared.Actor.TheVariants.{Thread}
use Rattle.hm_order.specs.Machine.{Config}
use Rattle.hm_run.specs.declared.Outcome.{Outcome}
use Rattle.hm_run.specs.declared.Outcome.TheVariants as outcome
use Rattle.hm_run.specs.Program.{Program}
use Rattle.hm_run.specs.Timed.{thread_program}
use Rattle.hm_sched.specs.Schedule.{Sched}
use Rattle.hm_state.specs.Start.{start}
use Rattle.hm_state.specs.State.{State}
use Rattle.hm_run_laws.specs.Overlap.{AgreesAfter}
use Rattle.hm_run_laws.specs.Nested.{Interrupted, Nested}
use Rattle.hm_run_laws.specs.Registers.{restored}
use Rattle.hm_run_laws.specs.Runs.{Run}

-- the thread: where handlers run, with what the oldest of them interrupted
abbrev pub thread_of : Config State → List Interrupted → Config State
thread_of c [] = c
thread_of c (x ∷ []) = record { a = x.a; b = x.b; n = c.n; steps = c.steps; state = restored x.registers Thread c.state }
thread_of c (x ∷ y ∷ acts) = thread_of c (y ∷ acts)

-- the thread while a run goes on and where its ticks are out, and else what stood last
abbrev pub thread_at : Option Outcome → Config State → List Interrupted → Config State
thread_at None c acts = thread_of c acts
thread_at (Some outcome.OutOfTicks) c acts = thread_of c acts
thread_at (Some o) c acts = c

-- a program halts in its thread
abbrev pub HaltsInThread : Option Outcome → List Interrupted → Type 0
HaltsInThread (Some (outcome.Halted reason n)) acts = acts ≡ []
HaltsInThread o acts = Unit {0}

-- whole instructions in order agree with the thread, and a program that halts does so in its thread
pub record AgreesInThread (M : Program) (first : State) (o : Option Outcome) (x : Nested) : Type 0 where
  pub thread : AgreesAfter M first o (thread_at o x.config x.acts)
  pub halts : HaltsInThread o x.acts

-- After a tick whole instructions in order agree with the thread while the run goes on; where it halts, or the thread has a fault, so do they.
abbrev pub KeepsOrder : Listing → List Segment → Sched → Run → Type 0
KeepsOrder listing image s x = AgreesInThread (thread_program listing s) (start image) x.outcome x.machine
