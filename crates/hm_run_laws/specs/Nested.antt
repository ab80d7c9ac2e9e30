-- The machine: who runs, and what a step of it does. A handler runs by the same steps as the thread, with a handler's
-- accesses; its steps are not counted, it may execute no breakpoint, and it returns.
use Rattle.hm_run.specs.Timed.{bounds_of}
use Rattle.std.specs.Prelude.{ℕ, zero, suc, ◌+◌, ◌==◌, Bool, cond, List, [], ◌∷◌, map, Option, Some, None, Result, Ok, Err}
use Rattle.hm_base.specs.Results.{map_err}
use Rattle.hm_base.specs.declared.Fault.{Fault}
use Rattle.hm_base.specs.declared.Stop.{Stop}
use Rattle.hm_codes.specs.Listing.{Listing}
use Rattle.hm_exc.specs.Entry.{actor_under}
use Rattle.hm_exc.specs.Return.{return_rule}
use Rattle.hm_exc.specs.declared.types.Activation.{Activation}
use Rattle.hm_exc.specs.declared.types.Broken.{Broken}
use Rattle.hm_isa.specs.declared.Flow.{Flow}
use Rattle.hm_isa.specs.declared.Flow.TheVariants as flow
use Rattle.hm_isa.specs.declared.Instr.{Instr}
use Rattle.hm_isa.specs.declared.Instr.TheVariants as instr
use Rattle.hm_mem.specs.Memory.{Around, thread_under}
use Rattle.hm_order.specs.Beats.{then}
use Rattle.hm_order.specs.InFlight.{InFlight, Older, Younger, step_in_flight}
use Rattle.hm_order.specs.Machine.{Config, End, Stopped, begun, older, younger}
use Rattle.hm_run.specs.declared.Cause.{Cause}
use Rattle.hm_run.specs.declared.Cause.TheVariants as cause
use Rattle.hm_run.specs.declared.Offence.{Offence}
use Rattle.hm_run.specs.declared.Offence.TheVariants as offence
use Rattle.hm_run.specs.Program.{Program, core, steps_left, vector_of}
use Rattle.hm_sched.specs.Schedule.{Sched, older_letter, younger_letter}
use Rattle.hm_state.specs.State.{State, regs_of}
use Rattle.hm_whole.specs.Whole.{Went, scalar_in_machine, seen_in}
use Rattle.hm_window.specs.declared.rule.Rule.{Rule}
use Rattle.hm_run_laws.specs.Registers.{Registers, restored}

-- What an entry put away: the position and the registers of what it interrupted, and what it stacked. (A state may hold in its cells what no
-- machine's registers do, so that those of the activation would not give every state back.)
pub record Interrupted : Type 0 where
  pub a : ℕ
  pub b : ℕ
  pub registers : Registers
  pub stacked : Activation

-- the position and the state of what runs, and what its handlers interrupted, the newest first
pub record Nested : Type 0 where
  pub config : Config State
  pub acts : List Interrupted

-- why it does not go on: an instruction stops or breaks a rule of overlap, or a handler offends
pub data NestedEnd : Type 0 where
  Ended : End State Cause Rule → List Interrupted → NestedEnd
  Offends : Offence → Config State → List Interrupted → NestedEnd

-- what a step comes to: the machine with its handlers, or why it does not go on
abbrev pub NestedStep : Type 0
NestedStep = Result Nested NestedEnd

-- WHO RUNS: the thread, where nothing is interrupted, and else a handler
abbrev pub around_under : Sched → List Interrupted → Around
around_under s acts = record (thread_under (bounds_of s)) { actor = actor_under (map (λ x. x.stacked) acts) }

-- the machine of a program, under who runs
abbrev pub program_under : Listing → Sched → List Interrupted → Program
program_under listing s acts = core listing (around_under s acts)

-- what a step comes to, with what the handlers interrupted, which stays
abbrev pub with_acts : List Interrupted → Result (Config State) (End State Cause Rule) → NestedStep
with_acts acts (Ok c) = Ok (record { config = c; acts = acts })
with_acts acts (Err e) = Err (Ended e acts)

-- what is counted stays as it was
abbrev pub uncounted : Config State → Result (Config State) (End State Cause Rule) → Result (Config State) (End State Cause Rule)
uncounted c (Ok d) = Ok (record d { n = c.n; steps = c.steps })
uncounted c (Err e) = Err e

-- A RETURN, from this state, under the rule that it breaks, if there is one: back to what was interrupted, with the memory as it is
abbrev pub returned : Option Broken → Config State → Interrupted → List Interrupted → State → NestedStep
returned None c x acts t =
    Ok (record {
      config = record { a = x.a; b = x.b; n = c.n; steps = c.steps; state = restored x.registers (actor_under (map (λ y. y.stacked) acts)) t };
      acts = acts;
    })
returned (Some b) c x acts t = Err (Offends (offence.Left b) (record c { state = t }) (x ∷ acts))

-- A HANDLER'S INSTRUCTION that is no vector row: it goes on, breaks the discipline by a breakpoint, which leaves the state, or returns
abbrev pub flows : Flow → Config State → Interrupted → List Interrupted → State → NestedStep
flows flow.Next c x acts t = Ok (record { config = record c { a = 0; b = 0; state = t }; acts = x ∷ acts })
flows (flow.Break k) c x acts t = Err (Offends (offence.Call c.state.pc) (record c { state = t }) (x ∷ acts))
flows (flow.Return value) c x acts t = returned (return_rule (regs_of t) (seen_in t).byte value x.stacked) c x acts t

-- what a handler's instruction that is no vector row comes to, by the flow that it has or the stop
abbrev pub went : Program → Config State → Interrupted → List Interrupted → Result Went Stop → NestedStep
went M c x acts (Ok y) = flows y.flow c x acts y.state
went M c x acts (Err e) = Err (Ended (Stopped (begun M c) (cause.Stop e)) (x ∷ acts))

-- the older instruction's step in a handler, by what stands at pc: a beat of a vector row, or the whole of any other
abbrev pub handles : Program → Around → Result Instr Fault → Config State → Interrupted → List Interrupted → NestedStep
handles M around (Ok (instr.Scalar i)) c x acts = went M c x acts (scalar_in_machine around (instr.Scalar i) c.state)
handles M around (Ok (instr.Branch i)) c x acts = went M c x acts (scalar_in_machine around (instr.Branch i) c.state)
handles M around (Ok (instr.Vector v)) c x acts = with_acts (x ∷ acts) (uncounted c (older M c))
handles M around (Err f) c x acts = with_acts (x ∷ acts) (uncounted c (older M c))

-- A STEP of the older instruction, or of the younger, in a handler
abbrev pub handler_step : Listing → Sched → InFlight → Config State → Interrupted → List Interrupted → NestedStep
handler_step listing s Older c x acts = handles (program_under listing s (x ∷ acts)) (around_under s (x ∷ acts)) (listing c.state.pc) c x acts
handler_step listing s Younger c x acts = with_acts (x ∷ acts) (uncounted c (younger (program_under listing s (x ∷ acts)) c))

-- a step of the thread, where nothing is interrupted, and else of a handler
abbrev pub step_under : Listing → Sched → InFlight → Config State → List Interrupted → NestedStep
step_under listing s t c [] = with_acts [] (step_in_flight (program_under listing s []) t c)
step_under listing s t c (x ∷ acts) = handler_step listing s t c x acts

-- a step of the older instruction or of the younger, by who runs
abbrev pub step : Listing → Sched → InFlight → Nested → NestedStep
step listing s t x = step_under listing s t x.config x.acts

-- so many steps of the older
abbrev pub steps : Listing → Sched → ℕ → Nested → NestedStep
steps listing s zero x = Ok x
steps listing s (suc k) x = then (step listing s Older x) (steps listing s k)

-- the older to its end
abbrev pub to_end : Listing → Sched → Nested → NestedStep
to_end listing s x = steps listing s (steps_left (vector_of (listing x.config.state.pc)) x.config.a) x

-- LETTERS: O is a step of the older instruction, Y one of the younger, and W does the older to its end
abbrev pub letter : Listing → Sched → ℕ → Nested → NestedStep
letter listing s l x =
    cond (l == older_letter) (step listing s Older x)
    (cond (l == younger_letter) (step listing s Younger x) (to_end listing s x))

-- why a tick does not go on, in which of its steps, and whether that is the younger's
pub record TickEnd : Type 0 where
  pub step : ℕ
  pub younger : Bool
  pub end : NestedEnd

-- step k of a tick, and whether it is the younger's, named where it does not go on
abbrev pub at_step : ℕ → Bool → NestedStep → Result Nested TickEnd
at_step k younger x = map_err (λ e. record { step = k; younger = younger; end = e }) x

-- the letters of a tick, of which k were done
abbrev pub letters : Listing → Sched → ℕ → List ℕ → Nested → Result Nested TickEnd
letters listing s k [] x = Ok x
letters listing s k (l ∷ ls) x = then (at_step (k + 1) (l == younger_letter) (letter listing s l x)) (letters listing s (k + 1) ls)
