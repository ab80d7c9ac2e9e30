-- The exception that is picked at the end of a tick, and its entry.
use Rattle.hm_run.specs.Timed.{bounds_of}
use Rattle.std.specs.Prelude.{ℕ, Bool, ◌==◌, if◌then◌else◌, min, List, [], ◌∷◌}
use Rattle.hm_base.specs.declared.FaultKind.TheVariants as kind
use Rattle.hm_exc.specs.Entry.{activation, entered_memory, entered_registers, main_after, vector_of}
use Rattle.hm_exc.specs.declared.types.Activation.{Activation}
use Rattle.hm_exc.specs.declared.types.EnterErr.{EnterErr}
use Rattle.hm_exc.specs.declared.types.EnterErr.TheVariants as err
use Rattle.hm_mem.specs.Memory.{thread_under}
use Rattle.hm_mem.specs.declared.Actor.TheVariants.{Handler}
use Rattle.hm_mem.specs.declared.Dev.{Dev}
use Rattle.hm_order.specs.Machine.{Config}
use Rattle.hm_run.specs.declared.Outcome.{Outcome}
use Rattle.hm_run.specs.declared.Outcome.TheVariants as outcome
use Rattle.hm_run.specs.declared.Who.TheVariants.{Entry}
use Rattle.hm_sched.specs.Schedule.{Sched}
use Rattle.hm_state.specs.State.{State, regs_of}
use Rattle.hm_sys.specs.Exceptions.{priority_of}
use Rattle.hm_whole.specs.Whole.{seen_in, state_with}
use Rattle.hm_window.specs.declared.rule.Window.{Window}
use Rattle.hm_run_laws.specs.Nested.{Interrupted, Nested}
use Rattle.hm_run_laws.specs.Registers.{registers_in}

-- the priority of the active exceptions: the least of them, and 256 where there is none
abbrev pub least_active : Dev → List Interrupted → ℕ
least_active d [] = 256
least_active d (x ∷ acts) = min (priority_of d x.stacked.number) (least_active d acts)

-- what masks exceptions: 0 where PRIMASK is set, else BASEPRI where it is not 0; 256 where nothing does
abbrev pub mask_of : Bool → ℕ → ℕ
mask_of primask basepri = if primask then 0 else (if basepri == 0 then 256 else basepri)

-- THE PRIORITY OF WHAT RUNS, which one that enters has to undercut: the least of what masks and of what is active
abbrev pub running_priority : Dev → ℕ → List Interrupted → ℕ
running_priority d mask acts = min mask (least_active d acts)

-- THE ENTRY of an exception: it puts away the position and the registers, and its handler runs
-- the position of the machine, as an entry stacks it
abbrev pub position_of : Config State → Window
position_of c = record { a = c.a; b = c.b }

-- the state in which the handler of an activation begins
abbrev pub entered_state : Sched → Activation → State → State
entered_state s x t =
    state_with (entered_registers x.regs x.number (vector_of (seen_in t) x.number)) (entered_memory x (seen_in t))
    (record (thread_under (bounds_of s)) { actor = Handler (main_after x) }) t.rest.output

-- what the entry of exception e puts away
abbrev pub interrupted_by : ℕ → Config State → Interrupted
interrupted_by e c = record { a = c.a; b = c.b; registers = registers_in c.state; stacked = activation (regs_of c.state) (position_of c) e }

-- the machine after the entry of exception e: between two instructions, at the start of its handler
abbrev pub entered : Sched → ℕ → Nested → Nested
entered s e x = record {
  config = record x.config { a = 0; b = 0; state = entered_state s (interrupted_by e x.config).stacked x.config.state };
  acts = interrupted_by e x.config ∷ x.acts;
}

-- how a run ends where the exception may not enter: its frame has no room, or there is no vector
abbrev pub refused : ℕ → Config State → EnterErr → Outcome
refused t c (err.StackSpent sp) = outcome.StackSpent t sp
refused t c (err.Vector addr) = outcome.Fault Entry (record { kind = kind.Vector; addr = addr }) c.state.pc c.n
