-- What ticks come to, by the parts of a machine that letters change.
use Rattle.std.specs.Prelude.{Bool, ◌≡◌, ℕ, ◌+◌, if◌then◌else◌, List, length, Option, Some, None, Result, Ok, Err}
use Rattle.hm_cpu.specs.Cpus.{letter_ended, nested_of}
use Rattle.hm_cpu.specs.declared.cpu.Cpu.{Cpu}
use Rattle.hm_run_laws.specs.Entries.{mask_of, running_priority}
use Rattle.hm_run_laws.specs.Nested.{Nested, TickEnd}
use Rattle.hm_run_laws.specs.Runs.{Pointers, Run}
use Rattle.hm_machine.specs.Shown.{run_with}
use Rattle.hm_machine.specs.declared.conclusion.EarlyEnd.{EarlyEnd}
use Rattle.hm_mem.specs.Memory.{memory_of}
use Rattle.hm_run.specs.declared.Outcome.{Outcome}
use Rattle.hm_sys.specs.Exceptions.{picked}

-- why the letters of a tick do not all go on
abbrev pub early_ended : EarlyEnd → Nested → TickEnd
early_ended e x = record { step = e.step; younger = e.younger; end = letter_ended e.end x }

-- what the letters of a tick answered
abbrev pub ticked : Result Unit EarlyEnd → Cpu → Result Nested TickEnd
ticked (Ok u) x = Ok (nested_of x)
ticked (Err e) x = Err (early_ended e (nested_of x))

-- the outcome of a run that a tick ended, by what the tick answered: whether an exception entered at its end, or that outcome
abbrev pub outcome_of_tick : Result Bool Outcome → Option Outcome
outcome_of_tick (Ok entered) = None
outcome_of_tick (Err o) = Some o

-- how many exceptions entered, by the same
abbrev pub entered_in : Result Bool Outcome → ℕ
entered_in (Ok entered) = if entered then 1 else 0
entered_in (Err o) = 0

-- A tick that answered so, left the machine so and had this number came to this run, where these were the stack pointers at the entries before it: that run has
-- one entry more where an exception entered.
abbrev pub Came : Result Bool Outcome → Nested → ℕ → List Pointers → Run → Type 0
Came answer m t es r = (run_with (outcome_of_tick answer) m t r.entries ≡ r) × (length r.entries ≡ length es + entered_in answer)

-- the exception that is picked, by the parts of the machine
abbrev pub picks : Cpu → Option ℕ
picks x = let d = (memory_of x.mem).devices in picked d (running_priority d (mask_of x.regs.primask x.regs.basepri) (nested_of x).acts)

-- all but what is counted stays
pub record Stays (old new : Cpu) : Type 0 where
  pub memory : memory_of new.mem ≡ memory_of old.mem
  pub registers : new.regs ≡ old.regs
  pub window : new.window ≡ old.window
  pub output : new.output ≡ old.output
  pub acts : new.acts ≡ old.acts
