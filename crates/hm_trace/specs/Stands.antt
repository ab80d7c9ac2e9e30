-- WHERE A PROGRAM STANDS, and what is known of a run before a tick.
use Rattle.std.specs.Prelude.{List, [], ◌∷◌, Option, Some, None, reverse}
use Rattle.hm_exc.specs.Entry.{window_in}
use Rattle.hm_exc.specs.declared.types.Activation.{Activation}
use Rattle.hm_regs.specs.declared.Regs.{Regs}
use Rattle.hm_run.specs.Timed.{Timed}
use Rattle.hm_sched.specs.Schedule.{TickLine, line_of}
use Rattle.hm_state.specs.State.{regs_of}
use Rattle.hm_trace.specs.declared.stands.Before.{Before}
use Rattle.hm_trace.specs.declared.stands.Stand.{Stand}

-- what a tick is to do, and what is known of the run before it: where it stands, what the entries of the handlers that are active put away, the
-- oldest first, and its registers
pub record Past : Type 0 where
  pub line : TickLine
  pub stand : Stand
  pub active : List Activation
  pub regs : Regs

-- the first of the ticks that are left
abbrev pub first_line : List TickLine → TickLine
first_line [] = record { count = 0; letters = []; irq = [] }
first_line (line ∷ left) = line

-- where a run stands: at its next instruction, with so many beats done of it and of the one behind it
abbrev pub stand_of : Timed → Stand
stand_of x = record { pc = x.config.state.pc; older = x.config.a; younger = x.config.b }

-- where stands what an entry interrupted
abbrev pub stand_in : Activation → Stand
stand_in z = record { pc = z.regs.pc; older = (window_in z).a; younger = (window_in z).b }

-- where stands what the newest handler interrupted; with no handler, this
abbrev pub newest_or : List Activation → Stand → Stand
newest_or [] s = s
newest_or (z ∷ zs) s = stand_in z

-- where stands what this entry interrupted; with none, this
abbrev pub interrupted_or : Option Activation → Stand → Stand
interrupted_or None s = s
interrupted_or (Some z) s = stand_in z

-- what is known of a run before a tick of this line
abbrev pub past_at : TickLine → Timed → Past
past_at line x = record { line = line; stand = stand_of x; active = reverse x.acts; regs = regs_of x.config.state }

-- the same, as the program keeps it
abbrev pub past_of : Before → Past
past_of b = record { line = line_of b.line; stand = b.stand; active = b.active.items; regs = b.regs }
