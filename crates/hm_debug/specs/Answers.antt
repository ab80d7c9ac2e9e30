-- WHAT A SCRIPT ANSWERS: a function of the run and of the commands. The place is the tick at which the script stands; each answer is taken from the run
-- at the tick reached.
use Rattle.std.specs.Prelude.{◌≡◌, ℕ, zero, suc, ◌+◌, ◌-◌, ◌/◌, Bool, ◌&&◌, nat_eq, nat_le, if◌then◌else◌, List, [], ◌∷◌, ◌++◌, Option, Some, None}
use Rattle.hm_run.specs.Report.{report_text}
use Rattle.hm_run.specs.Timed.{Timed}
use Rattle.hm_debug.specs.Films.{Film}
use Rattle.hm_debug.specs.Lines.{end_line, listing_lines, memory_lines, tick_line}
use Rattle.hm_debug.specs.Scripts.{IsScript}
use Rattle.hm_debug.specs.declared.command.Command.{Command}
use Rattle.hm_debug.specs.declared.command.Command.TheVariants as command

-- the place after a command, and what the command prints
pub record Answer : Type 0 where
  pub place : ℕ
  pub text : List ℕ

-- the place is tick t, and its line is printed
abbrev pub at_tick : ℕ → Answer
at_tick t = record { place = t; text = tick_line t }

-- the place is the last tick, and the line of the end is printed
abbrev pub at_end : ℕ → Answer
at_end last = record { place = last; text = end_line last }

-- to a tick, or to the last one where that is past the run
abbrev pub to_tick : ℕ → ℕ → Answer
to_tick last t = if nat_le t last then at_tick t else at_end last

-- the first of the next n ticks at which a test holds
abbrev pub next_at : (ℕ → Bool) → ℕ → ℕ → Option ℕ
next_at holds t zero = None
next_at holds t (suc n) = if holds (t + 1) then Some (t + 1) else next_at holds (t + 1) n

-- the thread has come to an address, between two instructions: thread mode, position 0 0, and pc
abbrev pub reaches : ℕ → Timed → Bool
reaches addr x = nat_eq x.config.state.rest.ipsr 0 && nat_eq x.config.a 0 && nat_eq x.config.b 0 && nat_eq x.config.state.pc addr

-- to the tick that was found, else to the last one
abbrev pub found_or_end : ℕ → Option ℕ → Answer
found_or_end last (Some t) = at_tick t
found_or_end last None = at_end last

-- the place stays
abbrev pub stay : ℕ → List ℕ → Answer
stay t text = record { place = t; text = text }

-- ONE COMMAND, at a place
abbrev pub answer : Film → Command → ℕ → Answer
answer f (command.Goto tick) t = to_tick f.last tick
answer f command.Step t = to_tick f.last (t + 1)
answer f command.Back t = at_tick (t - 1)
answer f (command.Until addr) t = found_or_end f.last (next_at (λ u. reaches addr (f.at u)) t (f.last - t))
answer f command.Show t = stay t (report_text (f.at t))
answer f (command.Memory addr len) t = stay t (memory_lines (f.at t).config.state addr len ((len + 15) / 16))
answer f (command.Listing addr count) t = stay t (listing_lines f.flash f.listing addr count)

-- ALL OF THEM, one after another, from a place on
abbrev pub answers : Film → List Command → ℕ → List ℕ
answers f [] t = []
answers f (c ∷ cs) t = (answer f c t).text ++ answers f cs (answer f c t).place

-- the answers of a text that is a script, from tick 0 on
pub record IsAnswered (f : Film) (text answer : List ℕ) : Type 0 where
  pub commands : List Command
  pub script : IsScript text commands
  pub is : answer ≡ answers f commands 0

-- what a command printed behind a text, and the place after it
pub record Gives (a : Answer) (old new : List ℕ) (place : ℕ) : Type 0 where
  pub text : new ≡ old ++ a.text
  pub place_is : place ≡ a.place
