-- A TICK AS A LINE OF TEXT.
use Rattle.std.specs.Prelude.{ℕ, nat_lt, if◌then◌else◌, List, [], ◌∷◌, ◌++◌, codes, Option, Some, None, Result, Ok, Err}
use Rattle.std.specs.Fmt.{decimal}
use Rattle.std.specs.List.{flat_map}
use Rattle.hm_base.specs.declared.Fault.{Fault}
use Rattle.hm_codes.specs.Listing.{Listing}
use Rattle.hm_exc.specs.declared.types.Activation.{Activation}
use Rattle.hm_isa.specs.declared.Instr.{Instr}
use Rattle.hm_run.specs.Report.{outcome_line}
use Rattle.hm_run.specs.Timed.{Timed}
use Rattle.hm_run.specs.declared.Outcome.{Outcome}
use Rattle.hm_sched.specs.Printed.{tick_text}
use Rattle.hm_state.specs.State.{regs_of}
use Rattle.hm_text_tables.specs.Tables.{printed_text}
use Rattle.hm_text_base.specs.Texts.{separator, hex8}
use Rattle.hm_trace.specs.Changes.{changes}
use Rattle.hm_trace.specs.Progresses.{progresses}
use Rattle.hm_trace.specs.Stands.{Past}
use Rattle.hm_trace.specs.declared.marks.Mark.{Mark}
use Rattle.hm_trace.specs.declared.marks.Mark.TheVariants.{Nothing, Entry, Return, Both}
use Rattle.hm_trace.specs.declared.progress.Progress.{Progress}

-- what stands at an address, as a listing prints it
abbrev pub text_of : ℕ → Result Instr Fault → List ℕ
text_of a (Ok i) = printed_text i a
text_of a (Err fault) = codes "no instruction"

-- an address, and what stands there
abbrev pub instr_text : Listing → ℕ → List ℕ
instr_text listing a = hex8 a ++ (separator ++ text_of a (listing a))

-- a space and a number for each handler that is active, the oldest first
abbrev pub numbers_text : List Activation → List ℕ
numbers_text [] = []
numbers_text (z ∷ zs) = numbers_text zs ++ (separator ++ decimal z.number)

-- the thread, or the handlers that are active
abbrev pub mode_text : List Activation → List ℕ
mode_text [] = codes "thread"
mode_text (z ∷ zs) = codes "handler" ++ numbers_text (z ∷ zs)

-- a mark, with the number of the exception that entered
abbrev pub mark_text : Mark → ℕ → List ℕ
mark_text Nothing n = []
mark_text Entry n = codes " entry " ++ decimal n
mark_text Return n = codes " return"
mark_text Both n = codes " return entry " ++ decimal n

-- the tick, its letters and interrupts, and what entered or returned in it
abbrev pub steps_part : Past → Mark → Timed → List ℕ
steps_part p mark y =
    codes "tick " ++ (decimal y.ticks ++ (separator ++ (tick_text p.line ++ mark_text mark (regs_of y.config.state).ipsr)))

-- pc
unfoldable pub pc_part : Timed → List ℕ
pc_part y = codes " pc " ++ hex8 y.config.state.pc

-- how many instructions are retired
unfoldable pub retired_part : Timed → List ℕ
retired_part y = codes " retired " ++ decimal y.config.n

-- where the run stands after a tick: who runs, pc, and how many instructions are retired
unfoldable pub where_part : Timed → List ℕ
where_part y = separator ++ (mode_text y.acts ++ (pc_part y ++ retired_part y))

-- what a line begins with: what the tick did, and where the run stands after it
abbrev pub head_part : Past → Mark → Timed → List ℕ
head_part p mark y = steps_part p mark y ++ where_part y

-- a beat, by how many are done
abbrev pub beat_mark : ℕ → ℕ → List ℕ
beat_mark done k = if nat_lt k done then codes "#" else codes "."

-- the four beats of an instruction
unfoldable pub beats_text : ℕ → List ℕ
beats_text done = codes "[" ++ (beat_mark done 0 ++ (beat_mark done 1 ++ (beat_mark done 2 ++ (beat_mark done 3 ++ codes "]"))))

-- an instruction: its beats that are done after the tick, its address and its text
abbrev pub progress_part : Listing → Progress → List ℕ
progress_part listing p = codes " | " ++ (beats_text p.after ++ (separator ++ instr_text listing p.addr))

-- what changed, where something did: each change begins with a space
abbrev pub changes_part : List ℕ → List ℕ
changes_part [] = []
changes_part (c ∷ cs) = codes " |" ++ (c ∷ cs)

-- the end of a line, behind how the run ended where it ended in the tick: the line of an outcome has that end
abbrev pub end_part : Option Outcome → List ℕ
end_part None = codes "\n"
end_part (Some o) = codes " | " ++ outcome_line (Some o)

-- THE LINE OF A TICK
-- its head, the instructions of the tick, what changed, and how the run ended where it did
unfoldable pub tick_line : Listing → Past → Mark → Timed → List ℕ
tick_line listing p mark y =
    head_part p mark y ++ (flat_map (progress_part listing) (progresses p mark y)
    ++ (changes_part (changes p.regs (regs_of y.config.state)) ++ end_part y.outcome))
