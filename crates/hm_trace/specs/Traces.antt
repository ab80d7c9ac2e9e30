-- THE TRACE OF A RUN: the ticks from one on to another, each as it is shown.
use Rattle.std.specs.Prelude.{ℕ, zero, suc, ◌+◌, ◌-◌, is_some, if◌then◌else◌, List, [], ◌++◌, codes, drop, Option, Some, None}
use Rattle.std.specs.Fmt.{decimal}
use Rattle.hm_base.specs.Image.{Segment}
use Rattle.hm_codes.specs.Listing.{Listing}
use Rattle.hm_run_laws.specs.Runs.{Run, run, shown}
use Rattle.hm_run.specs.Timed.{Timed}
use Rattle.hm_run.specs.declared.Outcome.{Outcome}
use Rattle.hm_sched.specs.Schedule.{Sched, TickLine, ticks_of}
use Rattle.hm_trace.specs.Lines.{tick_line}
use Rattle.hm_trace.specs.Marks.{mark_between}
use Rattle.hm_trace.specs.Pages.{page_head, page_tail, tick_rows}
use Rattle.hm_trace.specs.Stands.{Past, first_line, past_at}
use Rattle.hm_trace.specs.declared.marks.Mark.{Mark}
use Rattle.hm_trace.specs.declared.running.Form.{Form}
use Rattle.hm_trace.specs.declared.running.Form.TheVariants.{Lines, Page}

-- a tick in a form, from what is known of the run before it, from what entered or returned, and from the run after it
abbrev pub tick_in : Form → Listing → Past → Mark → Timed → List ℕ
tick_in Lines listing p mark y = tick_line listing p mark y
tick_in Page listing p mark y = tick_rows listing p mark y

-- in a form, the tick that leads from one run to the next; its line is the first of those that are left
abbrev pub tick_between : Form → Listing → List TickLine → Run → Run → List ℕ
tick_between form listing left x y = tick_in form listing (past_at (first_line left) (shown x)) (mark_between x y) (shown y)

-- tick t + 1 of a run
abbrev pub tick_part : Form → Listing → List Segment → Sched → ℕ → List ℕ
tick_part form listing image s t = tick_between form listing (drop t (ticks_of s.lines)) (run listing image s t) (run listing image s (suc t))

-- n ticks behind the first t, as far as the run goes
abbrev pub ticks_from : Form → Listing → List Segment → Sched → ℕ → ℕ → List ℕ
ticks_from form listing image s t zero = []
ticks_from form listing image s t (suc n) =
    if is_some (run listing image s t).outcome then [] else tick_part form listing image s t ++ ticks_from form listing image s (suc t) n

-- what stands before the ticks
abbrev pub head_in : Form → List ℕ
head_in Lines = []
head_in Page = page_head

-- the last line of the lines: the last tick, where the run has ended
abbrev pub end_line : Option Outcome → ℕ → List ℕ
end_line None last = []
end_line (Some o) last = codes "end " ++ (decimal last ++ codes "\n")

-- what stands behind the ticks
abbrev pub tail_in : Form → Timed → List ℕ
tail_in Lines y = end_line y.outcome y.ticks
tail_in Page y = page_tail y.outcome y.ticks

-- THE TRACE, from tick `first` to tick `last`
abbrev pub trace_text : Form → Listing → List Segment → Sched → ℕ → ℕ → List ℕ
trace_text form listing image s first last =
    head_in form ++ (ticks_from form listing image s (first - 1) (last + 1 - first) ++ tail_in form (shown (run listing image s last)))
