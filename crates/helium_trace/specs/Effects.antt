-- WHAT THE PROGRAM DOES, by its words and the files that the host tells.
use Rattle.std.specs.Prelude.{◌≡◌, ℕ, true, List, [], Option, Some, None, codes, get_or}
use Rattle.hm_base.specs.Image.{Segment}
use Rattle.hm_codes.specs.Listing.{Listing}
use Rattle.hm_work.specs.Commands.{OfRun, UnlessRefused}
use Rattle.hm_commands.specs.Effect.{DoesOne, Effect, IsEffectBy, Reading, usage_by}
use Rattle.hm_work.specs.Images.{image_of}
use Rattle.hm_work.specs.Run.{reset_refusal, schedule_in}
use Rattle.hm_work.specs.Work.{Outcome, finishes}
use Rattle.hm_commands.specs.declared.status.Status.{Status}
use Rattle.hm_host.specs.Host.{HostState}
use Rattle.hm_sched.specs.Schedule.{Sched}
use Rattle.hm_trace.specs.Traces.{trace_text}
use Rattle.hm_trace.specs.declared.running.Form.{Form}
use Rattle.hm_trace.specs.declared.running.Form.TheVariants.{Lines, Page}
use Rattle.helium_trace.specs.Words.{Asked, reads_of}

-- lines, or a page where there is a file for it
abbrev pub form_for : Option (List ℕ) → Form
form_for None = Lines
form_for (Some out) = Page

-- a trace is printed, or its page is written to the file
abbrev pub traced : Option (List ℕ) → List ℕ → Outcome
traced None text = finishes true None (Some text)
traced (Some out) text = finishes true (Some (out, text)) None

-- THE TRACE of an image under a schedule, or the refusal of the reset address
abbrev pub IsTraceOutcome : (List Segment → Listing) → Asked → List Segment → Sched → Outcome → Type 0
IsTraceOutcome listings a image s =
    UnlessRefused (reset_refusal image) (λ o. o ≡ traced a.page (trace_text (form_for a.page) (listings image) image s a.first a.last))

-- what is asked for comes to this, by the contents of the files that are read, in order: the first refusal is that of the image, then that of the schedule
abbrev pub ComesTo : (List Segment → Listing) → Asked → List (List ℕ) → Outcome → Type 0
ComesTo listings a contents = OfRun (image_of (get_or contents 0 [])) (schedule_in a.schedule (get_or contents 1 [])) (IsTraceOutcome listings a)

-- the line that says how the program is used
abbrev pub usage_line : List ℕ
usage_line = codes "helium-trace: usage\n"

-- the files that are read: none for words that ask for nothing
abbrev pub reads_for : Option Asked → List (List ℕ)
reads_for None = []
reads_for (Some a) = reads_of a

-- THE EFFECT OF THE PROGRAM, by what comes of the reads: its status, the file that it writes and the text that it prints
abbrev pub IsEffect : (List Segment → Listing) → Option Asked → Reading → Effect → Type 0
IsEffect listings None = λ reading e. e ≡ usage_by usage_line
IsEffect listings (Some a) = IsEffectBy (ComesTo listings a)

-- WHAT A CALL DOES, by what comes of the reads, which is what the files hold where the host tells them: an effect of the words is begun behind the
-- reads, and done whole or cut by a fault of the host or for want of memory; or a read failed or memory was wanted before the effect, and no file was
-- touched and nothing was printed. Where the host tells its files, the calls are those reads, a write of the file and a print of the text, all of
-- them or up to the first that failed.
abbrev pub Traces : (List Segment → Listing) → Option Asked → HostState → HostState → Status → Type 0
Traces listings asked old new status = DoesOne (reads_for asked) (IsEffect listings asked) old new status
