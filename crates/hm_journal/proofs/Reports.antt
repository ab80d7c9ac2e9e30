-- The reports that a machine of a run gives.
use Rattle.std.proofs.Common.{◌≡◌, ◌↔◌, ◌≤◌, ℕ, Bool, IsTrue, ap, sym, ◌∙◌, List, string_bytes}
use Rattle.hm_base.specs.Image.{Segment, flash_byte}
use Rattle.hm_codes.specs.Listing.{Listing, IsListing}
use Rattle.hm_run_laws.specs.Runs.{run, run_out}
use Rattle.hm_machine.proofs.Ticks.{timed_is}
use Rattle.hm_machine.specs.Shown.{Shown, Shows, timed_of}
use Rattle.hm_run.specs.Report.{report_text}
use Rattle.hm_sched.specs.Schedule.{Sched}
use Rattle.hm_journal.specs.Formats.{report_in}
use Rattle.hm_journal.specs.Runs.{IsOfRun, report_at}
use Rattle.hm_journal.specs.Views.{checkpoint_of}
use Rattle.hm_journal.specs.declared.journal.Checkpoint.{Checkpoint}

pub reported : (listing : Listing) (image : List Segment) (s : Sched) (t : ℕ) (m : Shown) (bytes : List ℕ) → IsListing (flash_byte image) listing
    → Shows image s t m
    → bytes ≡ report_text (timed_of m) → bytes ≡ report_at listing image s t
reported listing image s t m bytes is shows e = e ∙ ap report_text (timed_is m (run listing image s t) (shows.now listing is))

-- a checkpoint is the run's where its tick is begun and its report is what the format has of these bytes, which are the run's report there
pub of_run : (listing : Listing) (image : List Segment) (s : Sched) (format : ℕ) (x : Checkpoint) (bytes text : List ℕ) (b : Bool)
    → x.tick ≤ (run_out listing image s).ticks
    → bytes ≡ report_at listing image s x.tick → text ≡ string_bytes x.report → IsTrue b ↔ (text ≡ report_in format bytes)
    → IsTrue b ↔ IsOfRun listing image s format (checkpoint_of x)
of_run listing image s format x bytes text b begun is same tells = (
  λ t. record { begun = begun; report = sym same ∙ tells.0 t ∙ ap (report_in format) is },
  λ of. tells.1 (same ∙ of.report ∙ ap (report_in format) (sym is)),
)
