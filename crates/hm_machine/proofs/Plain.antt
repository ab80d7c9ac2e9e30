-- What holds of a machine after some ticks, and of one that ran to the end of its schedule.
use Rattle.std.proofs.Common.{◌≡◌, ℕ, List, length, refl, sym, subst}
use Rattle.hm_base.specs.Image.{Segment, flash_byte}
use Rattle.hm_codes.specs.Listing.{Listing, IsListing}
use Rattle.hm_machine.specs.Shown.{Shown, Shows, run_of, timed_of}
use Rattle.hm_run_laws.proofs.Headlines.{headline_every, riders_every}
use Rattle.hm_run_laws.proofs.Lying.{taint_lies}
use Rattle.hm_run_laws.proofs.Order.{keeps_order}
use Rattle.hm_run_laws.specs.Order.{KeepsOrder}
use Rattle.hm_run_laws.specs.Runs.{run, run_out, shown}
use Rattle.hm_run_laws.specs.Taint.{TaintLies}
use Rattle.hm_machine.proofs.Ticks.{timed_is}
use Rattle.hm_run_laws.proofs.Plain.{reports}
use Rattle.hm_run_laws.proofs.Standing.{stands_in_order}
use Rattle.hm_run_laws.specs.Position.{StandsInOrder}
use Rattle.hm_run.specs.Headline.{Headline, PlainReport, Riders}
use Rattle.hm_run.specs.InOrder.{in_order}
use Rattle.hm_run.specs.Report.{report_text, memory_text}
use Rattle.hm_run.specs.Timed.{Timed}
use Rattle.hm_sched.specs.Schedule.{Sched, plain, ticks_of}

module _ (image : List Segment) (s : Sched) (t : ℕ) (m : Shown) (shows : Shows image s t m) (listing : Listing) (is : IsListing (flash_byte image) listing)
  where
    pub shown_at : timed_of m ≡ shown (run listing image s t)
    shown_at = timed_is m (run listing image s t) (shows.now listing is)

    pub shown_order : KeepsOrder listing image s (run_of m (run listing image s t).entries)
    shown_order = subst (KeepsOrder listing image s) (sym (shows.now listing is)) (keeps_order listing image s t)

    pub shown_position : StandsInOrder listing image s (run_of m (run listing image s t).entries)
    shown_position = subst (StandsInOrder listing image s) (sym (shows.now listing is)) (stands_in_order listing image s t)

    pub shown_taint : TaintLies s (run listing image s t).entries (timed_of m).config.state
    shown_taint = subst (λ (x : Timed). TaintLies s (run listing image s t).entries x.config.state) (sym shown_at) (taint_lies listing image s t)

module _ (image : List Segment) (s : Sched) (m : Shown) (end : Shows image s (length (ticks_of s.lines)) m) (listing : Listing)
    (is : IsListing (flash_byte image) listing) where
  shown_out : timed_of m ≡ shown (run_out listing image s)
  shown_out = shown_at image s (length (ticks_of s.lines)) m end listing is

  pub shown_headline : Headline listing image (timed_of m) (report_text (timed_of m)) (memory_text (timed_of m))
  shown_headline = subst (λ (x : Timed). Headline listing image x (report_text x) (memory_text x)) (sym shown_out)
      (headline_every listing image s _ _ refl refl)

  pub shown_riders : Riders listing image (timed_of m)
  shown_riders = subst (Riders listing image) (sym shown_out) (riders_every listing image s)

module _ (image : List Segment) (n : ℕ) (m : Shown) (end : Shows image (plain n) (length (ticks_of (plain n).lines)) m) (listing : Listing)
    (is : IsListing (flash_byte image) listing) where
  pub plain_report : PlainReport (timed_of m) (in_order listing image n)
  plain_report =
      subst (λ (x : Timed). PlainReport x (in_order listing image n))
      (sym (shown_out image (plain n) m end listing is)) (reports listing image n)
