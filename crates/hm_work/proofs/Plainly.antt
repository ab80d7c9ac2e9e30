-- What a plain run shows is what the instructions in order come to.
use Rattle.std.proofs.Common.{◌≡◌, ℕ, List, Option, Some, ap, ◌∙◌}
use Rattle.std.specs.Prelude.{if◌then◌else◌}
use Rattle.hm_base.specs.Image.{Segment}
use Rattle.hm_codes.specs.Listing.{Listing}
use Rattle.hm_run_laws.specs.Runs.{shown_out}
use Rattle.hm_machine.specs.ShortReport.{is_fault, short_report}
use Rattle.hm_run_laws.specs.Plain.{plain_end}
use Rattle.hm_run_laws.proofs.Plain.{reports, plain_ends}
use Rattle.hm_run.specs.declared.Outcome.{Outcome}
use Rattle.hm_run.specs.Headline.{PlainReport}
use Rattle.hm_run.specs.InOrder.{InOrder, Running, Faulted, in_order, in_order_report}
use Rattle.hm_run.specs.Report.{outcome_line, report_text}
use Rattle.hm_run.specs.Timed.{Timed}
use Rattle.hm_sched.specs.Schedule.{plain}
use Rattle.hm_work.specs.Run.{has_halted, is_halted}

-- of a fault the first line
shown_in_order : (x : Timed) (y : InOrder) → PlainReport x y → x.outcome ≡ Some (plain_end y) → short_report x ≡ in_order_report y
shown_in_order x (Faulted kind pc addr k) report ends = ap (λ (o : Option Outcome). if is_fault o then outcome_line o else report_text x) ends
shown_in_order x y report ends = ap (λ (o : Option Outcome). if is_fault o then outcome_line o else report_text x) ends ∙ report

halted_in_order : (x : Timed) (y : InOrder) → x.outcome ≡ Some (plain_end y) → is_halted x.outcome ≡ has_halted y
halted_in_order x (Running s) ends = ap is_halted ends
halted_in_order x y ends = ap is_halted ends

-- by any listing of the same flash
module _ (listing other : Listing) (image : List Segment) (n : ℕ) (same : listing ≡ other) where
  pub plainly_shown : short_report (shown_out listing image (plain n)) ≡ in_order_report (in_order other image n)
  plainly_shown =
      ap (λ (l : Listing). short_report (shown_out l image (plain n))) same
      ∙ shown_in_order (shown_out other image (plain n)) (in_order other image n) (reports other image n) (plain_ends other image n)

  pub plainly_halted : is_halted (shown_out listing image (plain n)).outcome ≡ has_halted (in_order other image n)
  plainly_halted =
      ap (λ (l : Listing). is_halted (shown_out l image (plain n)).outcome) same
      ∙ halted_in_order (shown_out other image (plain n)) (in_order other image n) (plain_ends other image n)
