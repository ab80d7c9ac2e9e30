-- Runs of whole instructions end alike under every head.
use Rattle.std.proofs.Common.{◌≡◌, ◌∙◌, ℕ, List, Some, false, refl, sym}
use Rattle.hm_base.specs.Image.{Segment}
use Rattle.hm_codes.specs.Listing.{Listing}
use Rattle.hm_run_laws.specs.Runs.{run_out}
use Rattle.hm_run_laws.proofs.Plain.{tells}
use Rattle.hm_run_laws.specs.Plain.{plain_end, plain_ticks}
use Rattle.hm_run.specs.InOrder.{in_order}
use Rattle.hm_sched.specs.Schedule.{Sched, plain, plain_lines}
use Rattle.hm_shake_runs.specs.Heads.{whole_ticks}
use Rattle.hm_shake_runs.specs.declared.head.Head.{Head}

-- n of them without entries: as the instructions in order
module _ (image : List Segment) (listing : Listing) (s : Sched) (n : ℕ) (none : s.entries ≡ false) (lines : s.lines ≡ plain_lines n) where
  outcome_is : (run_out listing image s).outcome ≡ Some (plain_end (in_order listing image n))
  outcome_is = (tells listing image s n none lines).ends

  ticks_are : (run_out listing image s).ticks ≡ plain_ticks n (in_order listing image n)
  ticks_are = (tells listing image s n none lines).ticks

pub whole_outcome : (image : List Segment) (listing : Listing) (h : Head) (n : ℕ)
    → (run_out listing image (whole_ticks h n)).outcome ≡ (run_out listing image (plain n)).outcome
whole_outcome image listing h n = outcome_is image listing (whole_ticks h n) n refl refl ∙ sym (outcome_is image listing (plain n) n refl refl)

pub whole_begun : (image : List Segment) (listing : Listing) (h : Head) (n : ℕ)
    → (run_out listing image (whole_ticks h n)).ticks ≡ (run_out listing image (plain n)).ticks
whole_begun image listing h n = ticks_are image listing (whole_ticks h n) n refl refl ∙ sym (ticks_are image listing (plain n) n refl refl)
