-- Runs that are over, and the line that they make.
use Rattle.std.proofs.Common.{◌≡◌, ℕ, ◌%◌, Bool, true, Global, List, Some, Vec, ap, ◌∙◌, subst}
use Rattle.std.specs.Prelude.{◌↔◌, IfOk, Result, Ok, Err}
use Rattle.hm_base.specs.Image.{Segment, flash_byte}
use Rattle.hm_base.specs.declared.errors.OutOfMemory.{OutOfMemory}
use Rattle.hm_codes.proofs.Exists.{exists}
use Rattle.hm_codes.specs.Listing.{IsListing, Listing}
use Rattle.hm_run_laws.specs.Runs.{Run, run_out}
use Rattle.hm_machine.specs.Shown.{Shown, timed_of}
use Rattle.hm_run.specs.declared.Outcome.TheVariants as outcome
use Rattle.hm_run.specs.declared.Reason.{Reason}
use Rattle.hm_soak.specs.Runs.{CountsEntries, IsOver}
use Rattle.hm_soak_laws.proofs.Line.{line_equal}
use Rattle.hm_soak_laws.proofs.Whole.{soak_reset}
use Rattle.hm_soak_laws.specs.Image.{IsSoak}
use Rattle.hm_soak_laws.specs.Schedule.{in_order_schedule, schedule}
use Rattle.hm_soak_laws.specs.Summary.{IsSoakLine, SameShown, entered, scheduled, summary_text}
use Rattle.hm_state.specs.Start.{reset_pc}

-- what the machines of the two runs show makes the line
pub line_from : (number : ℕ) (image : List Segment) (a b : Shown) (e : ℕ) (same : Bool) (text : List ℕ) → IsSoak number image → IsOver image schedule a
    → CountsEntries image schedule e
    → IsOver image in_order_schedule b → (same ≡ true) ↔ SameShown (timed_of a).config.state (timed_of b).config.state
    → text ≡ summary_text number (timed_of a).config.n (timed_of a).ticks e same
    → IsSoakLine number text
line_from number image a b e same text soak over counted plainly alike is =
    let there = exists (flash_byte image) in
    let listing = there.0 in
    let x = over.shows.now listing there.1 in
    let y = plainly.shows.now listing there.1 in
    let n = counted.counts listing there.1 in
    record {
      image = image;
      listing = listing;
      soak = soak;
      lists = there.1;
      summary = record {
        same = same;
        means = subst (λ (r : Run). (same ≡ true) ↔ SameShown r.machine.config.state (run_out listing image in_order_schedule).machine.config.state) x
            (subst (λ (r : Run). (same ≡ true) ↔ SameShown (timed_of a).config.state r.machine.config.state) y alike);
        is = is ∙ (λ j. summary_text number (x j).machine.config.n (x j).ticks (n j) same);
      };
    }

pub line_ok : (number : ℕ) (image : List Segment) (a b : Shown) (n t e : ℕ) (same : Bool) (r : Result (Vec ℕ Global) OutOfMemory) → IsSoak number image
    → IsOver image schedule a → CountsEntries image schedule e
    → IsOver image in_order_schedule b → (same ≡ true) ↔ SameShown (timed_of a).config.state (timed_of b).config.state → n ≡ (timed_of a).config.n
    → t ≡ (timed_of a).ticks
    → IfOk r (λ out. out.items ≡ summary_text number n t e same) → IfOk r (λ out. IsSoakLine number out.items)
line_ok number image a b n t e same (Ok out) soak over counted plainly alike retired ticks is =
    line_from number image a b e same out.items soak over counted plainly alike (is ∙ (λ j. summary_text number (retired j) (ticks j) e same))
line_ok number image a b n t e same (Err x) soak over counted plainly alike retired ticks none = tt

-- so it never says differ where the run under the schedule halts
pub equal_ok : (number : ℕ) (q : Result (Vec ℕ Global) OutOfMemory) → IfOk q (λ out. IsSoakLine number out.items)
    → IfOk q (λ out. (image : List Segment) (listing : Listing) (r : Reason) (n : ℕ) → IsSoak number image → IsListing (flash_byte image) listing
    → (scheduled listing image).outcome ≡ Some (outcome.Halted r n)
    → out.items ≡ (let x = scheduled listing image in summary_text number 4113 x.ticks (entered listing image schedule x.ticks) true))
equal_ok number (Ok out) h = λ image listing r n soak lists halts. line_equal number image listing r n out.items soak lists halts h
equal_ok number (Err x) none = tt

pub odd_reset : (number : ℕ) (image : List Segment) → IsSoak number image → reset_pc image % 2 ≡ 1
odd_reset number image soak = let e = soak_reset number image soak in ap (λ (k : ℕ). k % 2) e
