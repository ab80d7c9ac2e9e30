-- What the two passes tell is the outcome of the source.
use Rattle.std.proofs.Common.{◌≡◌, ℕ, List, Ok, Err, inl, inr}
use Rattle.std.specs.Prelude.{IfErr, IfOk}
use Rattle.std.specs.FinMap.{get, empty}
use Rattle.hm_base.specs.Image.{Segment}
use Rattle.hm_line.specs.Labels.{LabelMap}
use Rattle.hm_source.specs.Lines.{source_lines}
use Rattle.hm_asm.specs.declared.errors.AsmErr.{AsmErr}
use Rattle.hm_asm.specs.declared.errors.AsmErr.TheVariants as refusals
use Rattle.hm_asm.specs.FirstPass.{AreFine}
use Rattle.hm_asm.specs.Refusals.{IsFirstErr, IsSecondErr}
use Rattle.hm_asm.specs.SecondPass.{AreGiven}
use Rattle.hm_asm.specs.Segments.{joined}
use Rattle.hm_asm.specs.Sources.{IsAssembled, IsOutcome, IsUnlessMemory, GivesOutcome}
use Rattle.hm_asm.proofs.Outcomes.{Outcome, one_outcome}

pub first_meets : (source : List ℕ) (e : AsmErr) → IsFirstErr source e → GivesOutcome source (Err e)
first_meets source (refusals.Line k c kind) (n, at, r) = (n, at, inl r)
first_meets source refusals.OutOfMemory r = tt

-- what the second pass gives, with these labels
abbrev pub IsGivenImage : List ℕ → LabelMap → List Segment → Type 0
IsGivenImage source labels image = (pieces : List Segment) × AreGiven (get labels) 0 (source_lines source) pieces × (image ≡ joined pieces)

assembled : (source : List ℕ) (labels : LabelMap) (image : List Segment) → AreFine empty 0 (source_lines source) labels → IsGivenImage source labels image
    → IsAssembled source image
assembled source labels image fine (pieces, given, is) = record { labels = labels; fine = fine; pieces = pieces; given = given; image_is = is }

pub second_found : (source : List ℕ) (labels : LabelMap) (r : Outcome) → AreFine empty 0 (source_lines source) labels → IfOk r (IsGivenImage source labels)
    → IfOk r (λ image. IsAssembled source image)
second_found source labels (Ok image) fine given = assembled source labels image fine given
second_found source labels (Err e) fine given = tt

pub second_meets : (source : List ℕ) (labels : LabelMap) (r : Outcome) → AreFine empty 0 (source_lines source) labels → IfOk r (IsGivenImage source labels)
    → IfErr r (λ e. IsSecondErr (get labels) (source_lines source) e) → GivesOutcome source r
second_meets source labels (Ok image) fine given refused = assembled source labels image fine given
second_meets source labels (Err (refusals.Line k c kind)) fine given (n, at, r) = (n, at, inr (labels, fine, r))
second_meets source labels (Err refusals.OutOfMemory) fine given refused = tt

-- so nothing else is
pub only_outcome : (source : List ℕ) (r s : Outcome) → GivesOutcome source r → IsOutcome source s → IsUnlessMemory r s
only_outcome source (Ok image) s meets is = one_outcome source (Ok image) s meets is
only_outcome source (Err (refusals.Line k c kind)) s meets is = one_outcome source (Err (refusals.Line k c kind)) s meets is
only_outcome source (Err refusals.OutOfMemory) s meets is = tt
