-- The image that a source gives, or the line that is refused first.
use Rattle.std.specs.Prelude.{◌≡◌, ◌⊎◌, ℕ, ◌+◌, List, Result, Ok, Err}
use Rattle.std.specs.FinMap.{get, empty}
use Rattle.hm_base.specs.Image.{Segment}
use Rattle.hm_line.specs.Labels.{LabelMap}
use Rattle.hm_line.specs.declared.errors.AsmKind.{AsmKind}
use Rattle.hm_asm.specs.declared.errors.AsmErr.{AsmErr}
use Rattle.hm_asm.specs.declared.errors.AsmErr.TheVariants as refusals
use Rattle.hm_source.specs.Lines.{source_lines}
use Rattle.hm_asm.specs.FirstPass.{AreFine, IsFirstRefused}
use Rattle.hm_asm.specs.SecondPass.{AreGiven, IsNextRefused}
use Rattle.hm_asm.specs.Segments.{joined}

-- SOURCES; assembly begins at 0
-- no line is refused, and the image has what the lines give, and nothing else
pub record IsAssembled (source : List ℕ) (image : List Segment) : Type 0 where
  pub labels : LabelMap
  pub fine : AreFine empty 0 (source_lines source) labels
  pub pieces : List Segment
  pub given : AreGiven (get labels) 0 (source_lines source) pieces
  pub image_is : image ≡ joined pieces

-- the first pass refuses the line behind n others
abbrev pub IsRefusedFirst : AsmKind → List ℕ → ℕ → ℕ → Type 0
IsRefusedFirst kind source n c = IsFirstRefused kind empty 0 (source_lines source) n c

-- the first pass refuses no line, and the second the line behind n others
abbrev pub IsRefusedSecond : AsmKind → List ℕ → ℕ → ℕ → Type 0
IsRefusedSecond kind source n c =
    (labels : LabelMap) × AreFine empty 0 (source_lines source) labels × IsNextRefused kind (get labels) 0 (source_lines source) n c

-- the line behind n others is refused first, at its column c: by the first pass, or else by the second
abbrev pub IsSourceRefused : AsmKind → List ℕ → ℕ → ℕ → Type 0
IsSourceRefused kind source n c = IsRefusedFirst kind source n c ⊎ IsRefusedSecond kind source n c

-- THE OUTCOME of a source: its image, or its refusal, with the line counted from 1
-- what is told is the refusal of a source: its line, column and cause; want of memory is not one
abbrev pub IsRefusal : List ℕ → AsmErr → Type 0
IsRefusal source (refusals.Line k c kind) = (n : ℕ) × (k ≡ n + 1) × IsSourceRefused kind source n c
IsRefusal source refusals.OutOfMemory = ⊥

-- a result is that of a source: its image, or its refusal
abbrev pub IsOutcome : List ℕ → Result (List Segment) AsmErr → Type 0
IsOutcome source (Ok image) = IsAssembled source image
IsOutcome source (Err e) = IsRefusal source e

-- what a function returned is the outcome, unless memory was wanted
abbrev pub GivesOutcome : List ℕ → Result (List Segment) AsmErr → Type 0
GivesOutcome source (Err refusals.OutOfMemory) = Unit {0}
GivesOutcome source r = IsOutcome source r

-- memory was wanted, or what was returned is this
abbrev pub IsUnlessMemory : Result (List Segment) AsmErr → Result (List Segment) AsmErr → Type 0
IsUnlessMemory (Err refusals.OutOfMemory) r = Unit {0}
IsUnlessMemory returned r = returned ≡ r
