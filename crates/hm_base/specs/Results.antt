-- Results: one that a refusal before it may stop, one whose refusal gets another name, and what came of reading an image.
use Rattle.std.specs.Prelude.{◌≡◌, List, Option, Some, None, Result, Ok, Err}
use Rattle.hm_base.specs.Image.{Segment}
use Rattle.hm_base.specs.declared.errors.ImageErr.{ImageErr}
use Rattle.hm_base.specs.declared.errors.ImageErr.TheVariants as refusals

-- a result, where nothing stops before it
abbrev pub unless : {A E : Type 0} → Option E → Result A E → Result A E
unless (Some e) r = Err e
unless None r = r

-- a result, with what stops it named by f
abbrev pub map_err : {A E F : Type 0} → (E → F) → Result A E → Result A F
map_err f (Ok x) = Ok x
map_err f (Err e) = Err (f e)

-- a refusal of an image is that of reading it, and want of memory says nothing
abbrev pub FailsImage : ImageErr → Result (List Segment) ImageErr → Type 0
FailsImage refusals.OutOfMemory read = Unit {0}
FailsImage e read = read ≡ Err e

-- the image or refusal that a function returned is what reading gives, unless memory was wanted
abbrev pub GivesImage : Result (List Segment) ImageErr → Result (List Segment) ImageErr → Type 0
GivesImage (Ok image) read = read ≡ Ok image
GivesImage (Err e) read = FailsImage e read
