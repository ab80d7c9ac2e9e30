-- The image of a file: of Intel HEX, ELF, or flat.
use Rattle.std.specs.Prelude.{ℕ, Bool, true, false, List, Result, get_or, nat_eq, if◌then◌else◌}
use Rattle.hm_base.specs.Image.{Segment}
use Rattle.hm_base.specs.declared.errors.ImageErr.{ImageErr}
use Rattle.hm_elf.specs.Elf.{IsImageFile}
use Rattle.hm_elf.specs.ReadImage.{image_in}
use Rattle.hm_ihex.specs.Records.{colon}
use Rattle.hm_ihex.specs.Files.{hex_in}
use Rattle.hm_ihex.specs.HexFile.{IsHexFile}

-- a file that begins with a colon is of Intel HEX
abbrev pub begins_as_hex : List ℕ → Bool
begins_as_hex bytes = nat_eq (get_or bytes 0 0) colon

-- the image of a file, or its first refusal
abbrev pub image_of : List ℕ → Result (List Segment) ImageErr
image_of bytes = if begins_as_hex bytes then hex_in bytes else image_in bytes

-- a file of this form, of Intel HEX or another, holds this image
abbrev pub IsImageIn : Bool → List ℕ → List Segment → Type 0
IsImageIn true bytes image = IsHexFile bytes image
IsImageIn false bytes image = IsImageFile bytes image

-- a file holds this image
abbrev pub IsImageOf : List ℕ → List Segment → Type 0
IsImageOf bytes image = IsImageIn (begins_as_hex bytes) bytes image
