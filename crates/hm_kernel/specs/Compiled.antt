-- What compiling a text gives.
use Rattle.std.specs.Prelude.{◌≡◌, ℕ, ◌≤◌, List, length}
use Rattle.hm_base.specs.Image.{IsImage, Segment, flash_byte, word_at}
use Rattle.hm_codes.specs.Listing.{IsListing, Listing}
use Rattle.hm_kernel_code.specs.Images.{IsImageOf}
use Rattle.hm_kernel_lang.specs.declared.text.Text.{Text}
use Rattle.hm_kernel_lang.specs.Language.{steps}
use Rattle.hm_kernel_lang.specs.Texts.{IsText}
use Rattle.hm_kernel.specs.Theorem.{Computes}
use Rattle.hm_kernel_text.specs.Held.{written}
use Rattle.hm_kernel_text.specs.Written.{IsKernel}

-- an image of a text: its segments have their places and overlap nowhere, it has the text's code and its first memory, its first word is the
-- end of SRAM, it has at most 64 segments, and its instructions in order compute what the text means
pub record IsCompiled (x : Text) (image : List Segment) : Type 0 where
  pub text : IsText x
  pub sound : IsImage image
  pub holds : IsImageOf x image
  pub first : word_at (flash_byte image) 0 ≡ 0x20040000
  pub few : length image ≤ 64
  pub computes : (listing : Listing) → IsListing (flash_byte image) listing → Computes x image listing

-- the bytes say a text, and the image is one of it
pub record Compiles (bytes : List ℕ) (image : List Segment) : Type 0 where
  pub text : Text
  pub says : IsKernel bytes (written text)
  pub compiled : IsCompiled text image

-- the bytes say a text whose code takes n steps
pub record Takes (bytes : List ℕ) (n : ℕ) : Type 0 where
  pub text : Text
  pub says : IsKernel bytes (written text)
  pub sound : IsText text
  pub steps_are : n ≡ steps text
