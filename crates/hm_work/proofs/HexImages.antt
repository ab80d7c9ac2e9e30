-- What an image and the image of its file of Intel HEX have in common: their listings, their reset address and their runs.
use Rattle.std.proofs.Common.{◌≡◌, ◌/◌, ◌%◌, true, false, eqb, cond, List, [], ◌∷◌, ◌++◌, get_or, Result, Ok, Err, refl, sym, ap, subst, ◌∙◌}
use Rattle.std.specs.List.{flat_map}
use Rattle.hm_base.specs.Image.{Segment, IsImage, flash_byte}
use Rattle.hm_base.specs.declared.errors.ImageErr.{ImageErr}
use Rattle.hm_codes.specs.Listing.{Listing, IsListing}
use Rattle.hm_run_laws.specs.Runs.{shown_out}
use Rattle.hm_sched.specs.Schedule.{Sched}
use Rattle.hm_state.specs.Start.{reset_pc}
use Rattle.hm_text_base.specs.Spans.{line}
use Rattle.hm_ihex.specs.Files.{hex_in}
use Rattle.hm_ihex.specs.Written.{AreBytes, all_pieces, base_text, data_text, hex_file, joined, lines_of_pieces, text_of}
use Rattle.hm_ihex.proofs.ReadBack.{read_back_is}
use Rattle.hm_ihex.proofs.SameBytes.{same_bytes_is}
use Rattle.hm_work.proofs.SameImage.{SameBytes, same_listing, same_reset, same_shown}

-- a file of Intel HEX begins with a colon
colon : (ps : List Segment) → get_or (text_of 0 ps) 0 0 ≡ 58
colon [] = refl
colon (p ∷ ps) = elim (eqb (p.addr / 65536) 0) as (λ t. get_or
    (flat_map line (cond t [] (base_text (p.addr / 65536) ∷ []) ++ data_text (p.addr % 65536) p.bytes ∷ lines_of_pieces (p.addr / 65536) ps)) 0 0 ≡ 58) [
      | true ↦ refl
      | false ↦ refl
    ]

pub hex_colon : (image : List Segment) → get_or (hex_file image) 0 0 ≡ 58
hex_colon image = colon (all_pieces image)

joined_same : (image : List Segment) → IsImage image → SameBytes (joined image) image
joined_same image is = record { at = same_bytes_is image is }

other : (i j : List Segment) → SameBytes i j → SameBytes j i
other i j h = record { at = λ a. (sym (h.at a).0, sym (h.at a).1) }

-- an image, its segments that touch made one, runs as it does
pub joined_listing : (image : List Segment) (listing : Listing) → IsImage image → IsListing (flash_byte image) listing
    → IsListing (flash_byte (joined image)) listing
joined_listing image listing is h = same_listing image (joined image) listing (other (joined image) image (joined_same image is)) h

pub joined_reset : (image : List Segment) → IsImage image → reset_pc (joined image) ≡ reset_pc image
joined_reset image is = same_reset (joined image) image (joined_same image is)

pub joined_shown : (listing : Listing) (image : List Segment) (s : Sched) → IsImage image → shown_out listing (joined image) s ≡ shown_out listing image s
joined_shown listing image s is = same_shown listing (joined image) image s (joined_same image is)

abbrev image_or : Result (List Segment) ImageErr → List Segment
image_or (Ok image) = image
image_or (Err e) = []

back_is : (image back : List Segment) → IsImage image → AreBytes image → hex_in (hex_file image) ≡ Ok back → joined image ≡ back
back_is image back is all read = ap image_or (sym (read_back_is image is all) ∙ read)

-- THE IMAGE OF AN IMAGE'S FILE has the same listings and the same reset address, and runs alike
pub hex_runs : (listing : Listing) (image back : List Segment) (s : Sched) → IsImage image → AreBytes image → IsListing (flash_byte image) listing
    → hex_in (hex_file image) ≡ Ok back
    → IsListing (flash_byte back) listing × (reset_pc back ≡ reset_pc image) × (shown_out listing back s ≡ shown_out listing image s)
hex_runs listing image back s is all listed read =
    subst (λ (i : List Segment). IsListing (flash_byte i) listing × (reset_pc i ≡ reset_pc image) × (shown_out listing i s ≡ shown_out listing image s))
    (back_is image back is all read)
    (joined_listing image listing is listed, joined_reset image is, joined_shown listing image s is)
