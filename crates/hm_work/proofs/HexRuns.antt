-- What the command that runs comes to over an image and over its file of Intel HEX.
use Rattle.std.proofs.Common.{◌≡◌, ◌%◌, ℕ, Bool, true, List, Option, Some, None, Result, Ok, Err, nat_eq, refl, ap, ◌∙◌}
use Rattle.std.specs.Prelude.{if◌then◌else◌}
use Rattle.hm_base.specs.Image.{IsImage, Segment, flash_byte}
use Rattle.hm_base.specs.declared.errors.ImageErr.{ImageErr}
use Rattle.hm_codes.specs.Listing.{Listing}
use Rattle.hm_elf.specs.ReadImage.{image_in}
use Rattle.hm_run_laws.specs.Runs.{shown_out}
use Rattle.hm_ihex.proofs.ReadBack.{read_back_is}
use Rattle.hm_ihex.specs.Files.{hex_in}
use Rattle.hm_ihex.specs.Written.{AreBytes, hex_file, joined}
use Rattle.hm_work.proofs.HexImages.{hex_colon, joined_listing, joined_reset, joined_shown}
use Rattle.hm_run.specs.Timed.{Timed}
use Rattle.hm_sched.specs.Schedule.{Sched}
use Rattle.hm_sched.specs.declared.errors.SchedErr.{SchedErr}
use Rattle.hm_soak_laws.proofs.Line.{one_listing}
use Rattle.hm_work.specs.Commands.{AreListings, reported, run_outcome, unless_refused}
use Rattle.hm_work.specs.Images.{begins_as_hex, image_of}
use Rattle.hm_work.specs.Run.{reset_refusal}
use Rattle.hm_work.specs.declared.work.Refusal.{Refusal}
use Rattle.hm_work.specs.declared.work.Refusal.TheVariants.{Reset}

hex_is_read : (image : List Segment) → IsImage image → AreBytes image → image_of (hex_file image) ≡ Ok (joined image)
hex_is_read image is all =
    let begins : begins_as_hex (hex_file image) ≡ true = ap (λ (b : ℕ). nat_eq b 58) (hex_colon image) in
    ap (λ (hex : Bool). if hex then hex_in (hex_file image) else image_in (hex_file image)) begins ∙ read_back_is image is all

shown_alike : (listings : List Segment → Listing) (image : List Segment) (s : Sched) → AreListings listings → IsImage image
    → shown_out (listings (joined image)) (joined image) s ≡ shown_out (listings image) image s
shown_alike listings image s are is =
    let one = one_listing (flash_byte (joined image)) (listings (joined image)) (listings image) (are.at (joined image))
    (joined_listing image (listings image) is (are.at image)) in
    ap (λ (l : Listing). shown_out l (joined image) s) one ∙ joined_shown (listings image) image s is

refused_alike : (image : List Segment) → IsImage image → reset_refusal (joined image) ≡ reset_refusal image
refused_alike image is = ap refused_at (joined_reset image is) where
  refused_at : ℕ → Option Refusal
  refused_at pc = if nat_eq (pc % 2) 0 then Some (Reset pc) else None

outcome_alike : (listings : List Segment → Listing) (image : List Segment) (read : Result Sched SchedErr) (memory : List ℕ) → AreListings listings
    → IsImage image
    → run_outcome listings (Ok (joined image)) read memory ≡ run_outcome listings (Ok image) read memory
outcome_alike listings image (Err e) memory are is = refl
outcome_alike listings image (Ok s) memory are is =
    ap (λ (why : Option Refusal). unless_refused why (reported (shown_out (listings (joined image)) (joined image) s) memory)) (refused_alike image is)
    ∙ ap (λ (x : Timed). unless_refused (reset_refusal image) (reported x memory)) (shown_alike listings image s are is)

pub hex_runs_alike : (listings : List Segment → Listing) (image : List Segment) (read : Result Sched SchedErr) (memory : List ℕ) → AreListings listings
    → IsImage image → AreBytes image
    → run_outcome listings (image_of (hex_file image)) read memory ≡ run_outcome listings (Ok image) read memory
hex_runs_alike listings image read memory are is all =
    ap (λ (i : Result (List Segment) ImageErr). run_outcome listings i read memory) (hex_is_read image is all) ∙ outcome_alike listings image read memory are is
