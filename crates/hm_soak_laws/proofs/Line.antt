-- A soak has a line, and one alone.
use Rattle.std.proofs.Common.{◌≡◌, ℕ, Bool, true, ◌&&◌, List, Some, refl, ap, ◌∙◌, subst, sym}
use Rattle.std.specs.Bool.{Decides}
use Rattle.std.specs.Str.{bytes_eq}
use Rattle.std.proofs.lemmas.Bool.Decides.{Decides-and, Decides-like, same_from_decides}
use Rattle.std.proofs.lemmas.Slice.Eq.{bytes_eq-Decides}
use Rattle.hm_base.specs.Image.{Segment, flash_byte}
use Rattle.hm_codes.specs.Listing.{IsListing, Listing}
use Rattle.hm_codes.proofs.Exists.{exists}
use Rattle.hm_codes.proofs.Unique.{fetched_one}
use Rattle.hm_state.specs.State.{State, regs_of}
use Rattle.hm_soak_laws.specs.Summary.{IsSoakLine, IsSummary, SameShown, entered, plainly, scheduled, summary_text}
use Rattle.hm_soak_laws.specs.Image.{IsSoak}
use Rattle.hm_soak_laws.specs.Schedule.{schedule}
use Rattle.hm_soak_laws.proofs.Codes.{one_image}
use Rattle.hm_soak_laws.proofs.Comparing.{same_regs, same_regs_decides}
use Rattle.hm_soak_laws.proofs.Given.{some_image}
use Rattle.hm_soak_laws.proofs.Whole.{soak_equal}
use Rattle.hm_run.specs.declared.Outcome.TheVariants as outcome
use Rattle.hm_run.specs.declared.Reason.{Reason}

-- THE COMPARISON as a test
same_test : State → State → Bool
same_test s t = same_regs (regs_of s) (regs_of t) && bytes_eq s.rest.output t.rest.output

same_decides : (s t : State) → Decides (same_test s t) (SameShown s t)
unfolding same_test
same_decides s t =
    Decides-like _ (λ h. record { registers = h.0; output = h.1 }) (λ h. (h.registers, h.output))
    (Decides-and _ _ (same_regs_decides (regs_of s) (regs_of t)) (bytes_eq-Decides s.rest.output t.rest.output))

-- ONE LINE
module _ (number : ℕ) (listing : Listing) (image : List Segment) where
  one_summary : (a b : List ℕ) → IsSummary number listing image a → IsSummary number listing image b → a ≡ b
  one_summary a b h k =
      let same : h.same ≡ k.same = same_from_decides h.same k.same h.means k.means in
      let x = scheduled listing image in
      h.is ∙ ap (summary_text number x.machine.config.n x.ticks (entered listing image schedule x.ticks)) same ∙ sym k.is

  some_summary : (text : List ℕ) × IsSummary number listing image text
  some_summary =
      let s = (scheduled listing image).machine.config.state in
      let t = (plainly listing image).machine.config.state in
      let x = scheduled listing image in (
        summary_text number x.machine.config.n x.ticks (entered listing image schedule x.ticks) (same_test s t),
        record { same = same_test s t; means = same_decides s t; is = refl },
      )

-- a flash has one listing
pub one_listing : (flash : ℕ → ℕ) (a b : Listing) → IsListing flash a → IsListing flash b → a ≡ b
one_listing flash a b h k = λ j x. fetched_one flash x (a x) (b x) (h.at x) (k.at x) j

-- the text that the line is, of any image and listing that are the soak's
pub line_of : (number : ℕ) (image : List Segment) (listing : Listing) (text : List ℕ) → IsSoak number image → IsListing (flash_byte image) listing
    → IsSoakLine number text → IsSummary number listing image text
line_of number image listing text soak lists h =
    let same : h.image ≡ image = one_image number h.image image h.soak soak in
    let there : IsListing (flash_byte image) h.listing = subst (λ (i : List Segment). IsListing (flash_byte i) h.listing) same h.lists in
    let here = subst (λ (i : List Segment). IsSummary number h.listing i text) same h.summary in
    subst (λ (l : Listing). IsSummary number l image text) (one_listing (flash_byte image) h.listing listing there lists) here

pub one_line : (number : ℕ) (a b : List ℕ) → IsSoakLine number a → IsSoakLine number b → a ≡ b
one_line number a b h k = one_summary number k.listing k.image a b (line_of number k.image k.listing a k.soak k.lists h) k.summary

pub some_line : (number : ℕ) → (text : List ℕ) × IsSoakLine number text
some_line number =
    let made = some_image number in
    let there = exists (flash_byte made.0) in
    let text = some_summary number there.0 made.0 in
    (text.0, record { image = made.0; listing = there.0; soak = made.1; lists = there.1; summary = text.1 })

pub line_equal : (number : ℕ) (image : List Segment) (listing : Listing) (r : Reason) (n : ℕ) (text : List ℕ) → IsSoak number image
    → IsListing (flash_byte image) listing
    → (scheduled listing image).outcome ≡ Some (outcome.Halted r n) → IsSoakLine number text
    → text ≡ (let x = scheduled listing image in summary_text number 4113 x.ticks (entered listing image schedule x.ticks) true)
line_equal number image listing r n text soak lists e h = soak_equal number image listing r n text soak lists e (line_of number image listing text soak lists h)
