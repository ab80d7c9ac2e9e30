use Rattle.std.proofs.Common.{◌≡◌, ℕ, ◌/◌, ◌%◌, ◌^◌, ◌<◌, Bool, true, false, [], ◌∷◌, arith, sym, ◌∙◌}
use Rattle.hm_isa.specs.declared.vectors.NarrowingName.{NarrowingName}
use Rattle.hm_lane.specs.declared.lanes.Size.TheVariants.{Byte, Half}
use Rattle.hm_lane.specs.Lanes.{bytes_of}
use Rattle.hm_lane_fns.proofs.Parts.{high, low}
use Rattle.hm_forms_elements.specs.Forms.{narrowing_outside, narrowing_tests}
use Rattle.hm_forms_elements.proofs.narrowing.narrowing_tests.Goals as goal

-- the tests of the two halves of a word are those of its bytes
lower : (f : NarrowingName) (x : ℕ) (p q : Bool) → x < 2 ^ 32 → p ≡ narrowing_outside f Half Byte (x % 65536) → q ≡ narrowing_outside f Half Byte (x / 65536)
    → p ∷ false ∷ q ∷ false ∷ [] ≡ narrowing_tests false false f (bytes_of x)
lower f x p q h d e = (λ j. d j ∷ false ∷ e j ∷ false ∷ [])
    ∙ (λ j. narrowing_outside f Half Byte (low x j) ∷ false ∷ narrowing_outside f Half Byte (high x h j) ∷ false ∷ [])

upper : (f : NarrowingName) (x : ℕ) (p q : Bool) → x < 2 ^ 32 → p ≡ narrowing_outside f Half Byte (x % 65536) → q ≡ narrowing_outside f Half Byte (x / 65536)
    → false ∷ p ∷ false ∷ q ∷ [] ≡ narrowing_tests false true f (bytes_of x)
upper f x p q h d e = (λ j. false ∷ d j ∷ false ∷ e j ∷ [])
    ∙ (λ j. false ∷ narrowing_outside f Half Byte (low x j) ∷ false ∷ narrowing_outside f Half Byte (high x h j) ∷ [])

pub returns-then-top-2 : goal.returns-then-top-2
returns-then-top-2 c =
    upper c.args.f c.args.x c.outside-low.result c.outside-high.result (omega arith) c.outside-low.ensures c.outside-high.ensures
    ∙ (λ j. narrowing_tests (sym c.if-wide.false j) (sym c.if-top-2.true j) c.args.f (bytes_of c.args.x))

pub returns-else-top-2 : goal.returns-else-top-2
returns-else-top-2 c =
    lower c.args.f c.args.x c.outside-low.result c.outside-high.result (omega arith) c.outside-low.ensures c.outside-high.ensures
    ∙ (λ j. narrowing_tests (sym c.if-wide.false j) (sym c.if-top-2.false j) c.args.f (bytes_of c.args.x))
