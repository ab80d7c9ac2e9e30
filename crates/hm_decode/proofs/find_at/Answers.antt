use Rattle.std.proofs.Common.{◌≡◌, ◌+◌, ℕ, ap, sym, ◌∙◌, true, false, Option, Some, None, IfNone, ◌∷◌, []}
use Rattle.hm_isa.specs.declared.Instr.{Instr}
use Rattle.hm_isa.specs.Code.{halfwords}
use Rattle.hm_codes.specs.Listing.{half_at, is_long, Stands}
use Rattle.hm_codes.proofs.Unique.{one_half, two_halves}
use Rattle.hm_decode.proofs.find_at.Goals as goal

-- a first half that begins no code of two: where no instruction has it for a code, none stands
none_short : (x : Option Instr) (flash : ℕ → ℕ) (a first : ℕ) → first ≡ half_at flash a → is_long first ≡ false
    → IfNone x ((i : Instr) → halfwords i ≡ first ∷ [] → ⊥) → IfNone x ((i : Instr) → Stands flash a i → ⊥)
none_short (Some i) flash a first e short none = tt
none_short None flash a first e short none =
    λ i stands. none i (one_half flash a i stands (ap is_long (sym e) ∙ short) ∙ ap (λ h. h ∷ []) (sym e))

-- a first half that begins a code of two: where no instruction has the two for a code, none stands
none_long : (x : Option Instr) (flash : ℕ → ℕ) (a first second : ℕ) → first ≡ half_at flash a → second ≡ half_at flash (a + 2) → is_long first ≡ true
    → IfNone x ((i : Instr) → halfwords i ≡ first ∷ second ∷ [] → ⊥) → IfNone x ((i : Instr) → Stands flash a i → ⊥)
none_long (Some i) flash a first second e f long none = tt
none_long None flash a first second e f long none =
    λ i stands. none i ((two_halves flash a i stands (ap is_long (sym e) ∙ long)).1 ∙ cc)

pub returns-then-not-begins_two-clause-none : goal.returns-then-not-begins_two-clause-none
returns-then-not-begins_two-clause-none c =
    let short : is_long c.in_ok-first.first ≡ false = sym c.begins_two.ensures ∙ c.if-not-begins_two.true in
    none_short _ _ _ _ c.in_ok-first.ensures.flash short c.decode16.ensures.none

pub returns-clause-none : goal.returns-clause-none
returns-clause-none c =
    let long : is_long c.in_ok-first.first ≡ true = sym c.begins_two.ensures ∙ c.if-not-begins_two.false in
    none_long _ _ _ _ _ c.in_ok-first.ensures.flash c.in_ok-second.ensures.flash long c.find_wide.ensures.none
