-- What a write to a place leaves: how many registers there are, and what is in no place.
use Rattle.std.proofs.Common.{◌≡◌, ℕ, ◌*◌, Bool, true, false, ltb, cond, List, length, set, arith, refl}
use Rattle.std.proofs.Common.{◌∙◌}
use Rattle.std.proofs.lemmas.List.{length-set}
use Rattle.hm_base.specs.Bits.{field}
use Rattle.hm_base.specs.Place.{IsPlace}
use Rattle.hm_regs.specs.Place.{with_value, Counted, SameElsewhere}
use Rattle.hm_base.specs.declared.Place.{Place}
use Rattle.hm_base.specs.declared.Place.TheVariants.{R, QWord, P0, Mask01, Mask23, Carry, Ltp, Sticky}
use Rattle.hm_regs.specs.declared.Regs.{Regs}
use Rattle.hm_base.proofs.Fields.{field-put_field_below, field-put_field_above}

cond_count : (b : Bool) (xs ys : List ℕ) (n : ℕ) → length xs ≡ n → length ys ≡ n → length (cond b xs ys) ≡ n
cond_count b xs ys n p q = elim b as (λ v. length (cond v xs ys) ≡ n) [ true ↦ p | false ↦ q ]

pub counted : (p : Place) (x : ℕ) (s : Regs) → Counted s → Counted (with_value p x s)
counted (R n) x s i = record { r_count = cond_count (ltb n 13) (set s.r n x) s.r 13 (length-set s.r n x ∙ i.r_count) i.r_count; qw_count = i.qw_count }
counted (QWord k) x s i = record { r_count = i.r_count; qw_count = length-set s.qw k x ∙ i.qw_count }
counted p x s i = record { r_count = i.r_count; qw_count = i.qw_count }

-- WHAT IS IN NO PLACE
same_vpr : (s : Regs) (v : ℕ) → field 24 8 v ≡ field 24 8 s.vpr → SameElsewhere (record s { vpr = v }) s
same_vpr s v e = record { registers = refl; fpscr_low = refl; fpscr_middle = refl; vpr_top = e }

same_fpscr : (s : Regs) (v : ℕ) → field 0 16 v ≡ field 0 16 s.fpscr → field 19 8 v ≡ field 19 8 s.fpscr → SameElsewhere (record s { fpscr = v }) s
same_fpscr s v e f = record { registers = refl; fpscr_low = e; fpscr_middle = f; vpr_top = refl }

pub SameElsewhere-with_value : (p : Place) (x : ℕ) (s : Regs) → IsPlace p → SameElsewhere (with_value p x s) s
SameElsewhere-with_value (R n) x s i = record { registers = refl; fpscr_low = refl; fpscr_middle = refl; vpr_top = refl }
SameElsewhere-with_value (QWord k) x s i = record { registers = refl; fpscr_low = refl; fpscr_middle = refl; vpr_top = refl }
SameElsewhere-with_value (P0 b) x s i = same_vpr s _ (field-put_field_above 24 8 (4 * b) 4 x s.vpr (omega arith))
SameElsewhere-with_value Mask01 x s i = same_vpr s _ (field-put_field_above 24 8 16 4 x s.vpr (omega arith))
SameElsewhere-with_value Mask23 x s i = same_vpr s _ (field-put_field_above 24 8 20 4 x s.vpr (omega arith))
SameElsewhere-with_value Carry x s i =
    same_fpscr s _ (field-put_field_below 0 16 28 4 x s.fpscr (omega arith)) (field-put_field_below 19 8 28 4 x s.fpscr (omega arith))
SameElsewhere-with_value Ltp x s i =
    same_fpscr s _ (field-put_field_below 0 16 16 3 x s.fpscr (omega arith)) (field-put_field_above 19 8 16 3 x s.fpscr (omega arith))
SameElsewhere-with_value Sticky x s i =
    same_fpscr s _ (field-put_field_below 0 16 27 1 x s.fpscr (omega arith)) (field-put_field_below 19 8 27 1 x s.fpscr (omega arith))
