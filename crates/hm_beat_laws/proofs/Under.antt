-- The whole of a form under 16 truth values in place of the predicate, by what it writes and whether it marks QC.
use Rattle.std.proofs.Common.{ℕ, ◌+◌, ◌/◌, Bool, false, ◌&&◌, eqb, List, [], ◌∷◌}
use Rattle.hm_state.specs.State.{Cell, State, Value}
use Rattle.hm_beat.specs.Rows.{predicate_at}
use Rattle.hm_lane_fns.specs.LaneFns.{saturates}
use Rattle.hm_lane_fns.specs.Words.{any_both, size_of}
use Rattle.hm_forms.specs.declared.form.Form.{Form}
use Rattle.hm_forms.specs.declared.form.Form.TheVariants as form
use Rattle.hm_forms_elements.specs.Forms.{narrowing_saturates}
use Rattle.hm_forms_across.specs.Registers.{extreme_under, long_under, sum_under}
use Rattle.hm_lane_fns.specs.Registers.{merges_under, saturating}
use Rattle.hm_forms_elements.specs.Registers.{constant_result, lanes_result, lanes_saturated, widening_result, narrowing_result}
use Rattle.hm_forms_elements.specs.Registers.{narrowing_saturated, reversed_result, complex_sum_result, long_product_result}
use Rattle.hm_forms_elements.specs.Registers.{carry_under, offsets_under, shift_under}
use Rattle.hm_rows.specs.Rows.{Registers}
use Rattle.hm_beat_laws.specs.Exceptions.{from_beat, gives_registers}
use Rattle.hm_beat_laws.specs.Parts.{belongs, part_of}

-- THE WHOLE UNDER ANY PREDICATE: 16 truth values in place of those of the state
-- what a form writes under these truth values, beside P0 and the masks
abbrev pub writes_under : List Bool → Form → State → List (Cell × Value)
writes_under ps (form.Lanes l) s = merges_under ps l.d.value (lanes_result l s) s
writes_under ps (form.Constant r) s = merges_under ps r.d.value (constant_result r s) s
writes_under ps (form.Narrowing r) s = merges_under ps r.d.value (narrowing_result r s) s
writes_under ps (form.Carry r) s = carry_under ps r s
writes_under ps (form.Shift r) s = shift_under ps r s
writes_under ps (form.Offsets r) s = offsets_under ps r s
writes_under ps (form.Sum r) s = sum_under ps r s
writes_under ps (form.Long r) s = long_under ps r s
writes_under ps (form.Extreme r) s = extreme_under ps r s
writes_under ps (form.LongProduct r) s = merges_under ps r.d.value (long_product_result r (size_of r.z.value) s) s
writes_under ps (form.Widening r) s = merges_under ps r.d.value (widening_result r s) s
writes_under ps (form.ComplexSum r) s = merges_under ps r.d.value (complex_sum_result r s) s
writes_under ps (form.Reversed r) s = merges_under ps r.d.value (reversed_result r s) s
writes_under ps f s = []

-- whether it sets QC
abbrev pub marks_under : List Bool → Form → State → Bool
marks_under ps (form.Lanes l) s = saturates l.f && any_both ps (lanes_saturated l s)
marks_under ps (form.Narrowing r) s = narrowing_saturates r.name && any_both ps (narrowing_saturated r s)
marks_under ps f s = false

abbrev pub whole_under : List Bool → Form → State → State
whole_under ps f s = saturating (marks_under ps f s) (writes_under ps f s) s

-- ONE WORD
-- of truth values for the bytes from number k on those of word b, and false for the others
abbrev pub alone_from : ℕ → ℕ → List Bool → List Bool
alone_from b k [] = []
alone_from b k (p ∷ ps) = (eqb (k / 4) b && p) ∷ alone_from b (k + 1) ps

-- the predicate of word b alone
abbrev pub alone : ℕ → State → List Bool
alone b s = alone_from b 0 (predicate_at s)

-- the part of word b alone
abbrev pub part_under : Form → ℕ → State → State
part_under f b s = part_of (belongs (gives_registers (Registers f) b) b) (whole_under (alone b s) (from_beat b f) s) s
