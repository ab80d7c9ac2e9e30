-- Codes of rows of two halfwords, and codes that no row has.
use Rattle.std.proofs.Common.{◌≡◌, ℕ, Option, Some, None, ap}
use Rattle.std.specs.Prelude.{IfNone}
use Rattle.hm_isa.specs.declared.Instr.{Instr}
use Rattle.hm_isa.specs.declared.widths.WideRow.{WideRow}
use Rattle.hm_isa.specs.declared.widths.ByWidth.{ByWidth}
use Rattle.hm_isa.specs.declared.widths.ByWidth.TheVariants as by
use Rattle.hm_isa.specs.Code.{halfwords, halves_by_width, two_halves, wide_code}
use Rattle.hm_isa.specs.Widths.{by_width}
use Rattle.hm_layout.specs.Wide.{HasWord, IsWordOf}

halves_are : (b : ByWidth) (w : ℕ) → IsWordOf b w → halves_by_width b ≡ two_halves w
halves_are (by.Narrow r) w h = absurd h
halves_are (by.Wide r) w h = ap two_halves h
halves_are (by.Vector r) w h = absurd h

pub word_halves : (i : Instr) (w : ℕ) → HasWord i w → halfwords i ≡ two_halves w
word_halves i w h = halves_are (by_width i) w h

-- an instruction with such a code is a row of two halfwords
no_row_of_width : (b : ByWidth) (w : ℕ) → ((r : WideRow) → wide_code r ≡ w → ⊥) → IsWordOf b w → ⊥
no_row_of_width (by.Narrow r) w none h = h
no_row_of_width (by.Wide r) w none h = none r h
no_row_of_width (by.Vector r) w none h = h

pub no_instruction : (o : Option Instr) (w : ℕ) → IfNone o ((r : WideRow) → wide_code r ≡ w → ⊥) → IfNone o ((i : Instr) → HasWord i w → ⊥)
no_instruction (Some i) w none = tt
no_instruction None w none = λ i. no_row_of_width (by_width i) w none
