-- Codes that no row has.
use Rattle.std.proofs.Common.{◌≡◌, ℕ, [], ◌∷◌, Option, Some, None}
use Rattle.std.specs.Prelude.{IfNone}
use Rattle.hm_isa.specs.declared.Instr.{Instr}
use Rattle.hm_isa.specs.declared.widths.NarrowRow.{NarrowRow}
use Rattle.hm_isa.specs.declared.widths.ByWidth.{ByWidth}
use Rattle.hm_isa.specs.declared.widths.ByWidth.TheVariants as by
use Rattle.hm_isa.specs.Code.{halfwords, halves_by_width, narrow_code}
use Rattle.hm_isa.specs.Widths.{by_width}

-- an instruction with a code of one halfword is a row of one
no_row_of_width : (w : ByWidth) (h : ℕ) → ((r : NarrowRow) → narrow_code r ≡ h → ⊥) → halves_by_width w ≡ h ∷ [] → ⊥
no_row_of_width (by.Narrow r) h none e = none r cc
no_row_of_width (by.Wide r) h none e = cc
no_row_of_width (by.Vector r) h none e = cc

pub no_instruction : (o : Option Instr) (h : ℕ) → IfNone o ((r : NarrowRow) → narrow_code r ≡ h → ⊥) → IfNone o ((i : Instr) → halfwords i ≡ h ∷ [] → ⊥)
no_instruction (Some i) h none = tt
no_instruction None h none = λ i. no_row_of_width (by_width i) h none
