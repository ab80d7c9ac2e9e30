-- The address that the label of a row names.
use Rattle.std.specs.Prelude.{ℕ, ◌+◌, ◌*◌, ◌/◌, ◌%◌, ◌^◌, Option, Some, None}
use Rattle.hm_isa.specs.declared.widths.NarrowRow.{NarrowRow}
use Rattle.hm_isa.specs.declared.widths.NarrowRow.TheVariants as narrow
use Rattle.hm_isa.specs.declared.narrow.S25.{S25 as JumpRow}
use Rattle.hm_isa.specs.declared.narrow.S25.TheVariants as s25
use Rattle.hm_isa.specs.Distances.{always_distance, conditional_distance}
use Rattle.hm_text_rows.specs.Labels.{behind}

-- S25: the address that the label of B at pc names, its offset signed and twice the number in the code (DDI0553, "B", encodings T1 and T2)
abbrev pub jump_target : JumpRow → ℕ → ℕ
jump_target (s25.Conditional i) pc = behind pc (conditional_distance i)
jump_target (s25.Always i) pc = behind pc (always_distance i)

-- S14: the address that the label of LDR at pc names: from pc plus 4, rounded down to a word (DDI0553, "LDR (literal)")
abbrev pub literal_target : ℕ → ℕ → ℕ
literal_target pc i = ((pc + 4) / 4 * 4 + 4 * i) % 2 ^ 32

-- the address that the label of a row of one halfword names, where the instruction stands at pc; None where it has none;
-- S24: of CBZ and CBNZ, forward by 2i from pc plus 4 (DDI0553, "CBNZ, CBZ")
abbrev pub target : NarrowRow → ℕ → Option ℕ
target (narrow.S14 i) pc = Some (literal_target pc i.i.value)
target (narrow.S24 i) pc = Some (behind pc (2 * i.i.value))
target (narrow.S25 i) pc = Some (jump_target i pc)
target i pc = None
