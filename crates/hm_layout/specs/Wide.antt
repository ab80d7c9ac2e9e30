-- The instructions of two halfwords that are no vector instructions.
use Rattle.std.specs.Prelude.{ℕ, ◌≡◌}
use Rattle.hm_isa.specs.declared.Instr.{Instr}
use Rattle.hm_isa.specs.declared.widths.ByWidth.{ByWidth}
use Rattle.hm_isa.specs.declared.widths.ByWidth.TheVariants as by
use Rattle.hm_isa.specs.Code.{wide_code}
use Rattle.hm_isa.specs.Widths.{by_width}

-- of an instruction by the width of its code: it is one of them
abbrev pub IsWideRow : ByWidth → Type 0
IsWideRow (by.Narrow r) = ⊥
IsWideRow (by.Wide r) = Unit {0}
IsWideRow (by.Vector r) = ⊥

-- an instruction is one of them
abbrev pub IsWide : Instr → Type 0
IsWide i = IsWideRow (by_width i)

-- of an instruction by the width of its code: it is one of them, and w is its code
abbrev pub IsWordOf : ByWidth → ℕ → Type 0
IsWordOf (by.Narrow r) w = ⊥
IsWordOf (by.Wide r) w = wide_code r ≡ w
IsWordOf (by.Vector r) w = ⊥

-- an instruction is one of them, and w is its code, with the first half in bits 31 to 16
abbrev pub HasWord : Instr → ℕ → Type 0
HasWord i w = IsWordOf (by_width i) w
