-- What each branch row does.
use Rattle.std.specs.Prelude.{ℕ, ◌+◌, ◌-◌, ◌*◌, ◌%◌, ◌^◌, Bool, true, cond, not, nat_eq}
use Rattle.hm_isa.specs.declared.narrow.JumpName.{JumpName}
use Rattle.hm_isa.specs.declared.narrow.JumpName.TheVariants as jump
use Rattle.hm_isa.specs.declared.narrow.ZeroName.{ZeroName}
use Rattle.hm_isa.specs.declared.narrow.ZeroName.TheVariants as zero_
use Rattle.hm_isa.specs.declared.narrow.S23.{S23}
use Rattle.hm_isa.specs.declared.narrow.S24.{S24}
use Rattle.hm_isa.specs.declared.narrow.S25.{S25}
use Rattle.hm_isa.specs.declared.narrow.S25.TheVariants as s25_
use Rattle.hm_isa.specs.declared.narrow.Conditional.{Conditional}
use Rattle.hm_isa.specs.declared.narrow.Always.{Always}
use Rattle.hm_isa.specs.declared.jumps.WideConditional.{WideConditional}
use Rattle.hm_isa.specs.declared.jumps.WideBranchName.{WideBranchName}
use Rattle.hm_isa.specs.declared.jumps.WideBranchName.TheVariants as wide_branch
use Rattle.hm_isa.specs.declared.jumps.WideAlways.{WideAlways}
use Rattle.hm_isa.specs.declared.jumps.T16.{T16}
use Rattle.hm_isa.specs.declared.jumps.T16.TheVariants as t16_
use Rattle.hm_isa.specs.declared.jumps.TableName.{TableName}
use Rattle.hm_isa.specs.declared.jumps.TableName.TheVariants as table
use Rattle.hm_isa.specs.declared.jumps.T17.{T17}
use Rattle.hm_mem.specs.declared.Access.TheVariants.{Scalar}
use Rattle.hm_regs.specs.declared.Regs.{Regs}
use Rattle.hm_isa.specs.Distances.{always_distance, conditional_distance, wide_always_distance, wide_conditional_distance}
use Rattle.hm_thumb.specs.Blocks.{condition_holds}
use Rattle.hm_thumb.specs.Does.{Does, Ends, goes, loads}
use Rattle.hm_thumb.specs.RegisterRows.{reg, operand, put, bx_write, blx_write}
use Rattle.hm_thumb.specs.declared.Way.TheVariants as way

-- the address of the next instruction, with bit 0 set
abbrev pub link : ℕ → ℕ
link next = next - next % 2 + 1

-- S23: what BX and BLX do with the value of a register; BLX leaves the address of the next instruction in lr, its bit 0 set
-- (DDI0553, "BX, BXNS" and "BLX, BLXNS")
abbrev pub jump_row : JumpName → ℕ → Regs → Does
jump_row jump.Bx x r = bx_write x r
jump_row jump.Blx x r = blx_write x (put 14 (link ((r.pc + 2) % 2 ^ 32)) r)

-- S23: BX and BLX (DDI0553, "BX, BXNS" and "BLX, BLXNS")
abbrev pub s23 : S23 → Regs → Does
s23 i r = jump_row i.name (reg i.m.value r) r

-- where taken, a branch to so many bytes, modulo 2^32, from the address of the instruction plus 4
abbrev pub branch_if : Bool → ℕ → Regs → Does
branch_if taken bytes r = cond taken (Ends (way.To ((operand 15 r + bytes) % 2 ^ 32)) r) (goes r)

-- S24: whether CBZ or CBNZ branches, by the value of its register (DDI0553, "CBNZ, CBZ")
abbrev pub is_taken : ZeroName → ℕ → Bool
is_taken zero_.Cbz x = nat_eq x 0
is_taken zero_.Cbnz x = not (nat_eq x 0)

-- S24: CBZ and CBNZ (DDI0553, "CBNZ, CBZ")
abbrev pub s24 : S24 → Regs → Does
s24 i r = branch_if (is_taken i.name (reg i.n.value r)) (2 * i.i.value) r

-- S25: B under a condition (DDI0553, "B", encoding T1)
abbrev pub conditional : Conditional → Regs → Does
conditional i r = branch_if (condition_holds i.c.value r) (conditional_distance i) r

-- S25: B with no condition of its own (DDI0553, "B", encoding T2)
abbrev pub always : Always → Regs → Does
always i r = branch_if true (always_distance i) r

-- S25: B with a condition or with none (DDI0553, "B", encodings T1 and T2)
abbrev pub s25 : S25 → Regs → Does
s25 (s25_.Conditional i) r = conditional i r
s25 (s25_.Always i) r = always i r

-- WIDE BRANCHES
-- T16: B.W under a condition (DDI0553, "B", encoding T3)
abbrev pub wide_conditional : WideConditional → Regs → Does
wide_conditional i r = branch_if (condition_holds i.c.value r) (wide_conditional_distance i) r

-- T16: BL, a call, leaves the address of the next instruction in lr, its bit 0 set; B.W leaves lr (DDI0553, "BL" and "B", encoding T4)
abbrev pub linked : WideBranchName → Regs → Regs
linked wide_branch.B r = r
linked wide_branch.Bl r = put 14 (link ((r.pc + 4) % 2 ^ 32)) r

-- T16: B.W with no condition of its own, and BL (DDI0553, "B", encoding T4, and "BL")
abbrev pub wide_always : WideAlways → Regs → Does
wide_always i r = branch_if true (wide_always_distance i) (linked i.name r)

-- T16: B.W with a condition or with none, and BL (DDI0553, "B", encodings T3 and T4, and "BL")
abbrev pub t16 : T16 → Regs → Does
t16 (t16_.Conditional i) r = wide_conditional i r
t16 (t16_.Always i) r = wide_always i r

-- TABLES
-- T17: how many bytes a number of the table of TBB and TBH has (DDI0553, "TBB, TBH")
abbrev pub table_width : TableName → ℕ
table_width table.Tbb = 1
table_width table.Tbh = 2

-- T17: TBB and TBH, forward by twice the number that stands in the table (DDI0553, "TBB, TBH")
abbrev pub t17 : T17 → Regs → Does
t17 i r =
    let len = table_width i.name in
    loads Scalar len ((operand i.n.value r + len * reg i.m.value r) % 2 ^ 32) (λ x. branch_if true (2 * x) r)
