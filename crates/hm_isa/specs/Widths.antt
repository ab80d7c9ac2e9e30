-- Instructions by how many halfwords their codes have.
use Rattle.hm_isa.specs.declared.Instr.{Instr}
use Rattle.hm_isa.specs.declared.Instr.TheVariants as instr
use Rattle.hm_isa.specs.declared.Scalar.{Scalar}
use Rattle.hm_isa.specs.declared.Scalar.TheVariants as scalar
use Rattle.hm_isa.specs.declared.Branch.{Branch}
use Rattle.hm_isa.specs.declared.Branch.TheVariants as branch
use Rattle.hm_isa.specs.declared.widths.NarrowRow.TheVariants as narrow
use Rattle.hm_isa.specs.declared.widths.WideRow.TheVariants as wide
use Rattle.hm_isa.specs.declared.widths.ByWidth.{ByWidth}
use Rattle.hm_isa.specs.declared.widths.ByWidth.TheVariants as by

-- a scalar instruction by the width of its code: S1 to S21 one halfword, T1 to T15 and T18 to T22 two (DDI0553, "T32 instruction set encoding")
abbrev pub scalar_by_width : Scalar → ByWidth
scalar_by_width (scalar.S1 r) = by.Narrow (narrow.S1 r)
scalar_by_width (scalar.S2 r) = by.Narrow (narrow.S2 r)
scalar_by_width (scalar.S3 r) = by.Narrow (narrow.S3 r)
scalar_by_width (scalar.S4 r) = by.Narrow (narrow.S4 r)
scalar_by_width (scalar.S5 r) = by.Narrow (narrow.S5 r)
scalar_by_width (scalar.S6 r) = by.Narrow (narrow.S6 r)
scalar_by_width (scalar.S7 r) = by.Narrow (narrow.S7 r)
scalar_by_width (scalar.S8 r) = by.Narrow (narrow.S8 r)
scalar_by_width (scalar.S9 r) = by.Narrow (narrow.S9 r)
scalar_by_width (scalar.S10 r) = by.Narrow (narrow.S10 r)
scalar_by_width (scalar.S11 r) = by.Narrow (narrow.S11 r)
scalar_by_width (scalar.S12 r) = by.Narrow (narrow.S12 r)
scalar_by_width (scalar.S13 r) = by.Narrow (narrow.S13 r)
scalar_by_width (scalar.S14 r) = by.Narrow (narrow.S14 r)
scalar_by_width (scalar.S15 r) = by.Narrow (narrow.S15 r)
scalar_by_width (scalar.S16 r) = by.Narrow (narrow.S16 r)
scalar_by_width (scalar.S17 r) = by.Narrow (narrow.S17 r)
scalar_by_width (scalar.S18 r) = by.Narrow (narrow.S18 r)
scalar_by_width (scalar.S19 r) = by.Narrow (narrow.S19 r)
scalar_by_width (scalar.S20 r) = by.Narrow (narrow.S20 r)
scalar_by_width (scalar.S21 r) = by.Narrow (narrow.S21 r)
scalar_by_width (scalar.T1 r) = by.Wide (wide.T1 r)
scalar_by_width (scalar.T2 r) = by.Wide (wide.T2 r)
scalar_by_width (scalar.T3 r) = by.Wide (wide.T3 r)
scalar_by_width (scalar.T4 r) = by.Wide (wide.T4 r)
scalar_by_width (scalar.T5 r) = by.Wide (wide.T5 r)
scalar_by_width (scalar.T6 r) = by.Wide (wide.T6 r)
scalar_by_width (scalar.T7 r) = by.Wide (wide.T7 r)
scalar_by_width (scalar.T8 r) = by.Wide (wide.T8 r)
scalar_by_width (scalar.T9 r) = by.Wide (wide.T9 r)
scalar_by_width (scalar.T10 r) = by.Wide (wide.T10 r)
scalar_by_width (scalar.T11 r) = by.Wide (wide.T11 r)
scalar_by_width (scalar.T12 r) = by.Wide (wide.T12 r)
scalar_by_width (scalar.T13 r) = by.Wide (wide.T13 r)
scalar_by_width (scalar.T14 r) = by.Wide (wide.T14 r)
scalar_by_width (scalar.T15 r) = by.Wide (wide.T15 r)
scalar_by_width (scalar.T18 r) = by.Wide (wide.T18 r)
scalar_by_width (scalar.T19 r) = by.Wide (wide.T19 r)
scalar_by_width (scalar.T20 r) = by.Wide (wide.T20 r)
scalar_by_width (scalar.T21 r) = by.Wide (wide.T21 r)
scalar_by_width (scalar.T22 r) = by.Wide (wide.T22 r)

-- a branch by the width of its code: S23 to S25 one halfword, T16, T17 and T23 two (DDI0553, "T32 instruction set encoding")
abbrev pub branch_by_width : Branch → ByWidth
branch_by_width (branch.S23 r) = by.Narrow (narrow.S23 r)
branch_by_width (branch.S24 r) = by.Narrow (narrow.S24 r)
branch_by_width (branch.S25 r) = by.Narrow (narrow.S25 r)
branch_by_width (branch.T16 r) = by.Wide (wide.T16 r)
branch_by_width (branch.T17 r) = by.Wide (wide.T17 r)
branch_by_width (branch.T23 r) = by.Wide (wide.T23 r)

-- an instruction by the width of its code: a vector instruction's is two halfwords
abbrev pub by_width : Instr → ByWidth
by_width (instr.Scalar i) = scalar_by_width i
by_width (instr.Branch i) = branch_by_width i
by_width (instr.Vector r) = by.Vector r
