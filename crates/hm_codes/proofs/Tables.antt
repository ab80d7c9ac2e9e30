-- The tables of rows, those of one halfword first.
use Rattle.std.proofs.Common.{◌≡◌, ℕ, List, ap, ◌∙◌, arith}
use Rattle.hm_isa.specs.declared.Scalar.{Scalar}
use Rattle.hm_isa.specs.contracts.Scalar as scalar_
use Rattle.hm_isa.specs.declared.Branch.{Branch}
use Rattle.hm_isa.specs.contracts.Branch as branch_
use Rattle.hm_isa.specs.declared.Instr.TheVariants as instr
use Rattle.hm_isa.specs.Code.{halfwords}
use Rattle.hm_layout.proofs.Coded.{Coded}
use Rattle.hm_layout.proofs.Rows.{plain, named, split, varied, coded}
use Rattle.hm_layout.proofs.Tables.{Table, of_table, ◌▹◌}
use Rattle.hm_codes.proofs.Scalars.{row_s1, row_s2, row_s3, row_s4, row_s5, row_s6, row_s7, row_s8, row_s9, row_s10, row_s11, row_s12, row_s13, row_s14}
use Rattle.hm_codes.proofs.Scalars.{row_s15, row_s16, row_s17, row_s18, row_s19, row_s20, spared_s21}
use Rattle.hm_codes.proofs.Wides.{coded_t12, spared_t13, row_t14, row_t15}
use Rattle.hm_codes.proofs.ArithRows.{row_t8, row_t9, row_t10, coded_t11, row_t20}
use Rattle.hm_codes.proofs.SystemRows.{coded_t18, coded_t19, row_t21, row_t22}
use Rattle.hm_codes.proofs.DataRows.{row_t1, row_t2, row_t3, row_t4, row_t5, row_t6, row_t7}
use Rattle.hm_codes.proofs.Widths.{halves_of, joined, joined_of}
use Rattle.hm_codes.proofs.Branches.{row_s23, row_s24, coded_s25}
use Rattle.hm_codes.proofs.JumpRows.{coded_t16, row_t17, coded_t23}

-- the halfwords of a scalar instruction, and of a branch
abbrev pub scalar_halves : Scalar → List ℕ
scalar_halves s = halfwords (instr.Scalar s)

abbrev pub branch_halves : Branch → List ℕ
branch_halves b = halfwords (instr.Branch b)

-- the codes of the first 21 are of one halfword
abbrev pub scalar_table : Table scalar_.enum.parts
scalar_table =
    coded (named row_s1) ▹
    coded (named row_s2) ▹
    coded (named row_s3) ▹
    coded (named row_s4) ▹
    coded (named row_s5) ▹
    coded (plain row_s6) ▹
    coded (plain row_s7) ▹
    coded (plain row_s8) ▹
    coded (named row_s9) ▹
    coded (named row_s10) ▹
    coded (named row_s11) ▹
    coded (named row_s12) ▹
    coded (named row_s13) ▹
    coded (plain row_s14) ▹
    coded (named row_s15) ▹
    coded (named row_s16) ▹
    coded (named row_s17) ▹
    coded (plain row_s18) ▹
    coded (named row_s19) ▹
    coded (varied row_s20) ▹
    coded spared_s21 ▹
    coded (named row_t1) ▹
    coded (named row_t2) ▹
    coded (named row_t3) ▹
    coded (named row_t4) ▹
    coded (named row_t5) ▹
    coded (named row_t6) ▹
    coded (plain row_t7) ▹
    coded (named row_t8) ▹
    coded (named row_t9) ▹
    coded (split row_t10) ▹
    coded_t11 ▹
    coded_t12 ▹
    coded spared_t13 ▹
    coded (named row_t14) ▹
    coded (named row_t15) ▹
    coded_t18 ▹
    coded_t19 ▹
    coded (named row_t20) ▹
    coded (named row_t21) ▹
    coded (named row_t22) ▹
    tt

pub scalar_halves_are : (s : Scalar) → scalar_halves s ≡ halves_of 21 scalar_.enum.parts scalar_table (scalar_.enum.as_values s)
scalar_halves_are s = grind arith

-- each code as one number
abbrev pub coded_scalar : Coded Scalar
coded_scalar =
    of_table scalar_.enum (λ s. joined (scalar_halves s)) scalar_table
    (λ s. ap joined (scalar_halves_are s) ∙ joined_of 21 scalar_.enum.parts scalar_table (scalar_.enum.as_values s))

-- the codes of the first three are of one halfword
abbrev pub branch_table : Table branch_.enum.parts
branch_table =
    coded (named row_s23) ▹
    coded (named row_s24) ▹
    coded_s25 ▹
    coded_t16 ▹
    coded (named row_t17) ▹
    coded_t23 ▹
    tt

pub branch_halves_are : (b : Branch) → branch_halves b ≡ halves_of 3 branch_.enum.parts branch_table (branch_.enum.as_values b)
branch_halves_are b = grind arith

abbrev pub coded_branch : Coded Branch
coded_branch =
    of_table branch_.enum (λ b. joined (branch_halves b)) branch_table
    (λ b. ap joined (branch_halves_are b) ∙ joined_of 3 branch_.enum.parts branch_table (branch_.enum.as_values b))
