-- Names of rows, by their mnemonics.
use Rattle.std.specs.Prelude.{ℕ, List, [], ◌∷◌, Option, Some, None, bytes_eq, if◌then◌else◌}
use Rattle.hm_isa.specs.declared.narrow.AccessName.{AccessName}
use Rattle.hm_isa.specs.declared.narrow.AccessName.TheVariants as access
use Rattle.hm_isa.specs.declared.narrow.ExtendName.{ExtendName}
use Rattle.hm_isa.specs.declared.narrow.ExtendName.TheVariants as extend
use Rattle.hm_isa.specs.declared.narrow.SumName.{SumName}
use Rattle.hm_isa.specs.declared.narrow.SumName.TheVariants as sum_

-- the first of some names whose mnemonic a word is; None where it is the mnemonic of none
abbrev pub named : {A : Type 0} → (A → List ℕ) → List A → List ℕ → Option A
named mnemonic [] s = None
named mnemonic (name ∷ names) s = if bytes_eq s (mnemonic name) then Some name else named mnemonic names s

-- the values of a bit that a mnemonic tells
abbrev pub bit_values : List ℕ
bit_values = 0 ∷ 1 ∷ []

-- each name with the bit 0, and with the bit 1
abbrev pub with_bits : {A : Type 0} → List A → List (A × ℕ)
with_bits [] = []
with_bits (name ∷ names) = (name, 0) ∷ (name, 1) ∷ with_bits names

-- the first of some names whose mnemonic, with one of the bits, a word is, and that bit
abbrev pub named_with_bit : {A : Type 0} → (A → ℕ → List ℕ) → List A → List ℕ → Option (A × ℕ)
named_with_bit {A} mnemonic names s = named (λ (p : A × ℕ). mnemonic p.0 p.1) (with_bits names) s

-- S21, V20 and V21: the masks of a block that IT, VPT and VPST begin (DDI0553, "IT", "VPT" and "VPST")
abbrev pub block_masks : List ℕ
block_masks = 1 ∷ 2 ∷ 3 ∷ 4 ∷ 5 ∷ 6 ∷ 7 ∷ 8 ∷ 9 ∷ 10 ∷ 11 ∷ 12 ∷ 13 ∷ 14 ∷ 15 ∷ []

-- NAMES THAT ROWS OF ONE HALFWORD AND OF TWO SHARE
-- S2, S3, S10 and T3: ADDS and SUBS, ADD and SUB, and ADDW and SUBW
-- (DDI0553, "ADD (register)", "SUB (register)", "ADD (immediate)", "SUB (immediate)", "ADD (SP plus immediate)", "SUB (SP minus immediate)" and "ADR")
abbrev pub sum_names : List SumName
sum_names = sum_.Add ∷ sum_.Sub ∷ []

-- S11 and T9: SXTH, SXTB, UXTH and UXTB (DDI0553, "SXTH", "SXTB", "UXTH" and "UXTB")
abbrev pub extend_names : List ExtendName
extend_names = extend.Sxth ∷ extend.Sxtb ∷ extend.Uxth ∷ extend.Uxtb ∷ []

-- S15 and T12: STR, STRH, STRB, LDRSB, LDR, LDRH, LDRB and LDRSH
-- (DDI0553, the immediate and register form of each, and the literal form of each load, as "LDR (immediate)", "LDR (register)" and "LDR (literal)")
abbrev pub access_names : List AccessName
access_names = access.Str ∷ access.Strh ∷ access.Strb ∷ access.Ldrsb ∷ access.Ldr ∷ access.Ldrh ∷ access.Ldrb ∷ access.Ldrsh ∷ []
