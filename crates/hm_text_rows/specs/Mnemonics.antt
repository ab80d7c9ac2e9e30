-- The mnemonics that rows of one halfword and of two share: of loads, stores and extensions, and of B under a condition; the sizes of elements.
use Rattle.std.specs.Prelude.{ℕ, List, [], ◌∷◌, ◌++◌, get_or, codes}
use Rattle.hm_isa.specs.declared.narrow.AccessName.{AccessName}
use Rattle.hm_isa.specs.declared.narrow.AccessName.TheVariants as access
use Rattle.hm_isa.specs.declared.narrow.ExtendName.{ExtendName}
use Rattle.hm_isa.specs.declared.narrow.ExtendName.TheVariants as extend
use Rattle.hm_tokens.specs.Names.{condition_name}

-- S11 and T9: the mnemonic of each name, SXTH, SXTB, UXTH and UXTB (DDI0553, "SXTH", "SXTB", "UXTH" and "UXTB")
abbrev pub extend_mnemonic : ExtendName → List ℕ
extend_mnemonic extend.Sxth = codes "sxth"
extend_mnemonic extend.Sxtb = codes "sxtb"
extend_mnemonic extend.Uxth = codes "uxth"
extend_mnemonic extend.Uxtb = codes "uxtb"

-- S15 and T12: the mnemonic of each name, STR, STRH, STRB, LDRSB, LDR, LDRH, LDRB and LDRSH
-- (DDI0553, the immediate and register form of each, and the literal form of each load, as "LDR (immediate)", "LDR (register)" and "LDR (literal)")
abbrev pub access_mnemonic : AccessName → List ℕ
access_mnemonic access.Str = codes "str"
access_mnemonic access.Strh = codes "strh"
access_mnemonic access.Strb = codes "strb"
access_mnemonic access.Ldrsb = codes "ldrsb"
access_mnemonic access.Ldr = codes "ldr"
access_mnemonic access.Ldrh = codes "ldrh"
access_mnemonic access.Ldrb = codes "ldrb"
access_mnemonic access.Ldrsh = codes "ldrsh"

-- S25 and T16: the mnemonic of B under a condition, BEQ, BNE, BCS, BCC, BMI, BPL, BVS, BVC, BHI, BLS, BGE, BLT, BGT and BLE (DDI0553, "B")
abbrev pub branch_mnemonic : ℕ → List ℕ
branch_mnemonic c = codes "b" ++ condition_name c

-- how many bits an element has, by the number of its size: 8, 16, 32 or 64
abbrev pub element_bits : ℕ → List ℕ
element_bits z = get_or (codes "8" ∷ codes "16" ∷ codes "32" ∷ codes "64" ∷ []) z []

-- these behind the point, with no type
abbrev pub element_suffix : ℕ → List ℕ
element_suffix z = codes "." ++ element_bits z
