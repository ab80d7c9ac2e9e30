-- Words as instructions make them: shifts, signs, and the constants of T1 to T7 and V15.
use Rattle.std.specs.Prelude.{ℕ, ◌+◌, ◌-◌, ◌*◌, ◌/◌, ◌%◌, ◌^◌, Bool, ◌&&◌, nat_le, nat_lt, nat_eq, if◌then◌else◌}
use Rattle.hm_isa.specs.declared.words.Shifted.{Shifted}
use Rattle.hm_isa.specs.declared.words.ShiftType.{ShiftType}
use Rattle.hm_isa.specs.declared.words.ShiftType.TheVariants.{Lsl, Lsr, Asr, Ror}

-- whether bit 31 is set: the sign of a word
abbrev pub negative : ℕ → Bool
negative x = nat_le (2 ^ 31) x

-- whether bit k is set
abbrev pub bit_is_set : ℕ → ℕ → Bool
bit_is_set x k = nat_eq (x / 2 ^ k % 2) 1

-- LSL_C(x, n): a shift to the left by n, which is not 0, and the last bit that is shifted out (DDI0553, "LSL_C")
abbrev pub lsl_c : ℕ → ℕ → Shifted
lsl_c x n = record { result = x * 2 ^ n % 2 ^ 32; carry = bit_is_set (x * 2 ^ n) 32 }

-- LSR_C(x, n): a shift to the right with zeros from above, and the last bit that is shifted out (DDI0553, "LSR_C")
abbrev pub lsr_c : ℕ → ℕ → Shifted
lsr_c x n = record { result = x / 2 ^ n; carry = bit_is_set x (n - 1) }

-- SignExtend(x, 64): a word with its sign as 64 bits, of which a shift by more than 32 gives what one by 32 gives (DDI0553, "SignExtend")
abbrev pub sign_extended_64 : ℕ → ℕ
sign_extended_64 x = if negative x then x + 0xffffffff00000000 else x

-- a number of places to shift by, 32 where it is more
abbrev pub at_most_32 : ℕ → ℕ
at_most_32 n = if nat_lt n 32 then n else 32

-- 32 where five bits are 0, else their number (DDI0553, "DecodeImmShift" and "VSHLC")
abbrev pub zero_as_32 : ℕ → ℕ
zero_as_32 n = if nat_eq n 0 then 32 else n

-- ASR_C(x, n): a shift to the right that keeps the sign, and the last bit that is shifted out (DDI0553, "ASR_C")
abbrev pub asr_c : ℕ → ℕ → Shifted
asr_c x n = let m = at_most_32 n in record { result = sign_extended_64 x / 2 ^ m % 2 ^ 32; carry = bit_is_set (sign_extended_64 x) (m - 1) }

-- ROR(x, m): a word rotated to the right by m places, m being less than 32 (DDI0553, "ROR")
abbrev pub rotated : ℕ → ℕ → ℕ
rotated x m = (x / 2 ^ m + x * 2 ^ (32 - m)) % 2 ^ 32

-- ROR_C(x, n): a rotation to the right, and bit 31 of its result (DDI0553, "ROR_C")
abbrev pub ror_c : ℕ → ℕ → Shifted
ror_c x n = let result = rotated x (n % 32) in record { result = result; carry = negative result }

-- the shift of each type by a number that is not 0, and its carry
abbrev pub shift_by : ShiftType → ℕ → ℕ → Shifted
shift_by Lsl = lsl_c
shift_by Lsr = lsr_c
shift_by Asr = asr_c
shift_by Ror = ror_c

-- Shift_C(x, type, n, carry): x shifted by n as its type says, and the last bit shifted out; where n is 0, x and the carry that is given
-- (DDI0553, "Shift_C")
abbrev pub shift_c : ShiftType → ℕ → ℕ → Bool → Shifted
shift_c type x n carry = if nat_eq n 0 then record { result = x; carry = carry } else shift_by type x n

-- how a register is shifted by a constant, RRX aside: the types 0 to 3 are LSL, LSR, ASR and ROR (DDI0553, "DecodeImmShift")
abbrev pub shift_type : ℕ → ShiftType
shift_type ty = if nat_eq ty 0 then Lsl else (if nat_eq ty 1 then Lsr else (if nat_eq ty 2 then Asr else Ror))

-- by how many places a register is shifted by a constant, RRX aside, where k is the number in the code: 0 stands for 32, but for LSL
-- (DDI0553, "DecodeImmShift")
abbrev pub shift_number : ℕ → ℕ → ℕ
shift_number ty k = if nat_eq ty 0 then k else zero_as_32 k

-- whether a register is shifted through the carry: ROR by 0 is RRX (DDI0553, "DecodeImmShift")
abbrev pub is_by_carry : ℕ → ℕ → Bool
is_by_carry ty k = nat_eq ty 3 && nat_eq k 0

-- SignExtend(x, 32) of the low bits of x (DDI0553, "SignExtend")
abbrev pub sign_extended : ℕ → ℕ → ℕ
sign_extended bits x = let y = x % 2 ^ bits in if nat_lt y (2 ^ (bits - 1)) then y else y + (2 ^ 32 - 2 ^ bits)

-- CONSTANTS
-- T2, T5, T6 and T7: the bits i3 and i2 of shifted registers, SSAT, USAT, SBFX, UBFX, BFI and BFC one behind another
-- (DDI0553, "Data-processing (shifted register)", "SSAT", "USAT", "SBFX", "UBFX", "BFI" and "BFC")
abbrev pub imm5 : ℕ → ℕ → ℕ
imm5 i3 i2 = 4 * i3 + i2

-- T1 and T3: the bits i, i3 and i8 of modified immediates, ADDW, SUBW and ADR one behind another (DDI0553, "Data-processing (modified immediate)",
-- "ADD (immediate)", "ADD (SP plus immediate)", "SUB (immediate)", "SUB (SP minus immediate)" and "ADR")
abbrev pub imm12 : ℕ → ℕ → ℕ → ℕ
imm12 i i3 i8 = 2048 * i + 256 * i3 + i8

-- T4: the bits i4, i, i3 and i8 of MOVW and MOVT one behind another (DDI0553, "MOV (immediate)" and "MOVT")
abbrev pub imm16 : ℕ → ℕ → ℕ → ℕ → ℕ
imm16 i4 i i3 i8 = 4096 * i4 + imm12 i i3 i8

-- V15: the bits i, i3 and i4 of VMOV, VMVN, VORR and VBIC one behind another
-- (DDI0553, "VMOV (immediate) (vector)", "VMVN (immediate)", "VORR (immediate)" and "VBIC (immediate)")
abbrev pub imm8 : ℕ → ℕ → ℕ → ℕ
imm8 i i3 i4 = 128 * i + 16 * i3 + i4

-- the places of a word where a byte stands that is not rotated: the lowest, the first and third, the second and fourth, all four
abbrev pub repeats : ℕ → ℕ
repeats k = if nat_eq k 0 then 0x00000001 else (if nat_eq k 1 then 0x00010001 else (if nat_eq k 2 then 0x01000100 else 0x01010101))

-- T32ExpandImm_C(x, carry): the word that x, of twelve bits, stands for, and bit 31 of it where a byte is rotated, else the carry that is given
-- (DDI0553, "T32ExpandImm_C")
abbrev pub expand_imm_c : ℕ → Bool → Shifted
expand_imm_c x carry = if nat_lt x 0x400 then record { result = x % 0x100 * repeats (x / 0x100); carry = carry } else ror_c (0x80 + x % 0x80) (x / 0x80)
