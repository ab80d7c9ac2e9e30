-- What names and letters of rows stand for: by how many places a shift goes, which register a base is, what an access is and how many bytes it has.
use Rattle.std.specs.Prelude.{ℕ, ◌+◌, ◌-◌, ◌*◌, ◌^◌, nat_lt, if◌then◌else◌}
use Rattle.hm_isa.specs.declared.narrow.AccessName.{AccessName}
use Rattle.hm_isa.specs.declared.narrow.AccessName.TheVariants as access
use Rattle.hm_isa.specs.declared.narrow.BaseName.{BaseName}
use Rattle.hm_isa.specs.declared.narrow.BaseName.TheVariants as base
use Rattle.hm_isa.specs.declared.narrow.PlainName.{PlainName}
use Rattle.hm_isa.specs.declared.narrow.PlainName.TheVariants as plain
use Rattle.hm_isa.specs.declared.narrow.ShiftName.{ShiftName}
use Rattle.hm_isa.specs.declared.narrow.ShiftName.TheVariants as shift
use Rattle.hm_isa.specs.declared.narrow.WordName.{WordName}
use Rattle.hm_isa.specs.declared.narrow.WordName.TheVariants as word
use Rattle.hm_isa.specs.declared.vectors.ConstantShiftName.{ConstantShiftName}
use Rattle.hm_isa.specs.declared.vectors.ConstantShiftName.TheVariants as by_constant
use Rattle.hm_isa.specs.Words.{zero_as_32}

-- S1: by how many places LSLS, LSRS and ASRS by a constant shift, where i, below 32, is its code
-- (DDI0553, "LSL (immediate)", "LSR (immediate)", "ASR (immediate)" and "DecodeImmShift")
abbrev pub shift_amount : ShiftName → ℕ → ℕ
shift_amount shift.Lsl i = i
shift_amount shift.Lsr i = zero_as_32 i
shift_amount shift.Asr i = zero_as_32 i

-- S9: the number of the base register: 15 for pc, of ADR, and 13 for sp, of ADD (DDI0553, "ADR" and "ADD (SP plus immediate)")
abbrev pub base_register : BaseName → ℕ
base_register base.Pc = 15
base_register base.Sp = 13

-- S14 to S17 and T12: how many bytes STR, STRH, STRB, LDRSB, LDR, LDRH, LDRB and LDRSH access
-- (DDI0553, the immediate and register form of each, and the literal form of each load, as "LDR (immediate)", "LDR (register)" and "LDR (literal)")
abbrev pub access_size : AccessName → ℕ
access_size access.Str = 4
access_size access.Strh = 2
access_size access.Strb = 1
access_size access.Ldrsb = 1
access_size access.Ldr = 4
access_size access.Ldrh = 2
access_size access.Ldrb = 1
access_size access.Ldrsh = 2

-- S16: the access of each name, STR, LDR, STRB, LDRB, STRH and LDRH (DDI0553, the immediate form of each, as "STR (immediate)")
abbrev pub plain_access : PlainName → AccessName
plain_access plain.Str = access.Str
plain_access plain.Ldr = access.Ldr
plain_access plain.Strb = access.Strb
plain_access plain.Ldrb = access.Ldrb
plain_access plain.Strh = access.Strh
plain_access plain.Ldrh = access.Ldrh

-- S17: the access of each name, STR and LDR (DDI0553, "STR (immediate)" and "LDR (immediate)")
abbrev pub word_access : WordName → AccessName
word_access word.Str = access.Str
word_access word.Ldr = access.Ldr

-- V11: the size of elements that the highest bit of the field x of VSHR, VRSHR, VQSHL, VQSHLU, VSHL, VSRI and VSLI tells,
-- 0 to 2 for bytes, halfwords and words (DDI0553, "VSHR", "VRSHR", "VQSHL, VQSHLU", "VSHL", "VSRI" and "VSLI")
abbrev pub constant_shift_size : ℕ → ℕ
constant_shift_size x = if nat_lt x 16 then 0 else (if nat_lt x 32 then 1 else 2)

-- V11: how many bits the elements of VSHR, VRSHR, VQSHL, VQSHLU, VSHL, VSRI and VSLI have
-- (DDI0553, "VSHR", "VRSHR", "VQSHL, VQSHLU", "VSHL", "VSRI" and "VSLI")
abbrev pub constant_shift_bits : ℕ → ℕ
constant_shift_bits x = 2 ^ (3 + constant_shift_size x)

-- V11: how far VSHR, VRSHR, VQSHL, VQSHLU, VSHL, VSRI and VSLI shift, which x holds together with the size of elements, one way for each direction
-- (DDI0553, "VSHR", "VRSHR", "VQSHL, VQSHLU", "VSHL", "VSRI" and "VSLI")
abbrev pub constant_shift_amount : ConstantShiftName → ℕ → ℕ
constant_shift_amount by_constant.Shr x = 2 * constant_shift_bits x - x
constant_shift_amount by_constant.Rshr x = 2 * constant_shift_bits x - x
constant_shift_amount by_constant.Sri x = 2 * constant_shift_bits x - x
constant_shift_amount name x = x - constant_shift_bits x
