-- The twelve bits that stand for a constant of T1 (DDI0553, "Data-processing (modified immediate)").
use Rattle.std.specs.Prelude.{ℕ, zero, suc, ◌+◌, ◌-◌, ◌*◌, ◌/◌, ◌%◌, ◌^◌, nat_lt, ◌==◌, if◌then◌else◌}

-- T1: how far a byte of a constant is shifted left that has its highest bit, by at most n (DDI0553, "Data-processing (modified immediate)")
unfoldable pub shift_of : ℕ → ℕ → ℕ
shift_of zero c = 0
shift_of (suc n) c = if nat_lt c 256 then 0 else 1 + shift_of n (c / 2)

-- T1: the twelve bits of a constant that is a byte with its highest bit 1, shifted left by k (DDI0553, "Data-processing (modified immediate)")
abbrev pub rotated_field : ℕ → ℕ → ℕ
rotated_field c k = (32 - k) * 128 + c / 2 ^ k % 128

-- T1: the twelve bits that stand for a constant: a byte at one, two or four places, or one that is rotated (DDI0553, "Data-processing (modified immediate)")
unfoldable pub constant_field : ℕ → ℕ
constant_field c =
    if nat_lt c 256 then c
    else if c == c % 256 * 0x00010001 then 0x100 + c % 256
    else if c == c / 256 % 256 * 0x01000100 then 0x200 + c / 256 % 256
    else if c == c % 256 * 0x01010101 then 0x300 + c % 256
    else rotated_field c (shift_of 24 c)
