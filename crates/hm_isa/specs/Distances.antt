-- How far branches go, in bytes from the address of the instruction plus 4, modulo 2^32.
use Rattle.std.specs.Prelude.{ℕ, ◌+◌, ◌*◌, ◌^◌, cond, nat_eq}
use Rattle.hm_isa.specs.declared.narrow.Conditional.{Conditional}
use Rattle.hm_isa.specs.declared.narrow.Always.{Always}
use Rattle.hm_isa.specs.declared.jumps.WideConditional.{WideConditional}
use Rattle.hm_isa.specs.declared.jumps.WideAlways.{WideAlways}
use Rattle.hm_isa.specs.Words.{sign_extended}

-- S25: i:0, so many bytes of B under a condition (DDI0553, "B", encoding T1)
abbrev pub conditional_distance : Conditional → ℕ
conditional_distance i = sign_extended 9 (2 * i.i.value)

-- S25: i:0, so many bytes of B under no condition (DDI0553, "B", encoding T2)
abbrev pub always_distance : Always → ℕ
always_distance i = sign_extended 12 (2 * i.i.value)

-- T16: s:j2:j1:i6:i11:0, so many bytes of B under a condition (DDI0553, "B", encoding T3)
abbrev pub wide_conditional_distance : WideConditional → ℕ
wide_conditional_distance i =
    sign_extended 21 (i.s.value * 2 ^ 20 + i.j2.value * 2 ^ 19 + i.j1.value * 2 ^ 18 + i.i6.value * 2 ^ 12 + i.i11.value * 2)

-- T16: NOT(j EOR s), of bits of B and BL (DDI0553, "B", encoding T4, and "BL", encoding T1)
abbrev pub alike : ℕ → ℕ → ℕ
alike j s = cond (nat_eq j s) 1 0

-- T16: s:I1:I2:i10:i11:0, so many bytes of B under no condition, and of BL (DDI0553, "B", encoding T4, and "BL", encoding T1)
abbrev pub wide_always_distance : WideAlways → ℕ
wide_always_distance i =
    sign_extended 25
    (i.s.value * 2 ^ 24 + alike i.j1.value i.s.value * 2 ^ 23 + alike i.j2.value i.s.value * 2 ^ 22 + i.i10.value * 2 ^ 12 + i.i11.value * 2)
