-- What the rows V24 to V28 are coded as, the first halfword in bits 31 to 16.
use Rattle.std.specs.Prelude.{ℕ, ◌+◌, ◌/◌, ◌%◌}
use Rattle.hm_isa.specs.Standing.{◌↑◌}
use Rattle.hm_isa.specs.declared.memory.V24.{V24}
use Rattle.hm_isa.specs.declared.memory.V25.{V25}
use Rattle.hm_isa.specs.declared.memory.V26.{V26}
use Rattle.hm_isa.specs.declared.memory.V27.{V27}
use Rattle.hm_isa.specs.declared.memory.V28.{V28}

-- V24: VLDRB, VLDRH, VLDRW, VSTRB, VSTRH and VSTRW of elements one after another
-- (DDI0553, "VLDRB, VLDRH, VLDRW" and "VSTRB, VSTRH, VSTRW", encodings T5 to T7)
abbrev pub code_v24 : V24 → ℕ
code_v24 r = 0xec001e00 + r.p.value ↑ 24 + r.a.value ↑ 23 + r.w.value ↑ 21 + r.l.value ↑ 20 + r.n.value ↑ 16 + r.d.value ↑ 13 + r.z.value ↑ 7 + r.i.value

-- V25: VLDRB and VLDRH that widen, VSTRB and VSTRH that narrow (DDI0553, "VLDRB, VLDRH, VLDRW" and "VSTRB, VSTRH, VSTRW", encodings T1 and T2)
abbrev pub code_v25 : V25 → ℕ
code_v25 r =
    0xec000e00 + r.u.value ↑ 28 + r.p.value ↑ 24 + r.a.value ↑ 23 + r.w.value ↑ 21 + r.l.value ↑ 20 + r.h.value ↑ 19 + r.n.value ↑ 16 + r.d.value ↑ 13
    + r.z.value ↑ 7 + r.i.value

-- V26: VLDRB, VLDRH, VLDRW, VSTRB, VSTRH and VSTRW at offsets in a vector; bit 1 of the size in memory stands in bit 6, and bit 0 in bit 4
-- (DDI0553, "VLDRB, VLDRH, VLDRW, VLDRD (vector)" and "VSTRB, VSTRH, VSTRW, VSTRD (vector)", encodings T1 to T3)
abbrev pub code_v26 : V26 → ℕ
code_v26 r =
    0xec800e00 + r.u.value ↑ 28 + r.l.value ↑ 20 + r.n.value ↑ 16 + r.d.value ↑ 13 + r.z.value ↑ 7 + (r.y.value / 2) ↑ 6 + (r.y.value % 2) ↑ 4
    + r.m.value ↑ 1 + r.o.value

-- V27: VLDRW and VSTRW at addresses in a vector
-- (DDI0553, "VLDRB, VLDRH, VLDRW, VLDRD (vector)" and "VSTRB, VSTRH, VSTRW, VSTRD (vector)", encodings T5)
abbrev pub code_v27 : V27 → ℕ
code_v27 r = 0xfd001e00 + r.a.value ↑ 23 + r.w.value ↑ 21 + r.l.value ↑ 20 + r.m.value ↑ 17 + r.d.value ↑ 13 + r.i.value

-- V28: VLD20, VLD21, VLD40, VLD41, VLD42, VLD43, VST20, VST21, VST40, VST41, VST42 and VST43 (DDI0553, "VLD2", "VLD4", "VST2" and "VST4")
abbrev pub code_v28 : V28 → ℕ
code_v28 r = 0xfc801e00 + r.w.value ↑ 21 + r.l.value ↑ 20 + r.n.value ↑ 16 + r.d.value ↑ 13 + r.z.value ↑ 7 + r.p.value ↑ 5 + r.f.value
