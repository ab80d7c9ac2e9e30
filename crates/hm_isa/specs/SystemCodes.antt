-- What moves of special registers, barriers, and scalar instructions on vector registers are coded as.
use Rattle.std.specs.Prelude.{ℕ, ◌+◌, ◌/◌, ◌%◌}
use Rattle.hm_isa.specs.declared.system.ReadName.{ReadName}
use Rattle.hm_isa.specs.declared.system.ReadName.TheVariants as read
use Rattle.hm_isa.specs.declared.system.Mrs.{Mrs}
use Rattle.hm_isa.specs.declared.system.WrittenName.{WrittenName}
use Rattle.hm_isa.specs.declared.system.WrittenName.TheVariants as written
use Rattle.hm_isa.specs.declared.system.Msr.{Msr}
use Rattle.hm_isa.specs.declared.system.T18.{T18}
use Rattle.hm_isa.specs.declared.system.T18.TheVariants as t18
use Rattle.hm_isa.specs.declared.system.BarrierName.{BarrierName}
use Rattle.hm_isa.specs.declared.system.BarrierName.TheVariants as barrier
use Rattle.hm_isa.specs.declared.system.Barrier.{Barrier}
use Rattle.hm_isa.specs.declared.system.T19.{T19}
use Rattle.hm_isa.specs.declared.system.T19.TheVariants as t19
use Rattle.hm_isa.specs.declared.system.SystemMoveName.{SystemMoveName}
use Rattle.hm_isa.specs.declared.system.SystemMoveName.TheVariants as move
use Rattle.hm_isa.specs.declared.system.T21.{T21}
use Rattle.hm_isa.specs.declared.system.LaneMoveName.{LaneMoveName}
use Rattle.hm_isa.specs.declared.system.LaneMoveName.TheVariants as lane
use Rattle.hm_isa.specs.declared.system.T22.{T22}
use Rattle.hm_isa.specs.Standing.{◌↑◌}

-- T18: the code of MRS for each special register, its core register 0 (DDI0553, "MRS")
abbrev pub read_base : ReadName → ℕ
read_base read.Apsr = 0xf3ef8000
read_base read.Ipsr = 0xf3ef8005
read_base read.Msp = 0xf3ef8008
read_base read.Psp = 0xf3ef8009
read_base read.Primask = 0xf3ef8010
read_base read.Basepri = 0xf3ef8011
read_base read.Control = 0xf3ef8014

-- T18: MRS (DDI0553, "MRS")
abbrev pub code_mrs : Mrs → ℕ
code_mrs r = read_base r.name + r.d.value ↑ 8

-- T18: the code of MSR for each special register, its core register 0 (DDI0553, "MSR (register)")
abbrev pub written_base : WrittenName → ℕ
written_base written.Apsr = 0xf3808800
written_base written.Msp = 0xf3808808
written_base written.Psp = 0xf3808809
written_base written.Primask = 0xf3808810
written_base written.Basepri = 0xf3808811
written_base written.Control = 0xf3808814

-- T18: MSR (DDI0553, "MSR (register)")
abbrev pub code_msr : Msr → ℕ
code_msr r = written_base r.name + r.n.value ↑ 16

-- T18: MRS and MSR (DDI0553, "MRS" and "MSR (register)")
abbrev pub code_t18 : T18 → ℕ
code_t18 (t18.Read r) = code_mrs r
code_t18 (t18.Write r) = code_msr r

-- T19: the code of DSB, DMB and ISB, their option 0 (DDI0553, "DSB", "DMB" and "ISB")
abbrev pub barrier_base : BarrierName → ℕ
barrier_base barrier.Dsb = 0xf3bf8f40
barrier_base barrier.Dmb = 0xf3bf8f50
barrier_base barrier.Isb = 0xf3bf8f60

-- T19: DSB, DMB and ISB (DDI0553, "DSB", "DMB" and "ISB")
abbrev pub code_barrier : Barrier → ℕ
code_barrier r = barrier_base r.name + r.o.value

-- T19: NOP, DSB, DMB and ISB (DDI0553, "NOP", "DSB", "DMB" and "ISB")
abbrev pub code_t19 : T19 → ℕ
code_t19 t19.Nop = 0xf3af8000
code_t19 (t19.Barrier r) = code_barrier r

-- T21: the code of VMRS and VMSR for FPSCR, VPR and P0, their core register 0 (DDI0553, "VMRS" and "VMSR")
abbrev pub system_move_base : SystemMoveName → ℕ
system_move_base move.ReadFpscr = 0xeef10a10
system_move_base move.ReadVpr = 0xeefc0a10
system_move_base move.ReadP0 = 0xeefd0a10
system_move_base move.WriteFpscr = 0xeee10a10
system_move_base move.WriteVpr = 0xeeec0a10
system_move_base move.WriteP0 = 0xeeed0a10

-- T21: VMRS and VMSR (DDI0553, "VMRS" and "VMSR")
abbrev pub code_t21 : T21 → ℕ
code_t21 r = system_move_base r.name + r.t.value ↑ 12

-- T22: the code of VMOV to a lane and from one, its lane and registers 0
-- (DDI0553, "VMOV (general-purpose register to vector lane)" and "VMOV (vector lane to general-purpose register)")
abbrev pub lane_move_base : LaneMoveName → ℕ
lane_move_base lane.ToLane = 0xee000b10
lane_move_base lane.FromLane = 0xee100b10

-- T22: VMOV to a lane and from one; bit 0 of the lane stands in bit 21, and bit 1 in bit 16
-- (DDI0553, "VMOV (general-purpose register to vector lane)" and "VMOV (vector lane to general-purpose register)")
abbrev pub code_t22 : T22 → ℕ
code_t22 r = lane_move_base r.name + (r.x.value % 2) ↑ 21 + r.q.value ↑ 17 + (r.x.value / 2) ↑ 16 + r.t.value ↑ 12
