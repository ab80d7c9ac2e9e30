-- What moves of special registers and scalar instructions on vector registers do.
use Rattle.std.specs.Prelude.{ℕ, ◌+◌, ◌-◌, ◌*◌, ◌/◌, ◌%◌, ◌^◌, Bool, cond, nat_eq}
use Rattle.std.proofs.Math.Bool.{beq}
use Rattle.hm_base.specs.declared.Place.TheVariants.{QWord}
use Rattle.hm_isa.specs.declared.system.ReadName.{ReadName}
use Rattle.hm_isa.specs.declared.system.ReadName.TheVariants as read
use Rattle.hm_isa.specs.declared.system.WrittenName.{WrittenName}
use Rattle.hm_isa.specs.declared.system.WrittenName.TheVariants as written
use Rattle.hm_isa.specs.declared.system.T18.{T18}
use Rattle.hm_isa.specs.declared.system.T18.TheVariants as t18_
use Rattle.hm_isa.specs.declared.system.SystemMoveName.{SystemMoveName}
use Rattle.hm_isa.specs.declared.system.SystemMoveName.TheVariants as move
use Rattle.hm_isa.specs.declared.system.T21.{T21}
use Rattle.hm_isa.specs.declared.system.LaneMoveName.{LaneMoveName}
use Rattle.hm_isa.specs.declared.system.LaneMoveName.TheVariants as lane
use Rattle.hm_isa.specs.declared.system.T22.{T22}
use Rattle.hm_mem.specs.Devices.{top_three}
use Rattle.hm_regs.specs.Place.{value_at, with_value}
use Rattle.hm_regs.specs.Stacks.{main_of, process_of, uses_process}
use Rattle.hm_regs.specs.declared.Regs.{Regs}
use Rattle.hm_isa.specs.Words.{bit_is_set}
use Rattle.hm_thumb.specs.RegisterRows.{put, reg}

-- a flag as bit k
abbrev pub flag_at : ℕ → Bool → ℕ
flag_at k b = cond b (2 ^ k) 0

-- APSR: N, Z, C, V and Q in bits 31 to 27
abbrev pub apsr : Regs → ℕ
apsr r = flag_at 31 r.n + flag_at 30 r.z + flag_at 29 r.c + flag_at 28 r.v + flag_at 27 r.q

-- T18: what each special register reads as by MRS; CONTROL has in bit 1 whether the process stack is in use, and FPCA in bit 2 (DDI0553, "MRS")
abbrev pub special : ReadName → Regs → ℕ
special read.Apsr r = apsr r
special read.Ipsr r = r.ipsr
special read.Msp r = main_of r
special read.Psp r = process_of r
special read.Primask r = flag_at 0 r.primask
special read.Basepri r = r.basepri
special read.Control r = flag_at 1 (uses_process r) + flag_at 2 r.fpca

-- the four flags of a word
abbrev pub with_flags : ℕ → Regs → Regs
with_flags x r = record r { n = bit_is_set x 31; z = bit_is_set x 30; c = bit_is_set x 29; v = bit_is_set x 28 }

-- with another main stack pointer, in use or not: its bits 1:0 stay 0
abbrev pub with_main : ℕ → Regs → Regs
with_main x r = cond (uses_process r) (record r { other = x - x % 4 }) (put 13 x r)

-- with another process stack pointer, in use or not: its bits 1:0 stay 0
abbrev pub with_process : ℕ → Regs → Regs
with_process x r = cond (uses_process r) (put 13 x r) (record r { other = x - x % 4 })

-- with the other stack in use: the two pointers change places
abbrev pub exchanged : Bool → Regs → Regs
exchanged b r = record r { sp = r.other; other = r.sp; spsel = b }

-- with the process stack in use where b holds, and else the main one
abbrev pub selected : Bool → Regs → Regs
selected b r = cond (beq b r.spsel) r (exchanged b r)

-- T18: a special register gets by MSR the bits of a word that it has: BASEPRI bits 7:5, and CONTROL of a thread bit 1; a handler leaves
-- CONTROL (DDI0553, "MSR (register)")
abbrev pub with_special : WrittenName → ℕ → Regs → Regs
with_special written.Apsr x r = record (with_flags x r) { q = bit_is_set x 27 }
with_special written.Msp x r = with_main x r
with_special written.Psp x r = with_process x r
with_special written.Primask x r = record r { primask = bit_is_set x 0 }
with_special written.Basepri x r = record r { basepri = top_three x }
with_special written.Control x r = cond (nat_eq r.ipsr 0) (selected (bit_is_set x 1) r) r

-- T18: MRS and MSR (DDI0553, "MRS" and "MSR (register)")
abbrev pub t18 : T18 → Regs → Regs
t18 (t18_.Read i) r = put i.d.value (special i.name r) r
t18 (t18_.Write i) r = with_special i.name (reg i.n.value r) r

-- w with the low k bits of x
abbrev pub with_low : ℕ → ℕ → ℕ → ℕ
with_low k x w = w / 2 ^ k * 2 ^ k + x % 2 ^ k

-- T21: VMRS and VMSR: of FPSCR bits 31 to 27 are written, of VPR bits 23 to 0; FPSCR is read to 15 as flags (DDI0553, "VMRS" and "VMSR")
abbrev pub system_move : SystemMoveName → ℕ → Regs → Regs
system_move move.ReadFpscr t r = cond (nat_eq t 15) (with_flags r.fpscr r) (put t r.fpscr r)
system_move move.ReadVpr t r = put t r.vpr r
system_move move.ReadP0 t r = put t (r.vpr % 2 ^ 16) r
system_move move.WriteFpscr t r = record r { fpscr = with_low 27 r.fpscr (reg t r) }
system_move move.WriteVpr t r = record r { vpr = with_low 24 (reg t r) r.vpr }
system_move move.WriteP0 t r = record r { vpr = with_low 16 (reg t r) r.vpr }

-- T21: VMRS and VMSR (DDI0553, "VMRS" and "VMSR")
abbrev pub t21 : T21 → Regs → Regs
t21 i r = system_move i.name i.t.value r

-- T22: VMOV to word k of the vector registers and from it
-- (DDI0553, "VMOV (general-purpose register to vector lane)" and "VMOV (vector lane to general-purpose register)")
abbrev pub lane_move : LaneMoveName → ℕ → ℕ → Regs → Regs
lane_move lane.ToLane k t r = with_value (QWord k) (reg t r) r
lane_move lane.FromLane k t r = put t (value_at (QWord k) r) r

-- T22: VMOV between a core register and a lane
-- (DDI0553, "VMOV (general-purpose register to vector lane)" and "VMOV (vector lane to general-purpose register)")
abbrev pub t22 : T22 → Regs → Regs
t22 i r = lane_move i.name (4 * i.q.value + i.x.value) i.t.value r
