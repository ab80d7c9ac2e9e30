-- What the branches of 32-bit codes are coded as.
use Rattle.std.specs.Prelude.{ℕ, ◌+◌, ◌/◌, ◌%◌}
use Rattle.hm_isa.specs.declared.jumps.WideConditional.{WideConditional}
use Rattle.hm_isa.specs.declared.jumps.WideBranchName.{WideBranchName}
use Rattle.hm_isa.specs.declared.jumps.WideBranchName.TheVariants as wide_branch
use Rattle.hm_isa.specs.declared.jumps.WideAlways.{WideAlways}
use Rattle.hm_isa.specs.declared.jumps.T16.{T16}
use Rattle.hm_isa.specs.declared.jumps.T16.TheVariants as t16
use Rattle.hm_isa.specs.declared.jumps.TableName.{TableName}
use Rattle.hm_isa.specs.declared.jumps.TableName.TheVariants as table
use Rattle.hm_isa.specs.declared.jumps.T17.{T17}
use Rattle.hm_isa.specs.declared.jumps.Dls.{Dls}
use Rattle.hm_isa.specs.declared.jumps.Wls.{Wls}
use Rattle.hm_isa.specs.declared.jumps.Dlstp.{Dlstp}
use Rattle.hm_isa.specs.declared.jumps.Wlstp.{Wlstp}
use Rattle.hm_isa.specs.declared.jumps.LoopEndName.{LoopEndName}
use Rattle.hm_isa.specs.declared.jumps.LoopEndName.TheVariants as loop_end
use Rattle.hm_isa.specs.declared.jumps.LoopEnd.{LoopEnd}
use Rattle.hm_isa.specs.declared.jumps.T23.{T23}
use Rattle.hm_isa.specs.declared.jumps.T23.TheVariants as t23
use Rattle.hm_isa.specs.Standing.{◌↑◌}

-- T16: B under a condition (DDI0553, "B", encoding T3)
abbrev pub code_wide_conditional : WideConditional → ℕ
code_wide_conditional r = 0xf0008000 + r.s.value ↑ 26 + r.c.value ↑ 22 + r.i6.value ↑ 16 + r.j1.value ↑ 13 + r.j2.value ↑ 11 + r.i11.value

-- T16: the code of B under no condition, and of BL, the bits of their distance 0 (DDI0553, "B", encoding T4, and "BL", encoding T1)
abbrev pub wide_branch_base : WideBranchName → ℕ
wide_branch_base wide_branch.B = 0xf0009000
wide_branch_base wide_branch.Bl = 0xf000d000

-- T16: B under no condition, and BL (DDI0553, "B", encoding T4, and "BL", encoding T1)
abbrev pub code_wide_always : WideAlways → ℕ
code_wide_always r = wide_branch_base r.name + r.s.value ↑ 26 + r.i10.value ↑ 16 + r.j1.value ↑ 13 + r.j2.value ↑ 11 + r.i11.value

-- T16: B and BL (DDI0553, "B" and "BL")
abbrev pub code_t16 : T16 → ℕ
code_t16 (t16.Conditional r) = code_wide_conditional r
code_t16 (t16.Always r) = code_wide_always r

-- T17: the code of TBB and TBH, their registers 0 (DDI0553, "TBB, TBH")
abbrev pub table_base : TableName → ℕ
table_base table.Tbb = 0xe8d0f000
table_base table.Tbh = 0xe8d0f010

-- T17: TBB and TBH (DDI0553, "TBB, TBH")
abbrev pub code_t17 : T17 → ℕ
code_t17 r = table_base r.name + r.n.value ↑ 16 + r.m.value

-- T23: half the distance of WLS, WLSTP, LE and LETP, its lowest bit highest (DDI0553, "WLS, DLS, WLSTP, DLSTP" and "LE, LETP")
abbrev pub label_field : ℕ → ℕ
label_field v = (v / 2) ↑ 1 + (v % 2) ↑ 11

-- T23: DLS (DDI0553, "WLS, DLS, WLSTP, DLSTP")
abbrev pub code_dls : Dls → ℕ
code_dls r = 0xf040e001 + r.n.value ↑ 16

-- T23: WLS (DDI0553, "WLS, DLS, WLSTP, DLSTP")
abbrev pub code_wls : Wls → ℕ
code_wls r = 0xf040c001 + r.n.value ↑ 16 + label_field r.v.value

-- T23: DLSTP (DDI0553, "WLS, DLS, WLSTP, DLSTP")
abbrev pub code_dlstp : Dlstp → ℕ
code_dlstp r = 0xf000e001 + r.z.value ↑ 20 + r.n.value ↑ 16

-- T23: WLSTP (DDI0553, "WLS, DLS, WLSTP, DLSTP")
abbrev pub code_wlstp : Wlstp → ℕ
code_wlstp r = 0xf000c001 + r.z.value ↑ 20 + r.n.value ↑ 16 + label_field r.v.value

-- T23: the code of each form of LE and LETP, its distance 0 (DDI0553, "LE, LETP")
abbrev pub loop_end_base : LoopEndName → ℕ
loop_end_base loop_end.LeLr = 0xf00fc001
loop_end_base loop_end.Letp = 0xf01fc001
loop_end_base loop_end.Le = 0xf02fc001

-- T23: LE and LETP (DDI0553, "LE, LETP")
abbrev pub code_loop_end : LoopEnd → ℕ
code_loop_end r = loop_end_base r.name + label_field r.v.value

-- T23: DLS, WLS, DLSTP, WLSTP, LE, LETP and LCTP (DDI0553, "WLS, DLS, WLSTP, DLSTP", "LE, LETP" and "LCTP")
abbrev pub code_t23 : T23 → ℕ
code_t23 (t23.Dls r) = code_dls r
code_t23 (t23.Wls r) = code_wls r
code_t23 (t23.Dlstp r) = code_dlstp r
code_t23 (t23.Wlstp r) = code_wlstp r
code_t23 (t23.End r) = code_loop_end r
code_t23 t23.Lctp = 0xf00fe001
