-- What each row of low-overhead loops does. lr counts iterations, or elements that are left.
use Rattle.std.specs.Prelude.{ℕ, ◌-◌, ◌*◌, ◌^◌, Bool, true, false, cond, not, ◌&&◌, nat_eq, nat_le, nat_lt}
use Rattle.hm_base.specs.declared.FaultKind.TheVariants.{InvState}
use Rattle.hm_base.specs.declared.Place.TheVariants.{Ltp}
use Rattle.hm_isa.specs.declared.jumps.Dls.{Dls}
use Rattle.hm_isa.specs.declared.jumps.Wls.{Wls}
use Rattle.hm_isa.specs.declared.jumps.Dlstp.{Dlstp}
use Rattle.hm_isa.specs.declared.jumps.Wlstp.{Wlstp}
use Rattle.hm_isa.specs.declared.jumps.LoopEndName.{LoopEndName}
use Rattle.hm_isa.specs.declared.jumps.LoopEndName.TheVariants as loop_end
use Rattle.hm_isa.specs.declared.jumps.T23.{T23}
use Rattle.hm_isa.specs.declared.jumps.T23.TheVariants as t23_
use Rattle.hm_regs.specs.Place.{value_at, with_value}
use Rattle.hm_regs.specs.declared.Regs.{Regs}
use Rattle.hm_thumb.specs.BranchRows.{branch_if}
use Rattle.hm_thumb.specs.Does.{Does, Faults, goes}
use Rattle.hm_thumb.specs.RegisterRows.{reg, put}

-- the registers with this LTPSIZE
abbrev pub put_size : ℕ → Regs → Regs
put_size z r = with_value Ltp z r

-- T23: LE and LETP go so many halfwords backward (DDI0553, "LE, LETP")
abbrev pub back : ℕ → Regs → Does
back v r = branch_if true (2 ^ 32 - 2 * v) r

-- T23: DLS, which puts the count of iterations in lr (DDI0553, "WLS, DLS, WLSTP, DLSTP")
abbrev pub dls : Dls → Regs → Does
dls i r = goes (put 14 (reg i.n.value r) r)

-- T23: WLS and WLSTP go past a loop that has nothing to do, or into it (DDI0553, "WLS, DLS, WLSTP, DLSTP")
abbrev pub enter : ℕ → ℕ → (Regs → Regs) → Regs → Does
enter count v into r = cond (nat_eq count 0) (branch_if true (2 * v) r) (goes (into (put 14 count r)))

-- T23: WLS, which branches past the loop where the count is 0 (DDI0553, "WLS, DLS, WLSTP, DLSTP")
abbrev pub wls : Wls → Regs → Does
wls i r = enter (reg i.n.value r) i.v.value (λ q. q) r

-- T23: DLSTP, which puts the count of elements in lr, and sets LTPSIZE (DDI0553, "WLS, DLS, WLSTP, DLSTP")
abbrev pub dlstp : Dlstp → Regs → Does
dlstp i r = goes (put_size i.z.value (put 14 (reg i.n.value r) r))

-- T23: WLSTP, which branches past the loop where there are no elements, else sets LTPSIZE (DDI0553, "WLS, DLS, WLSTP, DLSTP")
abbrev pub wlstp : Wlstp → Regs → Does
wlstp i r = enter (reg i.n.value r) i.v.value (put_size i.z.value) r

-- T23: where no more than a step is left, LE with lr and LETP fall through and leave lr; else lr is lowered, and they branch back (DDI0553, "LE, LETP")
abbrev pub again : ℕ → ℕ → (Regs → Regs) → Regs → Does
again step v out r = let left = reg 14 r in cond (nat_le left step) (goes (out r)) (back v (put 14 (left - step) r))

-- T23: how much LETP takes off: the elements of a vector, of the size that LTPSIZE says, or one where it says none (DDI0553, "LE, LETP")
abbrev pub elements : Regs → ℕ
elements r = let size = value_at Ltp r in cond (nat_lt size 4) (2 ^ (4 - size)) 1

-- T23: LE and LETP; LE with lr is no end for a loop over elements (DDI0553, "LE, LETP")
abbrev pub loop_end_row : LoopEndName → ℕ → Regs → Does
loop_end_row loop_end.LeLr v r = cond (r.fpca && not (nat_eq (value_at Ltp r) 4)) (Faults InvState r.pc) (again 1 v (λ q. q) r)
loop_end_row loop_end.Letp v r = again (elements r) v (put_size 4) r
loop_end_row loop_end.Le v r = back v r

-- T23: DLS, WLS, DLSTP, WLSTP, LE, LETP and LCTP (DDI0553, "WLS, DLS, WLSTP, DLSTP", "LE, LETP" and "LCTP")
abbrev pub t23 : T23 → Regs → Does
t23 (t23_.Dls i) r = dls i r
t23 (t23_.Wls i) r = wls i r
t23 (t23_.Dlstp i) r = dlstp i r
t23 (t23_.Wlstp i) r = wlstp i r
t23 (t23_.End i) r = loop_end_row i.name i.v.value r
t23 t23_.Lctp r = goes (put_size 4 r)

-- T23: whether an end of a loop is LETP (DDI0553, "LE, LETP")
abbrev pub is_letp : LoopEndName → Bool
is_letp loop_end.Letp = true
is_letp name = false

-- T23: whether it begins or ends a loop over elements: DLSTP, WLSTP and LETP (DDI0553, "WLS, DLS, WLSTP, DLSTP" and "LE, LETP")
abbrev pub loops_over_elements : T23 → Bool
loops_over_elements (t23_.Dlstp i) = true
loops_over_elements (t23_.Wlstp i) = true
loops_over_elements (t23_.End i) = is_letp i.name
loops_over_elements i = false
