-- Branches and loops leave the exception number and the IT byte.
use Rattle.std.proofs.Common.{ℕ, ◌-◌, ◌*◌, Bool, true, not}
use Rattle.std.specs.Prelude.{◌&&◌, nat_eq, nat_le}
use Rattle.hm_base.specs.declared.FaultKind.TheVariants.{InvState}
use Rattle.hm_base.specs.declared.Place.TheVariants.{Ltp}
use Rattle.hm_isa.specs.declared.narrow.JumpName.{JumpName}
use Rattle.hm_isa.specs.declared.narrow.JumpName.TheVariants as jump
use Rattle.hm_isa.specs.declared.narrow.S25.{S25}
use Rattle.hm_isa.specs.declared.narrow.S25.TheVariants as s25_
use Rattle.hm_isa.specs.declared.jumps.LoopEndName.{LoopEndName}
use Rattle.hm_isa.specs.declared.jumps.LoopEndName.TheVariants as loop_end
use Rattle.hm_isa.specs.declared.jumps.T16.{T16}
use Rattle.hm_isa.specs.declared.jumps.T16.TheVariants as t16_
use Rattle.hm_isa.specs.declared.jumps.T23.{T23}
use Rattle.hm_isa.specs.declared.jumps.T23.TheVariants as t23_
use Rattle.hm_isa.specs.declared.jumps.WideBranchName.{WideBranchName}
use Rattle.hm_isa.specs.declared.jumps.WideBranchName.TheVariants as wide_branch
use Rattle.hm_regs.specs.Place.{value_at}
use Rattle.hm_regs.specs.declared.Regs.{Regs}
use Rattle.hm_thumb.specs.Blocks.{condition_holds}
use Rattle.hm_thumb.specs.BranchRows.{branch_if, jump_row, linked, s25, t16}
use Rattle.hm_thumb.specs.LoopRows.{again, back, elements, enter, loop_end_row, put_size, t23}
use Rattle.hm_thumb.specs.Does.{Faults, goes}
use Rattle.hm_thumb.specs.RegisterRows.{put, reg}
use Rattle.hm_run_laws.specs.Blocks.{EndsKeep}
use Rattle.hm_run_laws.proofs.Accesses.{blx-keep, bx-keep}
use Rattle.hm_run_laws.proofs.Choices.{either}
use Rattle.hm_run_laws.proofs.Registers.{Same}

module _ (r : Regs) where
  pub jump-keep : (name : JumpName) (x : ℕ) (q : Regs) → Same r q → EndsKeep r (jump_row name x q)
  jump-keep jump.Bx x q h = bx-keep r x q h
  jump-keep jump.Blx x q h = blx-keep r x _ h

  pub branch-keep : (taken : Bool) (bytes : ℕ) (q : Regs) → Same r q → EndsKeep r (branch_if taken bytes q)
  branch-keep taken bytes q h = either (EndsKeep r) taken _ _ h h

  pub s25-keep : (i : S25) (q : Regs) → Same r q → EndsKeep r (s25 i q)
  s25-keep (s25_.Conditional i) q h = branch-keep (condition_holds i.c.value q) _ q h
  s25-keep (s25_.Always i) q h = h

  linked-same : (name : WideBranchName) (q : Regs) → Same r q → Same r (linked name q)
  linked-same wide_branch.B q h = h
  linked-same wide_branch.Bl q h = h

  pub t16-keep : (i : T16) (q : Regs) → Same r q → EndsKeep r (t16 i q)
  t16-keep (t16_.Conditional i) q h = branch-keep (condition_holds i.c.value q) _ q h
  t16-keep (t16_.Always i) q h = linked-same i.name q h

  -- low-overhead loops
  enter-keep : (count v : ℕ) (into : Regs → Regs) (q : Regs) → Same r q → Same r (into (put 14 count q)) → EndsKeep r (enter count v into q)
  enter-keep count v into q h k = either (EndsKeep r) (nat_eq count 0) (branch_if true (2 * v) q) (goes (into (put 14 count q))) h k

  again-keep : (step v : ℕ) (out : Regs → Regs) (q : Regs) → Same r q → Same r (out q) → EndsKeep r (again step v out q)
  again-keep step v out q h k = either (EndsKeep r) (nat_le (reg 14 q) step) (goes (out q)) (back v (put 14 (reg 14 q - step) q)) k h

  end-keep : (name : LoopEndName) (v : ℕ) (q : Regs) → Same r q → EndsKeep r (loop_end_row name v q)
  end-keep loop_end.LeLr v q h =
      either (EndsKeep r) (q.fpca && not (nat_eq (value_at Ltp q) 4)) (Faults InvState q.pc) (again 1 v (λ p. p) q) tt (again-keep 1 v (λ p. p) q h h)
  end-keep loop_end.Letp v q h = again-keep (elements q) v (put_size 4) q h h
  end-keep loop_end.Le v q h = h

  pub t23-keep : (i : T23) (q : Regs) → Same r q → EndsKeep r (t23 i q)
  t23-keep (t23_.Wls i) q h = enter-keep (reg i.n.value q) i.v.value (λ p. p) q h h
  t23-keep (t23_.Wlstp i) q h = enter-keep (reg i.n.value q) i.v.value (put_size i.z.value) q h h
  t23-keep (t23_.End i) q h = end-keep i.name i.v.value q h
  t23-keep i q h = h
