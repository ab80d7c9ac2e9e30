-- Rows that load and store leave the exception number and the IT byte, and what they store has one, two or four bytes.
use Rattle.std.proofs.Common.{ℕ, ◌+◌, ◌-◌, ◌*◌, ◌/◌, ◌%◌, ◌^◌, Bool, true, false, cond, not, List, length, refl, inl, inr}
use Rattle.std.specs.Prelude.{◌&&◌, nat_eq, nat_le, slice_index}
use Rattle.hm_base.specs.declared.FaultKind.TheVariants.{InvState}
use Rattle.hm_isa.specs.Rules.{listed_in}
use Rattle.hm_isa.specs.declared.narrow.AccessName.{AccessName}
use Rattle.hm_isa.specs.declared.narrow.AccessName.TheVariants as access
use Rattle.hm_isa.specs.declared.narrow.ListName.{ListName}
use Rattle.hm_isa.specs.declared.narrow.ListName.TheVariants as list
use Rattle.hm_isa.specs.declared.wide.PairName.{PairName}
use Rattle.hm_isa.specs.declared.wide.PairName.TheVariants as pair
use Rattle.hm_isa.specs.declared.wide.WideListName.{WideListName}
use Rattle.hm_isa.specs.declared.wide.WideListName.TheVariants as wide_list
use Rattle.hm_isa.specs.declared.wide.StackName.{StackName}
use Rattle.hm_isa.specs.declared.wide.StackName.TheVariants as stack
use Rattle.hm_isa.specs.declared.wide.T12.{T12}
use Rattle.hm_isa.specs.declared.wide.T12.TheVariants as t12_
use Rattle.hm_mem.specs.Devices.{IsLen}
use Rattle.hm_regs.specs.declared.Regs.{Regs}
use Rattle.hm_thumb.specs.MemoryRows.{access_row, list_row, load_list, loaded, moved, other_end, pair_row, put_all, registers, stack_row, store_list, t12}
use Rattle.hm_thumb.specs.MemoryRows.{wide_list_row}
use Rattle.hm_isa.specs.Words.{sign_extended}
use Rattle.hm_thumb.specs.Does.{Ends, Faults, goes}
use Rattle.hm_thumb.specs.RegisterRows.{blx_write, bx_write, put, reg}
use Rattle.hm_thumb.specs.declared.Way.TheVariants as way
use Rattle.hm_run_laws.specs.Blocks.{EndsKeep}
use Rattle.hm_run_laws.proofs.Choices.{either}
use Rattle.hm_run_laws.proofs.Registers.{Same, all-same, words-same}

four : IsLen 4
four = inr (inr refl)

module _ (r : Regs) where
  pub blx-keep : (x : ℕ) (q : Regs) → Same r q → EndsKeep r (blx_write x q)
  blx-keep x q h = either (EndsKeep r) (nat_eq (x % 2) 1) (Ends (way.To (x - 1)) q) (Faults InvState x) h tt

  pub bx-keep : (x : ℕ) (q : Regs) → Same r q → EndsKeep r (bx_write x q)
  bx-keep x q h = either (EndsKeep r) (nat_le 0xff000000 x && nat_le 1 q.ipsr) (Ends (way.Return x) q) (blx_write x q) h (blx-keep x q h)

  pub loaded-keep : (t x : ℕ) (q : Regs) → Same r q → EndsKeep r (loaded t x q)
  loaded-keep t x q h = either (EndsKeep r) (nat_eq t 15) (bx_write x q) (goes (put t x q)) (bx-keep x q h) h

  pub access-keep : (name : AccessName) (t a : ℕ) (back : Regs → Regs) (q : Regs) → Same r (back q) → EndsKeep r (access_row name t a back q)
  access-keep access.Str t a back q h = (four, h)
  access-keep access.Strh t a back q h = (inr (inl refl), h)
  access-keep access.Strb t a back q h = (inl refl, h)
  access-keep access.Ldrsb t a back q h = λ xs. loaded-keep t (sign_extended 8 (slice_index xs 0)) (back q) h
  access-keep access.Ldrsh t a back q h = λ xs. loaded-keep t (sign_extended 16 (slice_index xs 0)) (back q) h
  access-keep name t a back q h = λ xs. loaded-keep t (slice_index xs 0) (back q) h

  pub t12-keep : (i : T12) (q : Regs) → Same r q → EndsKeep r (t12 i q)
  t12-keep (t12_.Offset i) q h = access-keep i.name i.t.value _ (λ p. p) q h
  t12-keep (t12_.Indexed i) q h =
      let base = reg i.n.value q in
      let to = moved (nat_eq i.u.value 1) i.i.value base in
      access-keep i.name i.t.value (cond (nat_eq i.p.value 1) to base) (λ p. cond (nat_eq i.w.value 1) (put i.n.value to p) p) q
      (either (Same r) (nat_eq i.w.value 1) (put i.n.value to q) q h h)
  t12-keep (t12_.Shifted i) q h = access-keep i.name i.t.value _ (λ p. p) q h
  t12-keep (t12_.Literal i) q h = access-keep i.name i.t.value _ (λ p. p) q h

  -- lists of registers
  stored-keep : (upward w : Bool) (n : ℕ) (ns : List ℕ) (q : Regs) → Same r q → EndsKeep r (store_list upward w n ns q)
  stored-keep upward w n ns q h = (four, either (Same r) w _ _ h h)

  branched-keep : (pc x : ℕ) (q : Regs) → Same r q → EndsKeep r (cond (nat_eq pc 1) (bx_write x q) (goes q))
  branched-keep pc x q h = either (EndsKeep r) (nat_eq pc 1) (bx_write x q) (goes q) (bx-keep x q h) h

  listed-keep : (upward w : Bool) (n : ℕ) (ns : List ℕ) (pc : ℕ) (q : Regs) → Same r q → EndsKeep r (load_list upward w n ns pc q)
  listed-keep upward w n ns pc q h = λ xs.
      let s = put_all ns xs q in
      let t = put n (other_end upward (length ns + pc) (reg n q)) s in
      let k : Same r s = all-same r ns xs q h in
      branched-keep pc (slice_index xs (length ns)) (cond w t s) (either (Same r) w t s k k)

  pub list-keep : (name : ListName) (x n rs : ℕ) (q : Regs) → Same r q → EndsKeep r (list_row name x n rs q)
  list-keep list.Push x n rs q h = stored-keep false true 13 (registers (rs + x * 2 ^ 14)) q h
  list-keep list.Pop x n rs q h = listed-keep true true 13 (registers rs) x q h
  list-keep list.Stm x n rs q h = stored-keep true true n (registers rs) q h
  list-keep list.Ldm x n rs q h = listed-keep true (not (listed_in rs n)) n (registers rs) 0 q h

  pub wide_list-keep : (name : WideListName) (w : Bool) (n rs : ℕ) (q : Regs) → Same r q → EndsKeep r (wide_list_row name w n rs q)
  wide_list-keep wide_list.Stmia w n rs q h = stored-keep true w n (registers rs) q h
  wide_list-keep wide_list.Ldmia w n rs q h = listed-keep true w n (registers rs) (rs / 2 ^ 15) q h
  wide_list-keep wide_list.Stmdb w n rs q h = stored-keep false w n (registers rs) q h
  wide_list-keep wide_list.Ldmdb w n rs q h = listed-keep false w n (registers rs) (rs / 2 ^ 15) q h

  -- pairs, and vector registers on the stack
  pub pair-keep : (name : PairName) (w : Bool) (n t u to a : ℕ) (q : Regs) → Same r q → EndsKeep r (pair_row name w n t u to a q)
  pair-keep pair.Strd w n t u to a q h = (four, either (Same r) w _ _ h h)
  pair-keep pair.Ldrd w n t u to a q h = λ xs. either (Same r) w _ _ h h

  pub stack-keep : (name : StackName) (j n : ℕ) (q : Regs) → Same r q → EndsKeep r (stack_row name j n q)
  stack-keep stack.Vpush j n q h = (four, h)
  stack-keep stack.Vpop j n q h = λ xs. words-same r j xs q h
