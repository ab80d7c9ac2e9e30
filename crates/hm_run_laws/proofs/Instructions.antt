-- Every instruction leaves the exception number, the stack of a handler, and the IT byte, but where it opens a block.
use Rattle.std.proofs.Common.{◌≢◌, ℕ, ◌+◌, ◌-◌, ◌*◌, ◌%◌, ◌<◌, refl, arith}
use Rattle.std.specs.Prelude.{IsTrue, nat_eq, nat_lt, slice_index}
use Rattle.std.proofs.lemmas.Bool.{and_parts, ltb-true}
use Rattle.hm_isa.specs.Rules.{keeps_it}
use Rattle.hm_isa.specs.declared.Branch.{Branch}
use Rattle.hm_isa.specs.declared.Branch.TheVariants as branch
use Rattle.hm_isa.specs.declared.Instr.{Instr}
use Rattle.hm_isa.specs.declared.Instr.TheVariants as instr
use Rattle.hm_isa.specs.declared.Scalar.{Scalar}
use Rattle.hm_isa.specs.declared.Scalar.TheVariants as scalar
use Rattle.hm_lane.specs.Predicate.{with_context}
use Rattle.hm_regs.specs.declared.Regs.{Regs}
use Rattle.hm_thumb.specs.BranchRows.{is_taken}
use Rattle.hm_thumb.specs.Does.{Ends, goes}
use Rattle.hm_isa.specs.Letters.{plain_access, word_access}
use Rattle.hm_thumb.specs.RegisterRows.{put, put_any, reg}
use Rattle.hm_thumb.specs.Rows.{branch_does, in_block, instr_does, made, makes_context, runs, scalar_does}
use Rattle.hm_thumb.specs.declared.Way.TheVariants as way
use Rattle.hm_run_laws.specs.Blocks.{EndsKeep}
use Rattle.hm_run_laws.proofs.Accesses.{access-keep, list-keep, loaded-keep, pair-keep, stack-keep, t12-keep, wide_list-keep}
use Rattle.hm_run_laws.proofs.Choices.{either}
use Rattle.hm_run_laws.proofs.Jumps.{branch-keep, jump-keep, s25-keep, t16-keep, t23-keep}
use Rattle.hm_run_laws.proofs.Registers.{Same, byte-same, context-same, data-same, lane-same, logic-same, product-same, system-same, t18-same}

-- the mask of a block is not 0, and stands in the lowest four bits of its byte
opens : (c mask : ℕ) → c < 15 → mask < 16 → IsTrue (keeps_it c mask) → (c * 16 + mask < 256) × ((c * 16 + mask) % 16 ≢ 0)
opens c mask low fits h = let some : 0 < mask = ltb-true 0 mask (and_parts (nat_lt 0 mask) _ h).0 in (omega arith, omega arith)

module _ (r : Regs) where
  any-keep : (d x : ℕ) (q : Regs) → Same r q → EndsKeep r (put_any d x q)
  any-keep d x q h = either (EndsKeep r) (nat_eq d 15) (Ends (way.To (x - x % 2)) q) (goes (put d x q)) h h

  pub scalar-keep : (i : Scalar) (q : Regs) → Same r q → EndsKeep r (scalar_does i q)
  scalar-keep (scalar.S1 i) q h = either (Same r) _ _ _ h h
  scalar-keep (scalar.S2 i) q h = either (Same r) _ _ _ h h
  scalar-keep (scalar.S3 i) q h = either (Same r) _ _ _ h h
  scalar-keep (scalar.S4 i) q h = byte-same r i.name _ _ _ q h
  scalar-keep (scalar.S5 i) q h = logic-same r i.name _ _ _ q h
  scalar-keep (scalar.S6 i) q h = any-keep i.d.value _ q h
  scalar-keep (scalar.S8 i) q h = any-keep i.d.value _ q h
  scalar-keep (scalar.S14 i) q h = λ xs. loaded-keep r i.t.value (slice_index xs 0) q h
  scalar-keep (scalar.S15 i) q h = access-keep r i.name _ _ (λ p. p) q h
  scalar-keep (scalar.S16 i) q h = access-keep r (plain_access i.name) _ _ (λ p. p) q h
  scalar-keep (scalar.S17 i) q h = access-keep r (word_access i.name) _ _ (λ p. p) q h
  scalar-keep (scalar.S20 i) q h = list-keep r i.name _ _ _ q h
  scalar-keep (scalar.S21 i) q h = let opened = opens i.c.value i.mask.value i.c.in_range i.mask.in_range i.row in (h.0, opened.0, opened.1, h.2)
  scalar-keep (scalar.T1 i) q h = data-same r i.name _ _ _ _ q h
  scalar-keep (scalar.T2 i) q h = data-same r i.name _ _ _ _ q h
  scalar-keep (scalar.T8 i) q h = either (Same r) _ _ _ h h
  scalar-keep (scalar.T11 i) q h = product-same r i q h
  scalar-keep (scalar.T12 i) q h = t12-keep r i q h
  scalar-keep (scalar.T13 i) q h = pair-keep r i.name _ _ _ _ _ _ q h
  scalar-keep (scalar.T14 i) q h = wide_list-keep r i.name _ _ _ q h
  scalar-keep (scalar.T15 i) q h = stack-keep r i.name _ _ q h
  scalar-keep (scalar.T18 i) q h = t18-same r i q h
  scalar-keep (scalar.T21 i) q h = system-same r i.name _ q h
  scalar-keep (scalar.T22 i) q h = lane-same r i.name _ _ q h
  scalar-keep i q h = h

  branches-keep : (i : Branch) (q : Regs) → Same r q → EndsKeep r (branch_does i q)
  branches-keep (branch.S23 i) q h = jump-keep r i.name _ q h
  branches-keep (branch.S24 i) q h = branch-keep r (is_taken i.name (reg i.n.value q)) _ q h
  branches-keep (branch.S25 i) q h = s25-keep r i q h
  branches-keep (branch.T16 i) q h = t16-keep r i q h
  branches-keep (branch.T17 i) q h = λ xs. h
  branches-keep (branch.T23 i) q h = t23-keep r i q h

  instr-keep : (i : Instr) (q : Regs) → Same r q → EndsKeep r (instr_does i q)
  instr-keep (instr.Scalar i) q h = scalar-keep i q h
  instr-keep (instr.Branch i) q h = branches-keep i q h
  instr-keep (instr.Vector v) q h = h

pub rows-keep : (i : Instr) (r : Regs) → EndsKeep r (instr_does i r)
rows-keep i r = instr-keep r i r (refl, refl, λ n. refl)

-- in or out of an IT block, and with the context that it makes
pub block-keep : (i : Instr) (r : Regs) → EndsKeep r (in_block i r)
block-keep i r =
    let same : Same r r = (refl, refl, λ n. refl) in
    let begun : Same r (made i r) = either (Same r) (makes_context i r) (with_context r) r (context-same r r same) same in
    either (EndsKeep r) (runs i r) (instr_does i (made i r)) (goes r) (instr-keep r i (made i r) begun) same
