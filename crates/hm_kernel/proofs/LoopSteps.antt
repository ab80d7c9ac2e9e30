-- The instructions that begin and end a loop over elements, and the breakpoint.
use Rattle.std.proofs.Common.{◌≡◌, ℕ, ◌+◌, ◌-◌, ◌*◌, ◌%◌, ◌^◌, ◌<◌, Bool, true, false, cond, refl, sym, ap, ◌∙◌, arith, nat_eq, nat_le, nat_lt}
use Rattle.std.specs.Prelude.{Result, Ok, Err}
use Rattle.hm_base.specs.Bits.{field}
use Rattle.hm_base.specs.declared.Fault.{Fault}
use Rattle.hm_base.specs.declared.Place.TheVariants.{Mask01, Mask23, Ltp}
use Rattle.hm_codes.specs.Listing.{Listing}
use Rattle.hm_isa.specs.declared.Instr.{Instr}
use Rattle.hm_isa.specs.declared.Instr.TheVariants as instr
use Rattle.hm_isa.specs.declared.Branch.TheVariants as branch
use Rattle.hm_isa.specs.declared.jumps.T23.TheVariants as t23_
use Rattle.hm_lane.specs.Predicate.{with_context}
use Rattle.hm_mem.specs.Seen.{Seen}
use Rattle.hm_regs.specs.Place.{value_at}
use Rattle.hm_regs.specs.declared.Regs.{Regs}
use Rattle.hm_run.specs.Program as program
use Rattle.hm_run.specs.Stops.{Halt}
use Rattle.hm_run.specs.declared.Reason.TheVariants.{Break}
use Rattle.hm_state.specs.State.{State, regs_of}
use Rattle.hm_thumb.specs.Blocks.{advanced}
use Rattle.hm_thumb.specs.BranchRows.{branch_if}
use Rattle.hm_thumb.specs.Does.{goes}
use Rattle.hm_thumb.specs.LoopRows as loops
use Rattle.hm_thumb.specs.LoopRows.{is_letp, loop_end_row, put_size as sized, wlstp}
use Rattle.hm_thumb.specs.RegisterRows.{put, reg}
use Rattle.hm_thumb.specs.declared.Way.TheVariants as way
use Rattle.hm_whole.specs.Whole.{seen_in}
use Rattle.hm_kernel_lang.specs.declared.text.ElementType.{ElementType}
use Rattle.hm_kernel_lang.specs.Language.{lanes}
use Rattle.hm_kernel_lang.specs.declared.machine.Item.TheVariants.{Begin, Again, Stop}
use Rattle.hm_kernel_lang.specs.Machine.{View, again, begun, size_code}
use Rattle.hm_kernel_lang.specs.Correct.{Reaches}
use Rattle.hm_kernel.specs.Shows.{Shows}
use Rattle.hm_kernel.specs.Standing.{Stands}
use Rattle.hm_kernel.proofs.Scalars.{InRegs, from_state}
use Rattle.hm_kernel.proofs.CoreSteps.{at_address, branch_runs, ended, put_left, put_size, went_on}

-- THE CONTEXT
fresh_size : (r : Regs) → value_at Ltp (record r { fpca = true; vpr = 0; fpscr = 0x00040000 }) ≡ 4
unfolding field
fresh_size r = refl

fresh_mask01 : (r : Regs) → value_at Mask01 (record r { fpca = true; vpr = 0; fpscr = 0x00040000 }) ≡ 0
unfolding field
fresh_mask01 r = refl

fresh_mask23 : (r : Regs) → value_at Mask23 (record r { fpca = true; vpr = 0; fpscr = 0x00040000 }) ≡ 0
unfolding field
fresh_mask23 r = refl

in_fresh : (t : ElementType) (v : View) (r : Regs) (m : Seen) → InRegs t v r m → v.size ≡ 4
    → InRegs t v (record r { fpca = true; vpr = 0; fpscr = 0x00040000 }) m
in_fresh t v r m h e = record {
  r_count = h.r_count;
  qw_count = h.qw_count;
  pc = h.pc;
  offset = h.offset;
  scratch = h.scratch;
  length_is = h.length_is;
  left = h.left;
  size = fresh_size r ∙ sym e;
  size_fits = h.size_fits;
  mask01 = fresh_mask01 r;
  mask23 = fresh_mask23 r;
  block = h.block;
  context = λ c. e;
  lane = h.lane;
  byte = h.byte;
  fits = h.fits;
}

pub in_context : (t : ElementType) (v : View) (r : Regs) (m : Seen) → InRegs t v r m → InRegs t v (with_context r) m
in_context t v r m h = go r.fpca refl
  where
    go : (x : Bool) → r.fpca ≡ x → InRegs t v (cond x r (record r { fpca = true; vpr = 0; fpscr = 0x00040000 })) m
    go true e = h
    go false e = in_fresh t v r m h (h.context e)

pub has_context : (r : Regs) → (with_context r).fpca ≡ true
has_context r = go r.fpca refl
  where
    go : (x : Bool) → r.fpca ≡ x → (cond x r (record r { fpca = true; vpr = 0; fpscr = 0x00040000 })).fpca ≡ true
    go true e = e
    go false e = refl

code_fits : (t : ElementType) → size_code t < 8
code_fits t = grind arith

elements_are : (t : ElementType) → cond (nat_lt (size_code t) 4) (2 ^ (4 - size_code t)) 1 ≡ lanes t
elements_are t = grind arith

choose : (P : Bool → Type 0) (b : Bool) → (b ≡ true → P true) → (b ≡ false → P false) → P b
choose P true f g = f refl
choose P false f g = g refl

module _ (t : ElementType) (listing : Listing) where
  pub begin : (h : ℕ) (v : View) (s : State) → Shows t v s → Stands t listing v.pc (Begin h) → Reaches (program.alone listing) (Shows t) 1 s (begun t h v)
  begin h v s shows stands =
      let k = stands.is in
      let i = instr.Branch (branch.T23 (t23_.Wlstp k.row)) in
      let r = with_context (regs_of s) in
      let m = seen_in s in
      let in_regs = in_context t v (regs_of s) m (from_state t v s shows) in
      let e : reg k.row.n.value r ≡ v.length = ap (λ (n : ℕ). reg n r) k.n_is ∙ in_regs.length_is in
      let past = branch_if true (2 * h) r in
      let into = goes (sized (size_code t) (put 14 v.length r)) in
      let does : wlstp k.row r ≡ cond (nat_eq v.length 0) past into =
      (λ j. cond (nat_eq (e j) 0) (branch_if true (2 * k.v_is j) r) (goes (sized (k.z_is j) (put 14 (e j) r)))) in
      let there : ((r.pc + 4) % 2 ^ 32 + 2 * h) % 2 ^ 32 ≡ v.pc + 4 + 2 * h = (let p = in_regs.pc in let f = stands.reach in omega arith) in
      let runs_it = branch_runs (branch.T23 (t23_.Wlstp k.row)) (regs_of s) (from_state t v s shows).block in
      let w = record v { left = v.length } in
      choose (λ b. Reaches (program.alone listing) (Shows t) 1 s
      (cond b (record v { pc = v.pc + 4 + 2 * h }) (record v { pc = v.pc + 4; left = v.length; size = size_code t }))) (nat_eq v.length 0)
      (λ b. ended t listing i v (record v { pc = v.pc + 4 + 2 * h }) s (way.To (((r.pc + 4) % 2 ^ 32 + 2 * h) % 2 ^ 32)) r
      (record (advanced r) { pc = v.pc + 4 + 2 * h }) shows (stands.here ∙ ap Ok k.is) refl runs_it
      (does ∙ ap (λ (x : Bool). cond x past into) b) (ap (λ (x : ℕ). record (advanced r) { pc = x }) there) (at_address t v r m in_regs (v.pc + 4 + 2 * h)))
      (λ b. went_on t listing i v (record v { left = v.length; size = size_code t }) s (sized (size_code t) (put 14 v.length r)) shows
      (stands.here ∙ ap Ok k.is) refl runs_it
      (does ∙ ap (λ (x : Bool). cond x past into) b)
      (put_size t w (put 14 v.length r) m (put_left t v r m in_regs v.length) (size_code t) (code_fits t)
      (λ c. let full = has_context (regs_of s) in absurd cc)) (let f = stands.fits in omega arith))

  pub back : (h : ℕ) (v : View) (s : State) → Shows t v s → Stands t listing v.pc (Again h) → v.size ≡ size_code t
      → Reaches (program.alone listing) (Shows t) 1 s (again t h v)
  back h v s shows stands sized_is =
      let k = stands.is in
      let i = instr.Branch (branch.T23 (t23_.End k.row)) in
      let old = regs_of s in
      let r = with_context old in
      let m = seen_in s in
      let in_regs = in_context t v old m (from_state t v s shows) in
      let e : loops.elements r ≡ lanes t = ap (λ (x : ℕ). cond (nat_lt x 4) (2 ^ (4 - x)) 1) (in_regs.size ∙ sized_is) ∙ elements_are t in
      let l : reg 14 r ≡ v.left = in_regs.left in
      let on = goes (sized 4 r) in
      let again_ = loops.back h (put 14 (v.left - lanes t) r) in
      let does : loop_end_row k.row.name k.row.v.value (cond (is_letp k.row.name) r old) ≡ cond (nat_le v.left (lanes t)) on again_ =
      (λ j. loop_end_row (k.name_is j) (k.v_is j) (cond (is_letp (k.name_is j)) r old))
      ∙ (λ j. cond (nat_le (l j) (e j)) on (loops.back h (put 14 (l j - e j) r))) in
      let there : ((r.pc + 4) % 2 ^ 32 + (2 ^ 32 - 2 * h)) % 2 ^ 32 ≡ v.pc + 4 - 2 * h =
      (let p = in_regs.pc in let f = stands.fits in let g = stands.reach in omega arith) in
      let runs_it = branch_runs (branch.T23 (t23_.End k.row)) old (from_state t v s shows).block in
      let w = record v { left = v.left - lanes t } in
      let q = put 14 (v.left - lanes t) r in
      choose (λ b. Reaches (program.alone listing) (Shows t) 1 s
      (cond b (record v { pc = v.pc + 4; size = 4 }) (record v { pc = v.pc + 4 - 2 * h; left = v.left - lanes t }))) (nat_le v.left (lanes t))
      (λ b. went_on t listing i v (record v { size = 4 }) s (sized 4 r) shows (stands.here ∙ ap Ok k.is) refl runs_it
      (does ∙ ap (λ (x : Bool). cond x on again_) b)
      (put_size t v r m in_regs 4 (omega arith) (λ c. refl)) (let f = stands.fits in omega arith))
      (λ b. ended t listing i v (record w { pc = v.pc + 4 - 2 * h }) s (way.To (((r.pc + 4) % 2 ^ 32 + (2 ^ 32 - 2 * h)) % 2 ^ 32)) q
      (record (advanced q) { pc = v.pc + 4 - 2 * h }) shows (stands.here ∙ ap Ok k.is) refl runs_it
      (does ∙ ap (λ (x : Bool). cond x on again_) b) (ap (λ (x : ℕ). record (advanced q) { pc = x }) there)
      (at_address t w q m (put_left t v r m in_regs (v.left - lanes t)) (v.pc + 4 - 2 * h)))

  -- the breakpoint halts
  pub stop : (v : View) (s : State) → Shows t v s → Stands t listing v.pc Stop → program.alone listing s ≡ Err (Halt (Break 0))
  stop v s shows stands =
      let k = stands.is in
      ap (λ (x : Result Instr Fault). program.whole_here x s) (ap listing shows.pc ∙ stands.here ∙ ap Ok k.is)
      ∙ (λ j. program.breakpoint program.doing_alone (k.x_is j) s)
