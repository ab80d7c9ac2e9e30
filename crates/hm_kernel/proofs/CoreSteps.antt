-- A step of an instruction on core registers, and what it leaves.
use Rattle.std.proofs.Common.{◌≡◌, ◌≢◌, ℕ, ◌+◌, ◌-◌, ◌*◌, ◌%◌, ◌^◌, ◌<◌, ◌≤◌, Bool, true, false, cond, ◌&&◌, refl, sym, ap, ◌∙◌, subst, arith}
use Rattle.std.proofs.Common.{nat_eq}
use Rattle.std.specs.Prelude.{Result, Ok}
use Rattle.std.proofs.lemmas.Bool.Decides.{nat_tests}
use Rattle.hm_base.specs.declared.Fault.{Fault}
use Rattle.hm_base.specs.declared.Place.TheVariants.{R, Ltp}
use Rattle.hm_codes.specs.Listing.{Listing}
use Rattle.hm_isa.specs.declared.Branch.{Branch}
use Rattle.hm_isa.specs.declared.Instr.{Instr}
use Rattle.hm_isa.specs.declared.Instr.TheVariants as instr
use Rattle.hm_isa.specs.declared.Scalar.{Scalar}
use Rattle.hm_isa.specs.declared.Scalar.TheVariants as scalar
use Rattle.hm_isa.specs.declared.data.T4.{T4}
use Rattle.hm_isa.specs.declared.data.HalfName.TheVariants as half
use Rattle.hm_lane.specs.Predicate.{with_context}
use Rattle.hm_mem.specs.Seen.{Seen}
use Rattle.hm_regs.specs.Place.{Counted, value_at, with_value}
use Rattle.hm_regs.proofs.Places.{other_register, value_at-other, value_at-same}
use Rattle.hm_regs.proofs.Writes.{counted}
use Rattle.hm_regs.specs.declared.Regs.{Regs}
use Rattle.hm_state.specs.State.{State, regs_of}
use Rattle.hm_isa.specs.Words.{imm16, negative}
use Rattle.hm_thumb.specs.Arithmetic.{add_with_carry}
use Rattle.hm_thumb.specs.Blocks.{advanced, advanced_byte}
use Rattle.hm_thumb.specs.Does.{Does, Ends, alone, goes, run}
use Rattle.hm_thumb.specs.DataRows.{half_put, t4}
use Rattle.hm_thumb.specs.RegisterRows.{byte_row, operand, put, put_any, reg, s4, s6, with_nz, with_nzcv}
use Rattle.hm_isa.specs.Code.{width_of}
use Rattle.hm_thumb.specs.Rows.{instr_does, needs_context, runs}
use Rattle.hm_thumb.specs.Steps.{Stepped, finish, flow_of, go_on, settled, step}
use Rattle.hm_thumb.specs.declared.Way.{Way}
use Rattle.hm_thumb.specs.declared.Way.TheVariants as way
use Rattle.hm_thumb.proofs.Stepping.{condition_passes, outside_block, scalar_runs}
use Rattle.hm_run.specs.Program as program
use Rattle.hm_run.specs.Stops.{Faults, WholeStop}
use Rattle.hm_whole.specs.Whole.{goes_from, scalar_alone, seen_in, state_with}
use Rattle.hm_kernel_lang.specs.declared.text.ElementType.{ElementType}
use Rattle.hm_kernel_lang.specs.declared.machine.Item.TheVariants.{Plain}
use Rattle.hm_kernel_lang.specs.declared.machine.Kind.TheVariants.{Clear, Low, High, LowLength, HighLength, Offset, Further}
use Rattle.hm_kernel_lang.specs.Machine.{View, exec, with_high}
use Rattle.hm_kernel_lang.specs.Correct.{Reaches, and_then}
use Rattle.hm_kernel.specs.Shows.{Shows}
use Rattle.hm_kernel.specs.Standing.{Stands}
use Rattle.hm_kernel.proofs.Scalars.{InRegs, from_state, to_state}

-- REGISTERS THAT ARE WRITTEN
module _ (t : ElementType) (v : View) (r : Regs) (m : Seen) (h : InRegs t v r m) where
  lists : Counted r
  lists = record { r_count = h.r_count; qw_count = h.qw_count }

  same : (n x : ℕ) → n ≤ 12 → value_at (R n) (with_value (R n) x r) ≡ x
  same n x l = value_at-same (R n) x r (omega arith) lists ∙ (let e : cond (nat_eq n 13) (x - x % 4) x ≡ x = grind (arith, nat_tests) in e)

  kept : (n k x : ℕ) → n ≤ 14 → k ≢ n → value_at (R k) (with_value (R n) x r) ≡ value_at (R k) r
  kept n k x l d = value_at-other (R k) (R n) x r (other_register k n d) tt l

  pub put_offset : (x : ℕ) → InRegs t (record v { offset = x }) (with_value (R 4) x r) m
  put_offset x = let c = counted (R 4) x r lists in record {
    r_count = c.r_count;
    qw_count = c.qw_count;
    pc = h.pc;
    offset = same 4 x (omega arith);
    scratch = kept 4 5 x (omega arith) (λ e. omega arith) ∙ h.scratch;
    length_is = kept 4 6 x (omega arith) (λ e. omega arith) ∙ h.length_is;
    left = h.left;
    size = h.size;
    size_fits = h.size_fits;
    mask01 = h.mask01;
    mask23 = h.mask23;
    block = h.block;
    context = h.context;
    lane = h.lane;
    byte = h.byte;
    fits = h.fits;
  }

  pub put_scratch : (x : ℕ) → InRegs t (record v { scratch = x }) (with_value (R 5) x r) m
  put_scratch x = let c = counted (R 5) x r lists in record {
    r_count = c.r_count;
    qw_count = c.qw_count;
    pc = h.pc;
    offset = kept 5 4 x (omega arith) (λ e. omega arith) ∙ h.offset;
    scratch = same 5 x (omega arith);
    length_is = kept 5 6 x (omega arith) (λ e. omega arith) ∙ h.length_is;
    left = h.left;
    size = h.size;
    size_fits = h.size_fits;
    mask01 = h.mask01;
    mask23 = h.mask23;
    block = h.block;
    context = h.context;
    lane = h.lane;
    byte = h.byte;
    fits = h.fits;
  }

  pub put_length : (x : ℕ) → InRegs t (record v { length = x }) (with_value (R 6) x r) m
  put_length x = let c = counted (R 6) x r lists in record {
    r_count = c.r_count;
    qw_count = c.qw_count;
    pc = h.pc;
    offset = kept 6 4 x (omega arith) (λ e. omega arith) ∙ h.offset;
    scratch = kept 6 5 x (omega arith) (λ e. omega arith) ∙ h.scratch;
    length_is = same 6 x (omega arith);
    left = h.left;
    size = h.size;
    size_fits = h.size_fits;
    mask01 = h.mask01;
    mask23 = h.mask23;
    block = h.block;
    context = h.context;
    lane = h.lane;
    byte = h.byte;
    fits = h.fits;
  }

  pub put_left : (x : ℕ) → InRegs t (record v { left = x }) (with_value (R 14) x r) m
  put_left x = let c = counted (R 14) x r lists in record {
    r_count = c.r_count;
    qw_count = c.qw_count;
    pc = h.pc;
    offset = kept 14 4 x (omega arith) (λ e. omega arith) ∙ h.offset;
    scratch = kept 14 5 x (omega arith) (λ e. omega arith) ∙ h.scratch;
    length_is = kept 14 6 x (omega arith) (λ e. omega arith) ∙ h.length_is;
    left = refl;
    size = h.size;
    size_fits = h.size_fits;
    mask01 = h.mask01;
    mask23 = h.mask23;
    block = h.block;
    context = h.context;
    lane = h.lane;
    byte = h.byte;
    fits = h.fits;
  }

  -- LTPSIZE, where there is a context
  pub put_size : (x : ℕ) → x < 8 → (r.fpca ≡ false → x ≡ 4) → InRegs t (record v { size = x }) (with_value Ltp x r) m
  put_size x fits context = record {
    r_count = h.r_count;
    qw_count = h.qw_count;
    pc = h.pc;
    offset = h.offset;
    scratch = h.scratch;
    length_is = h.length_is;
    left = h.left;
    size = value_at-same Ltp x r tt lists ∙ (let e : x % 2 ^ 3 ≡ x = omega arith in e);
    size_fits = fits;
    mask01 = h.mask01;
    mask23 = h.mask23;
    block = h.block;
    context = context;
    lane = h.lane;
    byte = h.byte;
    fits = h.fits;
  }

  -- flags
  pub with_any_flags : (a b c d : Bool) → InRegs t v (record r { n = a; z = b; c = c; v = d }) m
  with_any_flags a b c d = record {
    r_count = h.r_count;
    qw_count = h.qw_count;
    pc = h.pc;
    offset = h.offset;
    scratch = h.scratch;
    length_is = h.length_is;
    left = h.left;
    size = h.size;
    size_fits = h.size_fits;
    mask01 = h.mask01;
    mask23 = h.mask23;
    block = h.block;
    context = h.context;
    lane = h.lane;
    byte = h.byte;
    fits = h.fits;
  }

  -- the next instruction, or any other
  pub at_address : (p : ℕ) → InRegs t (record v { pc = p }) (record (advanced r) { pc = p }) m
  at_address p = record {
    r_count = h.r_count;
    qw_count = h.qw_count;
    pc = refl;
    offset = h.offset;
    scratch = h.scratch;
    length_is = h.length_is;
    left = h.left;
    size = h.size;
    size_fits = h.size_fits;
    mask01 = h.mask01;
    mask23 = h.mask23;
    block = ap advanced_byte h.block;
    context = h.context;
    lane = h.lane;
    byte = h.byte;
    fits = h.fits;
  }

  pub gone_on : (n : ℕ) → v.pc + n < 2 ^ 32 → InRegs t (record v { pc = v.pc + n }) (go_on n (advanced r)) m
  gone_on n l =
      let e : (r.pc + n) % 2 ^ 32 ≡ v.pc + n = let p = h.pc in omega arith in
      subst (λ (p : ℕ). InRegs t (record v { pc = v.pc + n }) (record (advanced r) { pc = p }) m) (sym e) (at_address (v.pc + n))

-- ONE STEP
-- what an instruction that runs does
step_is : (i : Instr) (r : Regs) (m : Seen) → runs i r ≡ true
    → step alone i r m ≡ finish (width_of i) (run alone (instr_does i (cond (needs_context i) (with_context r) r)) m)
step_is i r m e = ap (λ (b : Bool). finish (width_of i) (run alone (cond b (instr_does i (cond (b && needs_context i) (with_context r) r)) (goes r)) m)) e

-- an instruction runs where no block holds
pub branch_runs : (x : Branch) (r : Regs) → r.it ≡ 0 → runs (instr.Branch x) r ≡ true
branch_runs x r e = condition_passes r e

module _ (t : ElementType) (listing : Listing) where
  -- a step that comes to a state
  pub reached : (i : Instr) (v : View) (s u : State) → listing s.pc ≡ Ok i → program.whole i s ≡ Ok u → Shows t v u
      → Reaches (program.alone listing) (Shows t) 1 s v
  reached i v s u here e shows =
      record {
        to = u;
        comes = ap (λ (x : Result State WholeStop). and_then (λ (y : State). Ok y) x)
            (ap (λ (x : Result Instr Fault). program.whole_here x s) here ∙ e);
        shows = shows;
      }

  -- an instruction that ends with registers, in one of the ways that go on
  pub ended : (i : Instr) (v w : View) (s : State) (go : Way) (r' q : Regs) → Shows t v s → listing v.pc ≡ Ok i
      → program.whole i s ≡ program.done_as Faults (scalar_alone i s)
      → runs i (regs_of s) ≡ true → instr_does i (cond (needs_context i) (with_context (regs_of s)) (regs_of s)) ≡ Ends go r' → settled (width_of i) go r' ≡ q
      → InRegs t w q (seen_in s)
      → Reaches (program.alone listing) (Shows t) 1 s w
  ended i v w s go r' q shows here other runs does leaves in_regs =
      let r = regs_of s in
      let m = seen_in s in
      let step_comes : step alone i r m ≡ Ok (record { flow = flow_of go; regs = q; seen = m }) = step_is i r m runs
      ∙ ap (λ (d : Does). finish (width_of i) (run alone d m)) does ∙ ap (λ (x : Regs). Ok (record { flow = flow_of go; regs = x; seen = m })) leaves in
      let u = state_with q m s.rest.around s.rest.output in
      reached i w s u (ap listing shows.pc ∙ here) (other ∙ ap (λ (x : Result Stepped Fault). program.done_as Faults (goes_from s x)) step_comes)
      (to_state t w q m s.rest.around s.rest.output in_regs)

  -- an instruction that goes on to the next
  pub went_on : (i : Instr) (v w : View) (s : State) (r' : Regs) → Shows t v s → listing v.pc ≡ Ok i
      → program.whole i s ≡ program.done_as Faults (scalar_alone i s)
      → runs i (regs_of s) ≡ true → instr_does i (cond (needs_context i) (with_context (regs_of s)) (regs_of s)) ≡ goes r' → InRegs t w r' (seen_in s)
      → w.pc + width_of i < 2 ^ 32
      → Reaches (program.alone listing) (Shows t) 1 s (record w { pc = w.pc + width_of i })
  went_on i v w s r' shows here other runs does in_regs fits =
      ended i v (record w { pc = w.pc + width_of i }) s way.On r' (go_on (width_of i) (advanced r')) shows here other runs does refl
      (gone_on t w r' (seen_in s) in_regs (width_of i) fits)

  -- THE ROWS
  pub clear : (v : View) (s : State) → Shows t v s → Stands t listing v.pc (Plain Clear) → Reaches (program.alone listing) (Shows t) 1 s (exec t Clear v)
  clear v s shows stands =
      let k = stands.is in
      let r = regs_of s in
      let h = from_state t v s shows in
      let q = with_value (R 4) 0 r in
      let does : s4 k.row r ≡ with_nz 0 q = (λ j. byte_row (k.name_is j) (k.d_is j) (reg (k.d_is j) r) (k.x_is j) r)
      ∙ ap (λ (b : Bool). cond b q (with_nz 0 q)) (outside_block r h.block) in
      went_on (instr.Scalar (scalar.S4 k.row)) v (record v { offset = 0 }) s (with_nz 0 q) shows (stands.here ∙ ap Ok k.is) refl
      (scalar_runs (scalar.S4 k.row) r h.block) (ap goes does)
      (with_any_flags t (record v { offset = 0 }) q (seen_in s) (put_offset t v r (seen_in s) h 0) (negative 0) (nat_eq 0 0) q.c q.v)
      (let f = stands.fits in omega arith)

  low_put : (d n : ℕ) (r : Regs) (row : T4) → row.name ≡ half.Movw → row.d.value ≡ d → imm16 row.i4.value row.i.value row.i3.value row.i8.value ≡ n
      → t4 row r ≡ with_value (R d) n r
  low_put d n r row a b c = λ j. put (b j) (half_put (a j) (c j) (reg (b j) r)) r

  high_put : (d n : ℕ) (r : Regs) (row : T4) → row.name ≡ half.Movt → row.d.value ≡ d → imm16 row.i4.value row.i.value row.i3.value row.i8.value ≡ n
      → t4 row r ≡ with_value (R d) (n * 2 ^ 16 + value_at (R d) r % 2 ^ 16) r
  high_put d n r row a b c = λ j. put (b j) (half_put (a j) (c j) (reg (b j) r)) r

  pub low : (n : ℕ) (v : View) (s : State) → Shows t v s → Stands t listing v.pc (Plain (Low n))
      → Reaches (program.alone listing) (Shows t) 1 s (exec t (Low n) v)
  low n v s shows stands =
      let k = stands.is in
      let r = regs_of s in
      let h = from_state t v s shows in
      went_on (instr.Scalar (scalar.T4 k.row)) v (record v { scratch = n }) s (with_value (R 5) n r) shows (stands.here ∙ ap Ok k.is) refl
      (scalar_runs (scalar.T4 k.row) r h.block) (ap goes (low_put 5 n r k.row k.name_is k.d_is k.x_is))
      (put_scratch t v r (seen_in s) h n) (let f = stands.fits in omega arith)

  pub low_length : (n : ℕ) (v : View) (s : State) → Shows t v s → Stands t listing v.pc (Plain (LowLength n))
      → Reaches (program.alone listing) (Shows t) 1 s (exec t (LowLength n) v)
  low_length n v s shows stands =
      let k = stands.is in
      let r = regs_of s in
      let h = from_state t v s shows in
      went_on (instr.Scalar (scalar.T4 k.row)) v (record v { length = n }) s (with_value (R 6) n r) shows (stands.here ∙ ap Ok k.is) refl
      (scalar_runs (scalar.T4 k.row) r h.block) (ap goes (low_put 6 n r k.row k.name_is k.d_is k.x_is))
      (put_length t v r (seen_in s) h n) (let f = stands.fits in omega arith)

  pub high : (n : ℕ) (v : View) (s : State) → Shows t v s → Stands t listing v.pc (Plain (High n))
      → Reaches (program.alone listing) (Shows t) 1 s (exec t (High n) v)
  high n v s shows stands =
      let k = stands.is in
      let r = regs_of s in
      let h = from_state t v s shows in
      let x = n * 2 ^ 16 + value_at (R 5) r % 2 ^ 16 in
      let e : x ≡ with_high n v.scratch = ap (λ (y : ℕ). n * 2 ^ 16 + y % 2 ^ 16) h.scratch in
      went_on (instr.Scalar (scalar.T4 k.row)) v (record v { scratch = with_high n v.scratch }) s (with_value (R 5) x r) shows (stands.here ∙ ap Ok k.is) refl
      (scalar_runs (scalar.T4 k.row) r h.block) (ap goes (high_put 5 n r k.row k.name_is k.d_is k.x_is))
      (subst (λ (y : ℕ). InRegs t (record v { scratch = y }) (with_value (R 5) x r) (seen_in s)) e (put_scratch t v r (seen_in s) h x))
      (let f = stands.fits in omega arith)

  pub high_length : (n : ℕ) (v : View) (s : State) → Shows t v s → Stands t listing v.pc (Plain (HighLength n))
      → Reaches (program.alone listing) (Shows t) 1 s (exec t (HighLength n) v)
  high_length n v s shows stands =
      let k = stands.is in
      let r = regs_of s in
      let h = from_state t v s shows in
      let x = n * 2 ^ 16 + value_at (R 6) r % 2 ^ 16 in
      let e : x ≡ with_high n v.length = ap (λ (y : ℕ). n * 2 ^ 16 + y % 2 ^ 16) h.length_is in
      went_on (instr.Scalar (scalar.T4 k.row)) v (record v { length = with_high n v.length }) s (with_value (R 6) x r) shows (stands.here ∙ ap Ok k.is) refl
      (scalar_runs (scalar.T4 k.row) r h.block) (ap goes (high_put 6 n r k.row k.name_is k.d_is k.x_is))
      (subst (λ (y : ℕ). InRegs t (record v { length = y }) (with_value (R 6) x r) (seen_in s)) e (put_length t v r (seen_in s) h x))
      (let f = stands.fits in omega arith)

  pub offset : (v : View) (s : State) → Shows t v s → Stands t listing v.pc (Plain Offset) → Reaches (program.alone listing) (Shows t) 1 s (exec t Offset v)
  offset v s shows stands =
      let k = stands.is in
      let r = regs_of s in
      let h = from_state t v s shows in
      let x = (value_at (R 5) r + value_at (R 4) r) % 2 ^ 32 in
      let e : x ≡ (v.scratch + v.offset) % 2 ^ 32 = (λ j. (h.scratch j + h.offset j) % 2 ^ 32) in
      let does : s6 k.row r ≡ goes (with_value (R 5) x r) = (λ j. put_any (k.d_is j) ((operand (k.d_is j) r + operand (k.m_is j) r) % 2 ^ 32) r) in
      went_on (instr.Scalar (scalar.S6 k.row)) v (record v { scratch = (v.scratch + v.offset) % 2 ^ 32 }) s (with_value (R 5) x r) shows
      (stands.here ∙ ap Ok k.is) refl (scalar_runs (scalar.S6 k.row) r h.block) does
      (subst (λ (y : ℕ). InRegs t (record v { scratch = y }) (with_value (R 5) x r) (seen_in s)) e (put_scratch t v r (seen_in s) h x))
      (let f = stands.fits in omega arith)

  pub further : (v : View) (s : State) → Shows t v s → Stands t listing v.pc (Plain Further) → Reaches (program.alone listing) (Shows t) 1 s (exec t Further v)
  further v s shows stands =
      let k = stands.is in
      let r = regs_of s in
      let h = from_state t v s shows in
      let sum = add_with_carry (value_at (R 4) r) 16 false in
      let q = with_value (R 4) sum.result r in
      let same : value_at (R 4) r + 16 + 0 ≡ v.offset + 16 = let o = h.offset in omega arith in
      let e : sum.result ≡ (v.offset + 16) % 2 ^ 32 = ap (λ (x : ℕ). x % 2 ^ 32) same in
      let does : s4 k.row r ≡ with_nzcv sum q = (λ j. byte_row (k.name_is j) (k.d_is j) (reg (k.d_is j) r) (k.x_is j) r)
      ∙ ap (λ (b : Bool). cond b q (with_nzcv sum q)) (outside_block r h.block) in
      let w = record v { offset = (v.offset + 16) % 2 ^ 32 } in
      went_on (instr.Scalar (scalar.S4 k.row)) v w s (with_nzcv sum q) shows (stands.here ∙ ap Ok k.is) refl (scalar_runs (scalar.S4 k.row) r h.block)
      (ap goes does)
      (with_any_flags t w q (seen_in s) (subst (λ (y : ℕ). InRegs t (record v { offset = y }) q (seen_in s)) e (put_offset t v r (seen_in s) h sum.result))
      (negative sum.result) (nat_eq sum.result 0) sum.carry sum.overflow) (let f = stands.fits in omega arith)
