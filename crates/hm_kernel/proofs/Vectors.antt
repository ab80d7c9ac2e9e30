-- Vector rows: what a register that is written leaves, and rows of lanes.
use Rattle.std.proofs.Common.{◌≡◌, ◌≢◌, ℕ, zero, suc, ◌+◌, ◌-◌, ◌*◌, ◌^◌, ◌<◌, Bool, true, false, cond, not, eqb, ltb, get_or}
use Rattle.std.proofs.Common.{length, List, [], ◌∷◌, ◌++◌, refl, sym, ap, ◌∙◌, subst, arith, eq-eqb, eqb-true, All, append-nil, Option}
use Rattle.std.specs.Prelude.{ℤ, Ok}
use Rattle.std.proofs.lemmas.List.Elements.{All-cons, All-nil}
use Rattle.hm_base.specs.declared.Fault.{Fault}
use Rattle.hm_base.specs.declared.Place.TheVariants.{R, P0, Mask01, Mask23, Ltp}
use Rattle.hm_regs.specs.Writes.{write}
use Rattle.hm_beat.specs.Rows.{advance_half, retired, write_register}
use Rattle.hm_kinds.proofs.Row.{pc-put_all}
use Rattle.hm_moves.proofs.Stored.{rest-put_all}
use Rattle.hm_lane_fns.specs.Registers.{merges, saturating}
use Rattle.hm_isa.specs.declared.Vector.{Vector}
use Rattle.hm_lane.specs.declared.lanes.Size.{Size}
use Rattle.hm_lane.specs.declared.lanes.Size.TheVariants.{Byte as OneByte, Half, Word}
use Rattle.hm_lane.specs.Lanes as list
use Rattle.hm_lane.specs.Lanes.{unlanes}
use Rattle.hm_lane_fns.specs.LaneFns.{bits_or, bitwise, cut, lane_of, number_lane}
use Rattle.hm_lane_fns.specs.declared.functions.LaneFn.{LaneFn}
use Rattle.hm_lane_fns.specs.Words.{size_of, tripled}
use Rattle.hm_rows.specs.Rows.{refuse, vector_whole, writes_lr}
use Rattle.hm_rows.proofs.Context.{context_there, refuses_none}
use Rattle.hm_run.specs.Program as program
use Rattle.hm_order.specs.Beats.{then as followed}
use Rattle.hm_state.specs.Store.{flagged, put_all}
use Rattle.hm_state.specs.State.{At, Byte, Cell, State, Value, at, cells, into}
use Rattle.hm_kernel_lang.specs.declared.text.ElementType.{ElementType}
use Rattle.hm_kernel_lang.specs.Language.{lanes}
use Rattle.hm_kernel_lang.specs.Machine.{View, merged, size_code}
use Rattle.hm_kernel.specs.Shows.{Shows, element_at, size_of_type}
use Rattle.hm_order.proofs.Results.{decide}
use Rattle.hm_kernel.proofs.Merging.{AllBytes, element_merged, else_kept, merging, merging_count, merging_fits, not_equal}
use Rattle.hm_kernel.proofs.Merging.{register_kept, register_put}

-- THE END OF A ROW
pub over : (t : ElementType) (v : View) (s : State) (b : Bool) → Shows t v s → Shows t (record v { pc = v.pc + 4 }) (retired (flagged b s))
over t v s b h = record {
  pc = ap (λ (x : ℕ). x + 4) h.pc;
  offset = h.offset;
  scratch = h.scratch;
  length = h.length;
  left = h.left;
  size = h.size;
  size_fits = h.size_fits;
  mask01 = h.mask01;
  mask23 = h.mask23;
  slice = h.slice;
  low = h.low;
  block = h.block;
  context = h.context;
  lane = h.lane;
  byte = h.byte;
  fits = h.fits;
}

pub over_too : (t : ElementType) (v : View) (s : State) → Shows t v s → Shows t (record v { pc = v.pc + 4 }) (retired s)
over_too t v s h = record {
  pc = ap (λ (x : ℕ). x + 4) h.pc;
  offset = h.offset;
  scratch = h.scratch;
  length = h.length;
  left = h.left;
  size = h.size;
  size_fits = h.size_fits;
  mask01 = h.mask01;
  mask23 = h.mask23;
  slice = h.slice;
  low = h.low;
  block = h.block;
  context = h.context;
  lane = h.lane;
  byte = h.byte;
  fits = h.fits;
}

-- no mask, no advance
pub no_first : (s : State) → at Mask01 s ≡ 0 → advance_half 0 s ≡ []
no_first s e = λ j.
    cond (ltb 8 (e j)) (into (write (P0 0) (15 - at (P0 0) s)) ∷ into (write (P0 1) (15 - at (P0 1) s)) ∷ []) []
    ++ cond (not (eqb (e j) 0)) (into (write Mask01 (2 * e j)) ∷ []) []

pub no_second : (s : State) → at Mask23 s ≡ 0 → advance_half 2 s ≡ []
no_second s e = λ j.
    cond (ltb 8 (e j)) (into (write (P0 2) (15 - at (P0 2) s)) ∷ into (write (P0 3) (15 - at (P0 3) s)) ∷ []) []
    ++ cond (not (eqb (e j) 0)) (into (write Mask23 (2 * e j)) ∷ []) []

pub no_advance : (t : ElementType) (v : View) (s : State) (ws : List (Cell × Value)) → Shows t v s → ws ++ advance_half 0 s ++ advance_half 2 s ≡ ws
no_advance t v s ws h = (λ j. ws ++ no_first s h.mask01 j ++ no_second s h.mask23 j) ∙ append-nil (ws ++ []) ∙ append-nil ws

-- A REGISTER THAT IS WRITTEN
pub after_write : (t : ElementType) (v : View) (s : State) → Shows t v s → (q : ℕ) (x : List ℕ) → length x ≡ 16 → AllBytes x → (l : ℕ → ℕ → ℕ)
    → ((e : ℕ) → e < lanes t → get_or (list.lanes (size_of_type t) x) e 0 ≡ l q e) → ((p e : ℕ) → p ≢ q → v.lane p e ≡ l p e)
    → Shows t (record v { lane = l }) (put_all cells (write_register q x) s)
after_write t v s h q x count fits l same other =
    let u = put_all cells (write_register q x) s in
    let rest : u.rest ≡ s.rest = rest-put_all (write_register q x) s in
    record {
      pc = pc-put_all (write_register q x) s ∙ h.pc;
      offset = ap (λ (y : Value). y.n) (else_kept q x s (At (R 4)) (λ k. refl)) ∙ h.offset;
      scratch = ap (λ (y : Value). y.n) (else_kept q x s (At (R 5)) (λ k. refl)) ∙ h.scratch;
      length = ap (λ (y : Value). y.n) (else_kept q x s (At (R 6)) (λ k. refl)) ∙ h.length;
      left = ap (λ (y : Value). y.n) (else_kept q x s (At (R 14)) (λ k. refl)) ∙ h.left;
      size = ap (λ (y : Value). y.n) (else_kept q x s (At Ltp) (λ k. refl)) ∙ h.size;
      size_fits = h.size_fits;
      mask01 = ap (λ (y : Value). y.n) (else_kept q x s (At Mask01) (λ k. refl)) ∙ h.mask01;
      mask23 = ap (λ (y : Value). y.n) (else_kept q x s (At Mask23) (λ k. refl)) ∙ h.mask23;
      slice = λ b k. subst (λ (y : Value). y.n < 16) (sym (else_kept q x s (At (P0 b)) (λ n. refl))) (h.slice b k);
      low = subst (λ y. y.fpscr_low < 2 ^ 16) (sym rest) h.low;
      block = ap (λ y. y.it) rest ∙ h.block;
      context = λ c. h.context (sym (ap (λ y. y.fpca) rest) ∙ c);
      lane = λ p e k m. decide (eqb p q)
          (λ is. let e_is = eqb-true p q is in
          subst (λ (y : ℕ). element_at t y e u ≡ l y e) (sym e_is)
          (ap (λ (y : List ℕ). get_or (list.lanes (size_of_type t) y) e 0) (register_put q x s count fits) ∙ same e m))
          (λ isnt. let d : p ≢ q = (λ i. let is = eq-eqb p q i in absurd cc) in
          ap (λ (y : List ℕ). get_or (list.lanes (size_of_type t) y) e 0) (register_kept q p x s d count fits) ∙ h.lane p e k m ∙ other p e d);
      byte = λ a i k. ap (λ (y : Value). y.n) (else_kept q x s (Byte a) (λ n. refl)) ∙ h.byte a i k;
      fits = h.fits;
    }

-- A ROW THAT MERGES
pub after_merge : (t : ElementType) (v : View) (s : State) → Shows t v s → v.size ≡ size_code t → (d q : ℕ) → d ≡ q → q < 8 → (new : List ℕ) → length new ≡ 16
    → AllBytes new → (f : ℕ → ℕ)
    → ((e : ℕ) → e < lanes t → get_or (list.lanes (size_of_type t) new) e 0 ≡ f e) → (b : Bool)
    → Shows t (record v { pc = v.pc + 4; lane = merged q f v }) (saturating b (merges d new s) s)
after_merge t v s h size d q d_is room new count fits f is b =
    let m = merging t v.left d new s h.mask01 h.mask23 (h.size ∙ size) h.left count fits in
    let put = put_all cells (write_register d m) s in
    let w = record v { lane = merged q f v } in
    let wrote : Shows t w put = after_write t v s h d m (merging_count t v.left d new s h.mask01 h.mask23 (h.size ∙ size) h.left count fits)
    (merging_fits t v.left d new s h.mask01 h.mask23 (h.size ∙ size) h.left count fits) (merged q f v)
    (λ e k. sym (ap (λ (y : List ℕ). get_or (list.lanes (size_of_type t) y) e 0)
    (register_put d m s (merging_count t v.left d new s h.mask01 h.mask23 (h.size ∙ size) h.left count fits)
    (merging_fits t v.left d new s h.mask01 h.mask23 (h.size ∙ size) h.left count fits)))
    ∙ element_merged t v.left d new s h.mask01 h.mask23 (h.size ∙ size) h.left count fits e k
    ∙ (λ j. cond (ltb e v.left) (is e k j) (h.lane d e (subst (λ (y : ℕ). y < 8) (sym d_is) room) k j))
    ∙ sym (ap (λ (y : Bool). cond y (cond (ltb e v.left) (f e) (v.lane d e)) (v.lane d e)) (eq-eqb q d (sym d_is))))
    (λ p e ne. sym (ap (λ (y : Bool). cond y (cond (ltb e v.left) (f e) (v.lane p e)) (v.lane p e)) (not_equal q p (λ i. ne (sym i ∙ sym d_is))))) in
    subst (λ (ws : List (Cell × Value)). Shows t (record v { pc = v.pc + 4; lane = merged q f v }) (retired (flagged b (put_all cells ws s))))
    (sym (no_advance t v s (merges d new s) h)) (over t w put b wrote)

-- A ROW THAT IS NOT REFUSED
pub comes_to : (x : Vector) (s u : State) → s.rest.fpca ≡ true → s.rest.it ≡ 0 → writes_lr x ≡ false → vector_whole x s ≡ Ok u → program.vector_row x s ≡ Ok u
comes_to x s u context it lr e =
    ap (λ (c : State). followed (program.unless_refused (refuse x c) c) (λ y. program.or_fault (vector_whole x y))) (context_there s context)
    ∙ ap (λ (o : Option Fault). followed (program.unless_refused o s) (λ y. program.or_fault (vector_whole x y))) (refuses_none x s it lr)
    ∙ ap program.or_fault e

loops_have : (t : ElementType) → size_code t ≢ 4
loops_have t e = grind arith

pub in_loop : (t : ElementType) (v : View) (s : State) → Shows t v s → v.size ≡ size_code t → s.rest.fpca ≡ true
in_loop t v s h size = decide s.rest.fpca (λ e. e) (λ e. absurd (loops_have t (sym size ∙ h.context e)))

-- LANES
pub cut_below : (z : Size) (x : ℤ) → cut z x < list.modulus z
cut_below z x = grind arith

bits_below : (z : Size) (o : Option ℕ) (y : ℕ) → y < list.modulus z → bits_or z o y < list.modulus z
bits_below z o y h = grind arith

pub lane_below : (f : LaneFn) (u : Bool) (z : Size) (c a b : ℕ) → lane_of f u z c a b < list.modulus z
lane_below f u z c a b = bits_below z (bitwise f z c a b) (number_lane f u z c a b) (cut_below z _)

pub tripled_below : (n : ℕ) (g : ℕ → ℕ → ℕ → ℕ) → ((c a b : ℕ) → g c a b < n) → (cs xs ys : List ℕ) → All (λ x. x < n) (tripled g cs xs ys)
tripled_below n g h (c ∷ cs) (x ∷ xs) (y ∷ ys) = All-cons (λ x. x < n) (g c x y) (tripled g cs xs ys) (h c x y) (tripled_below n g h cs xs ys)
tripled_below n g h cs xs ys = All-nil (λ x. x < n)

pub get_tripled : (g : ℕ → ℕ → ℕ → ℕ) (n : ℕ) (cs xs ys : List ℕ) (e : ℕ) → e < n → length cs ≡ n → length xs ≡ n → length ys ≡ n
    → get_or (tripled g cs xs ys) e 0 ≡ g (get_or cs e 0) (get_or xs e 0) (get_or ys e 0)
get_tripled g (suc n) (c ∷ cs) (x ∷ xs) (y ∷ ys) zero l h i k = refl
get_tripled g (suc n) (c ∷ cs) (x ∷ xs) (y ∷ ys) (suc e) l h i k = get_tripled g n cs xs ys e (omega arith) (omega arith) (omega arith) (omega arith)
get_tripled g n cs xs ys e l h i k = absurd (omega arith)

-- bytes of lanes
pub bytes_unlanes : (z : Size) (l : List ℕ) → AllBytes (unlanes z l)
bytes_unlanes OneByte (x ∷ l) = (omega arith, bytes_unlanes OneByte l)
bytes_unlanes Half (x ∷ l) = (omega arith, (omega arith, bytes_unlanes Half l))
bytes_unlanes Word (x ∷ l) = (omega arith, (omega arith, (omega arith, (omega arith, bytes_unlanes Word l))))
bytes_unlanes z l = tt

pub size_is : (t : ElementType) → size_of (size_code t) ≡ size_of_type t
size_is t = grind arith
