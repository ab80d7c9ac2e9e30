-- The instructions on core registers.
use Rattle.std.proofs.Common.{◌≡◌, ℕ, ◌+◌, ◌*◌, ◌<◌, ◌≤◌, Bool, false, cond, get_or, length, ltb, lt-ltb, sym, ap, ◌∙◌, subst, arith, List, ◌++◌}
use Rattle.hm_base.specs.Bits.{field}
use Rattle.hm_base.proofs.Fields.{field_below}
use Rattle.hm_base.specs.declared.Place.TheVariants.{R, QWord, P0, Mask01, Mask23, Ltp}
use Rattle.hm_beat.specs.Rows.{register_at, word_place}
use Rattle.hm_lane.specs.Lanes as list
use Rattle.hm_mem.specs.Memory.{Around}
use Rattle.hm_mem.specs.Seen.{Seen}
use Rattle.hm_regs.specs.Place.{value_at}
use Rattle.hm_regs.specs.declared.Regs.{Regs}
use Rattle.hm_state.specs.State.{State, at, regs_of}
use Rattle.hm_state.proofs.Lists.{get_or-listed, length-listed}
use Rattle.hm_whole.specs.Whole.{seen_in, state_with}
use Rattle.hm_kernel_lang.specs.declared.text.ElementType.{ElementType}
use Rattle.hm_kernel_lang.specs.Language.{lanes}
use Rattle.hm_kernel_lang.specs.Machine.{View}
use Rattle.hm_kernel.specs.Shows.{Shows, size_of_type}

-- THE SAME OF REGISTERS AND A MEMORY
abbrev pub register_of : ℕ → Regs → List ℕ
register_of q r = list.bytes_of (value_at (word_place q 0) r) ++ list.bytes_of (value_at (word_place q 1) r) ++ list.bytes_of (value_at (word_place q 2) r)
    ++ list.bytes_of (value_at (word_place q 3) r)

pub record InRegs (t : ElementType) (v : View) (r : Regs) (m : Seen) : Type 0 where
  pub r_count : length r.r ≡ 13
  pub qw_count : length r.qw ≡ 32
  pub pc : r.pc ≡ v.pc
  pub offset : value_at (R 4) r ≡ v.offset
  pub scratch : value_at (R 5) r ≡ v.scratch
  pub length_is : value_at (R 6) r ≡ v.length
  pub left : value_at (R 14) r ≡ v.left
  pub size : value_at Ltp r ≡ v.size
  pub size_fits : v.size < 8
  pub mask01 : value_at Mask01 r ≡ 0
  pub mask23 : value_at Mask23 r ≡ 0
  pub block : r.it ≡ 0
  pub context : r.fpca ≡ false → v.size ≡ 4
  pub lane : (q e : ℕ) → q < 8 → e < lanes t → get_or (list.lanes (size_of_type t) (register_of q r)) e 0 ≡ v.lane q e
  pub byte : (a : ℕ) → 0x20000000 ≤ a → a < 0x20040000 → m.byte a ≡ v.byte a
  pub fits : (a : ℕ) → 0x20000000 ≤ a → a < 0x20040000 → v.byte a < 256

word_here : (q b : ℕ) (s : State) → q < 8 → b < 4 → value_at (word_place q b) (regs_of s) ≡ at (word_place q b) s
unfolding regs_of
word_here q b s h k = get_or-listed 32 (λ (n : ℕ). at (QWord n) s) (4 * q + b) 0 (omega arith)

size_here : (t : ElementType) (v : View) (s : State) → Shows t v s → value_at Ltp (regs_of s) ≡ v.size
unfolding regs_of field
size_here t v s h =
    let a = h.size in
    let b = h.size_fits in
    let c = h.low in
    omega arith

mask01_here : (t : ElementType) (v : View) (s : State) → Shows t v s → value_at Mask01 (regs_of s) ≡ 0
unfolding regs_of field
mask01_here t v s h =
    let a = h.mask01 in
    let b = h.mask23 in
    let c = h.slice 0 (omega arith) in
    let d = h.slice 1 (omega arith) in
    let e = h.slice 2 (omega arith) in
    let f = h.slice 3 (omega arith) in
    omega arith

mask23_here : (t : ElementType) (v : View) (s : State) → Shows t v s → value_at Mask23 (regs_of s) ≡ 0
unfolding regs_of field
mask23_here t v s h =
    let a = h.mask01 in
    let b = h.mask23 in
    let c = h.slice 0 (omega arith) in
    let d = h.slice 1 (omega arith) in
    let e = h.slice 2 (omega arith) in
    let f = h.slice 3 (omega arith) in
    omega arith

register_here : (q : ℕ) (s : State) → q < 8 → register_of q (regs_of s) ≡ register_at q s
register_here q s h = λ j. list.bytes_of (word_here q 0 s h (let l : 0 < 4 = omega arith in l) j)
    ++ list.bytes_of (word_here q 1 s h (let l : 1 < 4 = omega arith in l) j) ++ list.bytes_of (word_here q 2 s h (let l : 2 < 4 = omega arith in l) j)
    ++ list.bytes_of (word_here q 3 s h (let l : 3 < 4 = omega arith in l) j)

pub from_state : (t : ElementType) (v : View) (s : State) → Shows t v s → InRegs t v (regs_of s) (seen_in s)
unfolding regs_of
from_state t v s h = record {
  r_count = length-listed 13 (λ (k : ℕ). at (R k) s);
  qw_count = length-listed 32 (λ (k : ℕ). at (QWord k) s);
  pc = h.pc;
  offset = get_or-listed 13 (λ (k : ℕ). at (R k) s) 4 0 (omega arith) ∙ h.offset;
  scratch = get_or-listed 13 (λ (k : ℕ). at (R k) s) 5 0 (omega arith) ∙ h.scratch;
  length_is = get_or-listed 13 (λ (k : ℕ). at (R k) s) 6 0 (omega arith) ∙ h.length;
  left = h.left;
  size = size_here t v s h;
  size_fits = h.size_fits;
  mask01 = mask01_here t v s h;
  mask23 = mask23_here t v s h;
  block = h.block;
  context = h.context;
  lane = λ q e k l. ap (λ (x : List ℕ). get_or (list.lanes (size_of_type t) x) e 0) (register_here q s k) ∙ h.lane q e k l;
  byte = h.byte;
  fits = h.fits;
}

pub to_state : (t : ElementType) (v : View) (r : Regs) (m : Seen) (x : Around) (output : List ℕ) → InRegs t v r m → Shows t v (state_with r m x output)
unfolding state_with
to_state t v r m x output h = record {
  pc = h.pc;
  offset = h.offset;
  scratch = h.scratch;
  length = h.length_is;
  left = h.left;
  size = h.size;
  size_fits = h.size_fits;
  mask01 = h.mask01;
  mask23 = h.mask23;
  slice = λ b l. slice_fits r b l;
  low = field_below 0 16 r.fpscr;
  block = h.block;
  context = h.context;
  lane = h.lane;
  byte = h.byte;
  fits = h.fits;
}
  where
    slice_fits : (r : Regs) (b : ℕ) → b < 4 → cond (ltb b 4) (value_at (P0 b) r) 0 < 16
    slice_fits r b l = subst (λ (u : Bool). cond u (value_at (P0 b) r) 0 < 16) (sym (lt-ltb b 4 l)) (field_below (4 * b) 4 r.vpr)
