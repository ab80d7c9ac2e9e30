-- The architectural state: the registers by place, the bytes of memory, and what stands in neither.
use Rattle.std.specs.Prelude.{ℕ, ◌≡◌, ◌+◌, ◌*◌, ◌^◌, Bool, true, false, cond, ltb, eqb, List, [], ◌∷◌, map}
use Rattle.std.specs.List.{range_with_len}
use Rattle.hm_base.specs.Bits.{field}
use Rattle.hm_base.specs.Place.{IsPlace, same_place, fit}
use Rattle.hm_base.specs.declared.Place.{Place}
use Rattle.hm_base.specs.declared.Place.TheVariants.{R, QWord, P0, Mask01, Mask23, Carry, Ltp, Sticky}
use Rattle.hm_base.specs.Image.{sram_start, sram_size}
use Rattle.hm_regs.specs.declared.Regs.{Regs}
use Rattle.hm_regs.specs.Place.{value_at}
use Rattle.hm_regs.specs.Writes.{Write}
use Rattle.hm_mem.specs.declared.Dev.{Dev}
use Rattle.hm_mem.specs.Memory.{Around, Memory, byte_at, tainted_at}
use Rattle.hm_state.specs.Store.{Store, Cells, put}

-- a place of the registers, or a byte of memory
pub data Cell : Type 0 where
  At : Place → Cell
  Byte : ℕ → Cell

-- a number, and for a byte whether an entry or a handler wrote it last
pub record Value : Type 0 where
  pub n : ℕ
  pub taint : Bool

-- a number without taint, as the value of a cell
abbrev pub word : ℕ → Value
word n = record { n = n; taint = false }

-- whether two cells are one
abbrev pub same_cell : Cell → Cell → Bool
same_cell (At p) (At q) = same_place p q
same_cell (Byte a) (Byte b) = eqb a b
same_cell c d = false

-- whether the value of a cell is dead, which is so of a tainted byte alone
abbrev pub is_dead : Cell → Value → Bool
is_dead (At p) v = false
is_dead (Byte a) v = v.taint

-- the cells of the machine: which two are one, and which values are dead
abbrev pub cells : Cells Cell Value
cells = record { same = same_cell; dead = is_dead }

-- what stands in no place and in no byte: the flags of APSR, IT, FPCA, PRIMASK, the stack pointer that is not in use and
-- which one that is, BASEPRI, the exception number, the bits of FPSCR and VPR that have no place, the devices, the output, and who accesses the memory
pub record Rest : Type 0 where
  pub n : Bool
  pub z : Bool
  pub c : Bool
  pub v : Bool
  pub q : Bool
  pub it : ℕ
  pub fpca : Bool
  pub primask : Bool
  pub other : ℕ
  pub spsel : Bool
  pub basepri : ℕ
  pub ipsr : ℕ
  pub fpscr_low : ℕ
  pub fpscr_middle : ℕ
  pub vpr_top : ℕ
  pub devices : Dev
  pub output : List ℕ
  pub around : Around

-- the architectural state: what the cells hold, QC, the program counter and the rest
abbrev pub State : Type 0
State = Store Cell Value Rest

-- what stands in a place
abbrev pub at : Place → State → ℕ
at p s = (s.cell (At p)).n

-- a place takes the bits of a number that fit it
abbrev pub put_at : Place → ℕ → State → State
put_at p x s = put cells (At p) (word (fit p x)) s

-- QC is no cell: it is the sticky flag. Numbers out of range are no places.
abbrev pub is_cell : Place → Bool
is_cell (P0 b) = ltb b 4
is_cell Sticky = false
is_cell p = true

-- what a cell holds, as registers and a memory stand; a place that is no cell holds 0
abbrev pub cell_of : Regs → Memory → Cell → Value
cell_of r m (At p) = word (cond (is_cell p) (value_at p r) 0)
cell_of r m (Byte a) = record { n = byte_at m a; taint = tainted_at m a }

-- what stands beside the places, by the registers, the devices and who accesses the memory
abbrev pub rest_with : Regs → Dev → Around → List ℕ → Rest
rest_with r d around output = record {
  n = r.n;
  z = r.z;
  c = r.c;
  v = r.v;
  q = r.q;
  it = r.it;
  fpca = r.fpca;
  primask = r.primask;
  other = r.other;
  spsel = r.spsel;
  basepri = r.basepri;
  ipsr = r.ipsr;
  fpscr_low = field 0 16 r.fpscr;
  fpscr_middle = field 19 8 r.fpscr;
  vpr_top = field 24 8 r.vpr;
  devices = d;
  output = output;
  around = around;
}

-- what stands beside the places, as registers, a memory and an output stand
abbrev pub rest_of : Regs → Memory → List ℕ → Rest
rest_of r m output = rest_with r m.devices m.around output

-- the state that registers, a memory and an output make
unfoldable pub state_of : Regs → Memory → List ℕ → State
state_of r m output = record { cell = cell_of r m; sticky = eqb (value_at Sticky r) 1; pc = r.pc; rest = rest_of r m output }

-- a write to a place, as one to its cell
abbrev pub into : Write → Cell × Value
into w = (At w.place, word (fit w.place w.value))

-- each write is to a place that is a cell
abbrev pub AreCells : List Write → Type 0
AreCells [] = Unit {0}
AreCells (w ∷ ws) = IsPlace w.place × (is_cell w.place ≡ true) × AreCells ws

-- the list of n values of a function, from 0 on
unfoldable pub listed : {A : Type 0} → ℕ → (ℕ → A) → List A
listed n f = map f (range_with_len 0 n)

-- a truth value as a bit, 1 where it is true
abbrev pub bit : Bool → ℕ
bit b = cond b 1 0

-- the registers by what stands in each place, QC, the program counter and what stands beside them; FPSCR and VPR are put together
abbrev pub regs_from : (Place → ℕ) → Bool → ℕ → Rest → Regs
regs_from f sticky pc x = record {
  r = listed 13 (λ k. f (R k));
  sp = f (R 13);
  lr = f (R 14);
  pc = pc;
  n = x.n;
  z = x.z;
  c = x.c;
  v = x.v;
  q = x.q;
  it = x.it;
  fpscr = f Carry * 2 ^ 28 + bit sticky * 2 ^ 27 + x.fpscr_middle * 2 ^ 19 + f Ltp * 2 ^ 16 + x.fpscr_low;
  vpr = x.vpr_top * 2 ^ 24 + f Mask23 * 2 ^ 20 + f Mask01 * 2 ^ 16 + f (P0 3) * 2 ^ 12 + f (P0 2) * 2 ^ 8 + f (P0 1) * 2 ^ 4 + f (P0 0);
  qw = listed 32 (λ k. f (QWord k));
  fpca = x.fpca;
  primask = x.primask;
  other = x.other;
  spsel = x.spsel;
  basepri = x.basepri;
  ipsr = x.ipsr;
}

-- the registers of a state
unfoldable pub regs_of : State → Regs
regs_of s = regs_from (λ p. at p s) s.sticky s.pc s.rest

-- the bytes of SRAM
abbrev pub sram_bytes : State → List ℕ
sram_bytes s = listed sram_size (λ k. (s.cell (Byte (sram_start + k))).n)

-- byte k of a row of bits, eight a byte, the first one lowest
abbrev pub byte_of_bits : (ℕ → Bool) → ℕ → ℕ
byte_of_bits f k =
    bit (f (8 * k)) + 2 * bit (f (8 * k + 1)) + 4 * bit (f (8 * k + 2)) + 8 * bit (f (8 * k + 3))
    + 16 * bit (f (8 * k + 4)) + 32 * bit (f (8 * k + 5)) + 64 * bit (f (8 * k + 6)) + 128 * bit (f (8 * k + 7))

-- the taint of SRAM, a bit a byte: bit j of byte k is that of byte 8k + j
abbrev pub taint_bytes : State → List ℕ
taint_bytes s = listed 0x8000 (byte_of_bits (λ k. (s.cell (Byte (sram_start + k))).taint))
