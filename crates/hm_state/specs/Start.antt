-- The state after a reset.
use Rattle.std.specs.Prelude.{ℕ, ◌-◌, ◌%◌, false, nat_eq, if◌then◌else◌, List, []}
use Rattle.hm_base.specs.Image.{Segment, flash_byte, first_byte, sram_start, word_at}
use Rattle.hm_base.specs.declared.Place.{Place}
use Rattle.hm_base.specs.declared.Place.TheVariants.{R, Ltp}
use Rattle.hm_mem.specs.Memory.{Around, Bounds, first_devices, thread_under}
use Rattle.hm_state.specs.State.{State, Cell, At, Byte, Value, word, Rest}

-- the word at 0 of an image: the stack pointer
abbrev pub reset_sp : List Segment → ℕ
reset_sp image = word_at (flash_byte image) 0

-- the word at 4 of an image: the address of the first instruction, with the T bit as its bit 0
abbrev pub reset_pc : List Segment → ℕ
reset_pc image = word_at (flash_byte image) 4

-- what each place holds after a reset: sp from the image, lr all ones, LTPSIZE 4, and 0 elsewhere
abbrev pub first_value : List Segment → Place → ℕ
first_value image (R n) = if nat_eq n 13 then reset_sp image - reset_sp image % 4 else (if nat_eq n 14 then 0xffffffff else 0)
first_value image Ltp = 4
first_value image p = 0

-- what each cell holds after a reset: a place its first value, and a byte what flash or SRAM begins with; none is tainted
abbrev pub first_cell : List Segment → Cell → Value
first_cell image (At p) = word (first_value image p)
first_cell image (Byte a) = word (first_byte image a)

-- what stands beside the cells after a reset: flags, IT, FPCA, PRIMASK, the other stack pointer, SPSEL, BASEPRI and IPSR 0, the devices as they
-- begin, and no output
abbrev pub first_rest : Around → Rest
first_rest around = record {
  n = false;
  z = false;
  c = false;
  v = false;
  q = false;
  it = 0;
  fpca = false;
  primask = false;
  other = 0;
  spsel = false;
  basepri = 0;
  ipsr = 0;
  fpscr_low = 0;
  fpscr_middle = 0;
  vpr_top = 0;
  devices = first_devices;
  output = [];
  around = around;
}

-- the state after a reset to an image, the thread running under these bounds of handlers
unfoldable pub start_under : Bounds → List Segment → State
start_under bounds image = record {
  cell = first_cell image;
  sticky = false;
  pc = reset_pc image - reset_pc image % 2;
  rest = first_rest (thread_under bounds);
}

-- an empty region, and the lowest floors
abbrev pub first_bounds : Bounds
first_bounds = record { lo = sram_start; hi = sram_start; floor = sram_start; process = sram_start }

-- the state after a reset to an image, the thread running, handlers with an empty region and the lowest floors
abbrev pub start : List Segment → State
start image = start_under first_bounds image
