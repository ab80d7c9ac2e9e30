-- The frame of an entry: `xpsr`; `frame_words` and `frame_bytes`; `frame_size`, `frame_base` and `has_room`; the position in xPSR, `psr_window`; and the
-- vector, `vector_address` and `is_vector`.
use Rattle.hm_mem.specs.Memory.{Bounds}
use Rattle.std.specs.Prelude.{ℕ, ◌+◌, ◌-◌, ◌*◌, ◌/◌, ◌%◌, ◌^◌, Bool, ◌&&◌, ◌==◌, nat_le, if◌then◌else◌, List, [], ◌∷◌, ◌++◌, take, slice_index}
use Rattle.std.specs.Option.{unwrap_or}
use Rattle.hm_base.specs.Bits.{field}
use Rattle.hm_base.specs.Image.{word_at}
use Rattle.hm_mem.specs.Devices.{byte_of}
use Rattle.hm_mem.specs.Seen.{lies_in_memory, lies_in_sram}
use Rattle.hm_mem.specs.declared.Dev.{Dev}
use Rattle.hm_regs.specs.Stacks.{uses_process}
use Rattle.hm_regs.specs.declared.Regs.{Regs}
use Rattle.hm_state.specs.State.{bit}
use Rattle.hm_window.specs.Positions.{window_of}
use Rattle.hm_window.specs.declared.rule.Window.{Window}

-- the position between two instructions: no beat is done
abbrev pub between : Window
between = record { a = 0; b = 0 }

-- whether a position is between two instructions
abbrev pub is_between : Window → Bool
is_between w = w.a == 0 && w.b == 0

-- the ECI value of a position (DDI0553, "ECI"): 0, 1, 2 and 4 for no beat to three beats of the older, and 5 for one of the younger besides
abbrev pub eci_of : Window → ℕ
eci_of w = if w.b == 1 then 5 else (if w.a == 3 then 4 else w.a)

-- N, Z, C, V and Q, the lowest last
abbrev pub flags : Regs → ℕ
flags r = 16 * bit r.n + 8 * bit r.z + 4 * bit r.c + 2 * bit r.v + bit r.q

-- Bits 26:25 and 15:10 of xPSR. Between two instructions they are the IT byte, its bits 1:0 in 26:25 and its bits 7:2 in 15:10; inside them
-- ECI stands in 15:12, and the others are 0.
abbrev pub progress : ℕ → Window → ℕ
progress it w = if is_between w then it % 4 * 2 ^ 25 + it / 4 * 2 ^ 10 else eci_of w * 2 ^ 12

-- xPSR as it is stacked: the flags in 31:27, T in 24, bit 2 of the stack pointer in 9, and the exception number in 8:0
unfoldable pub xpsr : Regs → Window → ℕ
xpsr r w = flags r * 2 ^ 27 + progress r.it w + 2 ^ 24 + r.sp / 4 % 2 * 2 ^ 9 + r.ipsr

-- the words of every frame: r0 to r3, r12, lr, the return address and xPSR
abbrev pub basic_words : Regs → Window → List ℕ
basic_words r w = slice_index r.r 0 ∷ slice_index r.r 1 ∷ slice_index r.r 2 ∷ slice_index r.r 3 ∷ slice_index r.r 12 ∷ r.lr ∷ r.pc ∷ xpsr r w ∷ []

-- the words that a frame has besides where there is a context: S0 to S15, FPSCR and VPR
abbrev pub context_words : Regs → List ℕ
context_words r = take 16 r.qw ++ r.fpscr ∷ r.vpr ∷ []

-- THE WORDS OF A FRAME, by rising address: 8, or 26 with a context
unfoldable pub frame_words : Regs → Window → List ℕ
frame_words r w = basic_words r w ++ (if r.fpca then context_words r else [])

-- the bytes of words, the lowest of each first
abbrev pub bytes_of_words : List ℕ → List ℕ
bytes_of_words [] = []
bytes_of_words (x ∷ xs) = byte_of x 0 ∷ byte_of x 1 ∷ byte_of x 2 ∷ byte_of x 3 ∷ bytes_of_words xs

-- the bytes of a frame, by rising address
unfoldable pub frame_bytes : Regs → Window → List ℕ
frame_bytes r w = bytes_of_words (frame_words r w)

-- how many bytes a frame has, with a context and without
abbrev pub frame_size : Bool → ℕ
frame_size long = if long then 104 else 32

-- a number of 32 bits with bit 2 cleared
abbrev pub without_bit_2 : ℕ → ℕ
without_bit_2 x = x - x / 4 % 2 * 4

-- the address of a frame's first byte: its size below the stack pointer, with bit 2 cleared
abbrev pub frame_base : Regs → ℕ
frame_base r = without_bit_2 ((r.sp + 2 ^ 32 - frame_size r.fpca) % 2 ^ 32)

-- the lowest address of a frame on the stack in use
abbrev pub floor_for : Bounds → Regs → ℕ
floor_for bounds r = if uses_process r then bounds.process else bounds.floor

-- the frame lies in SRAM, from the floor of its stack on
abbrev pub has_room : Bounds → Regs → Bool
has_room bounds r = nat_le (floor_for bounds r) (frame_base r) && lies_in_sram (frame_size r.fpca) (frame_base r)

-- THE POSITION IN A STACKED xPSR
-- that of its ECI, where bits 26:25 and 11:10 are 0; between two instructions where these are not, and where ECI names none
abbrev pub psr_window : ℕ → Window
psr_window x = if field 25 2 x == 0 && field 10 2 x == 0 then unwrap_or (window_of (field 12 4 x)) between else between

-- where the vector of an exception stands
abbrev pub vector_address : Dev → ℕ → ℕ
vector_address d e = (d.vtor + 4 * e) % 2 ^ 32

-- the word at an address is a vector: it lies whole in flash or whole in SRAM, and its bit 0 is set, for Thumb code
abbrev pub is_vector : (ℕ → ℕ) → ℕ → Bool
is_vector byte a = lies_in_memory 4 a && (word_at byte a % 2 == 1)
