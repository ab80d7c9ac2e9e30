-- What holds of the thread after each tick, in the words of whole instructions in order and of the beats of rows.
use Rattle.hm_run.specs.Timed.{bounds_of}
use Rattle.std.specs.Prelude.{◌≡◌, ◌⊎◌, ℕ, zero, suc, ◌+◌, ◌-◌, ◌<◌, ◌≤◌, true, false, List, [], ◌∷◌, Result, Ok, Err}
use Rattle.hm_base.specs.Image.{Segment}
use Rattle.hm_base.specs.declared.Place.{Place}
use Rattle.hm_base.specs.declared.Stop.{Stop}
use Rattle.hm_base.specs.declared.Stop.TheVariants as stop
use Rattle.hm_beat.specs.Rows.{retired}
use Rattle.hm_beat.specs.Trees.{action}
use Rattle.hm_codes.specs.Listing.{Listing}
use Rattle.hm_exc.specs.Entry.{window_in}
use Rattle.hm_run_laws.specs.Nested.{Interrupted}
use Rattle.hm_run_laws.specs.Order.{thread_of}
use Rattle.hm_run_laws.specs.Runs.{Run}
use Rattle.hm_isa.specs.declared.Instr.TheVariants as instr
use Rattle.hm_isa.specs.declared.Vector.{Vector}
use Rattle.hm_mem.specs.Memory.{Around, thread_under}
use Rattle.hm_order.specs.Beats.{then}
use Rattle.hm_order.specs.Machine.{Config}
use Rattle.hm_run_laws.specs.Ends.{GoesOn}
use Rattle.hm_run_laws.specs.Readings.{ShownAlike}
use Rattle.hm_rows.specs.Rows.{vector_tree}
use Rattle.hm_run.specs.InOrder.{Running, in_order}
use Rattle.hm_run.specs.Program.{whole}
use Rattle.hm_run.specs.Stops as why
use Rattle.hm_run.specs.Stops.{WholeStop}
use Rattle.hm_sched.specs.Schedule.{Sched}
use Rattle.hm_base.specs.Stops.{is_tainted}
use Rattle.hm_state.specs.State.{State, At, Byte, cells, regs_of}
use Rattle.hm_whole.specs.Watched.{open_rest}

-- STATES THAT ARE THE SAME, outside the taint and the device words that no thread reads: pc and all other registers, FPSCR and VPR, the
-- output, the device words that a thread may read, and each byte that is not tainted in the first.
pub record SameState (s t : State) : Type 0 where
  -- as they are shown
  pub shown : ShownAlike s t
  -- and cell by cell
  pub places : (p : Place) → s.cell (At p) ≡ t.cell (At p)
  pub bytes : (a : ℕ) → (s.cell (Byte a)).taint ≡ false → s.cell (Byte a) ≡ t.cell (Byte a)
  pub sticky : s.sticky ≡ t.sticky
  pub pc : s.pc ≡ t.pc
  pub rest : open_rest s.rest ≡ open_rest t.rest

-- BEATS of a vector row, where it is known who accesses the memory
abbrev pub beat : Around → Vector → ℕ → State → Result State Stop
beat around v k s = (action cells (vector_tree v around k)).run s

-- n beats from beat k on
abbrev pub some_beats : Around → Vector → ℕ → ℕ → State → Result State Stop
some_beats around v k zero s = Ok s
some_beats around v k (suc n) s = then (beat around v k s) (some_beats around v (suc k) n)

-- the beats a to 3, and then pc + 4
abbrev pub remaining : Around → Vector → ℕ → State → Result State Stop
remaining around v a s = then (some_beats around v a (4 - a) s) (λ u. Ok (retired u))

-- from z the beats 0 to b - 1 of the vector row that stands at pc lead to v; without any v is z
abbrev pub Ahead : Around → Listing → ℕ → ℕ → State → State → Type 0
Ahead around listing pc zero z v = z ≡ v
Ahead around listing pc (suc b) z v = (w : Vector) × (listing pc ≡ Ok (instr.Vector w)) × (some_beats around w 0 (suc b) z ≡ Ok v)

-- One of the beats a to 3 from x reads a tainted byte, and stops for it: those before it are done.
pub record ReadsTaint (around : Around) (v : Vector) (a : ℕ) (x : State) : Type 0 where
  pub beat_number : ℕ
  pub from : a ≤ beat_number
  pub below : beat_number < 4
  pub state : State
  pub done : some_beats around v a (beat_number - a) x ≡ Ok state
  pub byte : ℕ
  pub reads : (action cells (vector_tree v around beat_number)).uses state (Byte byte) ≡ true
  pub taint : (state.cell (Byte byte)).taint ≡ true
  pub why : Stop
  pub stops : beat around v beat_number state ≡ Err why
  pub tainted : is_tainted why ≡ true

-- The remaining beats of the older, with pc + 4 after them, end in the state that z and then the beats of the younger give.
pub record EndsAs (around : Around) (listing : Listing) (c : Config State) (v : Vector) (z : State) : Type 0 where
  pub left : State
  pub done : remaining around v c.a c.state ≡ Ok left
  pub ahead : State
  pub goes : Ahead around listing (c.state.pc + 4) c.b z ahead
  pub same : SameState left ahead

-- WHAT THE REMAINING BEATS COME TO, by what the whole of the older comes to in order. (A vector row never halts, and prints nothing.)
abbrev pub ComesTo : Around → Listing → Config State → Vector → Result State WholeStop → Type 0
ComesTo around listing c v (Ok z) = EndsAs around listing c v z ⊎ ReadsTaint around v c.a c.state
ComesTo around listing c v (Err (why.Faults f)) = (remaining around v c.a c.state ≡ Err (stop.Fault f)) ⊎ ReadsTaint around v c.a c.state
ComesTo around listing c v (Err (why.Halt reason)) = ⊥
ComesTo around listing c v (Err why.Full) = ⊥

-- inside the vector row at pc, where the order is at the state y
pub record InsideRow (around : Around) (listing : Listing) (c : Config State) (y : State) : Type 0 where
  pub row : Vector
  pub here : listing c.state.pc ≡ Ok (instr.Vector row)
  pub comes_to : ComesTo around listing c row (whole (instr.Vector row) y)

-- WHAT HOLDS AT A POSITION of the thread after n instructions: n whole instructions in order go on to a state, at the same pc. Between two
-- instructions the thread's state is theirs; inside one it is said what its remaining beats come to.
pub record AtPosition (listing : Listing) (image : List Segment) (around : Around) (n : ℕ) (c : Config State) : Type 0 where
  pub order : State
  pub runs : in_order listing image n ≡ Running order
  pub pc : c.state.pc ≡ order.pc
  pub older : c.a < 4
  pub younger : c.b < 3
  pub between : c.a ≡ 0 → (c.b ≡ 0) × SameState c.state order
  pub inside : 0 < c.a → InsideRow around listing c order

-- WHOSE POSITION IT IS: where no handler runs that which is shown; else the registers and the position of the oldest activation, with the
-- present memory, devices and output.
pub record IsOldest (y : Interrupted) (now c : Config State) : Type 0 where
  pub registers : regs_of c.state ≡ y.stacked.regs
  pub position : window_in y.stacked ≡ record { a = c.a; b = c.b }
  pub bytes : (a : ℕ) → c.state.cell (Byte a) ≡ now.state.cell (Byte a)
  pub devices : c.state.rest.devices ≡ now.state.rest.devices
  pub output : c.state.rest.output ≡ now.state.rest.output

-- the position of the thread: that which is shown where no handler runs, and else that of the oldest activation
abbrev pub IsThread : List Interrupted → Config State → Config State → Type 0
IsThread [] now c = c ≡ now
IsThread (y ∷ []) now c = IsOldest y now c
IsThread (y ∷ z ∷ acts) now c = IsThread (z ∷ acts) now c

-- WHAT HOLDS AFTER EACH TICK while the run goes on, and where its ticks are out: the position of the thread, and whose position that is.
pub record StandsInOrder (listing : Listing) (image : List Segment) (s : Sched) (x : Run) : Type 0 where
  pub position : GoesOn x.outcome → AtPosition listing image (thread_under (bounds_of s)) x.machine.config.n (thread_of x.machine.config x.machine.acts)
  pub thread : GoesOn x.outcome → IsThread x.machine.acts x.machine.config (thread_of x.machine.config x.machine.acts)
