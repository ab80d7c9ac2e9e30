-- Loads and stores of elements one behind another.
use Rattle.std.proofs.Common.{◌≡◌, ℕ, zero, suc, ◌+◌, ◌*◌, ◌%◌, ◌^◌, ◌<◌, ◌≤◌, Bool, true, false, cond, not, ◌&&◌, ◌||◌, ltb, nat_eq, nat_le}
use Rattle.std.proofs.Common.{min, get_or, length, List, [], ◌++◌, refl, sym, ap, ◌∙◌, subst, arith, ltb-true, eq-eqb, append-nil, All, Option, Some, None}
use Rattle.std.specs.Prelude.{Result, Ok, if◌then◌else◌}
use Rattle.std.proofs.lemmas.Bool.{eq-eqb, le-leb, lt-leb}
use Rattle.std.proofs.lemmas.Bool.Decides.{nat_tests}
use Rattle.std.proofs.lemmas.List.Elements.{All-cons, All-nil}
use Rattle.std.specs.Option.{option_or}
use Rattle.hm_base.specs.declared.Fault.{Fault}
use Rattle.hm_base.specs.declared.FaultKind.{FaultKind}
use Rattle.hm_base.specs.declared.FaultKind.TheVariants as kind
use Rattle.hm_base.specs.declared.Place.TheVariants.{R}
use Rattle.hm_beat.specs.Rows.{advance_half, predicate_at, retired, write_register}
use Rattle.hm_codes.specs.Listing.{Listing}
use Rattle.hm_isa.specs.declared.Instr.{Instr}
use Rattle.hm_isa.specs.declared.Instr.TheVariants as instr
use Rattle.hm_isa.specs.declared.Vector.TheVariants as vector
use Rattle.hm_lane.specs.declared.lanes.Size.{Size}
use Rattle.hm_lane.specs.declared.lanes.Size.TheVariants.{Byte as OneByte, Half, Word}
use Rattle.hm_lane.specs.Lanes as list
use Rattle.hm_lane.specs.Lanes.{firsts, unlanes}
use Rattle.hm_lane.proofs.LaneLists.{lanes-unlanes}
use Rattle.hm_lane_fns.specs.Words.{filled as spread_tests, size_of}
use Rattle.hm_mem.specs.declared.Access.TheVariants.{Vector}
use Rattle.hm_mem.specs.Devices.{has_width, tells_time, device_word}
use Rattle.hm_mem.specs.Seen.{fault_kind}
use Rattle.hm_base.specs.Results.{unless}
use Rattle.hm_moves.specs.Moves.{fault_after, byte_count}
use Rattle.hm_moves.specs.Ways.{Transfer, each_from, contiguous, way_writes_lr}
use Rattle.hm_moves.specs.Wholes.{count, fault_of, loaded_elements, read_at, transfer_whole, transferred, written_back}
use Rattle.hm_rows.specs.Rows.{offset_of}
use Rattle.hm_run.specs.Program as program
use Rattle.hm_state.specs.Store.{put_all}
use Rattle.hm_state.specs.State.{Byte, Cell, State, Value, at, cells}
use Rattle.hm_kernel_lang.specs.declared.text.ElementType.{ElementType}
use Rattle.hm_kernel_lang.specs.declared.text.ElementType.TheVariants.{U8, S8, U16, S16, U32, S32}
use Rattle.hm_kernel_lang.specs.Language.{Bytes, bytes, lanes, little}
use Rattle.hm_kernel_lang.specs.declared.machine.Item.TheVariants.{Plain}
use Rattle.hm_kernel_lang.specs.declared.machine.Kind.TheVariants.{Load}
use Rattle.hm_kernel_lang.specs.Machine.{IsWithin, View, exec, filled, size_code}
use Rattle.hm_kernel_lang.specs.Correct.{Reaches}
use Rattle.hm_kernel.specs.Shows.{Shows, size_of_type}
use Rattle.hm_kernel_instrs.specs.Instructions.{IsMoveRow}
use Rattle.hm_kernel.specs.Standing.{Stands}
use Rattle.hm_kernel.proofs.Merging.{not_equal, predicate_is, tails}
use Rattle.hm_kernel.proofs.Operations.{length_unlanes, some_modulus}
use Rattle.hm_kernel.proofs.CoreSteps.{reached}
use Rattle.hm_order.proofs.Results.{decide}
use Rattle.hm_kernel.proofs.Vectors.{after_write, bytes_unlanes, comes_to, in_loop, no_first, no_second, over_too, size_is}

-- NO FAULT where an access stands in SRAM and is aligned
no_device : (a : ℕ) → a < 0x20040000 → device_word a ≡ None
no_device a h = grind (arith, nat_tests, h)

no_fault : (store : Bool) (len a : ℕ) → a % len ≡ 0 → 0x20000000 ≤ a → 0 < len → a + len ≤ 0x20040000 → fault_kind true Vector store len a ≡ None
no_fault store len a aligned low some high =
    let al = eq-eqb (a % len) 0 aligned in
    let dev = lt-leb 0xe000e000 a (omega arith) in
    let fl = lt-leb (a + len) 0x100000 (omega arith) in
    let lo = le-leb 0x20000000 a low in
    let hi = le-leb (a + len) (0x20000000 + 0x40000) high in
    let none = no_device a (omega arith) in
    (λ j. if not (al j) then Some kind.Unaligned
    else (if dev j && nat_le a 0xe000efff then Some kind.DeviceVector
    else (if not ((fl j || (lo j && hi j)) || has_width (device_word a) len) then Some kind.Bus
    else (if store && fl j then Some kind.FlashWrite
    else (if not store && tells_time (none j) then Some kind.TimedRead
    else None)))))
    ∙ last store
  where
    last : (store : Bool) → (if store && false then Some kind.FlashWrite else (if not store && false then Some kind.TimedRead else None)) ≡ None
    last store = grind arith

-- THE TRANSFER of a load or a store of our code
abbrev pub our_transfer : ElementType → Bool → ℕ → Transfer
our_transfer t store d = record { store = store; memory = size_of_type t; register = size_of_type t; signed = false; found = contiguous d 5 0 true false }

no_offset : (z : Size) → 0 * byte_count z ≡ 0
no_offset z = grind arith

transfer_is : (t : ElementType) (l q : ℕ) (i : Instr) (k : IsMoveRow t l q 5 i)
    → (let r = k.row in let x : Transfer =
    record {
      store = nat_eq r.l.value 0;
      memory = size_of r.z.value;
      register = size_of r.z.value;
      signed = false;
      found = contiguous r.d.value r.n.value (offset_of (nat_eq r.a.value 1) r.i.value (size_of r.z.value)) (nat_eq r.p.value 1) (nat_eq r.w.value 1);
    } in x)
    ≡ our_transfer t (nat_eq l 0) q
transfer_is t l q i k =
    (λ j. record {
      store = nat_eq (k.l_is j) 0;
      memory = size_of (k.z_is j);
      register = size_of (k.z_is j);
      signed = false;
      found = contiguous (k.d_is j) (k.n_is j) (offset_of (nat_eq (k.a_is j) 1) (k.i_is j) (size_of (k.z_is j))) (nat_eq (k.p_is j) 1) (nat_eq (k.w_is j) 1);
    })
    ∙ (λ j. record {
      store = nat_eq l 0;
      memory = size_is t j;
      register = size_is t j;
      signed = false;
      found = contiguous q 5 (no_offset (size_of (size_code t)) j) true false;
    })

-- where elements stand
abbrev pub stands_at : ElementType → ℕ → ℕ → ℕ
stands_at t base j = ((base + 0) % 2 ^ 32 + byte_count (size_of_type t) * j) % 2 ^ 32

pub byte_count_is : (t : ElementType) → byte_count (size_of_type t) ≡ bytes t
byte_count_is t = grind arith

count_is : (t : ElementType) → count (size_of_type t) ≡ lanes t
count_is t = grind arith

firsts_are : (t : ElementType) (left : ℕ) → firsts (size_of_type t) (spread_tests (size_of_type t) (tails left 0 (lanes t))) ≡ tails left 0 (lanes t)
firsts_are t left = grind arith

-- an element that is left: where it stands
pub record IsInside (t : ElementType) (base j : ℕ) : Type 0 where
  pub is : stands_at t base j ≡ base + bytes t * j
  pub aligned : (base + bytes t * j) % bytes t ≡ 0
  pub low : 0x20000000 ≤ base + bytes t * j
  pub high : base + bytes t * j + bytes t ≤ 0x20040000

pub some_bytes : (t : ElementType) → 0 < bytes t
some_bytes t = grind arith

pub inside_of : (t : ElementType) (base left j : ℕ) → base % bytes t ≡ 0 → 0x20000000 ≤ base → base + bytes t * min left (lanes t) ≤ 0x20040000 → j < left
    → j < lanes t → IsInside t base j
inside_of U8 base left j a l h i k = record { is = omega arith; aligned = omega arith; low = omega arith; high = omega arith }
inside_of t base left j a l h i k = record { is = omega arith; aligned = omega arith; low = omega arith; high = omega arith }

no_fault_at : (t : ElementType) (store : Bool) (base j : ℕ) → IsInside t base j
    → fault_after (fault_kind true Vector store (byte_count (size_of_type t)) (stands_at t base j)) (stands_at t base j) ≡ None
no_fault_at t store base j h =
    ap (λ (w : ℕ). fault_after (fault_kind true Vector store w (stands_at t base j)) (stands_at t base j)) (byte_count_is t)
    ∙ ap (λ (a : ℕ). fault_after (fault_kind true Vector store (bytes t) a) a) h.is
    ∙ ap (λ (o : Option FaultKind). fault_after o (base + bytes t * j)) (no_fault store (bytes t) (base + bytes t * j) h.aligned h.low (some_bytes t) h.high)

no_faults : (store : Bool) (len left : ℕ) (f : ℕ → ℕ) (j n : ℕ)
    → ((i : ℕ) → j ≤ i → i < j + n → i < left → fault_after (fault_kind true Vector store len (f i)) (f i) ≡ None)
    → fault_of store len (tails left j n) (each_from f j n) ≡ None
no_faults store len left f j zero h = refl
no_faults store len left f j (suc n) h =
    let rest = no_faults store len left f (j + 1) n (λ i a b c. h i (omega arith) (omega arith) c) in
    decide (ltb j left)
    (λ e. ap (λ (b : Bool). option_or (cond b (fault_after (fault_kind true Vector store len (f j)) (f j)) None)
    (fault_of store len (tails left (j + 1) n) (each_from f (j + 1) n))) e
    ∙ ap (λ (o : Option Fault). option_or o (fault_of store len (tails left (j + 1) n) (each_from f (j + 1) n)))
    (h j (omega arith) (omega arith) (ltb-true j left e)) ∙ rest)
    (λ e. ap (λ (b : Bool). option_or (cond b (fault_after (fault_kind true Vector store len (f j)) (f j)) None)
    (fault_of store len (tails left (j + 1) n) (each_from f (j + 1) n))) e ∙ rest)

-- LOADS
get_loaded : (F : ℕ → ℕ) (left : ℕ) (f : ℕ → ℕ) (j n e : ℕ) → e < n
    → get_or (loaded_elements F (tails left j n) (each_from f j n)) e 0 ≡ cond (ltb (j + e) left) (F (f (j + e))) 0
get_loaded F left f j zero e h = absurd (omega arith)
get_loaded F left f j (suc n) zero h = let e : j ≡ j + 0 = omega arith in ap (λ (x : ℕ). cond (ltb x left) (F (f x)) 0) e
get_loaded F left f j (suc n) (suc e) h = get_loaded F left f (j + 1) n e (omega arith)
    ∙ (let p : j + 1 + e ≡ j + suc e = omega arith in ap (λ (x : ℕ). cond (ltb x left) (F (f x)) 0) p)

length_loaded : (F : ℕ → ℕ) (left : ℕ) (f : ℕ → ℕ) (j n : ℕ) → length (loaded_elements F (tails left j n) (each_from f j n)) ≡ n
length_loaded F left f j zero = refl
length_loaded F left f j (suc n) = ap suc (length_loaded F left f (j + 1) n)

chosen_below : (b : Bool) (x m : ℕ) → 0 < m → (b ≡ true → x < m) → cond b x 0 < m
chosen_below true x m h k = k refl
chosen_below false x m h k = h

loaded_below : (F : ℕ → ℕ) (m left : ℕ) (f : ℕ → ℕ) (j n : ℕ) → 0 < m → ((i : ℕ) → j ≤ i → i < j + n → i < left → F (f i) < m)
    → All (λ x. x < m) (loaded_elements F (tails left j n) (each_from f j n))
loaded_below F m left f j zero s h = All-nil (λ x. x < m)
loaded_below F m left f j (suc n) s h =
    All-cons (λ x. x < m) _ _ (chosen_below (ltb j left) (F (f j)) m s (λ e. h j (omega arith) (omega arith) (ltb-true j left e)))
    (loaded_below F m left f (j + 1) n s (λ i a b c. h i (omega arith) (omega arith) c))

-- a number that is read
module _ (t : ElementType) (v : View) (s : State) (h : Shows t v s) (a : ℕ) (low : 0x20000000 ≤ a) where
  at_byte : (k b : ℕ) → a + k < 0x20040000 → b ≡ a + k → (s.cell (Byte ((a + k) % 2 ^ 32))).n ≡ v.byte b
  at_byte k b l e = ap (λ (x : ℕ). (s.cell (Byte x)).n) (let m : (a + k) % 2 ^ 32 ≡ a + k = omega arith in m) ∙ h.byte (a + k) (omega arith) l
      ∙ ap v.byte (sym e)

read_byte : (t : ElementType) (v : View) (s : State) → Shows t v s → (a : ℕ) → 0x20000000 ≤ a → a + 1 ≤ 0x20040000 → read_at OneByte s a ≡ little 1 v.byte a
read_byte t v s h a low high = λ j. h.byte a low (omega arith) j + 256 * 0

read_half : (t : ElementType) (v : View) (s : State) → Shows t v s → (a : ℕ) → 0x20000000 ≤ a → a + 2 ≤ 0x20040000 → read_at Half s a ≡ little 2 v.byte a
read_half t v s h a low high = λ j. h.byte a low (omega arith) j + 256 * (at_byte t v s h a low 1 (a + 1) (omega arith) refl j + 256 * 0)

read_word : (t : ElementType) (v : View) (s : State) → Shows t v s → (a : ℕ) → 0x20000000 ≤ a → a + 4 ≤ 0x20040000 → read_at Word s a ≡ little 4 v.byte a
read_word t v s h a low high =
    λ j. h.byte a low (omega arith) j + 256 *
    (at_byte t v s h a low 1 (a + 1) (omega arith) refl j + 256 *
    (at_byte t v s h a low 2 (a + 1 + 1) (omega arith) (omega arith) j + 256 *
    (at_byte t v s h a low 3 (a + 1 + 1 + 1) (omega arith) (omega arith) j + 256 * 0)))

read_is : (t : ElementType) (v : View) (s : State) → Shows t v s → (a : ℕ) → 0x20000000 ≤ a → a + bytes t ≤ 0x20040000
    → read_at (size_of_type t) s a ≡ little (bytes t) v.byte a
read_is U8 v s h a l k = read_byte U8 v s h a l k
read_is S8 v s h a l k = read_byte S8 v s h a l k
read_is U16 v s h a l k = read_half U16 v s h a l k
read_is S16 v s h a l k = read_half S16 v s h a l k
read_is U32 v s h a l k = read_word U32 v s h a l k
read_is S32 v s h a l k = read_word S32 v s h a l k

-- and it is one of the type
below_one : (m : Bytes) (a : ℕ) → m a < 256 → little 1 m a < 2 ^ 8
below_one m a h = omega arith

below_two : (m : Bytes) (a : ℕ) → m a < 256 → m (a + 1) < 256 → little 2 m a < 2 ^ 16
below_two m a h i = omega arith

below_four : (m : Bytes) (a : ℕ) → m a < 256 → m (a + 1) < 256 → m (a + 1 + 1) < 256 → m (a + 1 + 1 + 1) < 256 → little 4 m a < 2 ^ 32
below_four m a h i k l = omega arith

little_below : (t : ElementType) (v : View) (s : State) → Shows t v s → (a : ℕ) → 0x20000000 ≤ a → a + bytes t ≤ 0x20040000
    → little (bytes t) v.byte a < list.modulus (size_of_type t)
little_below U8 v s h a l k = below_one v.byte a (h.fits a l (omega arith))
little_below S8 v s h a l k = below_one v.byte a (h.fits a l (omega arith))
little_below U16 v s h a l k = below_two v.byte a (h.fits a l (omega arith)) (h.fits (a + 1) (omega arith) (omega arith))
little_below S16 v s h a l k = below_two v.byte a (h.fits a l (omega arith)) (h.fits (a + 1) (omega arith) (omega arith))
little_below U32 v s h a l k =
    below_four v.byte a (h.fits a l (omega arith)) (h.fits (a + 1) (omega arith) (omega arith)) (h.fits (a + 1 + 1) (omega arith) (omega arith))
    (h.fits (a + 1 + 1 + 1) (omega arith) (omega arith))
little_below S32 v s h a l k =
    below_four v.byte a (h.fits a l (omega arith)) (h.fits (a + 1) (omega arith) (omega arith)) (h.fits (a + 1 + 1) (omega arith) (omega arith))
    (h.fits (a + 1 + 1 + 1) (omega arith) (omega arith))

-- THE ROW, by the lists of what is moved
module _ (t : ElementType) (listing : Listing) (store : Bool) (l q : ℕ) (l_is : nat_eq l 0 ≡ store) (v w : View) (s : State) (h : Shows t v s) (i : Instr)
    (here : listing v.pc ≡ Ok i) (k : IsMoveRow t l q 5 i) (size : v.size ≡ size_code t) (within : IsWithin t v) where
  abbrev z : Size
  z = size_of_type t

  abbrev which : List Bool
  which = tails v.left 0 (lanes t)

  abbrev there : List ℕ
  there = each_from (stands_at t v.scratch) 0 (lanes t)

  abbrev given : List (Cell × Value)
  given = transferred (our_transfer t store q) which there s

  abbrev by_lists : List Bool → List ℕ → Result State Fault
  by_lists ps addrs = unless (fault_of store (byte_count z) ps addrs)
      (Ok (retired (put_all cells (transferred (our_transfer t store q) ps addrs s ++ written_back (our_transfer t store q).found s ++ advance_half 0 s
      ++ advance_half 2 s) s)))

  moved_ones : firsts z (predicate_at s) ≡ which
  moved_ones = ap (firsts z) (predicate_is t v.left s h.mask01 h.mask23 (h.size ∙ size) h.left) ∙ firsts_are t v.left

  no_fault_here : fault_of store (byte_count z) which there ≡ None
  no_fault_here = no_faults store (byte_count z) v.left (stands_at t v.scratch) 0 (lanes t)
      (λ j a b c. no_fault_at t store v.scratch j (inside_of t v.scratch v.left j within.aligned within.low within.high c (omega arith)))

  whole_is : transfer_whole (our_transfer t store q) s ≡ Ok (retired (put_all cells given s))
  whole_is =
      ap (λ (ps : List Bool). by_lists ps (each_from (stands_at t (at (R 5) s)) 0 (count z))) moved_ones
      ∙ (λ j. by_lists which (each_from (stands_at t (h.scratch j)) 0 (count_is t j)))
      ∙ ap (λ (o : Option Fault). unless o (Ok (retired (put_all cells (given ++ [] ++ advance_half 0 s ++ advance_half 2 s) s)))) no_fault_here
      ∙ ap (λ (ws : List (Cell × Value)). Ok (retired (put_all cells ws s)))
      ((λ j. given ++ [] ++ no_first s h.mask01 j ++ no_second s h.mask23 j) ∙ append-nil (given ++ [] ++ []) ∙ append-nil (given ++ []) ∙ append-nil given)

  transfer_here : our_transfer t (nat_eq l 0) q ≡ our_transfer t store q
  transfer_here = ap (λ (b : Bool). our_transfer t b q) l_is

  pub moved_row : Shows t w (put_all cells given s) → Reaches (program.alone listing) (Shows t) 1 s (record w { pc = w.pc + 4 })
  moved_row after =
      let is = transfer_is t l q i k ∙ transfer_here in
      reached t listing (instr.Vector (vector.V24 k.row)) (record w { pc = w.pc + 4 }) s (retired (put_all cells given s)) (ap listing h.pc ∙ here ∙ ap Ok k.is)
      (comes_to (vector.V24 k.row) s (retired (put_all cells given s)) (in_loop t v s h size) h.block (ap (λ (x : Transfer). way_writes_lr x.found) is)
      (ap (λ (x : Transfer). transfer_whole x s) is ∙ whole_is))
      (over_too t w (put_all cells given s) after)

module _ (t : ElementType) (listing : Listing) where
  -- what is read of an element that is left
  read_here : (v : View) (s : State) → Shows t v s → IsWithin t v → (j : ℕ) → j < v.left → j < lanes t
      → read_at (size_of_type t) s (stands_at t v.scratch j) ≡ little (bytes t) v.byte (v.scratch + bytes t * j)
  read_here v s h within j a b =
      let p = inside_of t v.scratch v.left j within.aligned within.low within.high a b in
      ap (read_at (size_of_type t) s) p.is ∙ read_is t v s h (v.scratch + bytes t * j) p.low p.high

  loaded_shows : (q : ℕ) (v : View) (s : State) → Shows t v s → q < 8 → IsWithin t v → (xs : List ℕ) → length xs ≡ lanes t
      → All (λ x. x < list.modulus (size_of_type t)) xs
      → ((e : ℕ) → e < lanes t → get_or xs e 0 ≡ cond (ltb e v.left) (little (bytes t) v.byte (v.scratch + bytes t * e)) 0)
      → Shows t (record v { lane = filled q (λ e. little (bytes t) v.byte (v.scratch + bytes t * e)) v })
      (put_all cells (write_register q (unlanes (size_of_type t) xs)) s)
  loaded_shows q v s h room within xs many below is =
      let f = λ (e : ℕ). little (bytes t) v.byte (v.scratch + bytes t * e) in
      after_write t v s h q (unlanes (size_of_type t) xs) (length_unlanes t xs many) (bytes_unlanes (size_of_type t) xs) (filled q f v)
      (λ e k. ap (λ (x : List ℕ). get_or x e 0) (lanes-unlanes (size_of_type t) xs below) ∙ is e k
      ∙ sym (ap (λ (y : Bool). cond y (cond (ltb e v.left) (f e) 0) (v.lane q e)) (eq-eqb q q refl)))
      (λ p e ne. sym (ap (λ (y : Bool). cond y (cond (ltb e v.left) (f e) 0) (v.lane p e)) (not_equal q p (λ i. ne (sym i)))))

  pub load : (q : ℕ) (v : View) (s : State) → Shows t v s → Stands t listing v.pc (Plain (Load q)) → (q < 8) × (v.size ≡ size_code t) × IsWithin t v
      → Reaches (program.alone listing) (Shows t) 1 s (exec t (Load q) v)
  load q v s h stands can =
      let f = λ (e : ℕ). little (bytes t) v.byte (v.scratch + bytes t * e) in
      let w = record v { lane = filled q f v } in
      let F = λ (a : ℕ). read_at (size_of_type t) s a in
      let A = stands_at t v.scratch in
      let xs = loaded_elements F (tails v.left 0 (lanes t)) (each_from A 0 (lanes t)) in
      let within = can.2 in
      moved_row t listing false 1 q refl v w s h stands.instr stands.here stands.is can.1 within
      (loaded_shows q v s h can.0 within xs (length_loaded F v.left A 0 (lanes t))
      (loaded_below F (list.modulus (size_of_type t)) v.left A 0 (lanes t) (some_modulus (size_of_type t)) (λ j a b c.
      let inside : j < lanes t = omega arith in
      let p = inside_of t v.scratch v.left j within.aligned within.low within.high c inside in
      subst (λ (x : ℕ). x < list.modulus (size_of_type t)) (sym (read_here v s h within j c inside))
      (little_below t v s h (v.scratch + bytes t * j) p.low p.high)))
      (λ e k. get_loaded F v.left A 0 (lanes t) e k ∙ (let zero_e : 0 + e ≡ e = omega arith in ap (λ (x : ℕ). cond (ltb x v.left) (F (A x)) 0) zero_e)
      ∙ decide (ltb e v.left)
      (λ b. ap (λ (x : Bool). cond x (F (A e)) 0) b ∙ read_here v s h within e (ltb-true e v.left b) k ∙ sym (ap (λ (x : Bool). cond x (f e) 0) b))
      (λ b. ap (λ (x : Bool). cond x (F (A e)) 0) b ∙ sym (ap (λ (x : Bool). cond x (f e) 0) b))))
