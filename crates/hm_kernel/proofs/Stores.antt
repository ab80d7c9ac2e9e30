-- What a store of elements leaves in memory.
use Rattle.std.proofs.Common.{◌≡◌, ◌≢◌, ℕ, zero, suc, ◌+◌, ◌-◌, ◌*◌, ◌%◌, ◌^◌, ◌<◌, ◌≤◌, Bool, true, false, cond, ◌&&◌, eqb, ltb, nat_le, nat_lt, min, get_or}
use Rattle.std.proofs.Common.{length, List, [], ◌∷◌, ◌++◌, refl, sym, ap, ◌∙◌, subst, arith, ltb-true, ltb-false, eq-eqb, eqb-true}
use Rattle.std.proofs.lemmas.Bool.Decides.{nat_tests}
use Rattle.hm_base.specs.declared.Place.{Place}
use Rattle.hm_base.specs.declared.Place.TheVariants.{R, P0, Mask01, Mask23, Ltp}
use Rattle.hm_beat.specs.Rows.{register_at, word_place}
use Rattle.hm_beat.specs.Touches.{span_bytes, span_rest}
use Rattle.hm_beat.proofs.Chained.{Off, off-append, put_other}
use Rattle.hm_beat.proofs.Whole.{put_all-append}
use Rattle.hm_codes.specs.Listing.{Listing}
use Rattle.hm_lane.specs.declared.lanes.Size.{Size}
use Rattle.hm_lane.specs.Lanes as list
use Rattle.hm_lane.specs.Lanes.{bytes_of}
use Rattle.hm_mem.specs.Devices.{byte_of}
use Rattle.hm_moves.specs.Moves.{byte_count}
use Rattle.hm_moves.specs.Ways.{each_from}
use Rattle.hm_moves.specs.Wholes.{element_bytes, number_bytes}
use Rattle.hm_run.specs.Program as program
use Rattle.hm_state.specs.Store.{put, put_all}
use Rattle.hm_state.specs.State.{At, Byte, Cell, State, Value, at, cells}
use Rattle.hm_kernel_lang.specs.declared.text.ElementType.{ElementType}
use Rattle.hm_kernel_lang.specs.declared.text.ElementType.TheVariants.{U8, S8, U16, S16, U32, S32}
use Rattle.hm_kernel_lang.specs.Language.{Bytes, bytes, lanes, replaced, with_number}
use Rattle.hm_kernel_lang.specs.declared.machine.Item.TheVariants.{Plain}
use Rattle.hm_kernel_lang.specs.declared.machine.Kind.TheVariants.{Store}
use Rattle.hm_kernel_lang.specs.Machine.{IsWithin, View, exec, size_code}
use Rattle.hm_kernel_lang.specs.Correct.{Reaches}
use Rattle.hm_kernel.specs.Shows.{Shows, size_of_type}
use Rattle.hm_kernel.specs.Standing.{Stands}
use Rattle.hm_kernel.proofs.Merging.{length_lanes, tails}
use Rattle.hm_kernel.proofs.Moves.{inside_of, moved_row, stands_at}
use Rattle.hm_kernel_lang.proofs.Replacing.{replaced_same}
use Rattle.hm_order.proofs.Results.{decide}
use Rattle.hm_kinds.proofs.Row.{pc-put_all}
use Rattle.hm_moves.proofs.Stored.{rest-put_all}

-- ONE NUMBER: its first byte and the rest
test_first : (c b top : ℕ) → c ≡ b → c < top → (nat_le (c + 1) b && nat_lt b top ≡ false) × (nat_le c b && nat_lt b top ≡ true)
test_first c b top e h = (grind (arith, nat_tests), grind (arith, nat_tests))

test_rest : (c b top : ℕ) → c ≢ b → nat_le (c + 1) b && nat_lt b top ≡ (nat_le c b && nat_lt b top)
test_rest c b top e = grind (arith, nat_tests)

combined : (a k c top b y x : ℕ) → c ≡ a + k → c < top
    → cond (nat_le (c + 1) b && nat_lt b top) (byte_of x (b - a)) (cond (eqb c b) (byte_of x k) y) ≡ cond (nat_le c b && nat_lt b top) (byte_of x (b - a)) y
combined a k c top b y x e h = decide (eqb c b)
    (λ is.
    let same = eqb-true c b is in
    let t = test_first c b top same h in
    let at_k : k ≡ b - a = omega arith in
    (λ j. cond (t.0 j) (byte_of x (b - a)) (cond (is j) (byte_of x k) y)) ∙ ap (byte_of x) at_k ∙ sym (ap (λ (u : Bool). cond u (byte_of x (b - a)) y) t.1))
    (λ isnt.
    let other : c ≢ b = (λ i. let is = eq-eqb c b i in absurd cc) in
    (λ j. cond (test_rest c b top other j) (byte_of x (b - a)) (cond (isnt j) (byte_of x k) y)))

no_room : (a b : ℕ) → nat_le a b && nat_lt b a ≡ false
no_room a b = grind (arith, nat_tests)

-- what one byte that is put leaves
put_here : (a k c b x y : ℕ) (s : State) → c ≡ a + k → (s.cell (Byte b)).n ≡ y
    → ((put cells (Byte c) (record { n = byte_of x k; taint = false }) s).cell (Byte b)).n ≡ cond (eqb c b) (byte_of x k) y
put_here a k c b x y s e h = go (eqb c b)
  where
    go : (u : Bool) → (cond u (record { n = byte_of x k; taint = false }) (s.cell (Byte b))).n ≡ cond u (byte_of x k) y
    go true = refl
    go false = h

put_rest : (x a k n b y : ℕ) (s : State) → a + k + n ≤ 2 ^ 32 → (s.cell (Byte b)).n ≡ y
    → ((put_all cells (number_bytes x k (span_rest a k n)) s).cell (Byte b)).n ≡ cond (nat_le (a + k) b && nat_lt b (a + k + n)) (byte_of x (b - a)) y
put_rest x a k zero b y s fits h =
    let e : a + k + 0 ≡ a + k = omega arith in
    h ∙ sym (ap (λ (top : ℕ). cond (nat_le (a + k) b && nat_lt b top) (byte_of x (b - a)) y) e
    ∙ ap (λ (u : Bool). cond u (byte_of x (b - a)) y) (no_room (a + k) b))
put_rest x a k (suc n) b y s fits h =
    let c = (a + k) % 2 ^ 32 in
    let c_is : c ≡ a + k = omega arith in
    let s1 = put cells (Byte c) (record { n = byte_of x k; taint = false }) s in
    let next = put_rest x a (k + 1) n b (cond (eqb c b) (byte_of x k) y) s1 (omega arith) (put_here a k c b x y s c_is h) in
    let top : a + (k + 1) + n ≡ a + k + suc n = omega arith in
    let low : a + (k + 1) ≡ a + k + 1 = omega arith in
    next
    ∙ (λ j. cond (nat_le (low j) b && nat_lt b (top j)) (byte_of x (b - a)) (cond (eqb (c_is j) b) (byte_of x k) y))
    ∙ combined a k (a + k) (a + k + suc n) b y x refl (omega arith)

put_number : (x a n b y : ℕ) (s : State) → a + suc n ≤ 2 ^ 32 → (s.cell (Byte b)).n ≡ y
    → ((put_all cells (number_bytes x 0 (span_bytes a (suc n))) s).cell (Byte b)).n ≡ cond (nat_le a b && nat_lt b (a + suc n)) (byte_of x (b - a)) y
put_number x a n b y s fits h =
    let s1 = put cells (Byte a) (record { n = byte_of x 0; taint = false }) s in
    let zero_is : a ≡ a + 0 = omega arith in
    let next = put_rest x a 1 n b (cond (eqb a b) (byte_of x 0) y) s1 (omega arith) (put_here a 0 a b x y s zero_is h) in
    let top : a + 1 + n ≡ a + suc n = omega arith in
    next
    ∙ (λ j. cond (nat_le (a + 1) b && nat_lt b (top j)) (byte_of x (b - a)) (cond (eqb a b) (byte_of x 0) y))
    ∙ combined a 0 a (a + suc n) b y x zero_is (omega arith)

put_element : (t : ElementType) (x a b y : ℕ) (s : State) → a + bytes t ≤ 2 ^ 32 → (s.cell (Byte b)).n ≡ y
    → ((put_all cells (number_bytes x 0 (span_bytes a (byte_count (size_of_type t)))) s).cell (Byte b)).n
    ≡ cond (nat_le a b && nat_lt b (a + bytes t)) (byte_of x (b - a)) y
put_element U8 x a b y s fits h = put_number x a 0 b y s fits h
put_element S8 x a b y s fits h = put_number x a 0 b y s fits h
put_element U16 x a b y s fits h = put_number x a 1 b y s fits h
put_element S16 x a b y s fits h = put_number x a 1 b y s fits h
put_element U32 x a b y s fits h = put_number x a 3 b y s fits h
put_element S32 x a b y s fits h = put_number x a 3 b y s fits h

-- ALL ELEMENTS that are left, one after another
module _ (t : ElementType) (base left : ℕ) (A g : ℕ → ℕ) (m : Bytes) (b : ℕ) where
  abbrev so_far : ℕ → ℕ
  so_far j = replaced t base (min j left) g m b

  abbrev w : ℕ
  w = byte_count (size_of_type t)

  elements_put : (n j : ℕ) (xs : List ℕ) (s : State) → length xs ≡ n → ((i : ℕ) → i < n → get_or xs i 0 ≡ g (j + i))
      → ((i : ℕ) → j ≤ i → i < j + n → i < left → (A i ≡ base + bytes t * i) × (base + bytes t * i + bytes t ≤ 2 ^ 32))
      → (s.cell (Byte b)).n ≡ so_far j
      → ((put_all cells (element_bytes (size_of_type t) (tails left j n) (each_from A j n) xs) s).cell (Byte b)).n ≡ so_far (j + n)
  elements_put zero j xs s count is inside h = h ∙ (let e : j ≡ j + 0 = omega arith in ap so_far e)
  elements_put (suc n) j [] s count is inside h = absurd (omega arith)
  elements_put (suc n) j (x ∷ xs) s count is inside h =
      let ws = number_bytes x 0 (span_bytes (A j) w) in
      let more = element_bytes (size_of_type t) (tails left (j + 1) n) (each_from A (j + 1) n) xs in
      let rest = λ (u : State) (e : (u.cell (Byte b)).n ≡ so_far (j + 1)). elements_put n (j + 1) xs u (omega arith)
      (λ i k. is (suc i) (omega arith) ∙ (let p : j + suc i ≡ j + 1 + i = omega arith in ap g p)) (λ i c d f. inside i (omega arith) (omega arith) f) e in
      let last : so_far (j + 1 + n) ≡ so_far (j + suc n) = (let p : j + 1 + n ≡ j + suc n = omega arith in ap so_far p) in
      decide (ltb j left)
      (λ e.
      let here = inside j (omega arith) (omega arith) (ltb-true j left e) in
      let lt = ltb-true j left e in
      let value : x ≡ g j = is 0 (omega arith) ∙ (let p : j + 0 ≡ j = omega arith in ap g p) in
      let now : min j left ≡ j = omega arith in
      let then_ : suc j ≡ min (j + 1) left = omega arith in
      let u = put_all cells ws s in
      let stored : (u.cell (Byte b)).n ≡ so_far (j + 1) =
      ap (λ (a : ℕ). ((put_all cells (number_bytes x 0 (span_bytes a w)) s).cell (Byte b)).n) here.0
      ∙ put_element t x (base + bytes t * j) b (so_far j) s here.1 h
      ∙ (λ i. cond (nat_le (base + bytes t * j) b && nat_lt b (base + bytes t * j + bytes t)) (byte_of (value i) (b - (base + bytes t * j)))
      (replaced t base (now i) g m b))
      ∙ ap (λ (c : ℕ). replaced t base c g m b) then_ in
      ap (λ (u : Bool). ((put_all cells (cond u ws [] ++ more) s).cell (Byte b)).n) e
      ∙ ap (λ (y : State). (y.cell (Byte b)).n) (put_all-append ws more s)
      ∙ rest u stored ∙ last)
      (λ e.
      let ge = ltb-false j left e in
      let same : min j left ≡ min (j + 1) left = omega arith in
      ap (λ (u : Bool). ((put_all cells (cond u ws [] ++ more) s).cell (Byte b)).n) e
      ∙ rest s (h ∙ ap (λ (c : ℕ). replaced t base c g m b) same) ∙ last)

-- PLACES STAY
numbers_off : (p : Place) (x k : ℕ) (bs : List ℕ) → Off (At p) (number_bytes x k bs)
numbers_off p x k [] = tt
numbers_off p x k (a ∷ bs) = (refl, numbers_off p x (k + 1) bs)

chosen_off : (p : Place) (u : Bool) (ws : List (Cell × Value)) → Off (At p) ws → Off (At p) (cond u ws [])
chosen_off p true ws h = h
chosen_off p false ws h = tt

elements_off : (p : Place) (z : Size) (ps : List Bool) (addrs xs : List ℕ) → Off (At p) (element_bytes z ps addrs xs)
elements_off p z (u ∷ ps) (a ∷ addrs) (x ∷ xs) =
    off-append (At p) (cond u (number_bytes x 0 (span_bytes a (byte_count z))) []) (element_bytes z ps addrs xs)
    (chosen_off p u (number_bytes x 0 (span_bytes a (byte_count z))) (numbers_off p x 0 (span_bytes a (byte_count z)))) (elements_off p z ps addrs xs)
elements_off p z ps addrs xs = tt

with_fits : (n a x : ℕ) (m : Bytes) (b : ℕ) → m b < 256 → with_number n a x m b < 256
with_fits n a x m b h = go (nat_le a b && nat_lt b (a + n))
  where
    go : (u : Bool) → cond u (byte_of x (b - a)) (m b) < 256
    go true = omega arith
    go false = h

pub replaced_fits : (t : ElementType) (a n : ℕ) (f : ℕ → ℕ) (m : Bytes) (b : ℕ) → m b < 256 → replaced t a n f m b < 256
replaced_fits t a zero f m b h = h
replaced_fits t a (suc n) f m b h = with_fits (bytes t) (a + bytes t * n) (f n) (replaced t a n f m) b (replaced_fits t a n f m b h)

module _ (t : ElementType) (v : View) (s : State) (h : Shows t v s) (q : ℕ) (room : q < 8) (within : IsWithin t v) where
  abbrev xs : List ℕ
  xs = list.lanes (size_of_type t) (register_at q s)

  abbrev ws : List (Cell × Value)
  ws = element_bytes (size_of_type t) (tails v.left 0 (lanes t)) (each_from (stands_at t v.scratch) 0 (lanes t)) xs

  abbrev after : State
  after = put_all cells ws s

  place_kept : (p : Place) → at p after ≡ at p s
  place_kept p = ap (λ (y : Value). y.n)
      (put_other ws (At p) s (elements_off p (size_of_type t) (tails v.left 0 (lanes t)) (each_from (stands_at t v.scratch) 0 (lanes t)) xs))

  register_stays : (p : ℕ) → register_at p after ≡ register_at p s
  register_stays p = λ j. bytes_of (place_kept (word_place p 0) j) ++ bytes_of (place_kept (word_place p 1) j) ++ bytes_of (place_kept (word_place p 2) j)
      ++ bytes_of (place_kept (word_place p 3) j)

  -- the bytes are those of the elements that are left
  stored_byte : (a : ℕ) → 0x20000000 ≤ a → a < 0x20040000 → (after.cell (Byte a)).n ≡ replaced t v.scratch (min v.left (lanes t)) (v.lane q) v.byte a
  stored_byte a low high =
      let g = λ (i : ℕ). get_or xs i 0 in
      let c = min v.left (lanes t) in
      let swapped : min (lanes t) v.left ≡ c = omega arith in
      let none : min 0 v.left ≡ 0 = omega arith in
      let begun : (s.cell (Byte a)).n ≡ replaced t v.scratch (min 0 v.left) g v.byte a = h.byte a low high
      ∙ ap (λ (k : ℕ). replaced t v.scratch k g v.byte a) (sym none) in
      let all : 0 + lanes t ≡ lanes t = omega arith in
      elements_put t v.scratch v.left (stands_at t v.scratch) g v.byte a (lanes t) 0 xs s (length_lanes t (register_at q s) refl)
      (λ i k. let e : i ≡ 0 + i = omega arith in ap g e)
      (λ i b d e. let p = inside_of t v.scratch v.left i within.aligned within.low within.high e (omega arith) in let top = p.high in (p.is, omega arith)) begun
      ∙ ap (λ (k : ℕ). replaced t v.scratch (min k v.left) g v.byte a) all
      ∙ ap (λ (k : ℕ). replaced t v.scratch k g v.byte a) swapped
      ∙ ap (λ (m : Bytes). m a) (replaced_same t v.scratch c g (v.lane q) v.byte (λ e k. h.lane q e room (omega arith)))

  stored_shows : Shows t (record v { byte = replaced t v.scratch (min v.left (lanes t)) (v.lane q) v.byte }) after
  stored_shows =
      let rest : after.rest ≡ s.rest = rest-put_all ws s in
      record {
        pc = pc-put_all ws s ∙ h.pc;
        offset = place_kept (R 4) ∙ h.offset;
        scratch = place_kept (R 5) ∙ h.scratch;
        length = place_kept (R 6) ∙ h.length;
        left = place_kept (R 14) ∙ h.left;
        size = place_kept Ltp ∙ h.size;
        size_fits = h.size_fits;
        mask01 = place_kept Mask01 ∙ h.mask01;
        mask23 = place_kept Mask23 ∙ h.mask23;
        slice = λ b k. subst (λ (y : ℕ). y < 16) (sym (place_kept (P0 b))) (h.slice b k);
        low = subst (λ y. y.fpscr_low < 2 ^ 16) (sym rest) h.low;
        block = ap (λ y. y.it) rest ∙ h.block;
        context = λ c. h.context (sym (ap (λ y. y.fpca) rest) ∙ c);
        lane = λ p e k l. ap (λ (y : List ℕ). get_or (list.lanes (size_of_type t) y) e 0) (register_stays p) ∙ h.lane p e k l;
        byte = stored_byte;
        fits = λ a k l. replaced_fits t v.scratch (min v.left (lanes t)) (v.lane q) v.byte a (h.fits a k l);
      }

pub store : (t : ElementType) (listing : Listing) (q : ℕ) (v : View) (s : State) → Shows t v s → Stands t listing v.pc (Plain (Store q))
    → (q < 8) × (v.size ≡ size_code t) × IsWithin t v → Reaches (program.alone listing) (Shows t) 1 s (exec t (Store q) v)
store t listing q v s h stands can =
    moved_row t listing true 0 q refl v (record v { byte = replaced t v.scratch (min v.left (lanes t)) (v.lane q) v.byte }) s h stands.instr stands.here
    stands.is can.1 can.2 (stored_shows t v s h q can.0 can.2)
