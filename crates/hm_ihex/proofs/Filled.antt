-- Cells that rising segments fill, and the runs of them.
use Rattle.std.proofs.Common.{◌≡◌, ℕ, zero, suc, ◌+◌, ◌-◌, ◌<◌, ◌≤◌, true, false, eqb, ltb, leb, List, [], ◌∷◌, ◌++◌, append_assoc, append-nil, length}
use Rattle.std.proofs.Common.{length-append, get_or, is_none, Option, Some, None, refl, sym, ap, subst, ◌∙◌, inl, inr, arith}
use Rattle.std.proofs.Math.Seq.{get_or-append_seam, set-append_seam}
use Rattle.std.proofs.lemmas.Bool.{and_from, cases_Bool, eq-eqb, lt-ltb, le-leb, lt-leb}
use Rattle.hm_base.specs.Image.{Segment, segment, flash_size, sram_start}
use Rattle.hm_ihex.specs.Cells.{Cells, is_free, no_cells, onto_runs, put_in, runs, with_data}
use Rattle.hm_ihex.specs.Written.{joined, joined_to}
use Rattle.hm_ihex.proofs.Runs.{runs_nil, runs_none}

-- a given cell for each byte
abbrev pub given : List ℕ → List (Option ℕ)
given [] = []
given (b ∷ bs) = Some b ∷ given bs

-- the cells from one address to another: those of rising segments, and between them such as are not given
abbrev pub spread : ℕ → List Segment → ℕ → List (Option ℕ)
spread p [] end = no_cells (end - p)
spread p (s ∷ ss) end = no_cells (s.addr - p) ++ (given s.bytes ++ spread (s.addr + length s.bytes) ss end)

-- segments that rise from one address to another, each of some kind
abbrev pub Rises : (Segment → Type 0) → ℕ → ℕ → List Segment → Type 0
Rises P p end [] = p ≤ end
Rises P p end (s ∷ ss) = (p ≤ s.addr) × P s × Rises P (s.addr + length s.bytes) end ss

pub rises_end : (P : Segment → Type 0) (p end : ℕ) (ss : List Segment) → Rises P p end ss → p ≤ end
rises_end P p end [] h = h
rises_end P p end (s ∷ ss) h =
    let later : s.addr + length s.bytes ≤ end = rises_end P (s.addr + length s.bytes) end ss h.2 in
    omega (arith, h.0)

abbrev pub cells : List (Option ℕ) → List (Option ℕ) → Cells
cells flash sram = record { flash = flash; sram = sram }

-- the data of segments, given in turn
abbrev pub Puts : Cells → List Segment → Cells → Type 0
Puts m [] all = m ≡ all
Puts m (s ∷ ss) all = (next : Cells) × (with_data s.addr s.bytes m ≡ Some next) × Puts next ss all

pub puts_append : (m mid all : Cells) (xs ys : List Segment) → Puts m xs mid → Puts mid ys all → Puts m (xs ++ ys) all
puts_append m mid all [] ys h more = subst (λ (c : Cells). Puts c ys all) (sym h) more
puts_append m mid all (x ∷ xs) ys h more = (h.0, h.1, puts_append h.0 mid all xs ys h.2 more)

no_cells_suc : (n : ℕ) → no_cells (suc n) ≡ None ∷ no_cells n
unfolding no_cells
no_cells_suc n = refl

no_cells_zero : no_cells 0 ≡ []
unfolding no_cells
no_cells_zero = refl

no_cells_add : (n m : ℕ) → no_cells (n + m) ≡ no_cells n ++ no_cells m
no_cells_add zero m = ap no_cells (let e : 0 + m ≡ m = omega arith in e) ∙ sym (ap (λ (x : List (Option ℕ)). x ++ no_cells m) no_cells_zero)
no_cells_add (suc n) m =
    ap no_cells (let e : suc n + m ≡ suc (n + m) = omega arith in e) ∙ no_cells_suc (n + m) ∙ ap (λ (x : List (Option ℕ)). None ∷ x) (no_cells_add n m)
    ∙ sym (ap (λ (x : List (Option ℕ)). x ++ no_cells m) (no_cells_suc n))

pub length_no_cells : (n : ℕ) → length (no_cells n) ≡ n
length_no_cells zero = ap length no_cells_zero
length_no_cells (suc n) = ap length (no_cells_suc n) ∙ ap (λ (k : ℕ). suc k) (length_no_cells n)

-- one byte, where the cell behind others is not given
put_one : (xs more : List (Option ℕ)) (b : ℕ) (bs : List ℕ) → put_in (length xs) (b ∷ bs) (xs ++ None ∷ more) ≡ put_in (length xs + 1) bs (xs ++ Some b ∷ more)
unfolding put_in
put_one xs more b bs =
    let count : length (xs ++ None ∷ more) ≡ length xs + length (None ∷ more) = length-append xs (None ∷ more) in
    let free : is_free (length xs) (xs ++ None ∷ more) ≡ true
    = and_from (ltb (length xs) (length (xs ++ None ∷ more))) (is_none (get_or (xs ++ None ∷ more) (length xs) None))
    (lt-ltb (length xs) (length (xs ++ None ∷ more)) (omega arith)) (ap is_none (get_or-append_seam xs None more None)) in
    rw (free, set-append_seam xs None more (Some b)) refl

pub put_none : (k : ℕ) (xs : List (Option ℕ)) → put_in k [] xs ≡ Some xs
unfolding put_in
put_none k xs = refl

put_next : (xs : List (Option ℕ)) (n a : ℕ) (bytes : List ℕ) → a ≡ length xs
    → put_in a bytes (xs ++ no_cells (length bytes + n)) ≡ Some ((xs ++ given bytes) ++ no_cells n)
put_next xs n a [] is =
    put_none a (xs ++ no_cells (0 + n)) ∙ ap (λ (k : ℕ). Some (xs ++ no_cells k)) (let e : 0 + n ≡ n = omega arith in e)
    ∙ ap (λ (ys : List (Option ℕ)). Some (ys ++ no_cells n)) (sym (append-nil xs))
put_next xs n a (b ∷ bs) is =
    let count : length (b ∷ bs) + n ≡ suc (length bs + n) = omega arith in
    let next : length xs + 1 ≡ length (xs ++ Some b ∷ []) = sym (length-append xs (Some b ∷ [])) in
    ap (λ (k : ℕ). put_in a (b ∷ bs) (xs ++ no_cells k)) count ∙ ap (λ (ys : List (Option ℕ)). put_in a (b ∷ bs) (xs ++ ys)) (no_cells_suc (length bs + n))
    ∙ ap (λ (k : ℕ). put_in k (b ∷ bs) (xs ++ None ∷ no_cells (length bs + n))) is
    ∙ put_one xs (no_cells (length bs + n)) b bs
    ∙ ap (λ (ys : List (Option ℕ)). put_in (length xs + 1) bs ys) (sym (append_assoc xs (Some b ∷ []) (no_cells (length bs + n))))
    ∙ put_next (xs ++ Some b ∷ []) n (length xs + 1) bs next
    ∙ ap (λ (ys : List (Option ℕ)). Some (ys ++ no_cells n)) (append_assoc xs (Some b ∷ []) (given bs))

-- the cells up to a segment's end, behind others that end at p
abbrev filled : List (Option ℕ) → ℕ → Segment → List (Option ℕ)
filled xs p s = (xs ++ no_cells (s.addr - p)) ++ given s.bytes

put_segment : (xs : List (Option ℕ)) (start at p end : ℕ) (s : Segment) → p ≡ start + length xs → start + at ≡ s.addr → p ≤ s.addr
    → s.addr + length s.bytes ≤ end
    → put_in at s.bytes (xs ++ no_cells (end - p)) ≡ Some (filled xs p s ++ no_cells (end - (s.addr + length s.bytes)))
put_segment xs start at p end s is from low high =
    let gap = s.addr - p in
    let n = end - (s.addr + length s.bytes) in
    let count : end - p ≡ (s.addr - p) + (length s.bytes + (end - (s.addr + length s.bytes))) = omega arith in
    let wide : length (xs ++ no_cells gap) ≡ length xs + length (no_cells gap) = length-append xs (no_cells gap) in
    let none : length (no_cells gap) ≡ s.addr - p = length_no_cells gap in
    ap (λ (k : ℕ). put_in at s.bytes (xs ++ no_cells k)) count
    ∙ ap (λ (ys : List (Option ℕ)). put_in at s.bytes (xs ++ ys)) (no_cells_add gap (length s.bytes + n))
    ∙ ap (put_in at s.bytes) (sym (append_assoc xs (no_cells gap) (no_cells (length s.bytes + n))))
    ∙ put_next (xs ++ no_cells gap) n at s.bytes (omega arith)

regrouped : (xs : List (Option ℕ)) (p : ℕ) (s : Segment) (more : List (Option ℕ))
    → filled xs p s ++ more ≡ xs ++ (no_cells (s.addr - p) ++ (given s.bytes ++ more))
regrouped xs p s more = append_assoc (xs ++ no_cells (s.addr - p)) (given s.bytes) more ∙ append_assoc xs (no_cells (s.addr - p)) (given s.bytes ++ more)

length_given : (bytes : List ℕ) → length (given bytes) ≡ length bytes
length_given [] = refl
length_given (b ∷ bs) = ap (λ (k : ℕ). suc k) (length_given bs)

ends_at : (xs : List (Option ℕ)) (start p : ℕ) (s : Segment) → p ≡ start + length xs → p ≤ s.addr → s.addr + length s.bytes ≡ start + length (filled xs p s)
ends_at xs start p s is low =
    let gap = s.addr - p in
    let whole : length (filled xs p s) ≡ length (xs ++ no_cells gap) + length (given s.bytes) = length-append (xs ++ no_cells gap) (given s.bytes) in
    let wide : length (xs ++ no_cells gap) ≡ length xs + length (no_cells gap) = length-append xs (no_cells gap) in
    let none : length (no_cells gap) ≡ s.addr - p = length_no_cells gap in
    let some : length (given s.bytes) ≡ length s.bytes = length_given s.bytes in
    omega arith

-- rising segments fill the cells of flash
pub puts_flash : (P : Segment → Type 0) (xs sram : List (Option ℕ)) (p end : ℕ) (ss : List Segment) → end ≤ flash_size → p ≡ 0 + length xs → Rises P p end ss
    → Puts (cells (xs ++ no_cells (end - p)) sram) ss (cells (xs ++ spread p ss end) sram)
puts_flash P xs sram p end [] few is h = refl
puts_flash P xs sram p end (s ∷ ss) few is h =
    let q = s.addr + length s.bytes in
    let high : s.addr + length s.bytes ≤ end = rises_end P q end ss h.2 in
    let put = put_segment xs 0 s.addr p end s is (omega arith) h.0 high in
    let test : leb sram_start s.addr ≡ false = lt-leb sram_start s.addr (omega arith) in
    let next = cells (filled xs p s ++ no_cells (end - q)) sram in
    let one : with_data s.addr s.bytes (cells (xs ++ no_cells (end - p)) sram) ≡ Some next = rw (test, put) refl in (
      next,
      one,
      subst (λ (f : List (Option ℕ)). Puts next ss (cells f sram)) (regrouped xs p s (spread q ss end))
          (puts_flash P (filled xs p s) sram q end ss few (ends_at xs 0 p s is h.0) h.2),
    )

-- and those of SRAM
pub puts_sram : (P : Segment → Type 0) (xs flash : List (Option ℕ)) (p end : ℕ) (ss : List Segment) → p ≡ sram_start + length xs → Rises P p end ss
    → Puts (cells flash (xs ++ no_cells (end - p))) ss (cells flash (xs ++ spread p ss end))
puts_sram P xs flash p end [] is h = refl
puts_sram P xs flash p end (s ∷ ss) is h =
    let q = s.addr + length s.bytes in
    let high : s.addr + length s.bytes ≤ end = rises_end P q end ss h.2 in
    let put = put_segment xs sram_start (s.addr - sram_start) p end s is (omega (arith, h.0)) h.0 high in
    let test : leb sram_start s.addr ≡ true = le-leb sram_start s.addr (omega (arith, h.0)) in
    let next = cells flash (filled xs p s ++ no_cells (end - q)) in
    let one : with_data s.addr s.bytes (cells flash (xs ++ no_cells (end - p))) ≡ Some next = rw (test, put) refl in (
      next,
      one,
      subst (λ (f : List (Option ℕ)). Puts next ss (cells flash f)) (regrouped xs p s (spread q ss end))
          (puts_sram P (filled xs p s) flash q end ss (ends_at xs sram_start p s is h.0) h.2),
    )

-- ---- the runs of such cells

-- a segment in front of one that it touches
pub fuse : (a b : ℕ) (xs ys : List ℕ) (r : List Segment) → b ≡ a + length xs
    → joined_to (segment a xs) (joined_to (segment b ys) r) ≡ joined_to (segment a (xs ++ ys)) r
fuse a b xs ys [] is = rw (eq-eqb b (a + length xs) is) refl
fuse a b xs ys (t ∷ ts) is =
    let count : length (xs ++ ys) ≡ length xs + length ys = length-append xs ys in
    let end : a + length (xs ++ ys) ≡ b + length ys = omega arith in
    let touch : eqb b (a + length xs) ≡ true = eq-eqb b (a + length xs) is in
    elim (cases_Bool (eqb t.addr (b + length ys))) [
      | inl e ↦ rw (end, e, touch) (ap (λ (bs : List ℕ). segment a bs ∷ ts) (sym (append_assoc xs ys t.bytes)))
      | inr e ↦ rw (end, e, touch) refl
    ]

runs_gap : (n a : ℕ) (cs : List (Option ℕ)) → runs a (no_cells n ++ cs) ≡ runs (a + n) cs
runs_gap zero a cs = ap (λ (x : List (Option ℕ)). runs a (x ++ cs)) no_cells_zero ∙ ap (λ (k : ℕ). runs k cs) (let e : a ≡ a + 0 = omega arith in e)
runs_gap (suc n) a cs =
    ap (λ (x : List (Option ℕ)). runs a (x ++ cs)) (no_cells_suc n) ∙ runs_none a (no_cells n ++ cs) ∙ runs_gap n (a + 1) cs
    ∙ ap (λ (k : ℕ). runs k cs) (let e : a + 1 + n ≡ a + suc n = omega arith in e)

runs_empty : (n a : ℕ) → runs a (no_cells n) ≡ []
runs_empty n a = ap (runs a) (sym (append-nil (no_cells n))) ∙ runs_gap n a [] ∙ runs_nil (a + n)

runs_one : (a b : ℕ) (cs : List (Option ℕ)) → runs a (Some b ∷ cs) ≡ onto_runs a (Some b) (runs (a + 1) cs)
unfolding runs
runs_one a b cs = refl

onto_one : (a b : ℕ) (ss : List Segment) → onto_runs a (Some b) ss ≡ joined_to (segment a (b ∷ [])) ss
onto_one a b [] = refl
onto_one a b (s ∷ ss) = refl

runs_given : (a : ℕ) (bytes : List ℕ) (cs : List (Option ℕ)) → 0 < length bytes
    → runs a (given bytes ++ cs) ≡ joined_to (segment a bytes) (runs (a + length bytes) cs)
runs_given a [] cs some = absurd (omega arith)
runs_given a (b ∷ []) cs some = runs_one a b cs ∙ onto_one a b (runs (a + 1) cs)
runs_given a (b ∷ c ∷ bs) cs some =
    runs_one a b (given (c ∷ bs) ++ cs) ∙ ap (onto_runs a (Some b)) (runs_given (a + 1) (c ∷ bs) cs (omega arith))
    ∙ onto_one a b (joined_to (segment (a + 1) (c ∷ bs)) (runs (a + 1 + length (c ∷ bs)) cs))
    ∙ fuse a (a + 1) (b ∷ []) (c ∷ bs) (runs (a + 1 + length (c ∷ bs)) cs) refl
    ∙ ap (λ (k : ℕ). joined_to (segment a (b ∷ c ∷ bs)) (runs k cs)) (let e : a + 1 + length (c ∷ bs) ≡ a + length (b ∷ c ∷ bs) = omega arith in e)

-- the runs of what rising segments fill are the segments, those that touch made one
pub runs_spread : (P : Segment → Type 0) (p end : ℕ) (ss : List Segment) → ((s : Segment) → P s → 0 < length s.bytes) → Rises P p end ss
    → runs p (spread p ss end) ≡ joined ss
runs_spread P p end [] some h = runs_empty (end - p) p
runs_spread P p end (s ∷ ss) some h =
    let q = s.addr + length s.bytes in
    runs_gap (s.addr - p) p (given s.bytes ++ spread q ss end)
    ∙ ap (λ (k : ℕ). runs k (given s.bytes ++ spread q ss end)) (let e : p + (s.addr - p) ≡ s.addr = omega (arith, h.0) in e)
    ∙ runs_given s.addr s.bytes (spread q ss end) (some s h.1)
    ∙ ap (joined_to s) (runs_spread P q end ss some h.2)
