-- Runs of given cells, from the front.
use Rattle.std.proofs.Common.{◌≡◌, ◌⊎◌, ℕ, suc, ◌+◌, ◌-◌, ◌<◌, ◌≤◌, eqb, true, false, cond, List, [], ◌∷◌, ◌++◌, All, append_assoc, subst, drop, length, get_or}
use Rattle.std.proofs.Common.{is_none, Option, Some, None, refl, sym, ap, ◌∙◌, inl, inr, arith, drop-drop, length-drop}
use Rattle.std.proofs.lemmas.Bool.{ne_eqb, eq-eqb}
use Rattle.std.proofs.lemmas.List.{drop_more}
use Rattle.std.proofs.lemmas.List.Elements.{All-push, All-weaker}
use Rattle.hm_base.specs.Image.{IsPlaced, Segment, flash_size, segment, sram_size, sram_start}
use Rattle.hm_ihex.specs.Cells.{front_of, onto_runs, runs}

-- all segments begin at an address or behind it
abbrev pub From : ℕ → List Segment → Type 0
From a [] = Unit {0}
From a (s ∷ ss) = (a ≤ s.addr) × From a ss

from_later : (a b : ℕ) (ss : List Segment) → a ≤ b → From b ss → From a ss
from_later a b [] le h = tt
from_later a b (s ∷ ss) le h = (omega (arith, h.0), from_later a b ss le h.1)

onto_from : (a : ℕ) (c : Option ℕ) (ss : List Segment) → From (a + 1) ss → From a (onto_runs a c ss)
onto_from a None ss h = from_later a (a + 1) ss (omega arith) h
onto_from a (Some b) [] h = (omega arith, tt)
onto_from a (Some b) (s ∷ ss) h = elim (eqb s.addr (a + 1)) as (λ t. From a (cond t (segment a (b ∷ s.bytes) ∷ ss) (segment a (b ∷ []) ∷ s ∷ ss))) [
  | true ↦ (omega arith, from_later a (a + 1) ss (omega arith) h.1)
  | false ↦ (omega arith, from_later a (a + 1) (s ∷ ss) (omega arith) h)
]

pub runs_from : (a : ℕ) (cs : List (Option ℕ)) → From a (runs a cs)
unfolding runs
runs_from a [] = tt
runs_from a (c ∷ cs) = onto_from a c (runs (a + 1) cs) (runs_from (a + 1) cs)

-- a byte in front of a run that begins right behind it, or of none that does
onto_next : (a b : ℕ) (bs : List ℕ) (ss : List Segment) → onto_runs a (Some b) (segment (a + 1) bs ∷ ss) ≡ segment a (b ∷ bs) ∷ ss
onto_next a b bs ss = rw (eq-eqb (a + 1) (a + 1) refl) refl

onto_far : (a b : ℕ) (ss : List Segment) → From (a + 2) ss → onto_runs a (Some b) ss ≡ segment a (b ∷ []) ∷ ss
onto_far a b [] h = refl
onto_far a b (s ∷ ss) h = rw (ne_eqb s.addr (a + 1) (omega (arith, h.0))) refl

-- THE RUN IN FRONT is the given cells in front, and the other runs are those behind it
pub runs_front : (a b : ℕ) (cs : List (Option ℕ))
    → runs a (Some b ∷ cs) ≡ segment a (b ∷ front_of cs) ∷ runs (a + 1 + length (front_of cs)) (drop (length (front_of cs)) cs)
unfolding runs front_of
runs_front a b [] = refl
runs_front a b (None ∷ cs) =
    onto_far a b (runs (a + 1 + 1) cs) (from_later (a + 2) (a + 1 + 1) (runs (a + 1 + 1) cs) (omega arith) (runs_from (a + 1 + 1) cs))
    ∙ ap (λ (k : ℕ). segment a (b ∷ []) ∷ runs k cs) (omega arith)
runs_front a b (Some c ∷ cs) =
    let sum : a + 1 + 1 + length (front_of cs) ≡ a + 1 + suc (length (front_of cs)) = omega arith in
    ap (onto_runs a (Some b)) (runs_front (a + 1) c cs)
    ∙ onto_next a b (c ∷ front_of cs) (runs (a + 1 + 1 + length (front_of cs)) (drop (length (front_of cs)) cs))
    ∙ ap (λ (k : ℕ). segment a (b ∷ c ∷ front_of cs) ∷ runs k (drop (length (front_of cs)) cs)) sum

-- a cell that is not given begins no run
pub runs_none : (a : ℕ) (cs : List (Option ℕ)) → runs a (None ∷ cs) ≡ runs (a + 1) cs
unfolding runs
runs_none a cs = refl

pub runs_nil : (a : ℕ) → runs a [] ≡ []
unfolding runs
runs_nil a = refl

front_short : (cs : List (Option ℕ)) → length (front_of cs) ≤ length cs
unfolding front_of
front_short [] = omega arith
front_short (None ∷ cs) = omega arith
front_short (Some b ∷ cs) = omega (arith, front_short cs)

-- ---- at cell k of cells that begin at an address

pub runs_skip : (s k : ℕ) (cells : List (Option ℕ)) → k < length cells → is_none (get_or cells k None) ≡ true
    → runs (s + k) (drop k cells) ≡ runs (s + (k + 1)) (drop (k + 1) cells)
runs_skip s k cells lt none = ap (runs (s + k)) (drop_more cells k None lt) ∙ at (get_or cells k None) none where
  at : (c : Option ℕ) → is_none c ≡ true → runs (s + k) (c ∷ drop (k + 1) cells) ≡ runs (s + (k + 1)) (drop (k + 1) cells)
  at None is = runs_none (s + k) (drop (k + 1) cells) ∙ ap (λ (a : ℕ). runs a (drop (k + 1) cells)) (omega arith)
  at (Some b) is = absurd cc

-- a run is the given cells in front, which are some and are there, and the other runs are those behind it
pub record RunAt (s k : ℕ) (cells : List (Option ℕ)) : Type 0 where
  pub some : 0 < length (front_of (drop k cells))
  pub within : k + length (front_of (drop k cells)) ≤ length cells
  pub first : runs (s + k) (drop k cells)
      ≡ segment (s + k) (front_of (drop k cells)) ∷ runs (s + (k + length (front_of (drop k cells)))) (drop (k + length (front_of (drop k cells))) cells)

run_of : (s k b : ℕ) (cells more : List (Option ℕ)) → drop k cells ≡ Some b ∷ more → RunAt s k cells
unfolding front_of
run_of s k b cells more is =
    let n = length (front_of more) in
    let front : front_of (drop k cells) ≡ b ∷ front_of more = ap front_of is in
    let count : length (front_of (drop k cells)) ≡ suc n = ap length front in
    let whole : length (drop k cells) ≡ suc (length more) = ap length is in
    let left : length (drop k cells) ≡ length cells - k = length-drop k cells in
    let short : n ≤ length more = front_short more in
    let rest : drop n more ≡ drop (k + suc n) cells = sym (ap (λ (cs : List (Option ℕ)). drop (suc n) cs) is) ∙ drop-drop (suc n) k cells in
    let far : s + k + 1 + n ≡ s + (k + suc n) = omega arith in
    record {
      some = omega arith;
      within = omega arith;
      first = ap (runs (s + k)) is ∙ runs_front (s + k) b more
          ∙ (λ i. segment (s + k) (sym front i) ∷ runs (far i) (rest i))
          ∙ ap (λ (j : ℕ). segment (s + k) (front_of (drop k cells)) ∷ runs (s + (k + j)) (drop (k + j) cells)) (sym count);
    }

pub run_at : (s k : ℕ) (cells : List (Option ℕ)) → k < length cells → is_none (get_or cells k None) ≡ false → RunAt s k cells
run_at s k cells lt some = at (get_or cells k None) some (drop_more cells k None lt) where
  at : (c : Option ℕ) → is_none c ≡ false → drop k cells ≡ c ∷ drop (k + 1) cells → RunAt s k cells
  at None is whole = absurd cc
  at (Some b) is whole = run_of s k b cells (drop (k + 1) cells) whole

-- a segment of an area is placed
pub in_area : (start a n end : ℕ) (bytes : List ℕ) → (end ≤ flash_size) ⊎ ((sram_start ≤ start) × (end ≤ sram_start + sram_size)) → start ≤ a → a + n ≤ end
    → length bytes ≡ n → 0 < n → IsPlaced (segment a bytes)
in_area start a n end bytes (inl h) from le len some = (omega arith, inl (omega arith))
in_area start a n end bytes (inr h) from le len some = (omega arith, inr (omega (arith, h.0), omega (arith, h.1)))

-- what holds of an image at a cell holds behind the run that was added to it
pub record At (s at : ℕ) (cells : List (Option ℕ)) (image all : List Segment) : Type 0 where
  pub within : at ≤ length cells
  pub added : image ++ runs (s + at) (drop at cells) ≡ all
  pub behind : All (λ t. t.addr + length t.bytes ≤ s + at) image

pub at_next : (s at n m : ℕ) (cells : List (Option ℕ)) (image next all : List Segment) (bytes : List ℕ) → m ≡ n → next ≡ image ++ segment (s + at) bytes ∷ []
    → length bytes ≡ n → at + n ≤ length cells
    → runs (s + at) (drop at cells) ≡ segment (s + at) bytes ∷ runs (s + (at + n)) (drop (at + n) cells) → At s at cells image all
    → At s (at + m) cells next all
at_next s at n m cells image next all bytes same is len le first h =
    subst (λ (j : ℕ). At s (at + j) cells next all) (sym same) (subst (λ (i : List Segment). At s (at + n) cells i all) (sym is) (record {
      within = le;
      added = append_assoc image (segment (s + at) bytes ∷ []) (runs (s + (at + n)) (drop (at + n) cells)) ∙ ap (λ (ss : List Segment). image ++ ss) (sym first)
          ∙ h.added;
      behind = All-push (λ (t : Segment). t.addr + length t.bytes ≤ s + (at + n)) image (segment (s + at) bytes)
          (All-weaker (λ (t : Segment). t.addr + length t.bytes ≤ s + at) (λ (t : Segment). t.addr + length t.bytes ≤ s + (at + n)) (λ t b. omega arith) image
          h.behind) (omega arith);
    }))
