-- The runs of cells are the longest runs of their bytes, and there is one image of such runs.
use Rattle.std.proofs.Common.{◌≡◌, ◌⊎◌, ℕ, suc, ◌+◌, ◌-◌, ◌<◌, ◌≤◌, true, false, eqb, leb, ltb, cond, List, [], ◌∷◌, ◌++◌, All, get_or, length, Option, Some}
use Rattle.std.proofs.Common.{None, refl, sym, ap, subst, ◌∙◌, inl, inr, arith}
use Rattle.std.specs.List.{AllByRecursion}
use Rattle.std.proofs.lemmas.Bool.{and_parts, cases_Bool, eqb-true, ltb-true, eqb-false, ne_eqb}
use Rattle.std.proofs.lemmas.List.{ext_get_or}
use Rattle.std.proofs.lemmas.List.Elements.{All-cons, All-head, All-nil, All-tail, All-weaker}
use Rattle.hm_base.specs.Image.{Before, IsImage, IsPlaced, Segment, covers, flash_size, segment, sram_size, sram_start}
use Rattle.hm_ihex.specs.Cells.{Cells, image_of, onto_runs, runs}
use Rattle.hm_ihex.specs.HexFile.{AreParted}
use Rattle.hm_ihex.specs.Written.{joined, joined_to}
use Rattle.hm_ihex.proofs.Runs.{From, runs_from, runs_nil}
use Rattle.hm_ihex.proofs.SameBytes.{early, late, place}
use Rattle.hm_ihex.proofs.Holding.{Holds, byte_at, byte_behind, byte_front, byte_here, byte_past, some_none}

-- ---- the bytes of runs

-- the cell at an address, of cells that begin at one
abbrev cell : ℕ → List (Option ℕ) → ℕ → Option ℕ
cell p [] a = None
cell p (c ∷ cs) a = cond (eqb a p) c (cell (p + 1) cs a)

-- no byte in front of the first segment
from_none : (p a : ℕ) (ss : List Segment) → a < p → From p ss → byte_at ss a ≡ None
from_none p a [] lt h = refl
from_none p a (s ∷ ss) lt h = byte_past s ss a (early s a (omega (arith, h.0))) ∙ from_none p a ss lt h.1

-- a byte in front of runs
first_is : (p a b : ℕ) (bs : List ℕ) (ss : List Segment) → a ≡ p → byte_at (segment p (b ∷ bs) ∷ ss) a ≡ Some b
first_is p a b bs ss is =
    let at : a - p ≡ 0 = omega arith in
    byte_here (segment p (b ∷ bs)) ss a (omega arith) (omega arith) ∙ ap (λ (k : ℕ). Some (get_or (b ∷ bs) k 0)) at

onto_here : (p a b : ℕ) (ss : List Segment) → a ≡ p → byte_at (onto_runs p (Some b) ss) a ≡ Some b
onto_here p a b [] is = first_is p a b [] [] is
onto_here p a b (s ∷ ss) is = elim (eqb s.addr (p + 1)) as (λ t. byte_at (cond t (segment p (b ∷ s.bytes) ∷ ss) (segment p (b ∷ []) ∷ s ∷ ss)) a ≡ Some b) [
  | true ↦ first_is p a b s.bytes ss is
  | false ↦ first_is p a b [] (s ∷ ss) is
]

side : (p a : ℕ) → (a ≡ p → ⊥) → (a < p) ⊎ (p + 1 ≤ a)
side p a ne = grind arith

one_past : (p a b : ℕ) (ss : List Segment) → (a ≡ p → ⊥) → byte_at (segment p (b ∷ []) ∷ ss) a ≡ byte_at ss a
one_past p a b ss ne = elim (side p a ne) [
  | inl low ↦ byte_past (segment p (b ∷ [])) ss a (early (segment p (b ∷ [])) a low)
  | inr high ↦ byte_past (segment p (b ∷ [])) ss a (late (segment p (b ∷ [])) a high)
]

-- a byte in front of a segment that begins right behind it
grown : (p a b : ℕ) (s : Segment) (ss : List Segment) → (a ≡ p → ⊥) → s.addr ≡ p + 1 → byte_at (segment p (b ∷ s.bytes) ∷ ss) a ≡ byte_at (s ∷ ss) a
grown p a b s ss ne is = elim (place s a) [
  | inl less ↦ byte_past (segment p (b ∷ s.bytes)) ss a (early (segment p (b ∷ s.bytes)) a (below less)) ∙ sym (byte_past s ss a (early s a less))
  | inr (inl mid) ↦
      let low : s.addr ≤ a = mid.0 in
      let high : a < s.addr + length s.bytes = mid.1 in
      let at : a - p ≡ suc (a - s.addr) = omega arith in
      byte_here (segment p (b ∷ s.bytes)) ss a (omega arith) (omega arith) ∙ ap (λ (k : ℕ). Some (get_or (b ∷ s.bytes) k 0)) at
      ∙ sym (byte_here s ss a low high)
  | inr (inr past) ↦ byte_past (segment p (b ∷ s.bytes)) ss a (late (segment p (b ∷ s.bytes)) a (omega arith)) ∙ sym (byte_past s ss a (late s a past))
] where
  below : a < s.addr → a < p
  below less = elim (side p a ne) [ inl low ↦ low | inr high ↦ absurd (omega arith) ]

onto_other : (p a b : ℕ) (ss : List Segment) → (a ≡ p → ⊥) → byte_at (onto_runs p (Some b) ss) a ≡ byte_at ss a
onto_other p a b [] ne = one_past p a b [] ne
onto_other p a b (s ∷ ss) ne = elim (cases_Bool (eqb s.addr (p + 1))) [
  | inl e ↦ rw e (grown p a b s ss ne (eqb-true s.addr (p + 1) e))
  | inr e ↦ rw e (one_past p a b (s ∷ ss) ne)
]

runs_step : (p : ℕ) (c : Option ℕ) (cs : List (Option ℕ)) → runs p (c ∷ cs) ≡ onto_runs p c (runs (p + 1) cs)
unfolding runs
runs_step p c cs = refl

runs_byte : (p a : ℕ) (cs : List (Option ℕ)) → byte_at (runs p cs) a ≡ cell p cs a
runs_byte p a [] = ap (λ (ss : List Segment). byte_at ss a) (runs_nil p)
runs_byte p a (None ∷ cs) =
    ap (λ (ss : List Segment). byte_at ss a) (runs_step p None cs)
    ∙ (elim (cases_Bool (eqb a p)) [
      | inl e ↦ rw e (from_none (p + 1) a (runs (p + 1) cs) (omega (arith, eqb-true a p e)) (runs_from (p + 1) cs))
      | inr e ↦ rw e (runs_byte (p + 1) a cs)
    ])
runs_byte p a (Some b ∷ cs) =
    ap (λ (ss : List Segment). byte_at ss a) (runs_step p (Some b) cs)
    ∙ (elim (cases_Bool (eqb a p)) [
      | inl e ↦ rw e (onto_here p a b (runs (p + 1) cs) (eqb-true a p e))
      | inr e ↦ rw e (onto_other p a b (runs (p + 1) cs) (eqb-false a p e) ∙ runs_byte (p + 1) a cs)
    ])

cell_at : (p a : ℕ) (cs : List (Option ℕ)) → p ≤ a → a < p + length cs → cell p cs a ≡ get_or cs (a - p) None
cell_at p a [] low high = absurd (omega arith)
cell_at p a (c ∷ cs) low high = elim (cases_Bool (eqb a p)) [
  | inl e ↦
      let is = eqb-true a p e in
      let at : a - p ≡ 0 = omega arith in
      rw e (ap (λ (k : ℕ). get_or (c ∷ cs) k None) (sym at))
  | inr e ↦
      let more : p + 1 ≤ a = later (side p a (eqb-false a p e)) in
      let at : a - p ≡ suc (a - (p + 1)) = omega arith in
      rw e (cell_at (p + 1) a cs more (omega arith) ∙ ap (λ (k : ℕ). get_or (c ∷ cs) k None) (sym at))
] where
  later : (a < p) ⊎ (p + 1 ≤ a) → p + 1 ≤ a
  later (inl less) = absurd (omega arith)
  later (inr more) = more

cell_out : (p a : ℕ) (cs : List (Option ℕ)) → (a < p) ⊎ (p + length cs ≤ a) → cell p cs a ≡ None
cell_out p a [] out = refl
cell_out p a (c ∷ cs) out = rw (ne_eqb a p (λ e. clash e out)) (cell_out (p + 1) a cs (next out)) where
  clash : a ≡ p → (a < p) ⊎ (p + suc (length cs) ≤ a) → ⊥
  clash e (inl low) = omega arith
  clash e (inr high) = omega arith

  next : (a < p) ⊎ (p + suc (length cs) ≤ a) → (a < p + 1) ⊎ (p + 1 + length cs ≤ a)
  next (inl low) = inl (omega arith)
  next (inr high) = inr (omega arith)

-- ---- runs lie apart

-- segments with a byte that rise to an end, an address between each and the next
abbrev Strung : ℕ → ℕ → List Segment → Type 0
Strung p end [] = p ≤ end + 1
Strung p end (s ∷ ss) = (p ≤ s.addr) × (0 < length s.bytes) × Strung (s.addr + length s.bytes + 1) end ss

strung_later : (p q end : ℕ) (ss : List Segment) → p ≤ q → Strung q end ss → Strung p end ss
strung_later p q end [] le h = omega arith
strung_later p q end (s ∷ ss) le h = (omega (arith, h.0), h.1, h.2)

strung_end : (p end : ℕ) (ss : List Segment) → Strung p end ss → p ≤ end + 1
strung_end p end [] h = h
strung_end p end (s ∷ ss) h = omega (arith, h.0, strung_end (s.addr + length s.bytes + 1) end ss h.2)

onto_strung : (p end : ℕ) (c : Option ℕ) (ss : List Segment) → p < end → Strung (p + 1) end ss → Strung p end (onto_runs p c ss)
onto_strung p end None ss lt h = strung_later p (p + 1) end ss (omega arith) h
onto_strung p end (Some b) [] lt h = (omega arith, (omega arith), omega arith)
onto_strung p end (Some b) (s ∷ ss) lt h = elim (cases_Bool (eqb s.addr (p + 1))) [
  | inl e ↦
      let is = eqb-true s.addr (p + 1) e in
      let same : s.addr + length s.bytes + 1 ≡ p + suc (length s.bytes) + 1 = omega arith in
      rw e (omega arith, (omega arith), subst (λ (k : ℕ). Strung k end ss) same h.2)
  | inr e ↦ rw e (omega arith, (omega arith), next (side (p + 1) s.addr (eqb-false s.addr (p + 1) e)))
] where
  next : (s.addr < p + 1) ⊎ (p + 1 + 1 ≤ s.addr) → Strung (p + 1 + 1) end (s ∷ ss)
  next (inl low) = absurd (omega (arith, h.0))
  next (inr high) = (high, h.1, h.2)

runs_strung : (p end : ℕ) (cs : List (Option ℕ)) → p + length cs ≤ end → Strung p end (runs p cs)
runs_strung p end [] le = subst (Strung p end) (sym (runs_nil p)) (omega arith)
runs_strung p end (c ∷ cs) le =
    subst (Strung p end) (sym (runs_step p c cs)) (onto_strung p end c (runs (p + 1) cs) (omega arith) (runs_strung (p + 1) end cs (omega arith)))

strung_both : (p end q last : ℕ) (xs ys : List Segment) → Strung p end xs → end + 1 ≤ q → Strung q last ys → Strung p last (xs ++ ys)
strung_both p end q last [] ys h le more = strung_later p q last ys (omega arith) more
strung_both p end q last (x ∷ xs) ys h le more = (h.0, h.1, strung_both (x.addr + length x.bytes + 1) end q last xs ys h.2 le more)

strung_far : (p q end : ℕ) (ss : List Segment) → p ≤ q → Strung q end ss → All (λ t. p ≤ t.addr) ss
strung_far p q end [] le h = All-nil (λ (t : Segment). p ≤ t.addr)
strung_far p q end (s ∷ ss) le h =
    All-cons (λ (t : Segment). p ≤ t.addr) s ss (omega (arith, h.0)) (strung_far p (s.addr + length s.bytes + 1) end ss (omega (arith, h.0)) h.2)

strung_parted : (p end : ℕ) (ss : List Segment) → Strung p end ss → AreParted ss
strung_parted p end [] h = tt
strung_parted p end (s ∷ ss) h = (
  All-weaker (λ (t : Segment). s.addr + length s.bytes + 1 ≤ t.addr) (λ (t : Segment). s.addr + length s.bytes < t.addr) (λ t far. omega arith) ss
      (strung_far (s.addr + length s.bytes + 1) (s.addr + length s.bytes + 1) end ss (omega arith) h.2),
  strung_parted (s.addr + length s.bytes + 1) end ss h.2,
)

strung_image : (p end : ℕ) (ss : List Segment) → Strung p end ss → AllByRecursion IsPlaced ss → IsImage ss
strung_image p end [] h all = tt
strung_image p end (s ∷ ss) h all = (
  all.0,
  All-weaker (λ (t : Segment). s.addr + length s.bytes + 1 ≤ t.addr) (Before s) (λ t far. omega arith) ss
      (strung_far (s.addr + length s.bytes + 1) (s.addr + length s.bytes + 1) end ss (omega arith) h.2),
  strung_image (s.addr + length s.bytes + 1) end ss h.2 all.1,
)

in_flash : (p : ℕ) (ss : List Segment) → Strung p flash_size ss → AllByRecursion IsPlaced ss
in_flash p [] h = tt
in_flash p (s ∷ ss) h =
    let end = strung_end (s.addr + length s.bytes + 1) flash_size ss h.2 in
    ((h.1, inl (omega arith)), in_flash (s.addr + length s.bytes + 1) ss h.2)

in_sram_too : (p : ℕ) (ss : List Segment) → sram_start ≤ p → Strung p (sram_start + sram_size) ss → AllByRecursion IsPlaced ss
in_sram_too p [] low h = tt
in_sram_too p (s ∷ ss) low h =
    let end = strung_end (s.addr + length s.bytes + 1) (sram_start + sram_size) ss h.2 in
    let from = h.0 in
    ((h.1, inr (omega arith, omega arith)), in_sram_too (s.addr + length s.bytes + 1) ss (omega arith) h.2)

pub all_both : (P : Segment → Type 0) (xs ys : List Segment) → AllByRecursion P xs → AllByRecursion P ys → AllByRecursion P (xs ++ ys)
all_both P [] ys h more = more
all_both P (x ∷ xs) ys h more = (h.0, all_both P xs ys h.1 more)

-- ---- the image of cells

-- an image of the longest runs of the bytes that segments give
pub record IsRunsOf (ss image : List Segment) : Type 0 where
  pub sound : IsImage image
  pub longest : AreParted image
  pub same : (a : ℕ) → byte_at image a ≡ byte_at ss a

-- where an address lies
area : (a : ℕ) → (a < flash_size) ⊎ ((flash_size ≤ a) × (a < sram_start)) ⊎ ((sram_start ≤ a) × (a < sram_start + sram_size)) ⊎ (sram_start + sram_size ≤ a)
area a = grind arith

none_placed : (ss : List Segment) (a : ℕ) → AllByRecursion IsPlaced ss → ((flash_size ≤ a) × (a < sram_start)) ⊎ (sram_start + sram_size ≤ a)
    → byte_at ss a ≡ None
none_placed [] a all out = refl
none_placed (s ∷ ss) a all out = byte_past s ss a (beside all.0.1 out) ∙ none_placed ss a all.1 out where
  beside : (s.addr + length s.bytes ≤ flash_size) ⊎ ((sram_start ≤ s.addr) × (s.addr + length s.bytes ≤ sram_start + sram_size))
      → ((flash_size ≤ a) × (a < sram_start)) ⊎ (sram_start + sram_size ≤ a) → covers s a ≡ false
  beside (inl flash) (inl mid) = late s a (omega (arith, mid.0))
  beside (inl flash) (inr top) = late s a (omega arith)
  beside (inr sram) (inl mid) = early s a (omega (arith, sram.0, mid.1))
  beside (inr sram) (inr top) = late s a (omega (arith, sram.1))

pub image_runs : (m : Cells) (ss : List Segment) → AllByRecursion IsPlaced ss → Holds m ss → IsRunsOf ss (image_of m)
image_runs m ss all h =
    let flash = runs 0 m.flash in
    let sram = runs sram_start m.sram in
    let flash_end : 0 + length m.flash ≡ flash_size = omega (arith, h.flash.whole) in
    let sram_end : sram_start + length m.sram ≡ sram_start + sram_size = ap (λ (n : ℕ). sram_start + n) h.sram.whole in
    let one = runs_strung 0 flash_size m.flash (omega arith) in
    let two = runs_strung sram_start (sram_start + sram_size) m.sram (omega arith) in
    let both = strung_both 0 flash_size sram_start (sram_start + sram_size) flash sram one (omega arith) two in
    let placed = all_both IsPlaced flash sram (in_flash 0 flash one) (in_sram_too sram_start sram (omega arith) two) in
    let out_of_flash : (a : ℕ) → flash_size ≤ a → byte_at flash a ≡ None = λ a le. runs_byte 0 a m.flash ∙ cell_out 0 a m.flash (inr (omega arith)) in
    let out_of_sram : (a : ℕ) → (a < sram_start) ⊎ (sram_start + sram_size ≤ a) → byte_at sram a ≡ None
    = λ a out. runs_byte sram_start a m.sram ∙ cell_out sram_start a m.sram (subst (λ (n : ℕ). (a < sram_start) ⊎ (n ≤ a)) (sym sram_end) out) in
    record {
      sound = strung_image 0 (sram_start + sram_size) (flash ++ sram) both placed;
      longest = strung_parted 0 (sram_start + sram_size) (flash ++ sram) both;
      same = λ a. elim (area a) [
        | inl low ↦
            byte_front flash sram a (out_of_sram a (inl (omega arith))) ∙ runs_byte 0 a m.flash ∙ cell_at 0 a m.flash (omega arith) (omega arith)
            ∙ h.flash.at a (omega arith) (omega arith)
        | inr (inl mid) ↦
            byte_front flash sram a (out_of_sram a (inl mid.1)) ∙ out_of_flash a mid.0 ∙ sym (none_placed ss a all (inl mid))
        | inr (inr (inl high)) ↦
            byte_behind flash sram a (out_of_flash a (omega (arith, high.0))) ∙ runs_byte sram_start a m.sram
            ∙ cell_at sram_start a m.sram high.0 (omega (arith, high.1)) ∙ h.sram.at a high.0 high.1
        | inr (inr (inr top)) ↦
            byte_front flash sram a (out_of_sram a (inr top)) ∙ out_of_flash a (omega arith) ∙ sym (none_placed ss a all (inr top))
      ];
    }

-- ---- one image

-- no byte in front of segments
far_none : (p a : ℕ) (ss : List Segment) → a ≤ p → All (λ t. p < t.addr) ss → byte_at ss a ≡ None
far_none p a [] le h = refl
far_none p a (s ∷ ss) le h = byte_past s ss a (early s a (omega (arith, All-head (λ (t : Segment). p < t.addr) s ss h)))
    ∙ far_none p a ss le (All-tail (λ (t : Segment). p < t.addr) s ss h)

module _ (s t : Segment) (ss ts : List Segment) (some : 0 < length s.bytes) (s_far : All (λ u. s.addr + length s.bytes < u.addr) ss)
    (t_far : All (λ u. t.addr + length t.bytes < u.addr) ts) (same : (a : ℕ) → byte_at (s ∷ ss) a ≡ byte_at (t ∷ ts) a) where
  -- the second does not begin behind the first
  not_later : s.addr < t.addr → ⊥
  not_later lt =
      let there = byte_here s ss s.addr (omega arith) (omega arith) in
      let none = byte_past t ts s.addr (early t s.addr lt) ∙ far_none (t.addr + length t.bytes) s.addr ts (omega arith) t_far in
      some_none (get_or s.bytes (s.addr - s.addr) 0) (byte_at (s ∷ ss) s.addr) there (same s.addr ∙ none)

  -- nor does it end before the first does, where both begin together
  not_shorter : s.addr ≡ t.addr → length t.bytes < length s.bytes → ⊥
  not_shorter is lt =
      let a = t.addr + length t.bytes in
      let there = byte_here s ss a (omega arith) (omega arith) in
      let none = byte_past t ts a (late t a (omega arith)) ∙ far_none a a ts (omega arith) t_far in
      some_none (get_or s.bytes (a - s.addr) 0) (byte_at (s ∷ ss) a) there (same a ∙ none)

  some_same : (x y : ℕ) → Some x ≡ Some y → x ≡ y
  some_same x y e = cc

  byte_same : s.addr ≡ t.addr → length s.bytes ≡ length t.bytes → (k : ℕ) → k < length s.bytes → get_or s.bytes k 0 ≡ get_or t.bytes k 0
  byte_same is long k lt =
      let a = s.addr + k in
      let first : s.addr + k - s.addr ≡ k = omega arith in
      let second : s.addr + k - t.addr ≡ k = omega arith in
      let here = byte_here s ss a (omega arith) (omega arith) in
      let there = byte_here t ts a (omega arith) (omega arith) in
      ap (λ (i : ℕ). get_or s.bytes i 0) (sym first) ∙ some_same (get_or s.bytes (a - s.addr) 0) (get_or t.bytes (a - t.addr) 0) (sym here ∙ same a ∙ there)
      ∙ ap (λ (i : ℕ). get_or t.bytes i 0) second

  rest_same : s ≡ t → (a : ℕ) → byte_at ss a ≡ byte_at ts a
  rest_same is a = elim (cases_Bool (covers s a)) [
    | inl e ↦
        let end : a < s.addr + length s.bytes = within e in
        let far = subst (λ (u : Segment). All (λ v. u.addr + length u.bytes < v.addr) ts) (sym is) t_far in
        far_none (s.addr + length s.bytes) a ss (omega arith) s_far ∙ sym (far_none (s.addr + length s.bytes) a ts (omega arith) far)
    | inr e ↦ sym (byte_past s ss a e) ∙ same a ∙ byte_past t ts a (ap (λ (u : Segment). covers u a) (sym is) ∙ e)
  ] where
    within : covers s a ≡ true → a < s.addr + length s.bytes
    within e = ltb-true a (s.addr + length s.bytes) (and_parts (leb s.addr a) (ltb a (s.addr + length s.bytes)) e).1

segment_same : (s t : Segment) → s.addr ≡ t.addr → s.bytes ≡ t.bytes → s ≡ t
segment_same s t a b = λ i. segment (a i) (b i)

nat_same : (a b : ℕ) → (a < b → ⊥) → (b < a → ⊥) → a ≡ b
nat_same a b f g = elim (both a b) [ inl lt ↦ absurd (f lt) | inr (inl gt) ↦ absurd (g gt) | inr (inr is) ↦ is ] where
  both : (a b : ℕ) → (a < b) ⊎ (b < a) ⊎ (a ≡ b)
  both a b = grind arith

head_none : (s : Segment) (ss : List Segment) → 0 < length s.bytes → ((a : ℕ) → byte_at (s ∷ ss) a ≡ None) → ⊥
head_none s ss some none = some_none (get_or s.bytes (s.addr - s.addr) 0) (byte_at (s ∷ ss) s.addr) (byte_here s ss s.addr (omega arith) (omega arith))
    (none s.addr)

-- THERE IS ONE IMAGE of the longest runs of some bytes
pub one_image : (xs ys : List Segment) → IsImage xs → IsImage ys → AreParted xs → AreParted ys → ((a : ℕ) → byte_at xs a ≡ byte_at ys a) → xs ≡ ys
one_image [] [] x y p q same = refl
one_image [] (t ∷ ts) x y p q same = absurd (head_none t ts y.0.0 (λ a. sym (same a)))
one_image (s ∷ ss) [] x y p q same = absurd (head_none s ss x.0.0 same)
one_image (s ∷ ss) (t ∷ ts) x y p q same =
    let back : (a : ℕ) → byte_at (t ∷ ts) a ≡ byte_at (s ∷ ss) a = λ a. sym (same a) in
    let is = nat_same s.addr t.addr (not_later s t ss ts x.0.0 p.0 q.0 same) (not_later t s ts ss y.0.0 q.0 p.0 back) in
    let long = nat_same (length s.bytes) (length t.bytes) (not_shorter t s ts ss y.0.0 q.0 p.0 back (sym is)) (not_shorter s t ss ts x.0.0 p.0 q.0 same is) in
    let first = segment_same s t is (ext_get_or 0 s.bytes t.bytes long (byte_same s t ss ts x.0.0 p.0 q.0 same is long)) in
    let rest = one_image ss ts x.2 y.2 p.1 q.1 (rest_same s t ss ts x.0.0 p.0 q.0 same first) in
    λ i. first i ∷ rest i

-- segments of which none touches a later one are left as they are, where those that touch are made one
alone : (s : Segment) (ss : List Segment) → All (λ t. s.addr + length s.bytes < t.addr) ss → joined_to s ss ≡ s ∷ ss
alone s [] far = refl
alone s (t ∷ ts) far =
    let lt : s.addr + length s.bytes < t.addr = All-head (λ (t : Segment). s.addr + length s.bytes < t.addr) t ts far in
    rw (ne_eqb t.addr (s.addr + length s.bytes) (λ e. absurd (omega arith))) refl

pub joined_parted : (ss : List Segment) → AreParted ss → joined ss ≡ ss
joined_parted [] h = refl
joined_parted (s ∷ ss) h = ap (joined_to s) (joined_parted ss h.1) ∙ alone s ss h.0
