-- Cells that hold the bytes of segments, as data is given to them.
use Rattle.std.proofs.Common.{◌≡◌, ◌≢◌, ◌⊎◌, ◌↔◌, ℕ, zero, suc, ◌+◌, ◌-◌, ◌<◌, ◌≤◌, Bool, true, false, ltb, leb, cond, List, [], ◌∷◌, ◌++◌, get_or, is_none}
use Rattle.std.proofs.Common.{length, set, Option, Some, None, option_map, refl, sym, ap, subst, ◌∙◌, inl, inr, arith, get_or-set_same, get_or-set_other}
use Rattle.std.proofs.Common.{length-set}
use Rattle.std.specs.Prelude.{slice_index}
use Rattle.std.specs.List.{AllByRecursion}
use Rattle.std.proofs.lemmas.Bool.{and_from, and_parts, cases_Bool, le-leb, leb-true, lt-leb, lt-ltb, ltb-true}
use Rattle.std.proofs.lemmas.List.Elements.{All-cons, All-head, All-nil, All-tail, All-weaker}
use Rattle.hm_base.specs.Image.{Before, IsApart, IsImage, IsPlaced, Segment, covers, flash_size, sram_size, sram_start}
use Rattle.hm_text_base.proofs.Steps.{some_is, test_some}
use Rattle.hm_ihex.specs.Cells.{Cells, first_cells, is_free, no_cells, put_in, with_data}
use Rattle.hm_ihex.specs.HexFile.{AreApart, HasByte}
use Rattle.hm_ihex.proofs.Filled.{length_no_cells, put_none}
use Rattle.hm_ihex.proofs.SameBytes.{covered, early, late, place}

-- ---- bytes put into a list of cells

-- so many cells from number k on are there, and none is given
abbrev pub AreFree : ℕ → ℕ → List (Option ℕ) → Type 0
AreFree k n cells = (j : ℕ) → j < n → (k + j < length cells) × (get_or cells (k + j) None ≡ None)

-- the cells behind bytes that were put in from number k on
pub record Wrote (k : ℕ) (bytes : List ℕ) (old new : List (Option ℕ)) : Type 0 where
  pub size : length new ≡ length old
  pub within : (j : ℕ) → k ≤ j → j < k + length bytes → get_or new j None ≡ Some (get_or bytes (j - k) 0)
  pub below : (j : ℕ) → j < k → get_or new j None ≡ get_or old j None
  pub above : (j : ℕ) → k + length bytes ≤ j → get_or new j None ≡ get_or old j None

free_cell : (k : ℕ) (cells : List (Option ℕ)) → k < length cells → get_or cells k None ≡ None → is_free k cells ≡ true
free_cell k cells lt none = and_from (ltb k (length cells)) (is_none (get_or cells k None)) (lt-ltb k (length cells) lt) (ap is_none none)

is_none_is : (o : Option ℕ) → is_none o ≡ true → o ≡ None
is_none_is None e = refl
is_none_is (Some b) e = absurd cc

cell_free : (k : ℕ) (cells : List (Option ℕ)) → is_free k cells ≡ true → (k < length cells) × (get_or cells k None ≡ None)
cell_free k cells e =
    let p = and_parts (ltb k (length cells)) (is_none (get_or cells k None)) e in
    (ltb-true k (length cells) p.0, is_none_is (get_or cells k None) p.1)

put_step : (k b : ℕ) (bs : List ℕ) (cells : List (Option ℕ)) → put_in k (b ∷ bs) cells ≡ cond (is_free k cells) (put_in (k + 1) bs (set cells k (Some b))) None
unfolding put_in
put_step k b bs cells = refl

other : (cells : List (Option ℕ)) (k j b : ℕ) → (j < k) ⊎ (k < j) → get_or (set cells k (Some b)) j None ≡ get_or cells j None
other cells k j b h = let ne : j ≢ k = omega arith in rw get_or-set_other refl

-- free cells take the bytes
pub put_free : (bytes : List ℕ) (k : ℕ) (cells : List (Option ℕ)) → AreFree k (length bytes) cells → (new : List (Option ℕ)) × (put_in k bytes cells ≡ Some new)
put_free [] k cells free = (cells, put_none k cells)
put_free (b ∷ bs) k cells free =
    let first = free 0 (omega arith) in
    let from : k + 0 ≡ k = omega arith in
    let here : get_or cells k None ≡ None = ap (λ (i : ℕ). get_or cells i None) (sym from) ∙ first.1 in
    let test = free_cell k cells (omega (arith, first.0)) here in
    let next = set cells k (Some b) in
    let later : AreFree (k + 1) (length bs) next
    = λ j lt.
    let at : k + suc j ≡ k + 1 + j = omega arith in
    let f = free (suc j) (omega arith) in
    let size : length (set cells k (Some b)) ≡ length cells = length-set cells k (Some b) in
    (omega (arith, f.0), other cells k (k + 1 + j) b (inr (omega arith)) ∙ ap (λ (i : ℕ). get_or cells i None) (sym at) ∙ f.1) in
    let rest = put_free bs (k + 1) next later in
    (rest.0, put_step k b bs cells ∙ ap (λ (t : Bool). cond t (put_in (k + 1) bs next) None) test ∙ rest.1)

order : (j k : ℕ) → k ≤ j → (j ≡ k) ⊎ (k < j)
order j k le = grind arith

-- and such as took them were free
pub put_told : (bytes : List ℕ) (k : ℕ) (cells new : List (Option ℕ)) → put_in k bytes cells ≡ Some new
    → AreFree k (length bytes) cells × Wrote k bytes cells new
put_told [] k cells new e =
    let same = some_is cells new (sym (put_none k cells) ∙ e) in (
      (λ j lt. absurd (omega arith)),
      record {
        size = ap length (sym same);
        within = λ j le lt. absurd (omega arith);
        below = λ j lt. ap (λ (c : List (Option ℕ)). get_or c j None) (sym same);
        above = λ j le. ap (λ (c : List (Option ℕ)). get_or c j None) (sym same);
      },
    )
put_told (b ∷ bs) k cells new e =
    let next = set cells k (Some b) in
    let p = test_some (is_free k cells) (put_in (k + 1) bs next) new (sym (put_step k b bs cells) ∙ e) in
    let here = cell_free k cells p.0 in
    let ih = put_told bs (k + 1) next new p.1 in
    let wrote = ih.1 in
    let size : length (set cells k (Some b)) ≡ length cells = length-set cells k (Some b) in (
      free here ih.0,
      record {
        size = wrote.size ∙ size;
        within = λ j le lt. put_here wrote here.0 j le lt;
        below = λ j lt. wrote.below j (omega arith) ∙ other cells k j b (inl lt);
        above = λ j le. wrote.above j (omega arith) ∙ other cells k j b (inr (omega arith));
      },
    )
  where
    free : (k < length cells) × (get_or cells k None ≡ None) → AreFree (k + 1) (length bs) (set cells k (Some b)) → AreFree k (suc (length bs)) cells
    free here later zero lt = let from : k + 0 ≡ k = omega arith in (omega (arith, here.0), ap (λ (i : ℕ). get_or cells i None) from ∙ here.1)
    free here later (suc j) lt =
        let f = later j (omega arith) in
        let at : k + 1 + j ≡ k + suc j = omega arith in
        let size : length (set cells k (Some b)) ≡ length cells = length-set cells k (Some b) in
        (omega (arith, f.0), ap (λ (i : ℕ). get_or cells i None) (sym at) ∙ sym (other cells k (k + 1 + j) b (inr (omega arith))) ∙ f.1)

    put_here : Wrote (k + 1) bs (set cells k (Some b)) new → k < length cells → (j : ℕ) → k ≤ j → j < k + suc (length bs)
        → get_or new j None ≡ Some (get_or (b ∷ bs) (j - k) 0)
    put_here wrote there j le lt = elim (order j k le) [
      | inl e ↦
          let at : j - k ≡ 0 = omega arith in
          let now : get_or (set cells k (Some b)) j None ≡ Some b = ap (λ (i : ℕ). get_or (set cells k (Some b)) i None) e
          ∙ get_or-set_same cells k (Some b) None there in
          wrote.below j (omega arith) ∙ now ∙ ap (λ (i : ℕ). Some (get_or (b ∷ bs) i 0)) (sym at)
      | inr more ↦
          let at : j - k ≡ suc (j - (k + 1)) = omega arith in
          wrote.within j (omega arith) (omega arith) ∙ ap (λ (i : ℕ). Some (get_or (b ∷ bs) i 0)) (sym at)
    ]

-- ---- the bytes of segments

-- the byte of the first segment that gives one at an address
abbrev pub byte_at : List Segment → ℕ → Option ℕ
byte_at [] a = None
byte_at (s ∷ ss) a = cond (covers s a) (Some (slice_index s.bytes (a - s.addr))) (byte_at ss a)

pub byte_here : (s : Segment) (ss : List Segment) (a : ℕ) → s.addr ≤ a → a < s.addr + length s.bytes → byte_at (s ∷ ss) a ≡ Some (get_or s.bytes (a - s.addr) 0)
byte_here s ss a low high = rw (covered s a low high) refl

pub byte_past : (s : Segment) (ss : List Segment) (a : ℕ) → covers s a ≡ false → byte_at (s ∷ ss) a ≡ byte_at ss a
byte_past s ss a out = rw out refl

pub some_none : (b : ℕ) (o : Option ℕ) → o ≡ Some b → o ≡ None → ⊥
some_none b o e f = cc

pub byte_behind : (xs ys : List Segment) (a : ℕ) → byte_at xs a ≡ None → byte_at (xs ++ ys) a ≡ byte_at ys a
byte_behind [] ys a none = refl
byte_behind (x ∷ xs) ys a none = elim (cases_Bool (covers x a)) [
  | inl e ↦ absurd (some_none (slice_index x.bytes (a - x.addr)) (byte_at (x ∷ xs) a) (rw e refl) none)
  | inr e ↦ byte_past x (xs ++ ys) a e ∙ byte_behind xs ys a (sym (byte_past x xs a e) ∙ none)
]

pub byte_front : (xs ys : List Segment) (a : ℕ) → byte_at ys a ≡ None → byte_at (xs ++ ys) a ≡ byte_at xs a
byte_front [] ys a none = none
byte_front (x ∷ xs) ys a none = ap (λ (o : Option ℕ). cond (covers x a) (Some (slice_index x.bytes (a - x.addr))) o) (byte_front xs ys a none)

-- segments that share no address have just the byte of the first that gives one
pub has_byte : (ss : List Segment) (a b : ℕ) → byte_at ss a ≡ Some b → HasByte ss a b
has_byte [] a b e = absurd cc
has_byte (s ∷ ss) a b e = elim (cases_Bool (covers s a)) [
  | inl c ↦ inl (c, of_some (slice_index s.bytes (a - s.addr)) (sym (rw c refl) ∙ e))
  | inr c ↦ inr (has_byte ss a b (sym (byte_past s ss a c) ∙ e))
] where
  of_some : (x : ℕ) → Some x ≡ Some b → x ≡ b
  of_some x e = cc

pub covers_parts : (s : Segment) (a : ℕ) → covers s a ≡ true → (s.addr ≤ a) × (a < s.addr + length s.bytes)
covers_parts s a e =
    let p = and_parts (leb s.addr a) (ltb a (s.addr + length s.bytes)) e in
    (leb-true s.addr a p.0, ltb-true a (s.addr + length s.bytes) p.1)

apart_past : (s : Segment) (ss : List Segment) (a b : ℕ) → IsApart s ss → HasByte ss a b → covers s a ≡ false
apart_past s [] a b h has = absurd has
apart_past s (t ∷ ts) a b h (inl here) =
    let c = covers_parts t a here.0 in
    let low : t.addr ≤ a = c.0 in
    let high : a < t.addr + length t.bytes = c.1 in
    elim (All-head (λ (t : Segment). Before s t ⊎ Before t s) t ts h) [ inl before ↦ late s a (omega arith) | inr behind ↦ early s a (omega arith) ]
apart_past s (t ∷ ts) a b h (inr later) = apart_past s ts a b (All-tail (λ (t : Segment). Before s t ⊎ Before t s) t ts h) later

pub byte_is : (ss : List Segment) (a b : ℕ) → AreApart ss → HasByte ss a b → byte_at ss a ≡ Some b
byte_is [] a b h has = absurd has
byte_is (s ∷ ss) a b h (inl here) = rw here.0 (ap (λ (x : ℕ). Some x) here.1)
byte_is (s ∷ ss) a b h (inr later) = byte_past s ss a (apart_past s ss a b h.0 later) ∙ byte_is ss a b h.1 later

alike : (o p : Option ℕ) → ((b : ℕ) → o ≡ Some b → p ≡ Some b) → ((b : ℕ) → p ≡ Some b → o ≡ Some b) → o ≡ p
alike None None f g = refl
alike None (Some b) f g = g b refl
alike (Some b) p f g = sym (f b refl)

pub same_bytes : (xs ys : List Segment) → AreApart xs → AreApart ys → ((a b : ℕ) → HasByte xs a b ↔ HasByte ys a b) → (a : ℕ) → byte_at xs a ≡ byte_at ys a
same_bytes xs ys x y h a = alike (byte_at xs a) (byte_at ys a) (λ b e. byte_is ys a b y ((h a b).0 (has_byte xs a b e)))
    (λ b e. byte_is xs a b x ((h a b).1 (has_byte ys a b e)))

pub bytes_same : (xs ys : List Segment) → AreApart xs → AreApart ys → ((a : ℕ) → byte_at xs a ≡ byte_at ys a) → (a b : ℕ) → HasByte xs a b ↔ HasByte ys a b
bytes_same xs ys x y h a b = ((λ has. has_byte ys a b (sym (h a) ∙ byte_is xs a b x has)), (λ has. has_byte xs a b (h a ∙ byte_is ys a b y has)))

-- an image's segments share no address
pub image_apart : (ss : List Segment) → IsImage ss → AreApart ss
image_apart [] is = tt
image_apart (s ∷ ss) is = (All-weaker (Before s) (λ (t : Segment). Before s t ⊎ Before t s) (λ t before. inl before) ss is.1, image_apart ss is.2)

-- a segment that is apart from others has none of their bytes
apart_none : (s : Segment) (done : List Segment) → IsApart s done → (x : ℕ) → s.addr ≤ x → x < s.addr + length s.bytes → byte_at done x ≡ None
apart_none s [] h x low high = refl
apart_none s (t ∷ ts) h x low high = byte_past t ts x (out (All-head (λ (t : Segment). Before s t ⊎ Before t s) t ts h))
    ∙ apart_none s ts (All-tail (λ (t : Segment). Before s t ⊎ Before t s) t ts h) x low high where
      out : Before s t ⊎ Before t s → covers t x ≡ false
      out (inl before) = early t x (omega arith)
      out (inr behind) = late t x (omega arith)

-- two segments with a byte that share no address are apart
meets : (s t : Segment) (x : ℕ) → ((x : ℕ) → s.addr ≤ x → x < s.addr + length s.bytes → covers t x ≡ false) → s.addr ≤ x → x < s.addr + length s.bytes
    → t.addr ≤ x → x < t.addr + length t.bytes → ⊥
meets s t x h a b c d = let e = h x a b in let f = covered t x c d in cc

one_apart : (s t : Segment) → 0 < length s.bytes → 0 < length t.bytes → ((x : ℕ) → s.addr ≤ x → x < s.addr + length s.bytes → covers t x ≡ false)
    → Before s t ⊎ Before t s
one_apart s t some more h = elim (side (s.addr + length s.bytes) t.addr) [
  | inl before ↦ inl before
  | inr e ↦ elim (side (t.addr + length t.bytes) s.addr) [
    | inl behind ↦ inr behind
    | inr f ↦ elim (side s.addr t.addr) [
      | inl first ↦ absurd (meets s t t.addr h first e (omega arith) (omega arith))
      | inr last ↦ absurd (meets s t s.addr h (omega arith) (omega arith) (omega arith) f)
    ]
  ]
] where
  side : (a b : ℕ) → (a ≤ b) ⊎ (b < a)
  side a b = grind arith

covers_none : (t : Segment) (ts : List Segment) (x : ℕ) → byte_at (t ∷ ts) x ≡ None → (covers t x ≡ false) × (byte_at ts x ≡ None)
covers_none t ts x none = elim (cases_Bool (covers t x)) [
  | inl e ↦ absurd (some_none (slice_index t.bytes (x - t.addr)) (byte_at (t ∷ ts) x) (rw e refl) none)
  | inr e ↦ (e, sym (byte_past t ts x e) ∙ none)
]

none_apart : (s : Segment) (done : List Segment) → 0 < length s.bytes → AllByRecursion IsPlaced done
    → ((x : ℕ) → s.addr ≤ x → x < s.addr + length s.bytes → byte_at done x ≡ None) → IsApart s done
none_apart s [] some all h = All-nil (λ (t : Segment). Before s t ⊎ Before t s)
none_apart s (t ∷ ts) some all h =
    All-cons (λ (t : Segment). Before s t ⊎ Before t s) t ts (one_apart s t some all.0.0 (λ x low high. (covers_none t ts x (h x low high)).0))
    (none_apart s ts some all.1 (λ x low high. (covers_none t ts x (h x low high)).1))

-- ---- what cells hold

-- the cells from one address to another hold the bytes of segments
pub record HoldsFrom (from size : ℕ) (cells : List (Option ℕ)) (ss : List Segment) : Type 0 where
  pub whole : length cells ≡ size
  pub at : (a : ℕ) → from ≤ a → a < from + size → get_or cells (a - from) None ≡ byte_at ss a

pub record Holds (m : Cells) (ss : List Segment) : Type 0 where
  pub flash : HoldsFrom 0 flash_size m.flash ss
  pub sram : HoldsFrom sram_start sram_size m.sram ss

no_cell : (n k : ℕ) → get_or (no_cells n) k None ≡ None
unfolding no_cells
no_cell zero k = refl
no_cell (suc n) zero = refl
no_cell (suc n) (suc k) = no_cell n k

none_held : (from size : ℕ) → HoldsFrom from size (no_cells size) []
none_held from size = record { whole = length_no_cells size; at = λ a low high. no_cell size (a - from) }

pub first_holds : Holds first_cells []
first_holds = record { flash = none_held 0 flash_size; sram = none_held sram_start sram_size }

module _ (from size at : ℕ) (cells : List (Option ℕ)) (done : List Segment) (s : Segment) (h : HoldsFrom from size cells done) (is : s.addr ≡ from + at) where
  free_of : at + length s.bytes ≤ size → ((x : ℕ) → s.addr ≤ x → x < s.addr + length s.bytes → byte_at done x ≡ None) → AreFree at (length s.bytes) cells
  free_of fits none j lt =
      let whole = h.whole in
      let back : from + (at + j) - from ≡ at + j = omega arith in (
        omega arith,
        ap (λ (k : ℕ). get_or cells k None) (sym back) ∙ h.at (from + (at + j)) (omega arith) (omega arith)
            ∙ none (from + (at + j)) (omega arith) (omega arith),
      )

  none_of : AreFree at (length s.bytes) cells → (x : ℕ) → s.addr ≤ x → x < s.addr + length s.bytes → byte_at done x ≡ None
  none_of free x low high =
      let j = x - s.addr in
      let whole = h.whole in
      let f = free (x - s.addr) (omega arith) in
      let k : at + (x - s.addr) ≡ x - from = omega arith in
      let there : x < from + size = omega (arith, f.0) in
      sym (h.at x (omega arith) there) ∙ ap (λ (k : ℕ). get_or cells k None) (sym k) ∙ f.1

  fits_of : 0 < length s.bytes → AreFree at (length s.bytes) cells → at + length s.bytes ≤ size
  fits_of some free =
      let whole = h.whole in
      let f = free (length s.bytes - 1) (omega arith) in
      omega (arith, f.0)

  wrote_holds : (new : List (Option ℕ)) → AreFree at (length s.bytes) cells → Wrote at s.bytes cells new → HoldsFrom from size new (done ++ s ∷ [])
  wrote_holds new free wrote = record { whole = wrote.size ∙ h.whole; at = at_is } where
    at_is : (a : ℕ) → from ≤ a → a < from + size → get_or new (a - from) None ≡ byte_at (done ++ s ∷ []) a
    at_is a low high = elim (place s a) [
      | inl less ↦ wrote.below (a - from) (omega arith) ∙ h.at a low high ∙ sym (byte_front done (s ∷ []) a (byte_past s [] a (early s a less)))
      | inr (inl mid) ↦
          let back : a - from - at ≡ a - s.addr = omega arith in
          let first : s.addr ≤ a = mid.0 in
          let last : a < s.addr + length s.bytes = mid.1 in
          wrote.within (a - from) (omega arith) (omega arith) ∙ ap (λ (k : ℕ). Some (get_or s.bytes k 0)) back
          ∙ sym (byte_behind done (s ∷ []) a (none_of free a first last) ∙ byte_here s [] a first last)
      | inr (inr past) ↦ wrote.above (a - from) (omega arith) ∙ h.at a low high ∙ sym (byte_front done (s ∷ []) a (byte_past s [] a (late s a past)))
    ]

beside_holds : (from size : ℕ) (cells : List (Option ℕ)) (done : List Segment) (s : Segment) → HoldsFrom from size cells done
    → (from + size ≤ s.addr) ⊎ (s.addr + length s.bytes ≤ from) → HoldsFrom from size cells (done ++ s ∷ [])
beside_holds from size cells done s h far =
    record { whole = h.whole; at = λ a low high. h.at a low high ∙ sym (byte_front done (s ∷ []) a (byte_past s [] a (out far a low high))) } where
      out : (from + size ≤ s.addr) ⊎ (s.addr + length s.bytes ≤ from) → (a : ℕ) → from ≤ a → a < from + size → covers s a ≡ false
      out (inl above) a low high = early s a (omega arith)
      out (inr below) a low high = late s a (omega arith)

-- ---- one more record of data

-- what is known behind a segment: it is placed, it is apart from the others, and the cells hold it too
pub record Added (s : Segment) (done : List Segment) (next : Cells) : Type 0 where
  pub placed : IsPlaced s
  pub apart : IsApart s done
  pub holds : Holds next (done ++ s ∷ [])

abbrev onto_sram : Cells → Option (List (Option ℕ)) → Option Cells
onto_sram m put = option_map (λ (cells : List (Option ℕ)). record m { sram = cells }) put

abbrev onto_flash : Cells → Option (List (Option ℕ)) → Option Cells
onto_flash m put = option_map (λ (cells : List (Option ℕ)). record m { flash = cells }) put

in_sram_is : (a : ℕ) (bytes : List ℕ) (m : Cells) → leb sram_start a ≡ true → with_data a bytes m ≡ onto_sram m (put_in (a - sram_start) bytes m.sram)
in_sram_is a bytes m e = rw e refl

in_flash_is : (a : ℕ) (bytes : List ℕ) (m : Cells) → leb sram_start a ≡ false → with_data a bytes m ≡ onto_flash m (put_in a bytes m.flash)
in_flash_is a bytes m e = rw e refl

sram_some : (m next : Cells) (put : Option (List (Option ℕ))) → onto_sram m put ≡ Some next
    → (cells : List (Option ℕ)) × (put ≡ Some cells) × (record m { sram = cells } ≡ next)
sram_some m next None e = absurd cc
sram_some m next (Some cells) e = (cells, refl, cc)

flash_some : (m next : Cells) (put : Option (List (Option ℕ))) → onto_flash m put ≡ Some next
    → (cells : List (Option ℕ)) × (put ≡ Some cells) × (record m { flash = cells } ≡ next)
flash_some m next None e = absurd cc
flash_some m next (Some cells) e = (cells, refl, cc)

added_sram : (m : Cells) (done : List Segment) (s : Segment) (new : List (Option ℕ)) → Holds m done → AllByRecursion IsPlaced done → 0 < length s.bytes
    → sram_start ≤ s.addr → put_in (s.addr - sram_start) s.bytes m.sram ≡ Some new
    → Added s done (record m { sram = new })
added_sram m done s new h all some low put =
    let is : s.addr ≡ sram_start + (s.addr - sram_start) = omega arith in
    let t = put_told s.bytes (s.addr - sram_start) m.sram new put in
    let fits = fits_of sram_start sram_size (s.addr - sram_start) m.sram done s h.sram is some t.0 in
    record {
      placed = (some, inr (low, omega arith));
      apart = none_apart s done some all (none_of sram_start sram_size (s.addr - sram_start) m.sram done s h.sram is t.0);
      holds = record {
        flash = beside_holds 0 flash_size m.flash done s h.flash (inl (omega arith));
        sram = wrote_holds sram_start sram_size (s.addr - sram_start) m.sram done s h.sram is new t.0 t.1;
      };
    }

added_flash : (m : Cells) (done : List Segment) (s : Segment) (new : List (Option ℕ)) → Holds m done → AllByRecursion IsPlaced done → 0 < length s.bytes
    → put_in s.addr s.bytes m.flash ≡ Some new → Added s done (record m { flash = new })
added_flash m done s new h all some put =
    let is : s.addr ≡ 0 + s.addr = omega arith in
    let t = put_told s.bytes s.addr m.flash new put in
    let fits = fits_of 0 flash_size s.addr m.flash done s h.flash is some t.0 in
    record {
      placed = (some, inl fits);
      apart = none_apart s done some all (none_of 0 flash_size s.addr m.flash done s h.flash is t.0);
      holds = record {
        flash = wrote_holds 0 flash_size s.addr m.flash done s h.flash is new t.0 t.1;
        sram = beside_holds sram_start sram_size m.sram done s h.sram (inr (omega arith));
      };
    }

-- cells that took a segment tell that it may stand there
pub step_told : (m next : Cells) (done : List Segment) (s : Segment) → Holds m done → AllByRecursion IsPlaced done → 0 < length s.bytes
    → with_data s.addr s.bytes m ≡ Some next → Added s done next
step_told m next done s h all some e = elim (cases_Bool (leb sram_start s.addr)) [
  | inl high ↦
      let p = sram_some m next (put_in (s.addr - sram_start) s.bytes m.sram) (sym (in_sram_is s.addr s.bytes m high) ∙ e) in
      subst (Added s done) p.2 (added_sram m done s p.0 h all some (leb-true sram_start s.addr high) p.1)
  | inr low ↦
      let p = flash_some m next (put_in s.addr s.bytes m.flash) (sym (in_flash_is s.addr s.bytes m low) ∙ e) in
      subst (Added s done) p.2 (added_flash m done s p.0 h all some p.1)
]

-- and a segment that may stand there is taken
pub step_read : (m : Cells) (done : List Segment) (s : Segment) → Holds m done → AllByRecursion IsPlaced done → IsPlaced s → IsApart s done
    → (next : Cells) × (with_data s.addr s.bytes m ≡ Some next) × Holds next (done ++ s ∷ [])
step_read m done s h all placed apart = elim placed.1 [
  | inl in_flash ↦
      let test : leb sram_start s.addr ≡ false = lt-leb sram_start s.addr (omega (arith, placed.0)) in
      let is : s.addr ≡ 0 + s.addr = omega arith in
      let put = put_free s.bytes s.addr m.flash (free_of 0 flash_size s.addr m.flash done s h.flash is in_flash (apart_none s done apart)) in (
        record m { flash = put.0 },
        in_flash_is s.addr s.bytes m test ∙ ap (onto_flash m) put.1,
        (added_flash m done s put.0 h all placed.0 put.1).holds,
      )
  | inr sram ↦
      let low : sram_start ≤ s.addr = sram.0 in
      let fits : s.addr + length s.bytes ≤ sram_start + sram_size = sram.1 in
      let test : leb sram_start s.addr ≡ true = le-leb sram_start s.addr low in
      let is : s.addr ≡ sram_start + (s.addr - sram_start) = omega arith in
      let put = put_free s.bytes (s.addr - sram_start) m.sram
      (free_of sram_start sram_size (s.addr - sram_start) m.sram done s h.sram is (omega arith) (apart_none s done apart)) in (
        record m { sram = put.0 },
        in_sram_is s.addr s.bytes m test ∙ ap (onto_sram m) put.1,
        (added_sram m done s put.0 h all placed.0 low put.1).holds,
      )
]
