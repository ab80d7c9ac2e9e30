-- Segments put in their places by address, and the tests of that.
use Rattle.std.proofs.Common.{◌≡◌, ◌⊎◌, ℕ, ◌+◌, ◌≤◌, Bool, true, false, ltb, leb, cond, ◌&&◌, List, [], ◌∷◌, ◌++◌, length, All, Ok, Err, inl, inr, refl, sym}
use Rattle.std.proofs.Common.{ap, subst, ◌∙◌, arith, append_assoc}
use Rattle.std.specs.Bool.{Decides}
use Rattle.std.specs.List.{list_all}
use Rattle.std.proofs.lemmas.Bool.{leb-true, le-leb, le-ltb, cases_Bool}
use Rattle.std.proofs.lemmas.Bool.Decides.{Decides-and, Decides-or, Decides-ltb, Decides-by_and}
use Rattle.std.proofs.lemmas.List.{append-nil}
use Rattle.std.proofs.lemmas.List.Elements.{All-nil, All-cons, All-head, All-tail, All-weaker}
use Rattle.hm_base.specs.Image.{Segment, with_segment, flash_size, sram_start, sram_size, IsPlaced, IsApart, IsImage, Before}
use Rattle.hm_base.specs.declared.errors.ImageErr.{ImageErr}
use Rattle.hm_base.specs.declared.errors.ImageErr.TheVariants as refusals
use Rattle.hm_elf.specs.Elf.{with_segments}
use Rattle.hm_elf.specs.ReadImage.{is_placed, is_clear, place_in}

-- ---- the tests

Decides-leb : (a b : ℕ) → Decides (leb a b) (a ≤ b)
Decides-leb a b = (leb-true a b, le-leb a b)

Decides-is_placed : (s : Segment) → Decides (is_placed s) (IsPlaced s)
Decides-is_placed s =
    Decides-and _ _ (Decides-ltb 0 (length s.bytes))
    (Decides-or _ _ (Decides-leb (s.addr + length s.bytes) flash_size)
    (Decides-and _ _ (Decides-leb sram_start s.addr) (Decides-leb (s.addr + length s.bytes) (sram_start + sram_size))))

Decides-is_apart : (s : Segment) (image : List Segment) → Decides (list_all (is_clear s) image) (IsApart s image)
Decides-is_apart s image =
    Decides-by_and (is_clear s) (λ t. Before s t ⊎ Before t s) (list_all (is_clear s))
    (λ t. Decides-or _ _ (Decides-leb (s.addr + length s.bytes) t.addr) (Decides-leb (t.addr + length t.bytes) s.addr)) refl (λ _ _. refl) image

Decides-fits : (s : Segment) (image : List Segment) → Decides (is_placed s && list_all (is_clear s) image) (IsPlaced s × IsApart s image)
Decides-fits s image = Decides-and _ _ (Decides-is_placed s) (Decides-is_apart s image)

-- ---- one segment

pub placed : (k : ℕ) (s : Segment) (image : List Segment) → IsPlaced s × IsApart s image → place_in k s image ≡ Ok (with_segment s image)
unfolding place_in
placed k s image f = ap (λ (b : Bool). cond b (Ok (with_segment s image)) (Err (refusals.Segment k))) ((Decides-fits s image).1 f)

pub refused : (k : ℕ) (s : Segment) (image : List Segment) → ¬ (IsPlaced s × IsApart s image) → place_in k s image ≡ Err (refusals.Segment k)
unfolding place_in
refused k s image no_fit = elim (cases_Bool (is_placed s && list_all (is_clear s) image)) [
  | inl e ↦ absurd (no_fit ((Decides-fits s image).0 e))
  | inr e ↦ ap (λ (b : Bool). cond b (Ok (with_segment s image)) (Err (refusals.Segment k))) e
]

test_found : (b : Bool) (d : ImageErr) (x y : List Segment) → cond b (Ok x) (Err d) ≡ Ok y → (b ≡ true) × (y ≡ x)
test_found true d x y e = (refl, cc)
test_found false d x y e = absurd cc

pub placed_found : (k : ℕ) (s : Segment) (image more : List Segment) → place_in k s image ≡ Ok more
    → (IsPlaced s × IsApart s image) × (more ≡ with_segment s image)
unfolding place_in
placed_found k s image more e =
    let t = test_found (is_placed s && list_all (is_clear s) image) (refusals.Segment k) (with_segment s image) more e in
    ((Decides-fits s image).0 t.0, t.1)

-- ---- an image without the segment that was put in

All-without : (P : Segment → Type 0) (s : Segment) (ts : List Segment) → All P (with_segment s ts) → P s × All P ts
All-without P s [] a = (All-head P s [] a, All-nil P)
All-without P s (t ∷ ts) a = go (ltb s.addr t.addr) a (All-without P s ts)
  where
    go : (x : Bool) → All P (cond x (s ∷ t ∷ ts) (t ∷ with_segment s ts)) → (All P (with_segment s ts) → P s × All P ts) → P s × All P (t ∷ ts)
    go true a r = (All-head P s (t ∷ ts) a, All-tail P s (t ∷ ts) a)
    go false a r =
        let rest = r (All-tail P t (with_segment s ts) a) in
        (rest.0, All-cons P t ts (All-head P t (with_segment s ts) a) rest.1)

pub record Parts (s : Segment) (ts : List Segment) : Type 0 where
  pub is_placed : IsPlaced s
  pub is_apart : IsApart s ts
  pub image : IsImage ts

pub image_parts : (s : Segment) (ts : List Segment) → IsImage (with_segment s ts) → Parts s ts
image_parts s [] i = record { is_placed = i.0; is_apart = All-nil (λ u. Before s u ⊎ Before u s); image = tt }
image_parts s (t ∷ ts) i = go (ltb s.addr t.addr) i (image_parts s ts)
  where
    go : (x : Bool) → IsImage (cond x (s ∷ t ∷ ts) (t ∷ with_segment s ts)) → (IsImage (with_segment s ts) → Parts s ts) → Parts s (t ∷ ts)
    go true i r = record { is_placed = i.0; is_apart = All-weaker (Before s) (λ u. Before s u ⊎ Before u s) (λ u h. inl h) (t ∷ ts) i.1; image = i.2 }
    go false i r =
        let rest = r i.2 in
        let all = All-without (Before t) s ts i.1 in
        record {
          is_placed = rest.is_placed;
          is_apart = All-cons (λ u. Before s u ⊎ Before u s) t ts (inr all.0) rest.is_apart;
          image = (i.0, all.1, rest.image);
        }

-- an image was one before more segments were put in
pub IsImage-before : (image ss : List Segment) → IsImage (with_segments image ss) → IsImage image
IsImage-before image [] i = i
IsImage-before image (s ∷ ss) i = (image_parts s image (IsImage-before (with_segment s image) ss i)).image

-- ---- segments that are in order stay so

before_it : (P : Segment → Type 0) (ts : List Segment) (s : Segment) (ss : List Segment) → All P (ts ++ s ∷ ss) → P s
before_it P [] s ss a = All-head P s ss a
before_it P (t ∷ ts) s ss a = before_it P ts s ss (All-tail P t (ts ++ s ∷ ss) a)

put_last : (s : Segment) (ts ss : List Segment) → IsImage (ts ++ s ∷ ss) → with_segment s ts ≡ ts ++ s ∷ []
put_last s [] ss i = refl
put_last s (t ∷ ts) ss i =
    let b : Before t s = before_it (Before t) ts s ss i.1 in
    let test : ltb s.addr t.addr ≡ false = le-ltb s.addr t.addr (omega arith) in
    rw test (ap (λ (x : List Segment). t ∷ x) (put_last s ts ss i.2))

all_put : (before ss : List Segment) → IsImage (before ++ ss) → with_segments before ss ≡ before ++ ss
all_put before [] i = sym (append-nil before)
all_put before (s ∷ ss) i =
    let last = put_last s before ss i in
    let more : IsImage ((before ++ s ∷ []) ++ ss) = subst IsImage (sym (append_assoc before (s ∷ []) ss)) i in
    ap (λ (x : List Segment). with_segments x ss) last ∙ all_put (before ++ s ∷ []) ss more ∙ append_assoc before (s ∷ []) ss

pub with_segments-image : (image : List Segment) → IsImage image → with_segments [] image ≡ image
with_segments-image image i = all_put [] image i
