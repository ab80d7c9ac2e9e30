-- The values of a text's arrays have their places, and overlap nothing.
use Rattle.std.proofs.Common.{◌≡◌, ℕ, suc, ◌+◌, ◌*◌, ◌<◌, ◌≤◌, ◌⊎◌, inl, inr, Bool, true, false, length, nat_eq, List, [], ◌∷◌, refl, subst, arith}
use Rattle.std.specs.Prelude.{All, AllPairs, if◌then◌else◌, slice_index, slice_index_or}
use Rattle.std.proofs.lemmas.Bool.Decides.{nat_tests}
use Rattle.std.proofs.lemmas.List.Elements.{All-head, All-nil, All-tail}
use Rattle.hm_base.specs.Image as image
use Rattle.hm_base.specs.Image.{Before, InFlash, IsApart, IsImage, Segment, flash_size, flat, segment, with_segment}
use Rattle.hm_base.proofs.Images.{All-with_segment, IsImage-with_segment}
use Rattle.hm_kernel_lang.specs.declared.text.Array.{Array}
use Rattle.hm_kernel_lang.specs.declared.text.ElementType.{ElementType}
use Rattle.hm_kernel_lang.specs.Language.{bytes}
use Rattle.hm_kernel_lang.specs.Texts.{IsArray, ShareNone}
use Rattle.hm_kernel_lang.specs.Values.{element_bytes}
use Rattle.hm_kernel_lang.proofs.Replacing.{no_more}
use Rattle.hm_kernel_lang.proofs.Values.{length_elements}
use Rattle.hm_kernel_code.specs.Segments.{AllApart, AllPlaced, array_segment, with_array, with_arrays}

some_bytes : (t : ElementType) (n : ℕ) → 0 < n → 0 < bytes t * n
some_bytes t n h = grind arith

-- the bytes of an array's values are no more than those of its elements
long : (t : ElementType) (x : Array) → length (element_bytes t (length x.values.items) (λ j. slice_index x.values.items j)) ≡ bytes t * length x.values.items
long t x = length_elements t (length x.values.items) (λ j. slice_index x.values.items j)

within : (t : ElementType) (n : ℕ) (x : Array) → IsArray t n x → x.addr + bytes t * length x.values.items ≤ x.addr + bytes t * n
within t n x h = no_more t x.addr (length x.values.items) n h.few

array_placed : (t : ElementType) (n : ℕ) (x : Array) → IsArray t n x → 0 < length x.values.items → image.IsPlaced (array_segment t x)
array_placed t n x h some =
    let e = long t x in
    let w = within t n x h in
    let b = some_bytes t (length x.values.items) some in
    let low = h.placed.low in
    let high = h.placed.high in
    (omega arith, inr (omega arith, omega arith))

pub all_placed : (t : ElementType) (n : ℕ) (xs : List Array) → All (IsArray t n) xs → AllPlaced t xs
all_placed t n xs h k d l = array_placed t n (slice_index_or xs k d) (h k d l)

two_apart : (t : ElementType) (n : ℕ) (x y : Array) → IsArray t n x → IsArray t n y → ShareNone t n x y
    → Before (array_segment t x) (array_segment t y) ⊎ Before (array_segment t y) (array_segment t x)
two_apart t n x y h k (inl below) = let e = long t x in let w = within t n x h in inl (omega arith)
two_apart t n x y h k (inr above) = let e = long t y in let w = within t n y k in inr (omega arith)

flash_apart : (t : ElementType) (n : ℕ) (x : Array) (s : Segment) → IsArray t n x → InFlash s → Before (array_segment t x) s ⊎ Before s (array_segment t x)
flash_apart t n x s h f = let low = h.placed.low in inr (omega arith)

all_array : (P : Segment → Type 0) (t : ElementType) (x : Array) (ss : List Segment) → P (array_segment t x) → All P ss → All P (with_array t x ss)
all_array P t x ss p h = go (nat_eq (length x.values.items) 0)
  where
    go : (b : Bool) → All P (if b then ss else with_segment (array_segment t x) ss)
    go true = h
    go false = All-with_segment P (array_segment t x) ss p h

all_arrays : (P : Segment → Type 0) (t : ElementType) (xs : List Array) (ss : List Segment) → All (λ x. P (array_segment t x)) xs → All P ss
    → All P (with_arrays t xs ss)
all_arrays P t [] ss p h = h
all_arrays P t (x ∷ xs) ss p h =
    all_array P t x (with_arrays t xs ss) (All-head (λ (y : Array). P (array_segment t y)) x xs p)
    (all_arrays P t xs ss (All-tail (λ (y : Array). P (array_segment t y)) x xs p) h)

pub all_apart : (t : ElementType) (n : ℕ) (xs : List Array) (ss : List Segment) → All (IsArray t n) xs → AllPairs (ShareNone t n) xs → All InFlash ss
    → AllApart t xs ss
all_apart t n [] ss arrays pairs flash = tt
all_apart t n (x ∷ xs) ss arrays pairs flash =
    let here = All-head (IsArray t n) x xs arrays in
    let others = All-tail (IsArray t n) x xs arrays in
    let s = array_segment t x in (
      all_arrays (λ (u : Segment). Before s u ⊎ Before u s) t xs ss
          (λ k d l. two_apart t n x (slice_index_or xs k d) here (others k d l) (pairs 0 (suc k) d (omega arith) (omega arith)))
          (λ k d l. flash_apart t n x (slice_index_or ss k d) here (flash k d l)),
      all_apart t n xs ss others (λ i j d h l. pairs (suc i) (suc j) d (omega arith) (omega arith)) flash,
    )

-- of a list that has a first array, the others
pub others_placed : (t : ElementType) (xs : List Array) (x : Array) (ys : List Array) → xs ≡ x ∷ ys → AllPlaced t xs → AllPlaced t ys
others_placed t xs x ys e h = All-tail (λ (y : Array). 0 < length y.values.items → image.IsPlaced (array_segment t y)) x ys (subst (AllPlaced t) e h)

pub others_apart : (t : ElementType) (xs : List Array) (x : Array) (ys : List Array) (ss : List Segment) → xs ≡ x ∷ ys → AllApart t xs ss → AllApart t ys ss
others_apart t xs x ys ss e h = (subst (λ (zs : List Array). AllApart t zs ss) e h).1

-- AN IMAGE stays one when the values of arrays are put in
one_with : (t : ElementType) (x : Array) (ss : List Segment) → (0 < length x.values.items → image.IsPlaced (array_segment t x)) → IsApart (array_segment t x) ss
    → IsImage ss → IsImage (with_array t x ss)
one_with t x ss placed apart i = go (nat_eq (length x.values.items) 0) refl
  where
    go : (b : Bool) → nat_eq (length x.values.items) 0 ≡ b → IsImage (if b then ss else with_segment (array_segment t x) ss)
    go true e = i
    go false e = IsImage-with_segment (array_segment t x) ss (placed (grind (arith, nat_tests))) apart i

pub all_with_image : (t : ElementType) (xs : List Array) (ss : List Segment) → AllPlaced t xs → AllApart t xs ss → IsImage ss → IsImage (with_arrays t xs ss)
all_with_image t [] ss placed apart i = i
all_with_image t (x ∷ xs) ss placed apart i =
    one_with t x (with_arrays t xs ss) (All-head (λ (y : Array). 0 < length y.values.items → image.IsPlaced (array_segment t y)) x xs placed) apart.0
    (all_with_image t xs ss (All-tail (λ (y : Array). 0 < length y.values.items → image.IsPlaced (array_segment t y)) x xs placed) apart.1 i)

pub flat_is_image : (bs : List ℕ) → 0 < length bs → length bs ≤ flash_size → IsImage (flat bs)
flat_is_image bs some few = ((some, inl (omega arith)), All-nil (Before (segment 0 bs)), tt)
