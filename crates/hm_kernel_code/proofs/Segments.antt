-- The values of a text stand in the image that has them as segments.
use Rattle.std.proofs.Common.{◌≡◌, ℕ, ◌+◌, ◌-◌, ◌*◌, ◌⊎◌, inl, inr, Bool, true, false, ◌&&◌, nat_eq, nat_le, nat_lt, length, List, [], ◌∷◌, refl, sym, ap, ◌∙◌}
use Rattle.std.proofs.Common.{arith}
use Rattle.std.specs.Prelude.{slice_index, if◌then◌else◌}
use Rattle.std.proofs.lemmas.Bool.Decides.{nat_tests}
use Rattle.std.proofs.lemmas.List.Elements.{All-head, All-tail}
use Rattle.hm_base.specs.Image.{Before, IsApart, Segment, covers, given, with_segment}
use Rattle.hm_kernel_lang.specs.declared.text.ElementType.{ElementType}
use Rattle.hm_kernel_lang.specs.Language as language
use Rattle.hm_kernel_lang.specs.declared.text.Array.{Array}
use Rattle.hm_kernel_lang.specs.Language.{bytes, replaced}
use Rattle.hm_kernel_lang.specs.Values.{element_bytes}
use Rattle.hm_kernel_lang.proofs.Values.{length_elements, replaced_is}
use Rattle.hm_kernel_code.specs.Segments.{AllApart, array_segment, with_array, with_arrays}

not_both : (s t : Segment) (a : ℕ) → (Before s t ⊎ Before t s) → covers s a ≡ true → covers t a ≡ false
not_both s t a (inl h) e = grind (arith, nat_tests)
not_both s t a (inr h) e = grind (arith, nat_tests)

swap : (u v : Bool) (x y z : ℕ) → (u ≡ true → v ≡ false) → (if v then y else (if u then x else z)) ≡ (if u then x else (if v then y else z))
swap true true x y z h = absurd (let e = h refl in cc)
swap true false x y z h = refl
swap false true x y z h = refl
swap false false x y z h = refl

-- a segment that is put among others gives its bytes, and they give theirs
pub given_with : (s : Segment) (ss : List Segment) (blank a : ℕ) → IsApart s ss
    → given (with_segment s ss) blank a ≡ (if covers s a then slice_index s.bytes (a - s.addr) else given ss blank a)
given_with s [] blank a h = refl
given_with s (t ∷ ts) blank a h =
    go (nat_lt s.addr t.addr) (given_with s ts blank a (All-tail (λ (x : Segment). Before s x ⊎ Before x s) t ts h))
    (not_both s t a (All-head (λ (x : Segment). Before s x ⊎ Before x s) t ts h))
  where
    go : (u : Bool) → given (with_segment s ts) blank a ≡ (if covers s a then slice_index s.bytes (a - s.addr) else given ts blank a)
        → (covers s a ≡ true → covers t a ≡ false)
        → given (if u then s ∷ t ∷ ts else t ∷ with_segment s ts) blank a ≡ (if covers s a then slice_index s.bytes (a - s.addr) else given (t ∷ ts) blank a)
    go true i apart = refl
    go false i apart =
        ap (λ (x : ℕ). if covers t a then slice_index t.bytes (a - t.addr) else x) i
        ∙ swap (covers s a) (covers t a) (slice_index s.bytes (a - s.addr)) (slice_index t.bytes (a - t.addr)) (given ts blank a) apart

no_values : (t : ElementType) (a n : ℕ) (f : ℕ → ℕ) (m : ℕ → ℕ) → n ≡ 0 → replaced t a n f m ≡ m
no_values t a n f m e = ap (λ (k : ℕ). replaced t a k f m) e

one_array : (t : ElementType) (x : Array) (image : List Segment) (m : ℕ → ℕ) (a : ℕ) → IsApart (array_segment t x) image → given image 0 a ≡ m a
    → given (with_array t x image) 0 a ≡ replaced t x.addr (length x.values.items) (λ j. slice_index x.values.items j) m a
one_array t x image m a h e = go (nat_eq (length x.values.items) 0) refl
  where
    f : ℕ → ℕ
    f j = slice_index x.values.items j

    long : length (element_bytes t (length x.values.items) (λ j. slice_index x.values.items j)) ≡ bytes t * length x.values.items
    long = length_elements t (length x.values.items) (λ j. slice_index x.values.items j)

    go : (u : Bool) → nat_eq (length x.values.items) 0 ≡ u
        → given (if u then image else with_segment (array_segment t x) image) 0 a
        ≡ replaced t x.addr (length x.values.items) (λ j. slice_index x.values.items j) m a
    go true is = e ∙ ap (λ (k : ℕ → ℕ). k a) (sym (no_values t x.addr (length x.values.items) (λ j. slice_index x.values.items j) m (grind (arith, nat_tests))))
    go false is =
        given_with (array_segment t x) image 0 a h
        ∙ (λ j. if nat_le x.addr a && nat_lt a (x.addr + long j)
        then slice_index (element_bytes t (length x.values.items) (λ k. slice_index x.values.items k)) (a - x.addr) else e j)
        ∙ sym (replaced_is t x.addr (length x.values.items) (λ j. slice_index x.values.items j) m a)

-- all arrays, over segments that give zero at an address
pub arrays_given : (t : ElementType) (xs : List Array) (image : List Segment) (a : ℕ) → AllApart t xs image → given image 0 a ≡ 0
    → given (with_arrays t xs image) 0 a ≡ language.given t xs a
arrays_given t [] image a h e = e
arrays_given t (x ∷ xs) image a h e = one_array t x (with_arrays t xs image) (language.given t xs) a h.0 (arrays_given t xs image a h.1 e)
