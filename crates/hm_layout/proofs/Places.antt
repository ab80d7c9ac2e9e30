-- Numbers that stand at their places in a code.
use Rattle.std.proofs.Common.{◌++◌, ◌||◌, ◌≡◌, ◌≤◌, ◌<◌, ◌+◌, ◌*◌, ◌/◌, ◌%◌, ◌^◌, ℕ, Bool, true, ◌&&◌, nat_le, List, [], ◌∷◌, arith, refl, sym, ◌∙◌, ap, subst}
use Rattle.std.proofs.lemmas.Bool.Decides.{nat_tests}
use Rattle.std.proofs.lemmas.Nat.{pow-add, pow_pos}
use Rattle.std.proofs.Math.Nat.{mod-lt, mod-add-div', div-lt_iff_lt-mul}
use Rattle.hm_layout.proofs.Bits.{Known, Matches, is_clear, fill, fill_lem, fill_digit, digit_below, digit_above, or_cases, either, both_left, both_right}

-- so many bits from this one up
pub record Place : Type 0 where
  pub position : ℕ
  pub size : ℕ

abbrev pub place : ℕ → ℕ → Place
place position size = record { position = position; size = size }

-- the number for each place fits there
abbrev pub Fits : List Place → List ℕ → Type 0
Fits [] [] = Unit {0}
Fits [] (x ∷ xs) = ⊥
Fits (p ∷ ps) [] = ⊥
Fits (p ∷ ps) (x ∷ xs) = (x < 2 ^ p.size) × Fits ps xs

abbrev pub placed : List Place → List ℕ → ℕ
placed [] xs = 0
placed (p ∷ ps) [] = 0
placed (p ∷ ps) (x ∷ xs) = x * 2 ^ p.position + placed ps xs

-- each place lies below or above the others
abbrev pub is_off : Place → Place → Bool
is_off p q = nat_le (q.position + q.size) p.position || nat_le (p.position + p.size) q.position

abbrev pub are_off : Place → List Place → Bool
are_off p [] = true
are_off p (q ∷ ps) = is_off p q && are_off p ps

abbrev pub are_disjoint : List Place → Bool
are_disjoint [] = true
are_disjoint (p ∷ ps) = are_off p ps && are_disjoint ps

below_le : (m n : ℕ) → nat_le m n ≡ true → m ≤ n
below_le m n e = grind (arith, nat_tests)

-- what is known of the bits when all places are filled, which were 0
abbrev pub fills : List Known → List Place → List Known
fills bs [] = bs
fills bs (p ∷ ps) = fill p.position p.size (fills bs ps)

abbrev pub are_clear : List Known → List Place → Bool
are_clear bs [] = true
are_clear bs (p ∷ ps) = are_clear bs ps && is_clear p.position p.size (fills bs ps)

none_more : (n : ℕ) → n ≡ n + 0
none_more n = omega arith

sum_swapped : (n x s : ℕ) → (n + s) + x ≡ n + (x + s)
sum_swapped n x s = omega arith

pub fills_lem : (bs : List Known) (ps : List Place) (n : ℕ) (xs : List ℕ) → are_clear bs ps ≡ true → Matches bs n → Fits ps xs
    → Matches (fills bs ps) (n + placed ps xs)
fills_lem bs [] n xs e m f = subst (λ k. Matches bs k) (none_more n) m
fills_lem bs (p ∷ ps) n [] e m f = absurd f
fills_lem bs (p ∷ ps) n (x ∷ xs) e m f =
    subst (λ k. Matches (fills bs (p ∷ ps)) k) (sum_swapped n (x * 2 ^ p.position) (placed ps xs))
    (fill_lem p.position p.size (fills bs ps) (n + placed ps xs) x (both_right _ _ e) (fills_lem bs ps n xs (both_left _ _ e) m f.1) f.0)

-- the numbers at the places of a code
abbrev pub digits : List Place → ℕ → List ℕ
digits [] n = []
digits (p ∷ ps) n = n / 2 ^ p.position % 2 ^ p.size ∷ digits ps n

digits_kept : (p : Place) (ps : List Place) (bs : List Known) (n x : ℕ) → are_off p ps ≡ true → is_clear p.position p.size bs ≡ true → Matches bs n
    → x < 2 ^ p.size → digits ps (n + x * 2 ^ p.position) ≡ digits ps n
digits_kept p [] bs n x e c m h = refl
digits_kept p (q ∷ ps) bs n x e c m h =
    let first =
    either (λ f. digit_below p.position q.position q.size n x (below_le _ _ f))
    (λ f. digit_above p.position p.size q.position q.size bs n x c m h (below_le _ _ f)) (or_cases _ _ (both_left _ _ e)) in
    let rest = digits_kept p ps bs n x (both_right _ _ e) c m h in
    λ i. first i ∷ rest i

-- the numbers that were placed stand there
pub digits_lem : (bs : List Known) (ps : List Place) (n : ℕ) (xs : List ℕ) → are_disjoint ps ≡ true → are_clear bs ps ≡ true → Matches bs n → Fits ps xs
    → digits ps (n + placed ps xs) ≡ xs
digits_lem bs [] n [] e c m f = refl
digits_lem bs [] n (x ∷ xs) e c m f = absurd f
digits_lem bs (p ∷ ps) n [] e c m f = absurd f
digits_lem bs (p ∷ ps) n (x ∷ xs) e c m f =
    let same = sum_swapped n (x * 2 ^ p.position) (placed ps xs) in
    let lower = fills_lem bs ps n xs (both_left _ _ c) m f.1 in
    let first =
    ap (λ k. k / 2 ^ p.position % 2 ^ p.size) (sym same)
    ∙ fill_digit p.position p.size (fills bs ps) (n + placed ps xs) x (both_right _ _ c) lower f.0 in
    let rest =
    ap (digits ps) (sym same) ∙ digits_kept p ps (fills bs ps) (n + placed ps xs) x (both_left _ _ e) (both_right _ _ c) lower f.0
    ∙ digits_lem bs ps n xs (both_right _ _ e) (both_left _ _ c) m f.1 in
    λ i. first i ∷ rest i

-- a number whose bits are split among places, from its lowest bits up
abbrev pub pieces : List Place → ℕ → List ℕ
pieces [] x = []
pieces (p ∷ []) x = x ∷ []
pieces (p ∷ q ∷ ps) x = x % 2 ^ p.size ∷ pieces (q ∷ ps) (x / 2 ^ p.size)

abbrev pub total_size : List Place → ℕ
total_size [] = 0
total_size (p ∷ []) = p.size
total_size (p ∷ q ∷ ps) = total_size (q ∷ ps) + p.size

high_fits : (x w t : ℕ) → x < 2 ^ (t + w) → x / 2 ^ w < 2 ^ t
high_fits x w t h = (div-lt_iff_lt-mul (pow_pos w)).1 (rw (← pow-add 2 t w) h)

pub pieces_fit : (ps : List Place) (x : ℕ) → x < 2 ^ total_size ps → Fits ps (pieces ps x)
pieces_fit [] x h = tt
pieces_fit (p ∷ []) x h = (h, tt)
pieces_fit (p ∷ q ∷ ps) x h =
    (mod-lt x (pow_pos p.size), pieces_fit (q ∷ ps) (x / 2 ^ p.size) (high_fits x p.size (total_size (q ∷ ps)) h))

abbrev pub head_or : List ℕ → ℕ
head_or [] = 0
head_or (x ∷ xs) = x

abbrev pub rest_of : List ℕ → List ℕ
rest_of [] = []
rest_of (x ∷ xs) = xs

pub pieces_one : (ps : List Place) (x y : ℕ) → x < 2 ^ total_size ps → y < 2 ^ total_size ps → pieces ps x ≡ pieces ps y → x ≡ y
pieces_one [] x y h k e = omega arith
pieces_one (p ∷ []) x y h k e = ap head_or e
pieces_one (p ∷ q ∷ ps) x y h k e =
    let low : x % 2 ^ p.size ≡ y % 2 ^ p.size = ap head_or e in
    let high : x / 2 ^ p.size ≡ y / 2 ^ p.size =
    pieces_one (q ∷ ps) (x / 2 ^ p.size) (y / 2 ^ p.size) (high_fits x p.size (total_size (q ∷ ps)) h)
    (high_fits y p.size (total_size (q ∷ ps)) k) (ap rest_of e) in
    sym (mod-add-div' x (2 ^ p.size)) ∙ (λ i. low i + high i * 2 ^ p.size) ∙ mod-add-div' y (2 ^ p.size)

-- where lists begin with the pieces at the same places, both parts are told
pub cut : (ps : List Place) (x y : ℕ) (xs ys : List ℕ) → pieces ps x ++ xs ≡ pieces ps y ++ ys → (pieces ps x ≡ pieces ps y) × (xs ≡ ys)
cut [] x y xs ys e = (refl, e)
cut (p ∷ []) x y xs ys e = let h : x ≡ y = ap head_or e in ((λ i. h i ∷ []), ap rest_of e)
cut (p ∷ q ∷ ps) x y xs ys e =
    let h : x % 2 ^ p.size ≡ y % 2 ^ p.size = ap head_or e in
    let both = cut (q ∷ ps) (x / 2 ^ p.size) (y / 2 ^ p.size) xs ys (ap rest_of e) in
    ((λ i. h i ∷ both.0 i), both.1)

pub fits_both : (ps qs : List Place) (xs ys : List ℕ) → Fits ps xs → Fits qs ys → Fits (ps ++ qs) (xs ++ ys)
fits_both [] qs [] ys f g = g
fits_both [] qs (x ∷ xs) ys f g = absurd f
fits_both (p ∷ ps) qs [] ys f g = absurd f
fits_both (p ∷ ps) qs (x ∷ xs) ys f g = (f.0, fits_both ps qs xs ys f.1 g)

-- the same, where they are the digits of a number
pub cut_digits : (ps qs : List Place) (n x : ℕ) (xs : List ℕ) → digits (ps ++ qs) n ≡ pieces ps x ++ xs → (digits ps n ≡ pieces ps x) × (digits qs n ≡ xs)
cut_digits [] qs n x xs e = (refl, e)
cut_digits (p ∷ []) qs n x xs e = let h : n / 2 ^ p.position % 2 ^ p.size ≡ x = ap head_or e in ((λ i. h i ∷ []), ap rest_of e)
cut_digits (p ∷ q ∷ ps) qs n x xs e =
    let h : n / 2 ^ p.position % 2 ^ p.size ≡ x % 2 ^ p.size = ap head_or e in
    let both = cut_digits (q ∷ ps) qs n (x / 2 ^ p.size) xs (ap rest_of e) in
    ((λ i. h i ∷ both.0 i), both.1)
