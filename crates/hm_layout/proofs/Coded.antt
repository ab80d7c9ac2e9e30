-- Values with codes, where a computed test shows that each code tells its value.
use Rattle.std.proofs.Common.{◌≡◌, ◌/◌, ◌%◌, ◌^◌, ℕ, Bool, true, false, ◌&&◌, ◌||◌, List, [], ◌∷◌, ◌++◌, map, sym, ◌∙◌, ap, subst, ◌⊎◌, inl, inr}
use Rattle.hm_layout.proofs.Bits.{Known, Matches, clash, clash_lem, holds, holds_lem, or_cases, either, both_left, both_right}
use Rattle.hm_layout.proofs.Search.{Tried}

-- the number at a place
pub record Digit : Type 0 where
  pub position : ℕ
  pub size : ℕ
  pub value : ℕ

abbrev pub digit : ℕ → ℕ → ℕ → Digit
digit position size value = record { position = position; size = size; value = value }

-- these stand at their places
abbrev pub Stand : List Digit → ℕ → Type 0
Stand [] n = Unit {0}
Stand (d ∷ ds) n = (n / 2 ^ d.position % 2 ^ d.size ≡ d.value) × Stand ds n

abbrev pub Spared : List (List Digit) → ℕ → Type 0
Spared [] n = Unit {0}
Spared (ds ∷ dss) n = (Stand ds n → ⊥) × Spared dss n

-- what is known of each code that a name gives: its bits, and digits that do not stand in it together
pub record Kind : Type 0 where
  pub bits : List Known
  pub without : List (List Digit)

pub record Has (k : Kind) (n : ℕ) : Type 0 where
  pub bits : Matches k.bits n
  pub without : Spared k.without n

-- whether numbers with these bits have all the digits
abbrev pub hold_all : List Digit → List Known → Bool
hold_all [] bs = true
hold_all (d ∷ ds) bs = holds d.position d.size d.value bs && hold_all ds bs

abbrev pub hold_some : List (List Digit) → List Known → Bool
hold_some [] bs = false
hold_some (ds ∷ dss) bs = hold_all ds bs || hold_some dss bs

abbrev pub are_apart : Kind → Kind → Bool
are_apart k l = clash k.bits l.bits || (hold_some k.without l.bits || hold_some l.without k.bits)

hold_all-lem : (ds : List Digit) (bs : List Known) (n : ℕ) → hold_all ds bs ≡ true → Matches bs n → Stand ds n
hold_all-lem [] bs n e m = tt
hold_all-lem (d ∷ ds) bs n e m = (holds_lem d.position d.size d.value bs n (both_left _ _ e) m, hold_all-lem ds bs n (both_right _ _ e) m)

hold_some-lem : (dss : List (List Digit)) (bs : List Known) (n : ℕ) → hold_some dss bs ≡ true → Matches bs n → Spared dss n → ⊥
hold_some-lem [] bs n e m s = cc
hold_some-lem (ds ∷ dss) bs n e m s =
    either (λ f. s.0 (hold_all-lem ds bs n f m)) (λ f. hold_some-lem dss bs n f m s.1) (or_cases _ _ e)

apart_lem : (k l : Kind) (n : ℕ) → are_apart k l ≡ true → Has k n → Has l n → ⊥
apart_lem k l n e p q =
    either (λ f. clash_lem k.bits l.bits n f p.bits q.bits)
    (λ f. either (λ g. hold_some-lem k.without l.bits n g q.bits p.without) (λ g. hold_some-lem l.without k.bits n g p.bits q.without) (or_cases _ _ f))
    (or_cases _ _ e)

abbrev pub Member : {A : Type 0} → A → List A → Type 0
Member x [] = ⊥
Member x (y ∷ ys) = (x ≡ y) ⊎ Member x ys

pub member_left : {A : Type 0} (x : A) (xs ys : List A) → Member x xs → Member x (xs ++ ys)
member_left x [] ys m = absurd m
member_left x (z ∷ xs) ys (inl e) = inl e
member_left x (z ∷ xs) ys (inr m) = inr (member_left x xs ys m)

pub member_right : {A : Type 0} (x : A) (xs ys : List A) → Member x ys → Member x (xs ++ ys)
member_right x [] ys m = m
member_right x (z ∷ xs) ys m = inr (member_right x xs ys m)

pub member_map : {A B : Type 0} (f : A → B) (x : A) (xs : List A) → Member x xs → Member (f x) (map f xs)
member_map f x [] m = absurd m
member_map f x (y ∷ xs) (inl e) = inl (ap f e)
member_map f x (y ∷ xs) (inr m) = inr (member_map f x xs m)

-- every kind is apart from this one
abbrev pub apart_from : Kind → List Kind → Bool
apart_from k [] = true
apart_from k (l ∷ ls) = are_apart k l && apart_from k ls

abbrev pub across : List Kind → List Kind → Bool
across [] ls = true
across (k ∷ ks) ls = apart_from k ls && across ks ls

abbrev pub pairwise : List Kind → Bool
pairwise [] = true
pairwise (k ∷ ks) = apart_from k ks && pairwise ks

apart_from-lem : (k l : Kind) (ls : List Kind) (n : ℕ) → apart_from k ls ≡ true → Member l ls → Has k n → Has l n → ⊥
apart_from-lem k l [] n e m p q = m
apart_from-lem k l (l' ∷ ls) n e (inl f) p q = apart_lem k l' n (both_left _ _ e) p (subst (λ j. Has j n) f q)
apart_from-lem k l (l' ∷ ls) n e (inr m) p q = apart_from-lem k l ls n (both_right _ _ e) m p q

pub across_lem : (k l : Kind) (ks ls : List Kind) (n : ℕ) → across ks ls ≡ true → Member k ks → Member l ls → Has k n → Has l n → ⊥
across_lem k l [] ls n e m o p q = m
across_lem k l (k' ∷ ks) ls n e (inl f) o p q = apart_from-lem k' l ls n (both_left _ _ e) o (subst (λ j. Has j n) f p) q
across_lem k l (k' ∷ ks) ls n e (inr m) o p q = across_lem k l ks ls n (both_right _ _ e) m o p q

-- names whose kinds are apart are told by a code
pub one_name : {A : Type 0} (f : A → Kind) (x y : A) (xs : List A) (n : ℕ) → pairwise (map f xs) ≡ true → Member x xs → Member y xs
    → Has (f x) n → Has (f y) n → x ≡ y
one_name f x y [] n e m o p q = absurd m
one_name f x y (z ∷ xs) n e (inl g) (inl h) p q = g ∙ sym h
one_name f x y (z ∷ xs) n e (inl g) (inr o) p q =
    absurd (apart_from-lem (f z) (f y) (map f xs) n (both_left _ _ e) (member_map f y xs o) (subst (λ j. Has (f j) n) g p) q)
one_name f x y (z ∷ xs) n e (inr m) (inl h) p q =
    absurd (apart_from-lem (f z) (f x) (map f xs) n (both_left _ _ e) (member_map f x xs m) (subst (λ j. Has (f j) n) h q) p)
one_name f x y (z ∷ xs) n e (inr m) (inr o) p q = one_name f x y xs n (both_right _ _ e) m o p q

-- values with codes, where the test shows that a code tells its value. They can be tried one after another
pub record Coded (R : Type 0) : Type 1 where
  pub code : R → ℕ
  pub kinds : List Kind
  pub is_told : Bool
  pub has : is_told ≡ true → (r : R) → (k : Kind) × Member k kinds × Has k (code r)
  pub one : is_told ≡ true → (a b : R) → code a ≡ code b → a ≡ b
  pub tried : Tried R
