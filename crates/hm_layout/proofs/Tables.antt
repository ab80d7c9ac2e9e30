-- Tables of rows: the variants of an enum, each with its codes.
use Rattle.std.proofs.Common.{◌≡◌, ℕ, Bool, true, ◌&&◌, List, [], ◌∷◌, ◌++◌, refl, sym, ◌∙◌, ap, subst, ◌⊎◌, inl, inr}
use denote.Struct.Field as data_field
use denote.Struct.Values.{Values}
use denote.Enum.Declared as enum
use Rattle.hm_layout.proofs.Bits.{both_left, both_right}
use Rattle.hm_layout.proofs.Search.{Tried, try_either, try_none, try_pair, try_unit, try_enum}
use Rattle.hm_layout.proofs.Coded.{Kind, Has, Member, member_left, member_right, across, across_lem, Coded}

abbrev pub code_either : {R S : Type 0} → (R → ℕ) → (S → ℕ) → R ⊎ S → ℕ
code_either f g (inl r) = f r
code_either f g (inr s) = g s

module _ {R S : Type 0} (C : Coded R) (D : Coded S) where
  abbrev pub are_told : Bool
  are_told = (C.is_told && D.is_told) && across C.kinds D.kinds

  pub either_has : are_told ≡ true → (x : R ⊎ S) → (k : Kind) × Member k (C.kinds ++ D.kinds) × Has k (code_either C.code D.code x)
  either_has e (inl r) = let (k, m, h) = C.has (both_left _ _ (both_left _ _ e)) r in (k, member_left k C.kinds D.kinds m, h)
  either_has e (inr s) = let (k, m, h) = D.has (both_right _ _ (both_left _ _ e)) s in (k, member_right k C.kinds D.kinds m, h)

  apart : are_told ≡ true → (r : R) (s : S) → C.code r ≡ D.code s → ⊥
  apart e r s same =
      let (k, m, h) = C.has (both_left _ _ (both_left _ _ e)) r in
      let (l, o, g) = D.has (both_right _ _ (both_left _ _ e)) s in
      across_lem k l C.kinds D.kinds (D.code s) (both_right _ _ e) m o (subst (λ n. Has k n) same h) g

  pub either_one : are_told ≡ true → (x y : R ⊎ S) → code_either C.code D.code x ≡ code_either C.code D.code y → x ≡ y
  either_one e (inl a) (inl b) same = ap inl (C.one (both_left _ _ (both_left _ _ e)) a b same)
  either_one e (inl a) (inr b) same = absurd (apart e a b same)
  either_one e (inr a) (inl b) same = absurd (apart e b a (sym same))
  either_one e (inr a) (inr b) same = ap inr (D.one (both_right _ _ (both_left _ _ e)) a b same)

-- a value of one or of the other
abbrev pub either_coded : {R S : Type 0} → Coded R → Coded S → Coded (R ⊎ S)
either_coded C D = record {
  code = code_either C.code D.code;
  kinds = C.kinds ++ D.kinds;
  is_told = are_told C D;
  has = either_has C D;
  one = either_one C D;
  tried = try_either C.tried D.tried;
}

abbrev pub none_coded : Coded ⊥
none_coded = record { code = λ x. absurd x; kinds = []; is_told = true; has = λ e x. absurd x; one = λ e x y same. absurd x; tried = try_none }

pub through_has : {R S : Type 0} (C : Coded S) (to : R → S) (code : R → ℕ) → ((r : R) → code r ≡ C.code (to r))
    → C.is_told ≡ true → (r : R) → (k : Kind) × Member k C.kinds × Has k (code r)
through_has C to code is e r = let (k, m, h) = C.has e (to r) in (k, m, subst (λ n. Has k n) (sym (is r)) h)

-- values that are told by values with codes
abbrev pub through : {R S : Type 0} (C : Coded S) (to : R → S) → ((a b : R) → to a ≡ to b → a ≡ b)
    → (code : R → ℕ) → ((r : R) → code r ≡ C.code (to r)) → Tried R → Coded R
through C to one code is tried = record {
  code = code;
  kinds = C.kinds;
  is_told = C.is_told;
  has = through_has C to code is;
  one = λ e a b same. one a b (C.one e (to a) (to b) (sym (is a) ∙ same ∙ is b));
  tried = tried;
}

-- a row's codes, and those of the rows after it
infixr 20 ◌▹◌
abbrev pub ◌▹◌ : {A B : Type 1} → A → B → A × B
a ▹ b = (a, b)

abbrev pub CodedValues : List data_field.Field → Type 1
CodedValues [] = Coded (Unit {0})
CodedValues (f ∷ []) = Coded f.Value
CodedValues (f ∷ g ∷ fs) = Coded (Values (f ∷ g ∷ fs))

-- the codes of each variant
abbrev pub Table : List (List data_field.Field) → Type 1
Table [] = Unit {1}
Table (fs ∷ variants) = CodedValues fs × Table variants

pub alone : {A : Type 0} (x y : A × Unit {0}) → x.0 ≡ y.0 → x ≡ y
alone x y e = λ i. (e i, tt)

abbrev pub coded_values : (fs : List data_field.Field) → CodedValues fs → Coded (Values fs)
coded_values [] C = C
coded_values (f ∷ []) C = through C (λ x. x.0) alone (λ x. C.code x.0) (λ x. refl) (try_pair C.tried try_unit)
coded_values (f ∷ g ∷ fs) C = C

abbrev pub coded_choice : (variants : List (List data_field.Field)) → Table variants → Coded (enum.Choice variants)
coded_choice [] t = none_coded
coded_choice (fs ∷ variants) t = either_coded (coded_values fs t.0) (coded_choice variants t.1)

-- an enum, told by the codes of its variants
abbrev pub of_table : (E : enum.Record) (code : E.D → ℕ) (t : Table E.parts)
    → ((x : E.D) → code x ≡ (coded_choice E.parts t).code (E.as_values x)) → Coded E.D
of_table E code t is = through (coded_choice E.parts t) E.as_values (enum.values_one E) code is (try_enum E (coded_choice E.parts t).tried)
