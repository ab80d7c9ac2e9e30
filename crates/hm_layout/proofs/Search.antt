-- Types whose values can be tried one after another: whether one of them has a property is decided.
use Rattle.std.proofs.Common.{◌≡◌, ◌≢◌, ◌≤◌, ◌<◌, ℕ, zero, suc, Bool, true, false, List, [], ◌∷◌, arith, refl, sym, subst, ◌⊎◌, inl, inr, IsTrue}
use Rattle.std.proofs.lemmas.Bool.{cases_eq}
use denote.Struct.Field as data_field
use denote.Struct.Values.{Values}
use denote.Struct.Declared as struct
use denote.Enum.Bare.{Bare}
use denote.Enum.Declared as enum
use Rattle.hm_layout.proofs.Same.{same_below}
use Rattle.hm_isa.specs.declared.fields.Below.{Below}

abbrev pub Decided : Type 0 → Type 0
Decided A = A ⊎ (A → ⊥)

-- there is a value with a property, or none has it
abbrev pub Found : {A : Type 0} → (A → Type 0) → Type 0
Found {A = A} P = Decided ((a : A) × P a)

-- the values of a type can be tried
pub record Tried (A : Type 0) : Type 1 where
  pub find : (P : A → Type 0) → ((a : A) → Decided (P a)) → Found P

not_below : {limit : ℕ} (P : Below limit → Type 0) (n : ℕ) (h : n < limit) → (P (record { value = n; in_range = h }) → ⊥)
    → ((b : Below limit) → b.value < n → P b → ⊥) → (b : Below limit) → b.value < suc n → P b → ⊥
not_below {limit = limit} P n h here below b k p = go (cases_eq b.value n)
  where
    go : (b.value ≡ n) ⊎ (b.value ≡ n → ⊥) → ⊥
    go (inl e) = here (subst P (same_below limit b (record { value = n; in_range = h }) e) p)
    go (inr d) = below b (omega arith) p

below_from : {limit : ℕ} (P : Below limit → Type 0) → ((b : Below limit) → Decided (P b)) → (n : ℕ) → n ≤ limit
    → ((b : Below limit) × P b) ⊎ ((b : Below limit) → b.value < n → P b → ⊥)
below_from P decide zero h = inr (λ b k p. absurd (let l : b.value < 0 = k in omega arith))
below_from {limit = limit} P decide (suc n) h = go (below_from P decide n (omega arith)) (decide (record { value = n; in_range = omega arith }))
  where
    go : ((b : Below limit) × P b) ⊎ ((b : Below limit) → b.value < n → P b → ⊥) → Decided (P (record { value = n; in_range = omega arith }))
        → ((b : Below limit) × P b) ⊎ ((b : Below limit) → b.value < suc n → P b → ⊥)
    go (inl found) here = inl found
    go (inr none) (inl p) = inl (record { value = n; in_range = omega arith }, p)
    go (inr none) (inr not) = inr (not_below P n (omega arith) not none)

pub try_below : (limit : ℕ) → Tried (Below limit)
try_below limit = record { find = λ P decide. go P (below_from P decide limit (omega arith)) }
  where
    go : (P : Below limit → Type 0) → ((b : Below limit) × P b) ⊎ ((b : Below limit) → b.value < limit → P b → ⊥) → Found P
    go P (inl found) = inl found
    go P (inr none) = inr (λ x. none x.0 x.0.in_range x.1)

pub try_unit : Tried (Unit {0})
try_unit = record { find = λ P decide. go P (decide tt) }
  where
    go : (P : Unit {0} → Type 0) → Decided (P tt) → Found P
    go P (inl p) = inl (tt, p)
    go P (inr no_) = inr (λ x. no_ x.1)

pub try_none : Tried ⊥
try_none = record { find = λ P decide. inr (λ x. absurd x.0) }

pub try_pair : {A B : Type 0} → Tried A → Tried B → Tried (A × B)
try_pair {A = A} {B = B} SA SB = record { find = λ P decide. go P (SA.find (λ a. (b : B) × P (a, b)) (λ a. SB.find (λ b. P (a, b)) (λ b. decide (a, b)))) }
  where
    go : (P : A × B → Type 0) → Found (λ (a : A). (b : B) × P (a, b)) → Found P
    go P (inl (a, (b, p))) = inl ((a, b), p)
    go P (inr none) = inr (λ x. none (x.0.0, (x.0.1, x.1)))

pub try_either : {A B : Type 0} → Tried A → Tried B → Tried (A ⊎ B)
try_either {A = A} {B = B} SA SB =
    record { find = λ P decide. go P (SA.find (λ a. P (inl a)) (λ a. decide (inl a))) (SB.find (λ b. P (inr b)) (λ b. decide (inr b))) }
  where
    no_ne : (P : A ⊎ B → Type 0) → ((a : A) → P (inl a) → ⊥) → ((b : B) → P (inr b) → ⊥) → (x : A ⊎ B) → P x → ⊥
    no_ne P f g (inl a) = f a
    no_ne P f g (inr b) = g b

    go : (P : A ⊎ B → Type 0) → Found (λ (a : A). P (inl a)) → Found (λ (b : B). P (inr b)) → Found P
    go P (inl (a, p)) others = inl (inl a, p)
    go P (inr none) (inl (b, p)) = inl (inr b, p)
    go P (inr none) (inr never) = inr (λ x. no_ne P (λ a p. none (a, p)) (λ b p. never (b, p)) x.0 x.1)

-- values that are made of values that can be tried
pub try_through : {A B : Type 0} → Tried B → (to : A → B) (make : B → A) → ((a : A) → make (to a) ≡ a) → Tried A
try_through {A = A} {B = B} S to make same = record { find = λ P decide. go P (S.find (λ b. P (make b)) (λ b. decide (make b))) }
  where
    go : (P : A → Type 0) → Found (λ (b : B). P (make b)) → Found P
    go P (inl (b, p)) = inl (make b, p)
    go P (inr none) = inr (λ x. none (to x.0, subst P (sym (same x.0)) x.1))

-- the values that have a property which is decided
pub try_such : {A : Type 0} (Q : A → Type 0) → ((a : A) → Decided (Q a)) → ((a : A) → (q r : Q a) → q ≡ r) → Tried A → Tried ((a : A) × Q a)
try_such {A = A} Q is one S = record { find = λ P decide. go P (S.find (λ a. (q : Q a) × P (a, q)) (λ a. at P decide a (is a))) }
  where
    at : (P : ((a : A) × Q a) → Type 0) → ((x : (a : A) × Q a) → Decided (P x)) → (a : A) → Decided (Q a) → Decided ((q : Q a) × P (a, q))
    at P decide a (inl q) = within (decide (a, q))
      where
        within : Decided (P (a, q)) → Decided ((q' : Q a) × P (a, q'))
        within (inl p) = inl (q, p)
        within (inr no_) = inr (λ x. no_ (subst (λ k. P (a, k)) (one a x.0 q) x.1))
    at P decide a (inr no_) = inr (λ x. no_ x.0)

    go : (P : ((a : A) × Q a) → Type 0) → Found (λ (a : A). (q : Q a) × P (a, q)) → Found P
    go P (inl (a, (q, p))) = inl ((a, q), p)
    go P (inr none) = inr (λ x. none (x.0.0, (x.0.1, x.1)))

try_choice : (parts : List (List data_field.Field)) → Bare parts → Tried (enum.Choice parts)
try_choice [] bare = try_none
try_choice ([] ∷ parts) bare = try_either try_unit (try_choice parts bare)
try_choice ((f ∷ fs) ∷ parts) bare = absurd bare

-- the names of an enum with no fields
pub try_names : (E : enum.Record) → Bare E.parts → Tried E.D
try_names E bare = try_through (try_choice E.parts bare) E.as_values E.make E.eta

-- an enum whose variants can be tried
pub try_enum : (E : enum.Record) → Tried (enum.Choice E.parts) → Tried E.D
try_enum E S = try_through S E.as_values E.make E.eta

-- a struct whose ghost fields are decided
pub try_struct : (T : struct.Declared) → Tried (Values T.parts) → ((v : Values T.parts) → Decided (T.cover.Ghost v)) → Tried T.D
try_struct T S is =
    try_through (try_such T.cover.Ghost is T.propositions S) (λ d. (T.as_values d, T.cover.ghosts d)) (λ x. T.cover.make x.0 x.1) T.cover.eta

pub decided_both : {A B : Type 0} → Decided A → Decided B → Decided (A × B)
decided_both (inl a) (inl b) = inl (a, b)
decided_both (inl a) (inr no_) = inr (λ x. no_ x.1)
decided_both (inr no_) y = inr (λ x. no_ x.0)

pub decided_test : (b : Bool) → Decided (IsTrue b)
decided_test true = inl refl
decided_test false = inr (λ x. cc)

pub decided_differ : (m n : ℕ) → Decided (m ≢ n)
decided_differ m n = go (cases_eq m n)
  where
    go : (m ≡ n) ⊎ (m ≡ n → ⊥) → Decided (m ≢ n)
    go (inl e) = inr (λ d. d e)
    go (inr d) = inl d

-- a struct with no rule, and one whose rule is a test
pub no_rule : Decided (Unit {0})
no_rule = inl tt

pub one_rule : {b : Bool} → Decided (IsTrue b × Unit {0})
one_rule {b = b} = decided_both (decided_test b) no_rule
