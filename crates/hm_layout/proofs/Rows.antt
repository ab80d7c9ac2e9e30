-- Rows of a table: the fields of a struct at their places, and a base for each name.
use Rattle.std.proofs.Common.{zero, suc, ◌-◌, ◌/◌, ◌%◌, ◌≡◌, ◌<◌, ◌+◌, ◌^◌, ℕ, Bool, true, ◌&&◌, nat_le, nat_lt, List, [], ◌∷◌, ◌++◌, map, arith, refl, sym}
use Rattle.std.proofs.Common.{◌∙◌, ap, subst, inl, inr}
use Rattle.std.proofs.lemmas.Bool.Decides.{nat_tests}
use denote.Struct.Field as data_field
use denote.Struct.Values.{Values}
use denote.Struct.Declared as struct
use denote.Enum.Bare.{Bare}
use denote.Enum.Declared as enum
use Rattle.hm_layout.proofs.Same.{same_below, same_struct}
use Rattle.hm_isa.specs.declared.fields.Below.{Below}
use Rattle.hm_layout.proofs.Bits.{Matches, bits_of, bits_of_lem, both_left, both_right}
use Rattle.hm_layout.proofs.Search.{Decided, Tried, try_below, try_unit, try_pair, try_names, try_struct}
use Rattle.hm_layout.proofs.Places.{Place, place, Fits, placed, are_disjoint, fills, are_clear, fills_lem, digits, digits_lem, pieces, total_size, pieces_fit}
use Rattle.hm_layout.proofs.Places.{pieces_one, cut, cut_digits, head_or, fits_both}
use Rattle.hm_layout.proofs.Coded.{Digit, digit, Spared, Kind, Has, Member, member_map, pairwise, one_name, Coded}

-- how the values of a field's type stand in a code: a number below a limit, from its lowest bits up
pub record Placing (A : Type 0) : Type 1 where
  pub spread : List Place
  pub limit : ℕ
  pub to : A → Below limit
  pub one : (a b : A) → to a ≡ to b → a ≡ b
  pub tried : Tried A

abbrev pub spread : (places : List Place) (limit : ℕ) → Placing (Below limit)
spread places limit = record { spread = places; limit = limit; to = λ b. b; one = λ a b e. e; tried = try_below limit }

-- so many bits from this one up, for a number below a limit
abbrev pub at : (position size limit : ℕ) → Placing (Below limit)
at position size limit = spread (place position size ∷ []) limit

-- the numbers that a place could have from this one up
abbrev pub values_from : Place → (first count : ℕ) → List (List Digit)
values_from p first zero = []
values_from p first (suc count) = (digit p.position p.size first ∷ []) ∷ values_from p (first + 1) count

abbrev pub out_of_range : List Place → ℕ → List (List Digit)
out_of_range [] limit = []
out_of_range (p ∷ []) limit = values_from p limit (2 ^ p.size - limit)
out_of_range (p ∷ q ∷ ps) limit = []

values_spared : (p : Place) (first count x n : ℕ) → n / 2 ^ p.position % 2 ^ p.size ≡ x → x < first → Spared (values_from p first count) n
values_spared p first zero x n e h = tt
values_spared p first (suc count) x n e h = ((λ s. let f = s.0 in omega arith), values_spared p (first + 1) count x n e (omega arith))

range_spared : (ps : List Place) (limit x n : ℕ) → digits ps n ≡ pieces ps x → x < limit → Spared (out_of_range ps limit) n
range_spared [] limit x n e h = tt
range_spared (p ∷ []) limit x n e h = values_spared p limit (2 ^ p.size - limit) x n (ap head_or e) h
range_spared (p ∷ q ∷ ps) limit x n e h = tt

-- the fields of a struct
abbrev pub Layout : List data_field.Field → Type 1
Layout [] = Unit {1}
Layout (f ∷ fs) = Placing f.Value × Layout fs

abbrev pub numbers_of : (fs : List data_field.Field) → Layout fs → Values fs → List ℕ
numbers_of [] l v = []
numbers_of (f ∷ fs) l v = pieces (l.0).spread ((l.0).to v.0).value ++ numbers_of fs l.1 v.1

abbrev pub places_of : (fs : List data_field.Field) → Layout fs → List Place
places_of [] l = []
places_of (f ∷ fs) l = (l.0).spread ++ places_of fs l.1

-- each limit fits in the field's bits
abbrev pub do_fit : (fs : List data_field.Field) → Layout fs → Bool
do_fit [] l = true
do_fit (f ∷ fs) l = nat_le (l.0).limit (2 ^ total_size (l.0).spread) && do_fit fs l.1

below_limit : (x limit m : ℕ) → nat_le limit m ≡ true → x < limit → x < m
below_limit x limit m e h = grind (arith, nat_tests)

pub numbers_fit : (fs : List data_field.Field) (l : Layout fs) (v : Values fs) → do_fit fs l ≡ true → Fits (places_of fs l) (numbers_of fs l v)
numbers_fit [] l v e = tt
numbers_fit (f ∷ fs) l v e =
    fits_both (l.0).spread (places_of fs l.1) _ _ (pieces_fit (l.0).spread _ (below_limit _ _ _ (both_left _ _ e) ((l.0).to v.0).in_range))
    (numbers_fit fs l.1 v.1 (both_right _ _ e))

pub numbers_one : (fs : List data_field.Field) (l : Layout fs) (v w : Values fs) → do_fit fs l ≡ true → numbers_of fs l v ≡ numbers_of fs l w → v ≡ w
numbers_one [] l v w f e = refl
numbers_one (g ∷ fs) l v w f e =
    let both = cut (l.0).spread ((l.0).to v.0).value ((l.0).to w.0).value (numbers_of fs l.1 v.1) (numbers_of fs l.1 w.1) e in
    let number : ((l.0).to v.0).value ≡ ((l.0).to w.0).value =
    pieces_one (l.0).spread _ _ (below_limit _ _ _ (both_left _ _ f) ((l.0).to v.0).in_range)
    (below_limit _ _ _ (both_left _ _ f) ((l.0).to w.0).in_range) both.0 in
    let x : v.0 ≡ w.0 = (l.0).one v.0 w.0 (same_below (l.0).limit ((l.0).to v.0) ((l.0).to w.0) number) in
    let xs : v.1 ≡ w.1 = numbers_one fs l.1 v.1 w.1 (both_right _ _ f) both.1 in
    λ i. (x i, xs i)

-- numbers past a field's limit do not stand in a code
abbrev pub past_limits : (fs : List data_field.Field) → Layout fs → List (List Digit)
past_limits [] l = []
past_limits (f ∷ fs) l = out_of_range (l.0).spread (l.0).limit ++ past_limits fs l.1

pub spared_both : (dss ess : List (List Digit)) (n : ℕ) → Spared dss n → Spared ess n → Spared (dss ++ ess) n
spared_both [] ess n s t = t
spared_both (ds ∷ dss) ess n s t = (s.0, spared_both dss ess n s.1 t)

pub limits_spared : (fs : List data_field.Field) (l : Layout fs) (v : Values fs) (n : ℕ) → digits (places_of fs l) n ≡ numbers_of fs l v
    → Spared (past_limits fs l) n
limits_spared [] l v n e = tt
limits_spared (f ∷ fs) l v n e =
    let both = cut_digits (l.0).spread (places_of fs l.1) n ((l.0).to v.0).value (numbers_of fs l.1 v.1) e in
    spared_both (out_of_range (l.0).spread (l.0).limit) (past_limits fs l.1) n
    (range_spared (l.0).spread (l.0).limit ((l.0).to v.0).value n both.0 ((l.0).to v.0).in_range) (limits_spared fs l.1 v.1 n both.1)

pub try_values : (fs : List data_field.Field) → Layout fs → Tried (Values fs)
try_values [] l = try_unit
try_values (f ∷ fs) l = try_pair (l.0).tried (try_values fs l.1)

-- a struct's first field, where that is the name of an operation
pub record Naming (A : Type 0) (E : enum.Record) : Type 1 where
  pub bare : Bare E.parts
  pub to : A → E.D
  pub one : (a b : A) → to a ≡ to b → a ≡ b
  pub tried : Tried A

abbrev pub the_name : {E : enum.Record} → Bare E.parts → Naming E.D E
the_name {E = E} bare = record { bare = bare; to = λ x. x; one = λ a b e. e; tried = try_names E bare }

-- a row by its codes: what they are made of. The name of an operation gives the base and the places
pub record CodeRow (R : Type 0) : Type 1 where
  pub Name : Type 0
  pub names : List Name
  pub name : R → Name
  pub listed : (r : R) → Member (name r) names
  pub base : Name → ℕ
  pub places : Name → List Place
  pub without : Name → List (List Digit)
  pub is_fit : Bool
  pub code : R → ℕ
  pub numbers : R → List ℕ
  pub fits : is_fit ≡ true → (r : R) → Fits (places (name r)) (numbers r)
  pub is_code : (r : R) → code r ≡ base (name r) + placed (places (name r)) (numbers r)
  pub spared : is_fit ≡ true → (r : R) → digits (places (name r)) (code r) ≡ numbers r → Spared (without (name r)) (code r)
  pub told : is_fit ≡ true → (a b : R) → name a ≡ name b → numbers a ≡ numbers b → a ≡ b
  pub tried : Tried R

abbrev pub kind_of : {R : Type 0} (row : CodeRow R) → row.Name → Kind
kind_of row x = record { bits = fills (bits_of 32 (row.base x)) (row.places x); without = row.without x }

-- the places lie apart, where the base is 0
abbrev pub is_good : {R : Type 0} (row : CodeRow R) → row.Name → Bool
is_good row x = are_disjoint (row.places x) && (are_clear (bits_of 32 (row.base x)) (row.places x) && nat_lt (row.base x) (2 ^ 32))

abbrev pub all_good : {R : Type 0} (row : CodeRow R) → List row.Name → Bool
all_good row [] = true
all_good row (x ∷ xs) = is_good row x && all_good row xs

good_at : {R : Type 0} (row : CodeRow R) (x : row.Name) (xs : List row.Name) → all_good row xs ≡ true → Member x xs → is_good row x ≡ true
good_at row x [] e m = absurd m
good_at row x (y ∷ ys) e (inl f) = ap (is_good row) f ∙ both_left _ _ e
good_at row x (y ∷ ys) e (inr m) = good_at row x ys (both_right _ _ e) m

abbrev pub is_row : {R : Type 0} (row : CodeRow R) → Bool
is_row row = row.is_fit && (all_good row row.names && pairwise (map (kind_of row) row.names))

less : (m n : ℕ) → nat_lt m n ≡ true → m < n
less m n e = grind (arith, nat_tests)

-- the code of a name and numbers
abbrev pub sum_of : {R : Type 0} (row : CodeRow R) → row.Name → List ℕ → ℕ
sum_of row x xs = row.base x + placed (row.places x) xs

-- the numbers stand in the code
sum_digits : {R : Type 0} (row : CodeRow R) → is_row row ≡ true → (x : row.Name) (xs : List ℕ) → Member x row.names → Fits (row.places x) xs
    → digits (row.places x) (sum_of row x xs) ≡ xs
sum_digits row e x xs m f =
    let good : is_good row x ≡ true = good_at row x row.names (both_left _ _ (both_right _ _ e)) m in
    digits_lem (bits_of 32 (row.base x)) (row.places x) (row.base x) xs (both_left _ _ good) (both_left _ _ (both_right _ _ good))
    (bits_of_lem 32 (row.base x) (less _ _ (both_right _ _ (both_right _ _ good)))) f

-- the numbers of a row's value stand in its code
pub row_digits : {R : Type 0} (row : CodeRow R) → is_row row ≡ true → (r : R) → digits (row.places (row.name r)) (row.code r) ≡ row.numbers r
row_digits row e r =
    ap (digits (row.places (row.name r))) (row.is_code r)
    ∙ sum_digits row e (row.name r) (row.numbers r) (row.listed r) (row.fits (both_left _ _ e) r)

-- each code has what is known of its kind
pub row_has : {R : Type 0} (row : CodeRow R) → is_row row ≡ true → (r : R) → Has (kind_of row (row.name r)) (row.code r)
row_has row e r =
    let good : is_good row (row.name r) ≡ true = good_at row (row.name r) row.names (both_left _ _ (both_right _ _ e)) (row.listed r) in
    record {
      bits =
          subst (λ n. Matches (kind_of row (row.name r)).bits n) (sym (row.is_code r))
          (fills_lem (bits_of 32 (row.base (row.name r))) (row.places (row.name r)) (row.base (row.name r)) (row.numbers r)
          (both_left _ _ (both_right _ _ good))
          (bits_of_lem 32 (row.base (row.name r)) (less _ _ (both_right _ _ (both_right _ _ good)))) (row.fits (both_left _ _ e) r));
      without = row.spared (both_left _ _ e) r (row_digits row e r);
    }

-- a code tells the row's value
pub row_one : {R : Type 0} (row : CodeRow R) → is_row row ≡ true → (a b : R) → row.code a ≡ row.code b → a ≡ b
row_one row e a b same =
    let has : Has (kind_of row (row.name a)) (row.code b) = subst (λ n. Has (kind_of row (row.name a)) n) same (row_has row e a) in
    let name : row.name a ≡ row.name b =
    one_name (kind_of row) (row.name a) (row.name b) row.names (row.code b) (both_right _ _ (both_right _ _ e)) (row.listed a) (row.listed b) has
    (row_has row e b) in
    let numbers : row.numbers a ≡ row.numbers b =
    sym (row_digits row e a) ∙ (λ i. digits (row.places (name i)) (same i)) ∙ row_digits row e b in
    row.told (both_left _ _ e) a b name numbers

-- a row's values, told by their codes
abbrev pub coded : {R : Type 0} → CodeRow R → Coded R
coded row = record {
  code = row.code;
  kinds = map (kind_of row) row.names;
  is_told = is_row row;
  has = λ e r. (kind_of row (row.name r), member_map (kind_of row) (row.name r) row.names (row.listed r), row_has row e r);
  one = row_one row;
  tried = row.tried;
}

-- the names of an enum with no fields
abbrev pub all_choices : (parts : List (List data_field.Field)) → Bare parts → List (enum.Choice parts)
all_choices [] bare = []
all_choices ([] ∷ parts) bare = inl tt ∷ map inr (all_choices parts bare)
all_choices ((f ∷ fs) ∷ parts) bare = absurd bare

each_choice : (parts : List (List data_field.Field)) (bare : Bare parts) (c : enum.Choice parts) → Member c (all_choices parts bare)
each_choice [] bare c = absurd c
each_choice ([] ∷ parts) bare (inl x) = inl refl
each_choice ([] ∷ parts) bare (inr c) = inr (member_map inr c (all_choices parts bare) (each_choice parts bare c))
each_choice ((f ∷ fs) ∷ parts) bare c = absurd bare

abbrev pub names_of : (E : enum.Record) → Bare E.parts → List E.D
names_of E bare = map E.make (all_choices E.parts bare)

pub each_name : (E : enum.Record) (bare : Bare E.parts) (x : E.D) → Member x (names_of E bare)
each_name E bare x =
    subst (λ y. Member y (names_of E bare)) (E.eta x)
    (member_map E.make (E.as_values x) (all_choices E.parts bare) (each_choice E.parts bare (E.as_values x)))

-- a row of one name
pub record Plain (T : struct.Declared) (code : T.D → ℕ) : Type 1 where
  pub base : ℕ
  pub layout : Layout T.parts
  pub is_code : (r : T.D) → code r ≡ base + placed (places_of T.parts layout) (numbers_of T.parts layout (T.as_values r))
  pub rules : (v : Values T.parts) → Decided (T.cover.Ghost v)

abbrev pub plain : {T : struct.Declared} {code : T.D → ℕ} → Plain T code → CodeRow T.D
plain {T = T} {code = code} row = record {
  Name = Unit {0};
  names = tt ∷ [];
  name = λ r. tt;
  listed = λ r. inl refl;
  base = λ x. row.base;
  places = λ x. places_of T.parts row.layout;
  without = λ x. past_limits T.parts row.layout;
  is_fit = do_fit T.parts row.layout;
  code = code;
  numbers = λ r. numbers_of T.parts row.layout (T.as_values r);
  fits = λ e r. numbers_fit T.parts row.layout (T.as_values r) e;
  is_code = row.is_code;
  spared = λ e r d. limits_spared T.parts row.layout (T.as_values r) (code r) d;
  told = λ e a b name numbers. same_struct T a b (numbers_one T.parts row.layout (T.as_values a) (T.as_values b) e numbers);
  tried = try_struct T (try_values T.parts row.layout) row.rules;
}

-- the fields of a struct that has a name before them
abbrev pub NamedLayout : enum.Record → List data_field.Field → Type 1
NamedLayout E [] = Naming (Unit {0}) E
NamedLayout E (f ∷ fs) = Naming f.Value E × Layout fs

abbrev pub bare_of : (E : enum.Record) (fs : List data_field.Field) → NamedLayout E fs → Bare E.parts
bare_of E [] l = l.bare
bare_of E (f ∷ fs) l = (l.0).bare

abbrev pub name_of : (E : enum.Record) (fs : List data_field.Field) → NamedLayout E fs → Values fs → E.D
name_of E [] l v = l.to v
name_of E (f ∷ fs) l v = (l.0).to v.0

abbrev pub after_name : (E : enum.Record) (fs : List data_field.Field) → NamedLayout E fs → Values fs → List ℕ
after_name E [] l v = []
after_name E (f ∷ fs) l v = numbers_of fs l.1 v.1

abbrev pub places_after : (E : enum.Record) (fs : List data_field.Field) → NamedLayout E fs → List Place
places_after E [] l = []
places_after E (f ∷ fs) l = places_of fs l.1

abbrev pub do_fit_after : (E : enum.Record) (fs : List data_field.Field) → NamedLayout E fs → Bool
do_fit_after E [] l = true
do_fit_after E (f ∷ fs) l = do_fit fs l.1

pub after_fit : (E : enum.Record) (fs : List data_field.Field) (l : NamedLayout E fs) (v : Values fs) → do_fit_after E fs l ≡ true
    → Fits (places_after E fs l) (after_name E fs l v)
after_fit E [] l v e = tt
after_fit E (f ∷ fs) l v e = numbers_fit fs l.1 v.1 e

pub after_one : (E : enum.Record) (fs : List data_field.Field) (l : NamedLayout E fs) (v w : Values fs) → do_fit_after E fs l ≡ true
    → name_of E fs l v ≡ name_of E fs l w → after_name E fs l v ≡ after_name E fs l w → v ≡ w
after_one E [] l v w f name e = refl
after_one E (g ∷ fs) l v w f name e =
    let x : v.0 ≡ w.0 = (l.0).one v.0 w.0 name in
    let xs : v.1 ≡ w.1 = numbers_one fs l.1 v.1 w.1 f e in
    λ i. (x i, xs i)

abbrev pub past_limits_after : (E : enum.Record) (fs : List data_field.Field) → NamedLayout E fs → List (List Digit)
past_limits_after E [] l = []
past_limits_after E (f ∷ fs) l = past_limits fs l.1

pub after_spared : (E : enum.Record) (fs : List data_field.Field) (l : NamedLayout E fs) (v : Values fs) (n : ℕ)
    → digits (places_after E fs l) n ≡ after_name E fs l v → Spared (past_limits_after E fs l) n
after_spared E [] l v n e = tt
after_spared E (f ∷ fs) l v n e = limits_spared fs l.1 v.1 n e

pub try_after : (E : enum.Record) (fs : List data_field.Field) → NamedLayout E fs → Tried (Values fs)
try_after E [] l = l.tried
try_after E (f ∷ fs) l = try_pair (l.0).tried (try_values fs l.1)

-- a row of several names, each with a base
pub record Named (T : struct.Declared) (E : enum.Record) (code : T.D → ℕ) (base : E.D → ℕ) : Type 1 where
  pub layout : NamedLayout E T.parts
  pub is_code : (r : T.D)
      → code r ≡ base (name_of E T.parts layout (T.as_values r)) + placed (places_after E T.parts layout) (after_name E T.parts layout (T.as_values r))
  pub rules : (v : Values T.parts) → Decided (T.cover.Ghost v)

abbrev pub named : {T : struct.Declared} {E : enum.Record} {code : T.D → ℕ} {base : E.D → ℕ} → Named T E code base → CodeRow T.D
named {T = T} {E = E} {code = code} {base = base} row = record {
  Name = E.D;
  names = names_of E (bare_of E T.parts row.layout);
  name = λ r. name_of E T.parts row.layout (T.as_values r);
  listed = λ r. each_name E (bare_of E T.parts row.layout) (name_of E T.parts row.layout (T.as_values r));
  base = base;
  places = λ x. places_after E T.parts row.layout;
  without = λ x. past_limits_after E T.parts row.layout;
  is_fit = do_fit_after E T.parts row.layout;
  code = code;
  numbers = λ r. after_name E T.parts row.layout (T.as_values r);
  fits = λ e r. after_fit E T.parts row.layout (T.as_values r) e;
  is_code = row.is_code;
  spared = λ e r d. after_spared E T.parts row.layout (T.as_values r) (code r) d;
  told = λ e a b name numbers. same_struct T a b (after_one E T.parts row.layout (T.as_values a) (T.as_values b) e name numbers);
  tried = try_struct T (try_after E T.parts row.layout) row.rules;
}

-- a row of several names, where the places too are the name's
pub record Varied (T : struct.Declared) (E : enum.Record) (code : T.D → ℕ) (base : E.D → ℕ) : Type 1 where
  pub layout : NamedLayout E T.parts
  pub places : E.D → List Place
  pub fits : (r : T.D) → Fits (places (name_of E T.parts layout (T.as_values r))) (after_name E T.parts layout (T.as_values r))
  pub is_code : (r : T.D)
      → code r ≡ base (name_of E T.parts layout (T.as_values r))
      + placed (places (name_of E T.parts layout (T.as_values r))) (after_name E T.parts layout (T.as_values r))
  pub rules : (v : Values T.parts) → Decided (T.cover.Ghost v)

abbrev pub varied : {T : struct.Declared} {E : enum.Record} {code : T.D → ℕ} {base : E.D → ℕ} → Varied T E code base → CodeRow T.D
varied {T = T} {E = E} {code = code} {base = base} row = record {
  Name = E.D;
  names = names_of E (bare_of E T.parts row.layout);
  name = λ r. name_of E T.parts row.layout (T.as_values r);
  listed = λ r. each_name E (bare_of E T.parts row.layout) (name_of E T.parts row.layout (T.as_values r));
  base = base;
  places = row.places;
  without = λ x. [];
  is_fit = do_fit_after E T.parts row.layout;
  code = code;
  numbers = λ r. after_name E T.parts row.layout (T.as_values r);
  fits = λ e r. row.fits r;
  is_code = row.is_code;
  spared = λ e r d. tt;
  told = λ e a b name numbers. same_struct T a b (after_one E T.parts row.layout (T.as_values a) (T.as_values b) e name numbers);
  tried = try_struct T (try_after E T.parts row.layout) row.rules;
}

-- the sorts of codes that a row has, each with a base and places
pub record Sorts (R : Type 0) (Sort : Type 0) : Type 0 where
  pub all : List Sort
  pub sort : R → Sort
  pub listed : (r : R) → Member (sort r) all

abbrev pub by_name : {R : Type 0} (E : enum.Record) → Bare E.parts → (R → E.D) → Sorts R E.D
by_name E bare name = record { all = names_of E bare; sort = name; listed = λ r. each_name E bare (name r) }

-- a row whose fields may be split in its codes
pub record Split (T : struct.Declared) (Sort : Type 0) (code : T.D → ℕ) : Type 1 where
  pub sorts : Sorts T.D Sort
  pub base : Sort → ℕ
  pub places : Sort → List Place
  pub numbers : T.D → List ℕ
  pub fits : (r : T.D) → Fits (places (sorts.sort r)) (numbers r)
  pub is_code : (r : T.D) → code r ≡ base (sorts.sort r) + placed (places (sorts.sort r)) (numbers r)
  pub told : (a b : T.D) → sorts.sort a ≡ sorts.sort b → numbers a ≡ numbers b → a ≡ b
  pub tried : Tried (Values T.parts)
  pub rules : (v : Values T.parts) → Decided (T.cover.Ghost v)

abbrev pub split : {T : struct.Declared} {Sort : Type 0} {code : T.D → ℕ} → Split T Sort code → CodeRow T.D
split {T = T} {Sort = Sort} {code = code} row = record {
  Name = Sort;
  names = row.sorts.all;
  name = row.sorts.sort;
  listed = row.sorts.listed;
  base = row.base;
  places = row.places;
  without = λ x. [];
  is_fit = true;
  code = code;
  numbers = row.numbers;
  fits = λ e r. row.fits r;
  is_code = row.is_code;
  spared = λ e r d. tt;
  told = λ e. row.told;
  tried = try_struct T row.tried row.rules;
}

-- a row, and more digits that do not stand together in its codes, where those of another row have them
abbrev pub sparing : {R : Type 0} (row : CodeRow R) (more : row.Name → List (List Digit))
    → ((r : R) → digits (row.places (row.name r)) (row.code r) ≡ row.numbers r → Spared (more (row.name r)) (row.code r)) → CodeRow R
sparing row more proof = record row {
  without = λ x. more x ++ row.without x;
  spared = λ e r d. spared_both (more (row.name r)) (row.without (row.name r)) (row.code r) (proof r d) (row.spared e r d);
}
