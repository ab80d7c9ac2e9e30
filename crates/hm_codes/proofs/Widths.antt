-- Tables whose first rows have codes of one halfword, and whose other rows have codes of two.
use Rattle.std.proofs.Common.{◌≡◌, ◌≤◌, ◌<◌, ◌+◌, ◌*◌, ◌/◌, ◌%◌, ℕ, zero, suc, Bool, true, ◌&&◌, List, [], ◌∷◌, length, arith, refl, inl, inr}
use Rattle.std.specs.Prelude.{if◌then◌else◌}
use Rattle.std.proofs.lemmas.Bool.Decides.{nat_tests}
use denote.Struct.Field as data_field
use denote.Enum.Declared as enum
use Rattle.hm_isa.specs.Code.{one_half, two_halves}
use Rattle.hm_layout.proofs.Bits.{both_left, both_right}
use Rattle.hm_layout.proofs.Coded.{Coded}
use Rattle.hm_layout.proofs.Tables.{Table, coded_choice, coded_values}
use Rattle.hm_layout.proofs.Lengths.{all_kinds, is_long_kind, is_short_kind, long_code, short_code}
use Rattle.hm_codes.specs.Listing.{is_long}

-- the number of which these are the halves
abbrev pub joined : List ℕ → ℕ
joined [] = 0
joined (h ∷ []) = h
joined (h ∷ l ∷ hs) = h * 65536 + l

pub rejoined : (c : ℕ) → c / 65536 * 65536 + c % 65536 ≡ c
rejoined c = omega arith

-- how many halfwords a code has that begins so
abbrev pub code_length : ℕ → ℕ
code_length h = if is_long h then 2 else 1

abbrev pub first_of : List ℕ → ℕ
first_of [] = 0
first_of (h ∷ hs) = h

short_length : (h : ℕ) → h < 0xe800 → 1 ≡ code_length h
short_length h l = grind (arith, nat_tests)

pub long_length : (h : ℕ) → 0xe800 ≤ h → 2 ≡ code_length h
long_length h l = grind (arith, nat_tests)

-- whether all codes are of one halfword, or all of two
abbrev pub is_short : {R : Type 0} → Coded R → Bool
is_short C = C.is_told && all_kinds is_short_kind C.kinds

abbrev pub is_wide : {R : Type 0} → Coded R → Bool
is_wide C = C.is_told && all_kinds is_long_kind C.kinds

-- the halfwords of a value, where the codes of so many variants are of one
abbrev pub halves_of : ℕ → (parts : List (List data_field.Field)) → Table parts → enum.Choice parts → List ℕ
halves_of n [] t c = absurd c
halves_of zero (fs ∷ parts) t (inl v) = two_halves ((coded_values fs t.0).code v)
halves_of zero (fs ∷ parts) t (inr c) = halves_of zero parts t.1 c
halves_of (suc n) (fs ∷ parts) t (inl v) = one_half ((coded_values fs t.0).code v)
halves_of (suc n) (fs ∷ parts) t (inr c) = halves_of n parts t.1 c

pub joined_of : (n : ℕ) (parts : List (List data_field.Field)) (t : Table parts) (c : enum.Choice parts)
    → joined (halves_of n parts t c) ≡ (coded_choice parts t).code c
joined_of n [] t c = absurd c
joined_of zero (fs ∷ parts) t (inl v) = rejoined _
joined_of zero (fs ∷ parts) t (inr c) = joined_of zero parts t.1 c
joined_of (suc n) (fs ∷ parts) t (inl v) = refl
joined_of (suc n) (fs ∷ parts) t (inr c) = joined_of n parts t.1 c

-- whether the bits of all these codes say so
abbrev pub are_as_long : ℕ → (parts : List (List data_field.Field)) → Table parts → Bool
are_as_long n [] t = true
are_as_long zero (fs ∷ parts) t = is_wide (coded_values fs t.0) && are_as_long zero parts t.1
are_as_long (suc n) (fs ∷ parts) t = is_short (coded_values fs t.0) && are_as_long n parts t.1

-- the first halfword tells how many there are
pub lengths_of : (n : ℕ) (parts : List (List data_field.Field)) (t : Table parts) → are_as_long n parts t ≡ true → (c : enum.Choice parts)
    → length (halves_of n parts t c) ≡ code_length (first_of (halves_of n parts t c))
lengths_of n [] t e c = absurd c
lengths_of zero (fs ∷ parts) t e (inl v) =
    let wide : is_wide (coded_values fs t.0) ≡ true = both_left _ _ e in
    long_length _ (long_code (coded_values fs t.0) (both_left _ _ wide) (both_right _ _ wide) v)
lengths_of zero (fs ∷ parts) t e (inr c) = lengths_of zero parts t.1 (both_right _ _ e) c
lengths_of (suc n) (fs ∷ parts) t e (inl v) =
    let short : is_short (coded_values fs t.0) ≡ true = both_left _ _ e in
    short_length _ (short_code (coded_values fs t.0) (both_left _ _ short) (both_right _ _ short) v)
lengths_of (suc n) (fs ∷ parts) t e (inr c) = lengths_of n parts t.1 (both_right _ _ e) c
