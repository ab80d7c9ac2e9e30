-- The names of registers, halves of vector registers and conditions, in the order of their numbers.
use Rattle.std.specs.Prelude.{ℕ, ◌+◌, Bool, true, false, List, [], ◌∷◌, get_or, codes, Option, Some, None, bytes_eq, ◌==◌, ◌&&◌, ◌||◌, not}
use Rattle.std.specs.Prelude.{if◌then◌else◌}
use Rattle.hm_tokens.specs.Tokens.{is_digit, is_lower, underscore}

-- the names of the core registers, from 0 to 15
abbrev pub register_names : List (List ℕ)
register_names =
    codes "r0" ∷ codes "r1" ∷ codes "r2" ∷ codes "r3" ∷ codes "r4" ∷ codes "r5" ∷ codes "r6" ∷ codes "r7"
    ∷ codes "r8" ∷ codes "r9" ∷ codes "r10" ∷ codes "r11" ∷ codes "r12" ∷ codes "sp" ∷ codes "lr" ∷ codes "pc" ∷ []

-- the names of the vector registers, from 0 to 7
abbrev pub vector_names : List (List ℕ)
vector_names = codes "q0" ∷ codes "q1" ∷ codes "q2" ∷ codes "q3" ∷ codes "q4" ∷ codes "q5" ∷ codes "q6" ∷ codes "q7" ∷ []

-- the names of the halves of vector registers, from 0 to 15
abbrev pub double_names : List (List ℕ)
double_names =
    codes "d0" ∷ codes "d1" ∷ codes "d2" ∷ codes "d3" ∷ codes "d4" ∷ codes "d5" ∷ codes "d6" ∷ codes "d7"
    ∷ codes "d8" ∷ codes "d9" ∷ codes "d10" ∷ codes "d11" ∷ codes "d12" ∷ codes "d13" ∷ codes "d14" ∷ codes "d15" ∷ []

-- the names of the conditions, from 0 to 13, without `al`
abbrev pub condition_names : List (List ℕ)
condition_names =
    codes "eq" ∷ codes "ne" ∷ codes "cs" ∷ codes "cc" ∷ codes "mi" ∷ codes "pl" ∷ codes "vs" ∷ codes "vc"
    ∷ codes "hi" ∷ codes "ls" ∷ codes "ge" ∷ codes "lt" ∷ codes "gt" ∷ codes "le" ∷ []

-- the name of a core register, by its number
abbrev pub register_name : ℕ → List ℕ
register_name n = get_or register_names n []

-- the name of a vector register, by its number
abbrev pub vector_name : ℕ → List ℕ
vector_name n = get_or vector_names n []

-- the name of a half of a vector register, by its number
abbrev pub double_name : ℕ → List ℕ
double_name n = get_or double_names n []

-- the name of a condition, by its number
abbrev pub condition_name : ℕ → List ℕ
condition_name n = get_or condition_names n []

-- the number of a name, where the first has the number n
abbrev pub number_of : ℕ → List ℕ → List (List ℕ) → Option ℕ
number_of n name [] = None
number_of n name (x ∷ xs) = if bytes_eq name x then Some n else number_of (n + 1) name xs

-- the number of the core register that has this name, if there is one
abbrev pub register_in : List ℕ → Option ℕ
register_in name = number_of 0 name register_names

-- the number of the vector register that has this name, if there is one
abbrev pub vector_in : List ℕ → Option ℕ
vector_in name = number_of 0 name vector_names

-- the number of the half of a vector register that has this name, if there is one
abbrev pub double_in : List ℕ → Option ℕ
double_in name = number_of 0 name double_names

-- the number of the condition that has this name, if there is one
abbrev pub condition_in : List ℕ → Option ℕ
condition_in name = number_of 0 name condition_names

-- LABELS
-- whether a byte is a letter in lower case or `_`
abbrev pub is_letter : ℕ → Bool
is_letter c = is_lower c || (c == underscore)

-- letters, digits and `_`
abbrev pub are_name_bytes : List ℕ → Bool
are_name_bytes [] = true
are_name_bytes (c ∷ cs) = (is_letter c || is_digit c) && are_name_bytes cs

-- begins with a letter or `_`, and goes on with letters, digits and `_`
abbrev pub is_name : List ℕ → Bool
is_name [] = false
is_name (c ∷ cs) = is_letter c && are_name_bytes cs

-- whether there is a number
abbrev pub is_number_given : Option ℕ → Bool
is_number_given (Some n) = true
is_number_given None = false

-- whether a name is that of a half of a vector register
abbrev pub is_double : List ℕ → Bool
is_double name = is_number_given (double_in name)

-- names of registers and conditions, which no label has
abbrev pub is_reserved : List ℕ → Bool
is_reserved name =
    is_number_given (register_in name) || is_number_given (vector_in name) || is_number_given (condition_in name) || is_double name
    || bytes_eq name (codes "al") || bytes_eq name (codes "zr") || bytes_eq name (codes "apsr")

-- a name that a label may have
abbrev pub is_label_name : List ℕ → Bool
is_label_name name = is_name name && not (is_reserved name)
