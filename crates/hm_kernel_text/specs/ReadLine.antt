-- Reading a line of an array, or one that sets an array: what of it is bad first.
use Rattle.std.specs.Prelude.{ℕ, Bool, not, ◌+◌, ◌*◌, ◌%◌, List, [], ◌∷◌, ◌++◌, length, codes, Option, Some, None, is_some}
use Rattle.std.specs.Prelude.{option_and_then, Result, Ok, Err, ◌==◌, nat_lt, nat_le, ◌&&◌, ◌||◌, if◌then◌else◌, bytes_eq, option_map}
use Rattle.std.specs.List.{list_all, list_any}
use Rattle.hm_base.specs.Image.{sram_start, sram_size}
use Rattle.hm_text_base.specs.Numbers.{hex8_in}
use Rattle.hm_kernel_lang.specs.declared.text.ElementType.{ElementType}
use Rattle.hm_kernel_lang.specs.Language.{bytes, modulus}
use Rattle.hm_kernel_text.specs.declared.errors.KernelKind.{KernelKind}
use Rattle.hm_kernel_text.specs.declared.errors.KernelKind.TheVariants.{Syntax, Large, Name, Range, Overlap, Deep}
use Rattle.hm_kernel_text.specs.Trees.{Tree, word, apply, leaves, tree_need}
use Rattle.hm_kernel_text.specs.Words.{words_of, is_name, is_numeral, number_below}
use Rattle.hm_kernel_text.specs.Written.{WrittenArray, WrittenSet, Written}
use Rattle.hm_kernel_text.specs.ReadTree.{tree_in}

-- ---- FORMS

-- an array's name, address and values as words, or the name of the array that a line sets, and the expression
pub data Form : Type 0 where
  an_array : List ℕ → ℕ → List (List ℕ) → Form
  a_set : List ℕ → Tree → Form

-- an array's line by its name and the words behind it
abbrev pub array_form : List ℕ → List ℕ → List (List ℕ) → Option Form
array_form name third more = if list_all is_numeral more then option_map (λ addr. an_array name addr more) (hex8_in third) else None

-- a line that sets an array by its name and the words behind it
abbrev pub set_form : List ℕ → List ℕ → List (List ℕ) → Option Form
set_form name third more = if bytes_eq third (codes "=") then option_map (λ t. a_set name t) (tree_in more) else None

-- the form of a line by its first word, the name behind it and the other words
abbrev pub form_of : List ℕ → List ℕ → List ℕ → List (List ℕ) → Option Form
form_of kind name third more =
    if bytes_eq kind (codes "array") then array_form name third more
    else if bytes_eq kind (codes "set") then set_form name third more
    else None

-- the form of a line by its words, of which the second is a name
abbrev pub form_from : List (List ℕ) → Option Form
form_from [] = None
form_from (kind ∷ []) = None
form_from (kind ∷ name ∷ []) = None
form_from (kind ∷ name ∷ third ∷ more) = if is_name name then form_of kind name third more else None

-- the form of a line; None where it is of neither
unfoldable pub form_in : List ℕ → Option Form
form_in text = form_from (words_of text)

-- ---- AN ARRAY behind what stands before it

-- an array of the name is there
abbrev pub is_there : List ℕ → List WrittenArray → Bool
is_there name arrays = list_any (λ a. bytes_eq a.name name) arrays

-- n elements from an address on are aligned and lie in SRAM
abbrev pub is_placed : ElementType → ℕ → ℕ → Bool
is_placed t n a = (a % bytes t == 0) && (nat_le sram_start a && nat_le (a + bytes t * n) (sram_start + sram_size))

-- the values that words give, each below a limit
unfoldable pub values_in : ℕ → List (List ℕ) → Option (List ℕ)
values_in limit [] = Some []
values_in limit (w ∷ ws) = option_and_then (λ v. option_map (λ vs. v ∷ vs) (values_in limit ws)) (number_below limit w)

-- the values of an array that is in its bounds
abbrev pub bounded_values : ElementType → ℕ → ℕ → List (List ℕ) → Option (List ℕ)
bounded_values t n addr words = if is_placed t n addr && nat_le (length words) n then values_in (modulus t) words else None

-- n elements from one address on and n from another share a byte
abbrev pub share : ElementType → ℕ → ℕ → ℕ → Bool
share t n a b = nat_lt a (b + bytes t * n) && nat_lt b (a + bytes t * n)

-- what is written, with one more array
abbrev pub with_written_array : Written → WrittenArray → Written
with_written_array k a = record k { arrays = k.arrays ++ a ∷ [] }

-- behind one more array, unless it shares a byte with an earlier one
abbrev pub behind_array : Written → List ℕ → ℕ → Option (List ℕ) → Result Written KernelKind
behind_array k name addr None = Err Range
behind_array k name addr (Some values) =
    if list_any (λ a. share k.element k.count a.addr addr) k.arrays then Err Overlap
    else Ok (with_written_array k (record { name = name; addr = addr; values = values }))

-- behind a line of an array: it stands before all lines that set one, is no 17th, has a new name, lies in its bounds, and shares no byte
unfoldable pub with_array : Written → List ℕ → ℕ → List (List ℕ) → Result Written KernelKind
with_array k name addr words =
    if nat_lt 0 (length k.sets) then Err Syntax
    else if nat_le 16 (length k.arrays) then Err Large
    else if is_there name k.arrays then Err Name
    else behind_array k name addr (bounded_values k.element k.count addr words)

-- ---- A LINE THAT SETS AN ARRAY behind what stands before it

-- each name of an expression is there
abbrev pub knows : List WrittenArray → Tree → Bool
knows arrays (word w) = not (is_name w) || is_there w arrays
knows arrays (apply o l r) = knows arrays l && knows arrays r

-- each number of an expression is below a limit
abbrev pub in_range : ℕ → Tree → Bool
in_range limit (word w) = is_name w || is_some (number_below limit w)
in_range limit (apply o l r) = in_range limit l && in_range limit r

-- one more line that sets an array
abbrev pub with_written_set : Written → WrittenSet → Written
with_written_set k s = record k { sets = k.sets ++ s ∷ [] }

-- behind a line that sets an array: an array stands before it, it is no 17th and not too long, its names are there, its numbers fit, and it is not too deep
unfoldable pub with_set : Written → List ℕ → Tree → Result Written KernelKind
with_set k name t =
    if length k.arrays == 0 then Err Syntax
    else if nat_le 16 (length k.sets) || nat_lt 64 (leaves t) then Err Large
    else if not (is_there name k.arrays && knows k.arrays t) then Err Name
    else if not (in_range (modulus k.element) t) then Err Range
    else if nat_lt 8 (tree_need t) then Err Deep
    else Ok (with_written_set k (record { name = name; expr = t }))

-- ---- a line of either form

-- behind a line of a form
abbrev pub by_form : Written → Option Form → Result Written KernelKind
by_form k None = Err Syntax
by_form k (Some (an_array name addr words)) = with_array k name addr words
by_form k (Some (a_set name t)) = with_set k name t

-- BEHIND ONE LINE: what is written up to it, or what of it is bad first
abbrev pub line_in : Written → List ℕ → Result Written KernelKind
line_in k text = by_form k (form_in text)
