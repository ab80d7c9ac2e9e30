-- Reading a text: what it writes, or the first refusal.
use Rattle.std.specs.Prelude.{◌≡◌, ℕ, ◌+◌, List, [], ◌∷◌, length, drop, codes, Option, Some, None, ok_or, Result, Ok, Err, ◌==◌, nat_eq}
use Rattle.std.specs.Prelude.{if◌then◌else◌, bytes_eq}
use Rattle.std.specs.List.{starts_with}
use Rattle.hm_base.specs.Results.{map_err}
use Rattle.hm_text_base.specs.Reading.{◌>>=◌}
use Rattle.hm_text_base.specs.Spans.{Lines, lines_of}
use Rattle.hm_kernel_lang.specs.declared.text.ElementType.{ElementType}
use Rattle.hm_kernel_lang.specs.declared.text.ElementType.TheVariants.{U8, S8, U16, S16, U32, S32}
use Rattle.hm_kernel_text.specs.declared.errors.KernelKind.{KernelKind}
use Rattle.hm_kernel_text.specs.declared.errors.KernelKind.TheVariants.{Syntax, Range}
use Rattle.hm_kernel_text.specs.declared.errors.KernelErr.{KernelErr}
use Rattle.hm_kernel_text.specs.declared.errors.KernelErr.TheVariants as refusals
use Rattle.hm_kernel_text.specs.Words.{is_numeral, number_below}
use Rattle.hm_kernel_text.specs.Written.{Written, header_text}
use Rattle.hm_kernel_text.specs.ReadLine.{line_in}

-- a refusal of the k-th line
abbrev pub on_line : {A : Type 0} → ℕ → Result A KernelKind → Result A KernelErr
on_line k = map_err (refusals.Line k)

-- the next line, where the k-th should be: it may not be missing, and has an end
abbrev pub line_at : ℕ → Lines → Result (List ℕ × Lines) KernelErr
line_at k (l ∷ ls, rest) = Ok (l, (ls, rest))
line_at k ([], rest) = Err (refusals.Line k Syntax)

-- the type of elements
unfoldable pub type_in : List ℕ → Option ElementType
type_in text =
    if bytes_eq text (codes "type u8") then Some U8
    else if bytes_eq text (codes "type s8") then Some S8
    else if bytes_eq text (codes "type u16") then Some U16
    else if bytes_eq text (codes "type s16") then Some S16
    else if bytes_eq text (codes "type u32") then Some U32
    else if bytes_eq text (codes "type s32") then Some S32
    else None

-- how many elements each array has, at most 65,536
abbrev pub count_in : List ℕ → Result ℕ KernelKind
count_in w = if is_numeral w then ok_or (number_below 65537 w) Range else Err Syntax

-- the third line: how many elements each array has
unfoldable pub length_in : List ℕ → Result ℕ KernelKind
length_in text = if starts_with nat_eq text (codes "length ") then count_in (drop 7 text) else Err Syntax

-- what stands before the first array
abbrev pub first_written : ElementType → ℕ → Written
first_written t n = record { element = t; count = n; arrays = []; sets = [] }

-- all lines are there: the last of them sets an array
abbrev pub ended : ℕ → Written → Result Written KernelErr
ended line k = if length k.sets == 0 then Err (refusals.Line line Syntax) else Ok k

-- the lines of arrays, and those that set arrays, from a number on
unfoldable pub lines_in : ℕ → Written → List (List ℕ) → List ℕ → Result Written KernelErr
lines_in line k [] [] = ended line k
lines_in line k [] (b ∷ rest) = Err (refusals.Line line Syntax)
lines_in line k (l ∷ ls) rest = on_line line (line_in k l) >>= λ next. lines_in (line + 1) next ls rest

-- ALL OF A TEXT, or the first refusal
unfoldable pub kernel_in : List ℕ → Result Written KernelErr
kernel_in bytes = do
  one ← line_at 1 (lines_of bytes)
  header ← if bytes_eq one.0 header_text then Ok one.1 else Err (refusals.Line 1 Syntax)
  two ← line_at 2 header
  element ← ok_or (type_in two.0) (refusals.Line 2 Syntax)
  three ← line_at 3 two.1
  count ← on_line 3 (length_in three.0)
  lines_in 4 (first_written element count) three.1.0 three.1.1

-- a refusal is that of reading, and want of memory says nothing
abbrev pub Fails : {Y : Type 0} → KernelErr → Result Y KernelErr → Type 0
Fails refusals.OutOfMemory read = Unit {0}
Fails (refusals.Line line kind) read = read ≡ Err (refusals.Line line kind)

-- what a function returned, seen by view, is what reading gives, unless memory was wanted
abbrev pub Gives : {X Y : Type 0} → (X → Y) → Result X KernelErr → Result Y KernelErr → Type 0
Gives view (Ok x) read = read ≡ Ok (view x)
Gives view (Err e) read = Fails e read
