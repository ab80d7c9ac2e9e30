-- The text of a kernel, and what it has to be.
use Rattle.std.specs.Prelude.{◌≡◌, ◌≢◌, ◌⊎◌, ℕ, ◌+◌, ◌*◌, ◌<◌, ◌≤◌, true, List, [], ◌∷◌, ◌++◌, length, map, codes, decimal}
use Rattle.std.specs.List.{AllByRecursion, flat_map, join_with_byte}
use Rattle.hm_text_base.specs.Marks.{space}
use Rattle.hm_text_base.specs.Texts.{hex8}
use Rattle.hm_text_base.specs.Spans.{line}
use Rattle.hm_kernel_lang.specs.declared.text.ElementType.{ElementType}
use Rattle.hm_kernel_lang.specs.declared.text.ElementType.TheVariants.{U8, S8, U16, S16, U32, S32}
use Rattle.hm_kernel_lang.specs.Language.{bytes, modulus}
use Rattle.hm_kernel_lang.specs.Correct.{IsPlaced}
use Rattle.hm_kernel_text.specs.Trees.{Tree, word, apply, leaves, tree_need, tree_text}
use Rattle.hm_kernel_text.specs.Words.{is_name}

-- ---- WHAT A TEXT SAYS

-- an array: its name, its address, and the values that it is given
pub record WrittenArray : Type 0 where
  pub name : List ℕ
  pub addr : ℕ
  pub values : List ℕ

-- a line that sets the array of a name
pub record WrittenSet : Type 0 where
  pub name : List ℕ
  pub expr : Tree

-- the type and the number of elements of each array, the arrays, and the lines that set them
pub record Written : Type 0 where
  pub element : ElementType
  pub count : ℕ
  pub arrays : List WrittenArray
  pub sets : List WrittenSet

-- ---- ITS LINES

-- the first line
abbrev pub header_text : List ℕ
header_text = codes "kernel 1"

-- the second line
abbrev pub type_text : ElementType → List ℕ
type_text U8 = codes "type u8"
type_text S8 = codes "type s8"
type_text U16 = codes "type u16"
type_text S16 = codes "type s16"
type_text U32 = codes "type u32"
type_text S32 = codes "type s32"

-- the third line
abbrev pub length_text : ℕ → List ℕ
length_text n = codes "length " ++ decimal n

-- the line of an array: its words with one space between them
abbrev pub array_text : WrittenArray → List ℕ
array_text a = join_with_byte space (codes "array" ∷ a.name ∷ hex8 a.addr ∷ map decimal a.values)

-- the line that sets an array: a name, an equals sign and an expression
abbrev pub set_text : WrittenSet → List ℕ
set_text s = join_with_byte space (codes "set" ∷ s.name ∷ codes "=" ∷ tree_text s.expr ∷ [])

-- all lines in order
abbrev pub kernel_lines : Written → List (List ℕ)
kernel_lines w = header_text ∷ type_text w.element ∷ length_text w.count ∷ (map array_text w.arrays ++ map set_text w.sets)

-- THE TEXT: its lines in order, each ended
abbrev pub kernel_text : Written → List ℕ
kernel_text w = flat_map line (kernel_lines w)

-- ---- WHAT IT HAS TO BE

-- an array has another name than this
abbrev pub HasOtherName : List ℕ → WrittenArray → Type 0
HasOtherName name a = a.name ≢ name

-- n elements from an address on and an array's share no byte
abbrev pub IsApart : ElementType → ℕ → ℕ → WrittenArray → Type 0
IsApart t n addr a = (addr + bytes t * n ≤ a.addr) ⊎ (a.addr + bytes t * n ≤ addr)

-- an array behind others has a name, a new one, lies aligned in SRAM, is given values of the type, no more than it has elements, and shares no byte
-- with the others
pub record IsNewArray (t : ElementType) (n : ℕ) (before : List WrittenArray) (a : WrittenArray) : Type 0 where
  pub name : is_name a.name ≡ true
  pub other : AllByRecursion (HasOtherName a.name) before
  pub placed : IsPlaced t n a.addr
  pub few : length a.values ≤ n
  pub small : AllByRecursion (λ v. v < modulus t) a.values
  pub apart : AllByRecursion (IsApart t n a.addr) before

-- each is one behind those before it
abbrev pub AreArrays : ElementType → ℕ → List WrittenArray → List WrittenArray → Type 0
AreArrays t n before [] = Unit {0}
AreArrays t n before (a ∷ more) = IsNewArray t n before a × AreArrays t n (before ++ a ∷ []) more

-- a name is that of one of these arrays
abbrev pub IsThere : List WrittenArray → List ℕ → Type 0
IsThere [] name = ⊥
IsThere (a ∷ more) name = (a.name ≡ name) ⊎ IsThere more name

-- the decimal digits of a number of the type
abbrev pub IsNumber : ElementType → List ℕ → Type 0
IsNumber t w = (n : ℕ) × (n < modulus t) × (w ≡ decimal n)

-- each word is an array's name or a number of the type
abbrev pub IsOverArrays : ElementType → List WrittenArray → Tree → Type 0
IsOverArrays t arrays (word w) = IsThere arrays w ⊎ IsNumber t w
IsOverArrays t arrays (apply o l r) = IsOverArrays t arrays l × IsOverArrays t arrays r

-- a line sets an array that is there to an expression over those that are, which has at most 64 words and needs at most eight registers
pub record IsWrittenSet (t : ElementType) (arrays : List WrittenArray) (s : WrittenSet) : Type 0 where
  pub target : IsThere arrays s.name
  pub over : IsOverArrays t arrays s.expr
  pub few : leaves s.expr ≤ 64
  pub shallow : tree_need s.expr ≤ 8

-- at most 65,536 elements, one to 16 arrays and one to 16 lines that set them
pub record IsWritten (w : Written) : Type 0 where
  pub count : w.count ≤ 65536
  pub some_arrays : 1 ≤ length w.arrays
  pub few_arrays : length w.arrays ≤ 16
  pub some_sets : 1 ≤ length w.sets
  pub few_sets : length w.sets ≤ 16
  pub arrays : AreArrays w.element w.count [] w.arrays
  pub sets : AllByRecursion (IsWrittenSet w.element w.arrays) w.sets

-- ---- THE GRAMMAR: the bytes are the text of what it says
pub record IsKernel (text : List ℕ) (w : Written) : Type 0 where
  pub fits : IsWritten w
  pub bytes_are : text ≡ kernel_text w
