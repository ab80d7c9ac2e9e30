-- What a text that compiles is: what reading promises, and what making its code relies on.
use Rattle.std.specs.Prelude.{ℕ, ◌+◌, ◌*◌, ◌<◌, ◌≤◌, ◌⊎◌, length, All, AllPairs}
use Rattle.hm_kernel_lang.specs.declared.text.ElementType.{ElementType}
use Rattle.hm_kernel_lang.specs.declared.text.Expr.{Expr}
use Rattle.hm_kernel_lang.specs.declared.text.Expr.TheVariants.{Name, Number, Apply'}
use Rattle.hm_kernel_lang.specs.declared.text.Array.{Array}
use Rattle.hm_kernel_lang.specs.declared.text.Line.{Line}
use Rattle.hm_kernel_lang.specs.declared.text.Text.{Text}
use Rattle.hm_kernel_lang.specs.Language.{bytes, modulus, names, need, numbers}
use Rattle.hm_kernel_lang.specs.Correct.{IsPlaced}

-- an array stands aligned in SRAM, and is given at most as many values as it has elements, each one of the type
pub record IsArray (t : ElementType) (n : ℕ) (a : Array) : Type 0 where
  pub placed : IsPlaced t n a.addr
  pub few : length a.values.items ≤ n
  pub small : All (λ v. v < modulus t) a.values.items

-- two arrays of n elements share no byte
abbrev pub ShareNone : ElementType → ℕ → Array → Array → Type 0
ShareNone t n a b = (a.addr + bytes t * n ≤ b.addr) ⊎ (b.addr + bytes t * n ≤ a.addr)

-- each name of an expression is of one of the first k arrays, and each number is one of the type
abbrev pub IsOver : ElementType → ℕ → Expr → Type 0
IsOver t k (Name i) = i < k
IsOver t k (Number n) = n < modulus t
IsOver t k (Apply' o p l q r) = IsOver t k l × IsOver t k r

-- a line sets one of k arrays to an expression over them that is not too long and needs no more than the vector registers
pub record IsSet (t : ElementType) (k : ℕ) (l : Line) : Type 0 where
  pub target : l.array < k
  pub over : IsOver t k l.expr
  pub few : names l.expr + numbers l.expr ≤ 64
  pub shallow : need l.expr ≤ 8

-- a text that compiles: one to 16 arrays of at most 65,536 elements, no two of which share a byte, and one to 16 lines over them
pub record IsText (x : Text) : Type 0 where
  pub count : x.count ≤ 65536
  pub some_arrays : 1 ≤ length x.arrays.items
  pub few_arrays : length x.arrays.items ≤ 16
  pub some_lines : 1 ≤ length x.lines.items
  pub few_lines : length x.lines.items ≤ 16
  pub arrays : All (IsArray x.element x.count) x.arrays.items
  pub apart : AllPairs (ShareNone x.element x.count) x.arrays.items
  pub lines : All (IsSet x.element (length x.arrays.items)) x.lines.items
