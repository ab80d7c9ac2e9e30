-- The code of a text.
use Rattle.std.specs.Prelude.{ℕ, ◌+◌, ◌/◌, ◌%◌, ◌^◌, List, [], ◌∷◌, ◌++◌, map}
use Rattle.hm_kernel_lang.specs.declared.text.Expr.{Expr}
use Rattle.hm_kernel_lang.specs.declared.text.Expr.TheVariants.{Name, Number, Apply'}
use Rattle.hm_kernel_lang.specs.declared.text.Line.{Line}
use Rattle.hm_kernel_lang.specs.declared.text.Text.{Text}
use Rattle.hm_kernel_lang.specs.Language.{address}
use Rattle.hm_kernel_lang.specs.declared.machine.Item.{Item}
use Rattle.hm_kernel_lang.specs.declared.machine.Item.TheVariants.{Plain, Begin, Again, Stop}
use Rattle.hm_kernel_lang.specs.declared.machine.Kind.{Kind}
use Rattle.hm_kernel_lang.specs.declared.machine.Kind.TheVariants.{Clear, Low, High, LowLength, HighLength, Offset, Splat, Load, Store, Do, Further}
use Rattle.hm_kernel_lang.specs.Machine.{halves}

-- an address or a constant in the scratch register
abbrev pub constant_code : ℕ → List Kind → List Kind
constant_code n ks = Low (n % 2 ^ 16) ∷ High (n / 2 ^ 16) ∷ ks

-- the value of an expression in register q; registers above it are changed
abbrev pub expr_code : (ℕ → ℕ) → Expr → ℕ → List Kind
expr_code at (Name i) q = constant_code (at i) (Offset ∷ Load q ∷ [])
expr_code at (Number n) q = constant_code n (Splat q ∷ [])
expr_code at (Apply' o p l r1 r) q = expr_code at l q ++ (expr_code at r (q + 1) ++ Do o q ∷ [])

-- how many halfwords the code of these has
abbrev pub halves_of : List Kind → ℕ
halves_of [] = 0
halves_of (k ∷ ks) = halves k + halves_of ks

-- the end of a body: the result is stored, and the offset moves on
abbrev pub end_code : ℕ → List Kind
end_code a = constant_code a (Offset ∷ Store 0 ∷ Further ∷ [])

-- the body of a line's loop but for the branch at its end: the value, which is then stored
abbrev pub body_code : (ℕ → ℕ) → Line → List Kind
body_code at l = expr_code at l.expr 0 ++ end_code (at l.array)

-- what stands before the loop of a line: the offset is 0, and the length n
abbrev pub head_code : ℕ → List Kind
head_code n = Clear ∷ LowLength (n % 2 ^ 16) ∷ HighLength (n / 2 ^ 16) ∷ []

-- the code of a line: its head, and a loop over n elements
abbrev pub line_code : (ℕ → ℕ) → ℕ → Line → List Item
line_code at n l =
    let h = halves_of (body_code at l) + 2 in
    map Plain (head_code n) ++ (Begin h ∷ (map Plain (body_code at l) ++ Again h ∷ []))

-- the code of lines, one behind another, and the instruction that ends it
abbrev pub lines_code : (ℕ → ℕ) → ℕ → List Line → List Item
lines_code at n [] = Stop ∷ []
lines_code at n (l ∷ ls) = line_code at n l ++ lines_code at n ls

-- the code of a text
abbrev pub code : Text → List Item
code x = lines_code (address x.arrays.items) x.count x.lines.items
