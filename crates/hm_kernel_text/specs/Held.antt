-- What the code holds, in the words of the definitions.
use Rattle.std.specs.Prelude.{ℕ, zero, suc, List, [], ◌∷◌, map, decimal}
use Rattle.hm_kernel_lang.specs.declared.text.Expr.{Expr}
use Rattle.hm_kernel_lang.specs.declared.text.Expr.TheVariants.{Name, Number, Apply'}
use Rattle.hm_kernel_lang.specs.declared.text.Array.{Array}
use Rattle.hm_kernel_lang.specs.declared.text.Line.{Line}
use Rattle.hm_kernel_lang.specs.declared.text.Text.{Text}
use Rattle.hm_kernel_text.specs.declared.tree.Tree.{Tree as Held}
use Rattle.hm_kernel_text.specs.declared.tree.Tree.TheVariants as held
use Rattle.hm_kernel_text.specs.Trees.{Tree, word, apply}
use Rattle.hm_kernel_text.specs.Written.{WrittenArray, WrittenSet, Written}

-- the tree that the code holds
abbrev pub tree_of : Held → Tree
tree_of (held.Word w) = word w.now
tree_of (held.Apply' o p l q r) = apply o (tree_of l) (tree_of r)

-- WHAT A TEXT SAYS that the program holds: the name of array i
abbrev pub name_at : List Array → ℕ → List ℕ
name_at [] i = []
name_at (a ∷ more) zero = a.name.items
name_at (a ∷ more) (suc i) = name_at more i

-- an expression, with each array by its name
abbrev pub expr_written : List Array → Expr → Tree
expr_written arrays (Name i) = word (name_at arrays i)
expr_written arrays (Number n) = word (decimal n)
expr_written arrays (Apply' o p l q r) = apply o (expr_written arrays l) (expr_written arrays r)

-- the array of a text, as it is written
abbrev pub array_written : Array → WrittenArray
array_written a = record { name = a.name.items; addr = a.addr; values = a.values.items }

-- a line over arrays, with the array that it sets by its name
abbrev pub set_written : List Array → Line → WrittenSet
set_written arrays l = record { name = name_at arrays l.array; expr = expr_written arrays l.expr }

-- a whole text, as it is written
abbrev pub written : Text → Written
written x = record { element = x.element; count = x.count; arrays = map array_written x.arrays.items; sets = map (set_written x.arrays.items) x.lines.items }
