-- Expressions as they are written.
use Rattle.std.specs.Prelude.{ℕ, ◌+◌, List, [], ◌∷◌, ◌++◌, codes, max}
use Rattle.hm_text_base.specs.Marks.{space}
use Rattle.hm_kernel_lang.specs.declared.text.Op.{Op}
use Rattle.hm_kernel_lang.specs.declared.text.Op.TheVariants as op

-- AN EXPRESSION OF WORDS: a word, which is a name or a number, or an operation on two expressions
pub data Tree : Type 0 where
  word : List ℕ → Tree
  apply : Op → Tree → Tree → Tree

-- the word of an operation
abbrev pub op_text : Op → List ℕ
op_text op.Add = codes "add"
op_text op.Sub = codes "sub"
op_text op.Mul = codes "mul"
op_text op.Min = codes "min"
op_text op.Max = codes "max"
op_text op.And = codes "and"
op_text op.Or = codes "or"
op_text op.Xor = codes "xor"

-- the parenthesis that opens an operation
abbrev pub open_parenthesis : ℕ
open_parenthesis = 40

-- the parenthesis that closes it
abbrev pub close_parenthesis : ℕ
close_parenthesis = 41

-- a word, or (OP E E)
abbrev pub tree_text : Tree → List ℕ
tree_text (word w) = w
tree_text (apply o l r) = open_parenthesis ∷ (op_text o ++ space ∷ (tree_text l ++ space ∷ (tree_text r ++ close_parenthesis ∷ [])))

-- how many names and numbers it has
abbrev pub leaves : Tree → ℕ
leaves (word w) = 1
leaves (apply o l r) = leaves l + leaves r

-- how many registers it needs
abbrev pub tree_need : Tree → ℕ
tree_need (word w) = 1
tree_need (apply o l r) = max (tree_need l) (1 + tree_need r)
