-- How an expression is told apart from other texts with no tree in hand: by the sides of what is open alone.
use Rattle.std.specs.Prelude.{ℕ, zero, suc, Bool, ◌+◌, List, [], ◌∷◌, drop, slice_index, Option, Some, None, option_and_then}
use Rattle.std.specs.Prelude.{◌==◌, if◌then◌else◌}
use Rattle.hm_text_base.specs.Spans.{span}
use Rattle.hm_kernel_text.specs.Words.{op_in}
use Rattle.hm_kernel_text.specs.Trees.{Tree, word, apply, open_parenthesis, close_parenthesis}
use Rattle.hm_kernel_text.specs.ReadTree.{is_leaf}
use Rattle.hm_kernel_text.specs.declared.shape.Side.{Side}
use Rattle.hm_kernel_text.specs.declared.shape.Side.TheVariants.{First, Second}
use Rattle.hm_kernel_text.specs.declared.shape.Place.{Place}
use Rattle.hm_kernel_text.specs.declared.shape.Place.TheVariants.{End, Inside, Wrong}

-- behind a bracket that closes the innermost operation
abbrev pub close_side : List Side → Option (List Side)
close_side [] = None
close_side (First ∷ ss) = None
close_side (Second ∷ ss) = Some ss

-- behind brackets that all close
unfoldable pub closed_sides : List Side → List ℕ → Option (List Side)
closed_sides ss [] = Some ss
closed_sides ss (c ∷ cs) = if c == close_parenthesis then option_and_then (λ more. closed_sides more cs) (close_side ss) else None

-- what is open behind an argument: None inside where that was the whole expression
abbrev pub stands_side : List Side → Option (Option (List Side))
stands_side [] = Some None
stands_side (First ∷ ss) = Some (Some (Second ∷ ss))
stands_side (Second ∷ ss) = None

-- a word begins with a bracket that opens
abbrev pub opens : List ℕ → Bool
opens w = slice_index w 0 == open_parenthesis

-- what is open behind an operation that begins
abbrev pub open_shape : List Side → List ℕ → Option (Option (List Side))
open_shape ss w = option_and_then (λ o. Some (Some (First ∷ ss))) (op_in w)

-- what is open behind a name or a number and the brackets that stand behind it
abbrev pub leaf_shape : List Side → List ℕ × List ℕ → Option (Option (List Side))
leaf_shape ss s = if is_leaf s.0 then option_and_then stands_side (closed_sides ss s.1) else None

-- what is open behind one word; None where it may not stand there
unfoldable pub shape_in : List Side → List ℕ → Option (Option (List Side))
shape_in ss w = if opens w then open_shape ss (drop 1 w) else leaf_shape ss (span close_parenthesis w)

-- one more behind a word that opens an operation
abbrev pub operations_behind : ℕ → List ℕ → ℕ
operations_behind n w = if opens w then n + 1 else n

-- how many names and numbers there are where nothing follows, and where words do
abbrev pub leaves_after : Option (Option (List Side)) → ℕ → List (List ℕ) → (List Side → Option ℕ) → Option ℕ
leaves_after None n ws more = None
leaves_after (Some None) n [] more = Some (n + 1)
leaves_after (Some None) n (w ∷ ws) more = None
leaves_after (Some (Some ss)) n ws more = more ss

-- how many names and numbers the expression has of which these words are the rest, behind n operations
unfoldable pub leaves_from : List Side → ℕ → List (List ℕ) → Option ℕ
leaves_from ss n [] = None
leaves_from ss n (w ∷ ws) = leaves_after (shape_in ss w) (operations_behind n w) ws (λ more. leaves_from more (operations_behind n w) ws)

-- what the code says of what is open
abbrev pub place_of : Place → List Side → Option (Option (List Side))
place_of End ss = Some None
place_of Inside ss = Some (Some ss)
place_of Wrong ss = None

-- the tree that words begin with which are known to be an expression, no deeper than n, and the words behind it: brackets behind words are passed over
unfoldable pub tree_at : ℕ → List (List ℕ) → Option (Tree × List (List ℕ))
tree_at zero ws = None
tree_at (suc n) [] = None
tree_at (suc n) (w ∷ ws) =
    if opens w then
    option_and_then (λ o. option_and_then (λ l. option_and_then (λ r. Some (apply o l.0 r.0, r.1)) (tree_at n l.1)) (tree_at n ws)) (op_in (drop 1 w))
    else Some (word (span close_parenthesis w).0, ws)
