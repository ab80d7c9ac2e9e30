-- Reading an expression from left to right, word by word, with a list of what is open.
use Rattle.std.specs.Prelude.{ℕ, Bool, ◌||◌, List, [], ◌∷◌, drop, slice_index, Option, Some, None, option_and_then, ◌==◌, if◌then◌else◌}
use Rattle.hm_text_base.specs.Spans.{span}
use Rattle.hm_kernel_lang.specs.declared.text.Op.{Op}
use Rattle.hm_kernel_text.specs.Trees.{Tree, word, apply, open_parenthesis, close_parenthesis}
use Rattle.hm_kernel_text.specs.Words.{op_in, is_name, is_numeral}

-- AN OPEN OPERATION: its first argument is awaited, or its second behind the first
pub data Frame : Type 0 where
  first : Op → Frame
  second : Op → Tree → Frame

-- what follows an argument: the whole expression, or operations that are open, the innermost in front
pub data Step : Type 0 where
  whole : Tree → Step
  part : List Frame → Step

-- behind a bracket that closes the innermost operation, whose second argument this is
abbrev pub close : List Frame → Tree → Option (List Frame × Tree)
close [] t = None
close (first o ∷ fs) t = None
close (second o l ∷ fs) t = Some (fs, apply o l t)

-- behind brackets that all close
unfoldable pub closed : List Frame → Tree → List ℕ → Option (List Frame × Tree)
closed fs t [] = Some (fs, t)
closed fs t (c ∷ cs) = if c == close_parenthesis then option_and_then (λ s. closed s.0 s.1 cs) (close fs t) else None

-- what an argument with no bracket behind it is
abbrev pub stands : List Frame × Tree → Option Step
stands ([], t) = Some (whole t)
stands (first o ∷ fs, t) = Some (part (second o t ∷ fs))
stands (second o l ∷ fs, t) = None

-- a word that is a name or a number
abbrev pub is_leaf : List ℕ → Bool
is_leaf w = is_name w || is_numeral w

-- a name or a number, with the brackets that stand behind it
abbrev pub leaf_step : List Frame → List ℕ × List ℕ → Option Step
leaf_step fs s = if is_leaf s.0 then option_and_then stands (closed fs (word s.0) s.1) else None

-- a bracket and an operation open one
abbrev pub open_step : List Frame → List ℕ → Option Step
open_step fs w = option_and_then (λ o. Some (part (first o ∷ fs))) (op_in w)

-- what follows one word behind operations that are open; None where it may not stand there
unfoldable pub step_in : List Frame → List ℕ → Option Step
step_in fs w = if slice_index w 0 == open_parenthesis then open_step fs (drop 1 w) else leaf_step fs (span close_parenthesis w)

-- what is read where nothing follows, and where words do
abbrev pub tree_after : Option Step → List (List ℕ) → (List Frame → Option Tree) → Option Tree
tree_after None ws more = None
tree_after (Some (whole t)) [] more = Some t
tree_after (Some (whole t)) (w ∷ ws) more = None
tree_after (Some (part fs)) ws more = more fs

-- the words behind what is open
unfoldable pub tree_from : List Frame → List (List ℕ) → Option Tree
tree_from fs [] = None
tree_from fs (w ∷ ws) = tree_after (step_in fs w) ws (λ gs. tree_from gs ws)

-- THE EXPRESSION that words are
abbrev pub tree_in : List (List ℕ) → Option Tree
tree_in words = tree_from [] words
