-- Bytes say one number of steps: it is told by what they write.
use Rattle.std.proofs.Common.{◌≡◌, ℕ, zero, suc, ◌+◌, ◌*◌, ◌<◌, Bool, true, false, cond, List, [], ◌∷◌, ◌++◌, length, map, refl, sym, ap, ◌∙◌, arith}
use Rattle.std.specs.Prelude.{All, decimal}
use Rattle.std.proofs.lemmas.List.Elements.{All-head, All-tail}
use Rattle.std.proofs.lemmas.Bool.{false_from_ne_true}
use Rattle.hm_kernel_lang.specs.declared.text.Array.{Array}
use Rattle.hm_kernel_lang.specs.declared.text.ElementType.{ElementType}
use Rattle.hm_kernel_lang.specs.declared.text.Expr.{Expr}
use Rattle.hm_kernel_lang.specs.declared.text.Expr.TheVariants.{Name, Number, Apply'}
use Rattle.hm_kernel_lang.specs.declared.text.Line.{Line}
use Rattle.hm_kernel_lang.specs.declared.text.Text.{Text}
use Rattle.hm_kernel_lang.specs.Language.{lines_steps, names, numbers, operations, rounds, steps}
use Rattle.hm_kernel_lang.specs.Texts.{IsOver, IsSet, IsText}
use Rattle.hm_kernel_lang.proofs.Numbers.{number_fits}
use Rattle.hm_kernel_text.specs.Held.{array_written, expr_written, name_at, set_written, written}
use Rattle.hm_kernel_text.specs.Trees.{Tree, apply, word}
use Rattle.hm_kernel_text.specs.Words.{is_name}
use Rattle.hm_kernel_text.specs.Written.{AreArrays, IsKernel, Written, WrittenArray, WrittenSet}
use Rattle.hm_kernel_text.proofs.AgainFile.{kernel_again, numeral_not_name}
use Rattle.hm_kernel_text.proofs.AgainWords.{numeral_again}

-- a written expression by its parts
abbrev tree_names : Tree → ℕ
tree_names (word w) = cond (is_name w) 1 0
tree_names (apply o l r) = tree_names l + tree_names r

abbrev tree_numbers : Tree → ℕ
tree_numbers (word w) = cond (is_name w) 0 1
tree_numbers (apply o l r) = tree_numbers l + tree_numbers r

abbrev tree_operations : Tree → ℕ
tree_operations (word w) = 0
tree_operations (apply o l r) = tree_operations l + tree_operations r + 1

abbrev sets_steps : ElementType → ℕ → List WrittenSet → ℕ
sets_steps t n [] = 0
sets_steps t n (s ∷ ss) = 4 + rounds t n * (4 * tree_names s.expr + 3 * tree_numbers s.expr + tree_operations s.expr + 6) + sets_steps t n ss

abbrev written_steps : Written → ℕ
written_steps w = sets_steps w.element w.count w.sets + 1

-- the names of arrays are names
abbrev pub AllNames : List Array → Type 0
AllNames arrays = (i : ℕ) → i < length arrays → is_name (name_at arrays i) ≡ true

pub all_names : (t : ElementType) (n : ℕ) (before : List WrittenArray) (arrays : List Array) → AreArrays t n before (map array_written arrays) → AllNames arrays
all_names t n before [] h i l = absurd (omega arith)
all_names t n before (a ∷ arrays) h zero l = h.0.name
all_names t n before (a ∷ arrays) h (suc i) l = all_names t n (before ++ array_written a ∷ []) arrays h.1 i (omega arith)

module _ (t : ElementType) (arrays : List Array) (named : AllNames arrays) where
  pub is_number : (k : ℕ) → IsOver t (length arrays) (Number k) → is_name (decimal k) ≡ false
  is_number k h = false_from_ne_true (is_name (decimal k)) (numeral_not_name (decimal k) (numeral_again k (number_fits t k h)))

  names_are : (e : Expr) → IsOver t (length arrays) e → names e ≡ tree_names (expr_written arrays e)
  names_are (Name i) h = sym (ap (λ (b : Bool). cond b 1 0) (named i h))
  names_are (Number k) h = sym (ap (λ (b : Bool). cond b 1 0) (is_number k h))
  names_are (Apply' o p l q r) h = λ j. names_are l h.0 j + names_are r h.1 j

  numbers_are : (e : Expr) → IsOver t (length arrays) e → numbers e ≡ tree_numbers (expr_written arrays e)
  numbers_are (Name i) h = sym (ap (λ (b : Bool). cond b 0 1) (named i h))
  numbers_are (Number k) h = sym (ap (λ (b : Bool). cond b 0 1) (is_number k h))
  numbers_are (Apply' o p l q r) h = λ j. numbers_are l h.0 j + numbers_are r h.1 j

  operations_are : (e : Expr) → IsOver t (length arrays) e → operations e ≡ tree_operations (expr_written arrays e)
  operations_are (Name i) h = refl
  operations_are (Number k) h = refl
  operations_are (Apply' o p l q r) h = λ j. operations_are l h.0 j + operations_are r h.1 j + 1

  lines_are : (n : ℕ) (ls : List Line) → All (IsSet t (length arrays)) ls → lines_steps t n ls ≡ sets_steps t n (map (set_written arrays) ls)
  lines_are n [] h = refl
  lines_are n (l ∷ ls) h =
      let over = (All-head (IsSet t (length arrays)) l ls h).over in
      let a = names_are l.expr over in
      let c = numbers_are l.expr over in
      let o = operations_are l.expr over in
      let rest = lines_are n ls (All-tail (IsSet t (length arrays)) l ls h) in
      λ j. 4 + rounds t n * (4 * a j + 3 * c j + o j + 6) + rest j

steps_are : (bytes : List ℕ) (x : Text) → IsText x → IsKernel bytes (written x) → steps x ≡ written_steps (written x)
steps_are bytes x text is =
    let named = all_names x.element x.count [] x.arrays.items is.fits.arrays in
    ap (λ (n : ℕ). n + 1) (lines_are x.element x.arrays.items named x.count x.lines.items text.lines)

pub one_written : (bytes : List ℕ) (w v : Written) → IsKernel bytes w → IsKernel bytes v → w ≡ v
one_written bytes w v h k = let e = kernel_again bytes w h in let f = kernel_again bytes v k in cc

pub one_number : (bytes : List ℕ) (x y : Text) → IsText x → IsText y → IsKernel bytes (written x) → IsKernel bytes (written y) → steps x ≡ steps y
one_number bytes x y a b h k = steps_are bytes x a h ∙ ap written_steps (one_written bytes (written x) (written y) h k) ∙ sym (steps_are bytes y b k)
