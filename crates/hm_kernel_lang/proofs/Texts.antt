-- The lines of a text that compiles are fine: each name stands for an array in its place, apart from the one that is set.
use Rattle.std.proofs.Common.{◌≡◌, ℕ, zero, suc, ◌+◌, ◌*◌, ◌<◌, ◌≤◌, ◌⊎◌, inl, inr, List, [], ◌∷◌, length, refl, sym, ap, subst, arith, ⊎_elim}
use Rattle.std.specs.Prelude.{All, AllPairs, slice_index_or}
use Rattle.std.proofs.lemmas.Bool.{cases_lt}
use Rattle.std.proofs.lemmas.List.Elements.{All-head, All-tail}
use Rattle.hm_kernel_lang.specs.declared.text.Array.{Array}
use Rattle.hm_kernel_lang.specs.declared.text.ElementType.{ElementType}
use Rattle.hm_kernel_lang.specs.declared.text.Expr.{Expr}
use Rattle.hm_kernel_lang.specs.declared.text.Expr.TheVariants.{Name, Number, Apply'}
use Rattle.hm_kernel_lang.specs.declared.text.Line.{Line}
use Rattle.hm_kernel_lang.specs.declared.text.Text.{Text}
use Rattle.hm_kernel_lang.specs.Correct.{AreApart, AreLines, IsFine, IsLine, IsPlaced}
use Rattle.hm_kernel_lang.specs.Language.{address, bytes}
use Rattle.hm_kernel_lang.specs.Texts.{IsArray, IsOver, IsSet, IsText, ShareNone}

pub address_at : (xs : List Array) (i : ℕ) (d : Array) → i < length xs → address xs i ≡ (slice_index_or xs i d).addr
address_at [] i d h = absurd (omega arith)
address_at (x ∷ xs) zero d h = refl
address_at (x ∷ xs) (suc i) d h = address_at xs i d (omega arith)

module _ (t : ElementType) (n : ℕ) where
  placed_at : (xs : List Array) (i : ℕ) → All (IsArray t n) xs → i < length xs → IsPlaced t n (address xs i)
  placed_at [] i h l = absurd (omega arith)
  placed_at (x ∷ xs) i h l = subst (IsPlaced t n) (sym (address_at (x ∷ xs) i x l)) (h i x l).placed

  -- two arrays, by their numbers
  in_order : (x : Array) (xs : List Array) (i j : ℕ) → AllPairs (ShareNone t n) (x ∷ xs) → i < j → j < length (x ∷ xs)
      → ShareNone t n (slice_index_or (x ∷ xs) i x) (slice_index_or (x ∷ xs) j x)
  in_order x xs i j h l k = h i j x l k

  swapped : (x y : Array) → ShareNone t n x y → ShareNone t n y x
  swapped x y (inl h) = inr h
  swapped x y (inr h) = inl h

  apart_by : (a b : ℕ) (x y : Array) → a ≡ x.addr → b ≡ y.addr → ShareNone t n x y → AreApart t n a b
  apart_by a b x y e f h = inr (subst (λ (c : ℕ). (c + bytes t * n ≤ b) ⊎ (b + bytes t * n ≤ c)) (sym e)
      (subst (λ (c : ℕ). (x.addr + bytes t * n ≤ c) ⊎ (c + bytes t * n ≤ x.addr)) (sym f) h))

  apart_at : (xs : List Array) (i j : ℕ) → AllPairs (ShareNone t n) xs → i < length xs → j < length xs → AreApart t n (address xs i) (address xs j)
  apart_at [] i j h k l = absurd (omega arith)
  apart_at (x ∷ xs) i j h k l =
      let a = slice_index_or (x ∷ xs) i x in
      let b = slice_index_or (x ∷ xs) j x in
      let e = address_at (x ∷ xs) i x k in
      let f = address_at (x ∷ xs) j x l in
      ⊎_elim
      (λ lt. apart_by (address (x ∷ xs) i) (address (x ∷ xs) j) a b e f (in_order x xs i j h lt l))
      (λ le. ⊎_elim
      (λ lt. apart_by (address (x ∷ xs) i) (address (x ∷ xs) j) a b e f (swapped b a (in_order x xs j i h lt k)))
      (λ ge. let same : i ≡ j = omega arith in inl (ap (address (x ∷ xs)) same))
      (cases_lt j i))
      (cases_lt i j)

  module _ (xs : List Array) (arrays : All (IsArray t n) xs) (pairs : AllPairs (ShareNone t n) xs) where
    fine : (a : ℕ) (e : Expr) → a < length xs → IsOver t (length xs) e → IsFine t (address xs) n (address xs a) e
    fine a (Name i) h over = (placed_at xs i arrays over, apart_at xs i a pairs over h)
    fine a (Number k) h over = over
    fine a (Apply' o p l q r) h over = (fine a l h over.0, fine a r h over.1)

    is_line : (l : Line) → IsSet t (length xs) l → IsLine t (address xs) n l
    is_line l set = record { target = placed_at xs l.array arrays set.target; names = fine l.array l.expr set.target set.over; shallow = set.shallow }

    are_lines : (ls : List Line) → All (IsSet t (length xs)) ls → AreLines t (address xs) n ls
    are_lines [] sets = tt
    are_lines (l ∷ ls) sets = (is_line l (All-head (IsSet t (length xs)) l ls sets), are_lines ls (All-tail (IsSet t (length xs)) l ls sets))

pub lines_fine : (x : Text) → IsText x → AreLines x.element (address x.arrays.items) x.count x.lines.items
lines_fine x text = are_lines x.element x.count x.arrays.items text.arrays text.apart x.lines.items text.lines
