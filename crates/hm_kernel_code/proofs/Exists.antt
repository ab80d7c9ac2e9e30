-- The items of a text's code are in their ranges, and so each text has an image.
use Rattle.std.proofs.Common.{ℕ, zero, suc, length, ◌+◌, ◌^◌, ◌<◌, ◌≤◌, List, [], ◌∷◌, ◌++◌, map, refl, arith}
use Rattle.std.specs.List.{AllByRecursion}
use Rattle.std.specs.Prelude.{All}
use Rattle.std.proofs.lemmas.List.Elements.{All-head, All-tail}
use Rattle.hm_code_bytes.proofs.Made.{fit_append, some_items}
use Rattle.hm_kernel_lang.specs.declared.text.ElementType.{ElementType}
use Rattle.hm_kernel_lang.specs.declared.text.Expr.{Expr}
use Rattle.hm_kernel_lang.specs.declared.text.Expr.TheVariants.{Name, Number, Apply'}
use Rattle.hm_kernel_lang.specs.Code.{body_code, code, constant_code, end_code, expr_code, halves_of, head_code, line_code, lines_code}
use Rattle.hm_kernel_lang.specs.declared.text.Array.{Array}
use Rattle.hm_kernel_lang.specs.declared.text.Line.{Line}
use Rattle.hm_kernel_lang.specs.declared.text.Text.{Text}
use Rattle.hm_kernel_lang.specs.Language.{address, modulus, need}
use Rattle.hm_kernel_lang.specs.declared.machine.Item.TheVariants.{Plain, Begin, Again}
use Rattle.hm_kernel_lang.specs.declared.machine.Kind.{Kind}
use Rattle.hm_kernel_lang.specs.declared.machine.Kind.TheVariants.{Offset, Splat, Load, Store, Do, Further}
use Rattle.hm_kernel_lang.specs.Texts.{IsArray, IsOver, IsSet, IsText}
use Rattle.hm_kernel_lang.proofs.Straight.{halves_append}
use Rattle.hm_base.specs.Image.{Segment, flat}
use Rattle.hm_kernel_instrs.specs.Instructions.{IsItem}
use Rattle.hm_kernel_instrs.specs.Ranges.{ItemFits, ItemsFit, KindFits}
use Rattle.hm_kernel_instrs.proofs.Exists.{some_item}
use Rattle.hm_kernel_code.specs.Images.{IsMade, flash_bytes}
use Rattle.hm_kernel_code.specs.Segments.{with_arrays}
use Rattle.hm_kernel_code.proofs.Appending.{expr_halves}
use Rattle.hm_kernel_code.proofs.Room.{one_fewer}

abbrev KindsFit : List Kind → Type 0
KindsFit = AllByRecursion KindFits

-- ---- the code of lines is in its ranges

items_of : (ks : List Kind) → KindsFit ks → ItemsFit (map Plain ks)
items_of [] h = tt
items_of (k ∷ ks) h = (h.0, items_of ks h.1)

constant_fits : (n : ℕ) (ks : List Kind) → n < 2 ^ 32 → KindsFit ks → KindsFit (constant_code n ks)
constant_fits n ks l h = (omega arith, (omega arith, h))

modulus_fits : (t : ElementType) → modulus t ≤ 2 ^ 32
modulus_fits t = grind arith

some_need : (e : Expr) → 1 ≤ need e
some_need (Name i) = omega arith
some_need (Number n) = omega arith
some_need (Apply' o p l q r) = let h = some_need l in omega arith

module _ (t : ElementType) (at : ℕ → ℕ) (low : (i : ℕ) → at i < 2 ^ 32) (k : ℕ) where
  expr_fits : (e : Expr) (q : ℕ) → IsOver t k e → q + need e ≤ 8 → KindsFit (expr_code at e q)
  expr_fits (Name i) q over room = constant_fits (at i) (Offset ∷ Load q ∷ []) (low i) (tt, (omega arith, tt))
  expr_fits (Number n) q over room =
      let m = modulus_fits t in
      constant_fits n (Splat q ∷ []) (omega arith) (omega arith, tt)
  expr_fits (Apply' o p l u r) q over room =
      let some = some_need r in
      fit_append KindFits (expr_code at l q) (expr_code at r (q + 1) ++ Do o q ∷ []) (expr_fits l q over.0 (omega arith))
      (fit_append KindFits (expr_code at r (q + 1)) (Do o q ∷ []) (expr_fits r (q + 1) over.1 (omega arith)) (omega arith, tt))

  body_fits : (l : Line) → IsSet t k l → KindsFit (body_code at l)
  body_fits l set =
      fit_append KindFits (expr_code at l.expr 0) (end_code (at l.array)) (expr_fits l.expr 0 set.over (let shallow = set.shallow in omega arith))
      (constant_fits (at l.array) (Offset ∷ Store 0 ∷ Further ∷ []) (low l.array) (tt, (omega arith, (tt, tt))))

  near : (l : Line) → IsSet t k l → halves_of (body_code at l) + 2 < 2048
  near l set =
      let few = set.few in
      let fewer = one_fewer l.expr in
      let expr = expr_halves at l.expr 0 in
      let body = halves_append (expr_code at l.expr 0) (end_code (at l.array)) in
      omega arith

  line_fits : (n : ℕ) (l : Line) → n < 2 ^ 32 → IsSet t k l → ItemsFit (line_code at n l)
  line_fits n l count set =
      let h = halves_of (body_code at l) + 2 in
      let close = near l set in
      fit_append ItemFits (map Plain (head_code n)) (Begin h ∷ (map Plain (body_code at l) ++ Again h ∷ []))
      (items_of (head_code n) (tt, (omega arith, (omega arith, tt))))
      (close, fit_append ItemFits (map Plain (body_code at l)) (Again h ∷ []) (items_of (body_code at l) (body_fits l set)) (close, tt))

  -- so are the items of lines, where their arrays lie below 2^32
  lines_fit : (n : ℕ) (ls : List Line) → n < 2 ^ 32 → All (IsSet t k) ls → ItemsFit (lines_code at n ls)
  lines_fit n [] count sets = (tt, tt)
  lines_fit n (l ∷ ls) count sets =
      fit_append ItemFits (line_code at n l) (lines_code at n ls) (line_fits n l count (All-head (IsSet t k) l ls sets))
      (lines_fit n ls count (All-tail (IsSet t k) l ls sets))

-- ---- images

address_low : (t : ElementType) (n : ℕ) (xs : List Array) → All (IsArray t n) xs → (i : ℕ) → address xs i < 2 ^ 32
address_low t n [] h i = omega arith
address_low t n (x ∷ xs) h zero = let high = (All-head (IsArray t n) x xs h).placed.high in omega arith
address_low t n (x ∷ xs) h (suc i) = address_low t n xs (All-tail (IsArray t n) x xs h) i

-- the items of a text's code are in their ranges
pub code_fits : (x : Text) → IsText x → ItemsFit (code x)
code_fits x text =
    let t = x.element in
    let xs = x.arrays.items in
    let count = text.count in
    lines_fit t (address xs) (address_low t x.count xs text.arrays) (length xs) x.count x.lines.items (omega arith) text.lines

-- each text has an image
pub some_made : (x : Text) → IsText x → (image : List Segment) × IsMade x image
some_made x text =
    let t = x.element in
    let is = some_items ItemFits (IsItem t) (some_item t) (code x) (code_fits x text) in
    (with_arrays t x.arrays.items (flat (flash_bytes is.0)), record { instrs = is.0; kinds = is.1; is = refl })
