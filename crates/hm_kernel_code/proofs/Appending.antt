-- Items put behind others, for one expression, line and text after another.
use Rattle.std.proofs.Common.{◌≡◌, ℕ, ◌+◌, ◌*◌, ◌<◌, ◌≤◌, List, [], ◌∷◌, ◌++◌, length, map, max, take, refl, sym, ap, ◌∙◌, subst, arith, append-nil}
use Rattle.std.specs.Prelude.{IfOk, Result, Ok, Err, slice_index_or}
use Rattle.std.specs.List.{flat_map}
use Rattle.std.proofs.lemmas.Grind.{flat_map-append}
use Rattle.std.proofs.lemmas.List.{append_assoc, map-append, take_all, take_more}
use Rattle.hm_base.specs.declared.errors.OutOfMemory.{OutOfMemory}
use Rattle.hm_kernel_lang.specs.declared.machine.Item.{Item}
use Rattle.hm_kernel_lang.specs.declared.machine.Item.TheVariants.{Plain, Begin, Again, Stop}
use Rattle.hm_kernel_lang.specs.declared.machine.Kind.TheVariants.{Offset, Load, Do}
use Rattle.hm_kernel_lang.specs.declared.text.Array.{Array}
use Rattle.hm_kernel_lang.specs.declared.text.Expr.{Expr}
use Rattle.hm_kernel_lang.specs.declared.text.Expr.TheVariants.{Name, Number, Apply'}
use Rattle.hm_kernel_lang.specs.declared.text.Line.{Line}
use Rattle.hm_kernel_lang.specs.declared.text.Op.{Op}
use Rattle.hm_kernel_lang.specs.Code.{constant_code, end_code, expr_code, halves_of, head_code, line_code, lines_code}
use Rattle.hm_kernel_lang.specs.Language.{address, names, numbers, operations}
use Rattle.hm_kernel_lang.proofs.Straight.{halves_append}

both : (xs ys : List Item) (a b c : List Item) → b ≡ a ++ xs → c ≡ b ++ ys → c ≡ a ++ (xs ++ ys)
both xs ys a b c h k = k ∙ ap (λ (zs : List Item). zs ++ ys) h ∙ append_assoc a xs ys

-- EXPRESSIONS
pub named : (xs : List Array) (e : Expr) (q i a : ℕ) (old new : List Item) (r : Result (Unit {0}) OutOfMemory) → e ≡ Name i → address xs i ≡ a
    → IfOk r (λ u. new ≡ old ++ map Plain (constant_code a (Offset ∷ Load q ∷ [])))
    → IfOk r (λ u. new ≡ old ++ map Plain (expr_code (address xs) e q))
named xs e q i a old new r is there h =
    subst (λ (y : Expr). IfOk r (λ u. new ≡ old ++ map Plain (expr_code (address xs) y q))) (sym is)
    (subst (λ (y : ℕ). IfOk r (λ u. new ≡ old ++ map Plain (constant_code y (Offset ∷ Load q ∷ [])))) (sym there) h)

-- an operation behind the instructions of its left and then of its right part
pub applied : (at : ℕ → ℕ) (e l r u v : Expr) (o : Op) (q : ℕ) (a b c d : List Item)
    → expr_code at e q ≡ expr_code at l q ++ (expr_code at r (q + 1) ++ Do o q ∷ []) → u ≡ l → v ≡ r
    → b ≡ a ++ map Plain (expr_code at u q) → c ≡ b ++ map Plain (expr_code at v (q + 1)) → d ≡ c ++ (Plain (Do o q) ∷ [])
    → d ≡ a ++ map Plain (expr_code at e q)
applied at e l r u v o q a b c d is left right h k g =
    let ls = expr_code at l q in
    let rs = expr_code at r (q + 1) in
    let one : b ≡ a ++ map Plain ls = h ∙ ap (λ (x : Expr). a ++ map Plain (expr_code at x q)) left in
    let two : c ≡ b ++ map Plain rs = k ∙ ap (λ (x : Expr). b ++ map Plain (expr_code at x (q + 1))) right in
    let whole = both (map Plain ls) (map Plain rs ++ (Plain (Do o q) ∷ [])) a b d one (both (map Plain rs) (Plain (Do o q) ∷ []) b c d two g) in
    let same : map Plain (expr_code at e q) ≡ map Plain ls ++ (map Plain rs ++ (Plain (Do o q) ∷ [])) =
    ap (map Plain) is ∙ map-append Plain ls (rs ++ Do o q ∷ []) ∙ ap (λ (xs : List Item). map Plain ls ++ xs) (map-append Plain rs (Do o q ∷ [])) in
    whole ∙ ap (λ (xs : List Item). a ++ xs) (sym same)

-- how many halfwords the code of an expression has
pub expr_halves : (at : ℕ → ℕ) (e : Expr) (q : ℕ) → halves_of (expr_code at e q) ≡ 7 * names e + 6 * numbers e + 2 * operations e
expr_halves at (Name i) q = refl
expr_halves at (Number n) q = refl
expr_halves at (Apply' o p l u r) q =
    omega (
      arith,
      halves_append (expr_code at l q) (expr_code at r (q + 1) ++ Do o q ∷ []),
      halves_append (expr_code at r (q + 1)) (Do o q ∷ []),
      expr_halves at l q,
      expr_halves at r (q + 1),
    )

pub loop_is : (at : ℕ → ℕ) (e : Expr) (a n c o : ℕ) → n ≡ names e → c ≡ numbers e → o ≡ operations e
    → 7 * n + 6 * c + 2 * o + 10 ≡ halves_of (expr_code at e 0 ++ end_code a) + 2
loop_is at e a n c o h k l = omega (arith, halves_append (expr_code at e 0) (end_code a), expr_halves at e 0)

-- LINES
pub line_appended : (at : ℕ → ℕ) (n h x : ℕ) (l : Line) (a b c d : List Item) (r : Result (Unit {0}) OutOfMemory)
    → h ≡ halves_of (expr_code at l.expr 0 ++ end_code (at l.array)) + 2 → at l.array ≡ x
    → b ≡ a ++ (map Plain (head_code n) ++ (Begin h ∷ [])) → c ≡ b ++ map Plain (expr_code at l.expr 0)
    → IfOk r (λ u. d ≡ c ++ (map Plain (end_code x) ++ (Again h ∷ [])))
    → IfOk r (λ u. d ≡ a ++ line_code at n l)
line_appended at n h x l a b c d (Err e) size there begin value end = tt
line_appended at n h x l a b c d (Ok u) size there begin value end =
    let k = halves_of (expr_code at l.expr 0 ++ end_code (at l.array)) + 2 in
    let head = map Plain (head_code n) in
    let es = map Plain (expr_code at l.expr 0) in
    let ends = map Plain (end_code (at l.array)) in
    let one : b ≡ a ++ (head ++ (Begin k ∷ [])) = begin ∙ ap (λ (y : ℕ). a ++ (head ++ (Begin y ∷ []))) size in
    let three : d ≡ c ++ (ends ++ (Again k ∷ [])) =
    end ∙ ap (λ (y : ℕ). c ++ (map Plain (end_code x) ++ (Again y ∷ []))) size
    ∙ ap (λ (y : ℕ). c ++ (map Plain (end_code y) ++ (Again k ∷ []))) (sym there) in
    let whole = both (head ++ (Begin k ∷ [])) (es ++ (ends ++ (Again k ∷ []))) a b d one (both es (ends ++ (Again k ∷ [])) b c d value three) in
    let same : (head ++ (Begin k ∷ [])) ++ (es ++ (ends ++ (Again k ∷ []))) ≡ line_code at n l =
    append_assoc head (Begin k ∷ []) (es ++ (ends ++ (Again k ∷ [])))
    ∙ ap (λ (xs : List Item). head ++ (Begin k ∷ xs))
    (sym (append_assoc es ends (Again k ∷ []))
    ∙ ap (λ (xs : List Item). xs ++ (Again k ∷ [])) (sym (map-append Plain (expr_code at l.expr 0) (end_code (at l.array))))) in
    whole ∙ ap (λ (xs : List Item). a ++ xs) same

-- the lines of a text up to one
abbrev pub first_lines : (ℕ → ℕ) → ℕ → List Line → ℕ → List Item
first_lines at n ls k = flat_map (line_code at n) (take k ls)

pub lines_next : (at : ℕ → ℕ) (n : ℕ) (ls : List Line) (k : ℕ) (l : Line) (b c : List Item) → k < length ls → l ≡ slice_index_or ls k l
    → b ≡ first_lines at n ls k → c ≡ b ++ line_code at n l → c ≡ first_lines at n ls (k + 1)
lines_next at n ls k l b c h is front here =
    let same : first_lines at n ls (k + 1) ≡ first_lines at n ls k ++ line_code at n l =
    ap (flat_map (line_code at n)) (take_more ls k l h) ∙ flat_map-append (line_code at n) (take k ls) (slice_index_or ls k l ∷ [])
    ∙ ap (λ (xs : List Item). first_lines at n ls k ++ xs) (append-nil (line_code at n (slice_index_or ls k l)))
    ∙ ap (λ (x : Line). first_lines at n ls k ++ line_code at n x) (sym is) in
    here ∙ ap (λ (xs : List Item). xs ++ line_code at n l) front ∙ sym same

all_lines : (at : ℕ → ℕ) (n : ℕ) (ls : List Line) → lines_code at n ls ≡ flat_map (line_code at n) ls ++ (Stop ∷ [])
all_lines at n [] = refl
all_lines at n (l ∷ ls) = ap (λ (xs : List Item). line_code at n l ++ xs) (all_lines at n ls)
    ∙ sym (append_assoc (line_code at n l) (flat_map (line_code at n) ls) (Stop ∷ []))

pub text_appended : (at : ℕ → ℕ) (n : ℕ) (ls : List Line) (k : ℕ) (b c : List Item) → length ls ≤ k → b ≡ first_lines at n ls k → c ≡ b ++ (Stop ∷ [])
    → c ≡ lines_code at n ls
text_appended at n ls k b c h front e =
    e ∙ ap (λ (xs : List Item). xs ++ (Stop ∷ [])) (front ∙ ap (flat_map (line_code at n)) (take_all k ls h)) ∙ sym (all_lines at n ls)
