-- Names and numbers of arrays.
use Rattle.std.proofs.Common.{◌≡◌, ℕ, zero, suc, ◌+◌, ◌<◌, List, [], ◌∷◌, cond, ltb, length, get_or, Some, None, refl, sym, ap, subst, ◌∙◌, arith}
use Rattle.hm_text_base.proofs.Steps.{and_then_some, test_some, some_is}
use Rattle.hm_text_base.proofs.NumberLaws.{word_found}
use Rattle.hm_text_base.specs.Numbers.{word_in}
use Rattle.std.specs.Prelude.{decimal}
use borrow.Author.Tests.{ltb-true}
use Rattle.hm_kernel_lang.specs.declared.text.Array.{Array}
use Rattle.hm_kernel_lang.specs.declared.text.Expr.{Expr}
use Rattle.hm_kernel_lang.specs.declared.text.Expr.TheVariants.{Name, Number, Apply'}
use Rattle.hm_kernel_lang.specs.Language.{names, need, numbers}
use Rattle.hm_kernel_text.specs.Trees.{leaves, tree_need}
use Rattle.hm_kernel_text.specs.Held.{name_at, expr_written}
use Rattle.hm_kernel_text.specs.Words.{number_below}

pub name_at-is : (arrays : List Array) (i : ℕ) (a : Array) → i < length arrays → a ≡ get_or arrays i a → name_at arrays i ≡ a.name.items
name_at-is [] i a lt is = absurd (omega arith)
name_at-is (b ∷ arrays) zero a lt is = ap (λ (x : Array). x.name.items) (sym is)
name_at-is (b ∷ arrays) (suc i) a lt is = name_at-is arrays i a (omega arith) is

-- the number of a numeral, and its bound
pub number_found : (limit : ℕ) (w : List ℕ) (n : ℕ) → number_below limit w ≡ Some n → (w ≡ decimal n) × (n < limit)
number_found limit w n e =
    let x = and_then_some (word_in w) (λ n. cond (ltb n limit) (Some n) None) n e in
    let t = test_some (ltb x.0 limit) (Some x.0) n x.2 in
    let same = some_is x.0 n t.1 in
    ((word_found w x.0 x.1).0 ∙ ap decimal same, subst (λ k. k < limit) same (ltb-true x.0 limit t.0))

-- ---- expressions and the trees that they are written as

pub leaves-written : (arrays : List Array) (e : Expr) → leaves (expr_written arrays e) ≡ names e + numbers e
leaves-written arrays (Name i) = refl
leaves-written arrays (Number n) = refl
leaves-written arrays (Apply' o p l q r) = omega (arith, leaves-written arrays l, leaves-written arrays r)

pub need-written : (arrays : List Array) (e : Expr) → tree_need (expr_written arrays e) ≡ need e
need-written arrays (Name i) = refl
need-written arrays (Number n) = refl
need-written arrays (Apply' o p l q r) = rw (need-written arrays l, need-written arrays r) refl
