use Rattle.std.proofs.Common.{◌≡◌, ◌≤◌, ◌+◌, List, length, ap, sym, subst, ◌∙◌, arith}
use Rattle.hm_kernel_lang.specs.declared.text.Array.{Array}
use Rattle.hm_kernel_lang.specs.Texts.{IsOver}
use borrow.Author.Tests.{leb-true}
use Rattle.hm_kernel_lang.specs.Language.{names, numbers, need}
use Rattle.hm_kernel_text.specs.Trees.{leaves, tree_need}
use Rattle.hm_kernel_text.specs.Held.{tree_of}
use Rattle.hm_kernel_text.proofs.NameSteps.{leaves-written, need-written}
use Rattle.hm_kernel_text.proofs.lines.new_set.Goals as goal

pub returns-clause-set : goal.returns-clause-set
returns-clause-set c =
    let e = c.in_ok-expr.expr in
    let is = c.in_ok-expr.ensures.expr in
    let leaves-is : leaves (tree_of c.args.tree.now) ≡ names e + numbers e = sym (ap leaves is) ∙ leaves-written c.deref-3.result.now e in
    let need-is : tree_need (tree_of c.args.tree.now) ≡ need e = sym (ap tree_need is) ∙ need-written c.deref-3.result.now e in
    let shallow : tree_need (tree_of c.args.tree.now) ≤ 8 = leb-true _ _ (sym c.needs_at_most.ensures.value ∙ c.if-not-needs_at_most.false) in
    record {
      target = omega (arith, ap (λ (xs : List Array). length xs) c.deref.ensures.value, c.in-Some.ensures.within);
      over = subst (λ (xs : List Array). IsOver c.args.x.now.element (length xs) e) c.deref-3.ensures.value c.in_ok-expr.ensures.over;
      few = omega (arith, leaves-is, c.requires.short);
      shallow = omega (arith, need-is, shallow);
    }
