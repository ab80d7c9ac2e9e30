use Rattle.std.proofs.Common.{◌≡◌, ap, rules, ◌∙◌}
use Rattle.std.specs.Prelude.{slice_index_or}
use Rattle.hm_kernel_lang.specs.declared.text.Array.{Array}
use Rattle.hm_kernel_lang.specs.declared.text.Expr.{Expr}
use Rattle.hm_kernel_lang.specs.Code.{expr_code}
use Rattle.hm_kernel_lang.specs.Language.{address}
use Rattle.hm_kernel_lang.proofs.Texts.{address_at}
use Rattle.hm_kernel_code.proofs.Appending.{applied, named}
use Rattle.hm_kernel_code.proofs.expressions.+add_expression.Goals as goal

pub returns-in-Name : goal.returns-in-Name
returns-in-Name t c =
    let xs = c.args.text.now.arrays.items in
    let a = c.index.result.now in
    let is : slice_index_or xs c.in-Name.i a ≡ a = search rules in
    record {
      items = named xs c.args.e.now c.args.q c.in-Name.i a.addr c.args.out.now.items c.add_name.new.out.items c.add_name.result c.in-Name.is
          (address_at xs c.in-Name.i a (search rules) ∙ ap (λ (x : Array). x.addr) is) c.add_name.ensures.items;
    }

pub returns-in_ok-push-in-Apply : goal.returns-in_ok-push-in-Apply
returns-in_ok-push-in-Apply t c =
    let at = address c.args.text.now.arrays.items in
    record {
      items = applied at c.args.e.now c.in-Apply.left.value c.in-Apply.right.value c.deref.result.now c.deref-in-Apply.result.now c.in-Apply.op
          c.args.q c.args.out.now.items c.add_expression.new.out.items c.add_expression-in-Apply.new.out.items c.push.new.self.items
          (ap (λ (e : Expr). expr_code at e c.args.q) c.in-Apply.is) (search rules) (search rules)
          c.in_ok-add_expression-in-Apply.ensures.items c.in_ok-add_expression-in-Apply-2.ensures.items c.in_ok-push-in-Apply.ensures.items;
    }
