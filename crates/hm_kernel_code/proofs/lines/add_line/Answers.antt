use Rattle.std.proofs.Common.{◌≡◌, ap, rules, ◌∙◌}
use Rattle.std.specs.Prelude.{slice_index_or}
use Rattle.hm_kernel_lang.specs.declared.text.Array.{Array}
use Rattle.hm_kernel_lang.specs.Language.{address}
use Rattle.hm_kernel_lang.proofs.Texts.{address_at}
use Rattle.hm_kernel_code.proofs.Appending.{line_appended}
use Rattle.hm_kernel_code.proofs.lines.add_line.Goals as goal

pub returns : goal.returns
returns c =
    let x = c.args.text.now in
    let xs = x.arrays.items in
    let at = address xs in
    let l = c.args.line.now in
    let a = c.index.result.now in
    let is : slice_index_or xs l.array a ≡ a = search rules in
    record {
      items = line_appended at x.count c.loop_halves-halves.result a.addr l c.args.out.now.items c.add_begin.new.out.items c.add_expression.new.out.items
          c.add_end.new.out.items c.add_end.result (c.loop_halves-halves.ensures.value at (at l.array))
          (address_at xs l.array a c.requires.set.target ∙ ap (λ (y : Array). y.addr) is)
          c.in_ok-add_begin.ensures.items c.in_ok-add_expression.ensures.items c.add_end.ensures.items;
    }
