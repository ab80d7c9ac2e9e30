use Rattle.std.proofs.Common.{rules}
use Rattle.hm_kernel_lang.specs.Language.{address}
use Rattle.hm_kernel_code.proofs.Appending.{lines_next, text_appended}
use Rattle.hm_kernel_code.proofs.lines.code_of.Goals as goal

pub loop-line-preserved : goal.loop-line-preserved
loop-line-preserved c =
    let x = c.args.text.now in
    lines_next (address x.arrays.items) x.count x.lines.items c.loop-line.line-index c.line-item.result c.loop-line.out.items c.add_line.new.out.items
    (search rules) (search rules) c.loop-line.invariant (search rules)

pub returns : goal.returns
returns c =
    let x = c.args.text.now in
    record {
      items = text_appended (address x.arrays.items) x.count x.lines.items c.loop-line.line-index c.loop-line.out.items c.push.new.self.items
          (search rules) c.loop-line.invariant c.in_ok-push.ensures.items;
    }
