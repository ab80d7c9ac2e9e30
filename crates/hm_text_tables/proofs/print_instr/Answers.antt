use Rattle.std.proofs.Common.{ap, sym, ◌∙◌}
use Rattle.hm_isa.specs.declared.widths.ByWidth.{ByWidth}
use Rattle.hm_text_tables.specs.Tables.{printed_by}
use Rattle.hm_text_tables.proofs.Printing.{narrow_printed, no_labels, vector_printed, wide_printed, width_is}
use Rattle.hm_text_tables.proofs.print_instr.Goals as goal

pub returns-in-Narrow : goal.returns-in-Narrow
returns-in-Narrow c =
    let is = c.in-Narrow.ensures.value in
    let read = narrow_printed c.args.i.now c.in-Narrow.row c.args.pc c.print_narrow.result.bytes (sym is) c.print_narrow.ensures.text in
    record {
      text = c.print_narrow.ensures.text ∙ ap (λ (w : ByWidth). printed_by w c.args.pc) is;
      read = read;
      width = width_is c.print_narrow.result.bytes c.args.pc no_labels c.args.i.now (read no_labels);
    }

pub returns-in-Wide : goal.returns-in-Wide
returns-in-Wide c =
    let is = c.in-Wide.ensures.value in
    let read = wide_printed c.args.i.now c.in-Wide.row c.args.pc c.print_wide.result.bytes (sym is) c.print_wide.ensures.text in
    record {
      text = c.print_wide.ensures.text ∙ ap (λ (w : ByWidth). printed_by w c.args.pc) is;
      read = read;
      width = width_is c.print_wide.result.bytes c.args.pc no_labels c.args.i.now (read no_labels);
    }

pub returns-in-Vector : goal.returns-in-Vector
returns-in-Vector c =
    let is = c.in-Vector.ensures.value in
    let read = vector_printed c.args.i.now c.in-Vector.row c.args.pc c.print_v.result.bytes (sym is) c.print_v.ensures.text c.print_v.ensures.read in
    record {
      text = c.print_v.ensures.text ∙ ap (λ (w : ByWidth). printed_by w c.args.pc) is;
      read = read;
      width = width_is c.print_v.result.bytes c.args.pc no_labels c.args.i.now (read no_labels);
    }
