use Rattle.std.proofs.Common.{◌∙◌}
use Rattle.hm_text_rows.specs.Labels.{printed_with}
use Rattle.hm_tokens.specs.Texts.{text_tokens}
use Rattle.hm_text32_rows.specs.Rows.{row_tokens}
use Rattle.hm_text32_rows.specs.Targets.{target}
use Rattle.hm_text_tables.proofs.Rows.{wide_room}
use Rattle.hm_text_tables.proofs.Tails.{room_as}
use Rattle.hm_text_tables.proofs.texts.print_wide.Goals as goal

pub print_with-requires : goal.print_with-requires
print_with-requires c =
    let r = c.args.row.now in
    record {
      room =
          room_as (text_tokens c.row_text.result) (row_tokens r) c.target.result (target r c.args.pc) c.row_text.ensures.tokens c.target.ensures.value
          (wide_room r c.args.pc);
    }

pub returns : goal.returns
returns c = record { text = c.print_with.ensures.text ∙ (λ j. printed_with (c.row_text.ensures.tokens j) (c.target.ensures.value j)) }
