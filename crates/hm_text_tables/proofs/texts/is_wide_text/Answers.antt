use Rattle.std.proofs.Common.{map}
use Rattle.hm_tokens.specs.Texts.{text_tokens}
use Rattle.hm_tokens.specs.Tokens.{tok}
use Rattle.hm_text_tables.proofs.Tails.{printed_else}
use Rattle.hm_text_tables.proofs.texts.is_wide_text.Goals as goal

pub returns-else-printed : goal.returns-else-printed
returns-else-printed c =
    printed_else c.args.row.now (map tok c.args.tokens.now) (text_tokens c.row_text.result) c.has_label.result c.has_text-printed.result c.is_other-other.result
    c.has_label.ensures.value c.row_text.ensures.tokens c.has_text-printed.ensures.is c.if-printed.false c.is_other-other.ensures
