use Rattle.std.proofs.Common.{map}
use Rattle.hm_tokens.specs.Texts.{text_tokens}
use Rattle.hm_tokens.specs.Tokens.{tok}
use Rattle.hm_text_tables.proofs.Tails.{plain_has}
use Rattle.hm_text_tables.proofs.labels.has_text.Goals as goal

pub returns-else-has_label : goal.returns-else-has_label
returns-else-has_label c = record {
  is = plain_has c.args.has_label (map tok c.args.tokens.now) (text_tokens c.args.text.now) c.has.result c.if-has_label.false c.has.ensures.same;
}
