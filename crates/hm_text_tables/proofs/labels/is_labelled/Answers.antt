use Rattle.std.proofs.Common.{map, sym, ◌∙◌}
use Rattle.std.proofs.lemmas.Bool.{false≢true}
use Rattle.hm_tokens.specs.Texts.{text_tokens}
use Rattle.hm_tokens.specs.Tokens.{tok}
use Rattle.hm_text_tables.proofs.Tails.{labelled_no, labelled_yes}
use Rattle.hm_text_tables.proofs.labels.is_labelled.Goals as goal

pub returns-then-is_label : goal.returns-then-is_label
returns-then-is_label c =
    labelled_yes (map tok c.args.tokens.now) (map tok c.in-Some.front.now) (text_tokens c.args.text.now) (tok c.in-Some.last) c.has.result
    c.in-Some.ensures.some (c.is_label.ensures.is.0 c.if-is_label.true) c.has.ensures.same

pub returns-else-is_label : goal.returns-else-is_label
returns-else-is_label c =
    labelled_no (map tok c.args.tokens.now) (map tok c.in-Some.front.now) (text_tokens c.args.text.now) (tok c.in-Some.last) c.in-Some.ensures.some
    (λ l. false≢true (sym c.if-is_label.false ∙ c.is_label.ensures.is.1 l))
