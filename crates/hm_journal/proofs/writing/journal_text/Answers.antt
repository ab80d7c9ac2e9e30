use Rattle.std.proofs.Common.{◌≤◌, ap, subst, sym, ◌∙◌, Some}
use Rattle.std.proofs.lemmas.Result.{IfOk-weaker}
use Rattle.serde_json.specs.Data.{Data, depth}
use Rattle.serde_json.specs.Read.{max_depth}
use Rattle.serde_json.specs.Written.{compact_text, has_float}
use Rattle.hm_journal.proofs.Texts.{no_float, not_deep, text_is}
use Rattle.hm_journal.specs.Views.{journal_with}
use Rattle.hm_journal.proofs.writing.journal_text.Goals as goal

pub returns-clause-text : goal.returns-clause-text
returns-clause-text c =
    let j = journal_with c.args.format c.args.every c.args.checkpoints.now in
    let is = c.in_ok-value.ensures in
    IfOk-weaker c.to_string.result _ _ (λ s h. h (ap has_float is ∙ no_float j) ∙ ap compact_text is ∙ text_is j) c.to_string.ensures.text

pub returns-clause-reads_back : goal.returns-clause-reads_back
returns-clause-reads_back c =
    let j = journal_with c.args.format c.args.every c.args.checkpoints.now in
    let is = c.in_ok-value.ensures in
    IfOk-weaker c.to_string.result _ _ (λ s h. h (subst (λ (d : Data). depth d ≤ max_depth) (sym is) (not_deep j)) ∙ ap Some is) c.to_string.ensures.reads_back
