use Rattle.std.proofs.Common.{◌++◌, List, ap, sym, ◌∙◌}
use Rattle.hm_text16_rows.specs.Rows.{list_tokens}
use Rattle.hm_text_rows.specs.Shapes.{braces}
use Rattle.hm_tokens.specs.Tokens.{Tok}
use Rattle.hm_text16_rows.proofs.Registers.{low_few}
use Rattle.hm_text16_rows.proofs.rows.text_s20.Goals as goal

pub with_list-requires-clause-few : goal.with_list-requires-clause-few
with_list-requires-clause-few c = low_few c.get-list.result c.get-list.ensures.in_range

pub with_list-requires-in-Ldm-clause-few : goal.with_list-requires-in-Ldm-clause-few
with_list-requires-in-Ldm-clause-few c = low_few c.get-list.result c.get-list.ensures.in_range

pub returns-in-Push : goal.returns-in-Push
returns-in-Push c =
    let i = c.args.i.now in
    c.push_text.ensures i.n.value ∙ (λ j. list_tokens (sym c.in-Push.is j) (c.get.ensures.value j) i.n.value (c.get-list.ensures.value j))

pub returns-in-Pop : goal.returns-in-Pop
returns-in-Pop c =
    let i = c.args.i.now in
    c.pop_text.ensures i.n.value ∙ (λ j. list_tokens (sym c.in-Pop.is j) (c.get-in-Pop.ensures.value j) i.n.value (c.get-list.ensures.value j))

pub returns-in-Stm : goal.returns-in-Stm
returns-in-Stm c =
    let i = c.args.i.now in
    c.with_list.ensures ∙ ap (λ (ts : List Tok). ts ++ braces c.get-list.result) c.store_start.ensures.tokens
    ∙ (λ j. list_tokens (sym c.in-Stm.is j) i.x.value (c.get-in-Stm.ensures.value j) (c.get-list.ensures.value j))

pub returns-in-Ldm : goal.returns-in-Ldm
returns-in-Ldm c =
    let i = c.args.i.now in
    c.with_list-in-Ldm.ensures ∙ (λ j. c.load_start.ensures.tokens j ++ braces (c.get-list.ensures.value j))
    ∙ (λ j. list_tokens (sym c.in-Ldm.is j) i.x.value i.n.value i.list.value)
