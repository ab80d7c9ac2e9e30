use Rattle.hm_text_rows.specs.Shapes.{braces}
use Rattle.hm_tokens.specs.Texts.{text_tokens}
use Rattle.hm_text32_rows.specs.Mnemonics.{wide_list_mnemonic, wide_list_suffix}
use Rattle.hm_text32_rows.proofs.Lists.{few_same, text_list}
use Rattle.hm_text32_rows.proofs.memory.text_t14.Goals as goal

pub with_list-requires-clause-few : goal.with_list-requires-clause-few
with_list-requires-clause-few c = few_same c.args.i.now c.get-2.result c.get-2.ensures.value

pub returns : goal.returns
returns c =
    let i = c.args.i.now in
    text_list braces (text_tokens c.with_list.result) (text_tokens c.list_start-start.result) (wide_list_mnemonic i.name) (wide_list_suffix i.name)
    c.wide_list_mnemonic-mnemonic.result.now c.wide_list_suffix.result.now
    i.w.value i.n.value c.get.result i.list.value c.get-2.result c.with_list.ensures c.list_start-start.ensures.tokens c.wide_list_mnemonic-mnemonic.ensures
    c.wide_list_suffix.ensures c.get.ensures.value c.get-2.ensures.value
