use Rattle.std.proofs.Common.{◌+◌, ◌*◌, ◌++◌, List, ap, ◌∙◌, arith}
use Rattle.hm_text_rows.specs.Shapes.{braces}
use Rattle.hm_text16_rows.proofs.Registers.{pop_few}
use Rattle.hm_tokens.specs.Tokens.{Tok}
use Rattle.hm_text16_rows.proofs.rows.pop_text.Goals as goal

pub with_list-requires : goal.with_list-requires
with_list-requires c =
    let none = c.alone.ensures.room in
    record { room = omega (arith, none); few = pop_few c.args.list c.args.x c.requires.0 c.requires.1 }

pub returns : goal.returns
returns c n = c.with_list.ensures ∙ ap (λ (ts : List Tok). ts ++ braces (c.args.list + c.args.x * 32768)) c.alone.ensures.tokens
