use Rattle.std.proofs.Common.{◌≤◌, List, length, ap, subst, sym, ◌∙◌}
use Rattle.hm_tokens.specs.Lines.{printed}
use Rattle.hm_tokens.specs.Tokens.{Tok}
use Rattle.hm_textv.proofs.Laws.{printed_read, printed_room}
use Rattle.hm_textv.proofs.print_v.Goals as goal

pub print-requires : goal.print-requires
print-requires c = subst (λ (ts : List Tok). length (printed ts) ≤ 96) (sym c.row_text.ensures.tokens) (printed_room c.args.v.now)

pub returns-clause-read : goal.returns-clause-read
returns-clause-read c = printed_read c.args.v.now _ (c.print.ensures.bytes ∙ ap printed c.row_text.ensures.tokens)
