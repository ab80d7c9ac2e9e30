use Rattle.std.proofs.Common.{◌≡◌, Some, rules}
use Rattle.hm_tokens.specs.Tokens.{skip, token_at, minus_mark}
use Rattle.hm_source.proofs.Items.{minus_first}
use Rattle.hm_source.proofs.values.item_at.Goals as goal

pub returns-in_err-number-in-Mark-Minus-clause-only : goal.returns-in_err-number-in-Mark-Minus-clause-only
returns-in_err-number-in-Mark-Minus-clause-only c d rest all ends =
    let e : token_at (skip c.args.text.now) ≡ Some (minus_mark, c.in_ok-token.behind.now) = search rules in
    let m = minus_first c.args.text.now c.in_ok-token.behind.now rest d e all in
    absurd (c.in_err-number-in-Mark-Minus.ensures.only m.0 rest m.2)
