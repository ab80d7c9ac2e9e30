use Rattle.std.proofs.Common.{ℕ, List, Bor, length}
use Rattle.hm_tokens.specs.Tokens.{tok}
use Rattle.hm_tokens.specs.declared.token.Token.{Token}
use Rattle.hm_line.proofs.Fronts.{shorter_next}
use Rattle.hm_line.proofs.tokens.next_token.Goals as goal

pub returns-clause-shorter : goal.returns-clause-shorter
returns-clause-shorter c = shorter_next (λ (x : Token × Bor (List ℕ)). tok x.0) (λ (x : Token × Bor (List ℕ)). x.1.now) c.token_at.result c.skip.result.now
    (length c.args.text.now) c.token_at.ensures.read c.skip.ensures.shorter
