use Rattle.std.proofs.Common.{map}
use Rattle.hm_tokens.specs.Tokens.{tok}
use Rattle.hm_tokens.proofs.Found.{line_found, line_only}
use Rattle.hm_tokens.proofs.line.read_tokens.Goals as goal

pub returns-clause-found : goal.returns-clause-found
returns-clause-found c = line_found (λ v. map tok v.items) c.args.text.now c.line_tokens.result c.line_tokens.ensures.read

pub returns-clause-only : goal.returns-clause-only
returns-clause-only c = line_only (λ v. map tok v.items) c.args.text.now c.line_tokens.result c.line_tokens.ensures.read
