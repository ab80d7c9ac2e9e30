use Rattle.std.proofs.Common.{◌≡◌, ◌≤◌, ◌-◌, map, length}
use Rattle.hm_tokens.specs.Tokens.{tok}
use Rattle.hm_tokens.specs.Steps.{tokens_from}
use Rattle.hm_tokens.proofs.Lines.{with_front}
use Rattle.hm_tokens.proofs.line.more_tokens.Given as goal

abbrev pub invariant-loop-rest : goal.invariant-loop-rest
invariant-loop-rest l = record {
  so_far : with_front (map tok l.tokens.items) (tokens_from (40 - length l.tokens.items) l.rest)
      ≡ with_front (map tok l.initial.tokens.items) (tokens_from 39 l.initial.rest);
  within : length l.tokens.items ≤ 40;
}

abbrev pub decreases-loop-rest : goal.decreases-loop-rest
decreases-loop-rest l = 40 - length l.tokens.items
