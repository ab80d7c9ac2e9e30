use Rattle.std.proofs.Common.{◌≡◌, ◌≤◌, drop}
use Rattle.hm_tokens.specs.Tokens.{value}
use Rattle.hm_tokens.proofs.token.value.Given as goal

abbrev pub invariant-loop-c : goal.invariant-loop-c
invariant-loop-c l = (l.n ≤ 0x1_0000_0000) × (value l.base l.n (drop l.c-index l.digits) ≡ value l.base 0 l.digits)
