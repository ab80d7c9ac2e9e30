use Rattle.std.proofs.Common.{◌≡◌, length}
use Rattle.hm_tokens.specs.Names.{are_name_bytes}
use Rattle.hm_tokens.proofs.names.are_name_bytes.Given as goal

-- what is left decides
abbrev pub invariant-loop-rest : goal.invariant-loop-rest
invariant-loop-rest l = are_name_bytes l.bytes ≡ are_name_bytes l.rest

abbrev pub decreases-loop-rest : goal.decreases-loop-rest
decreases-loop-rest l = length l.rest
