use Rattle.std.proofs.Common.{◌≢◌}
use Rattle.std.specs.List.{AllWithin}
use Rattle.hm_shake_runs.proofs.found.Tally.place.Given as goal

-- none so far is this kind
abbrev pub invariant-loop-k : goal.invariant-loop-k
invariant-loop-k l = AllWithin (λ x. x.kind ≢ l.kind) l.self.kinds.items 0 l.k
