use Rattle.std.proofs.Common.{◌≡◌, map, drop}
use Rattle.hm_tokens.specs.Names.{number_of}
use Rattle.hm_tokens.proofs.names.number_of.Given as goal

-- the names that are left decide
abbrev pub invariant-loop-name : goal.invariant-loop-name
invariant-loop-name l = (l.n ≡ l.name-index)
    × (number_of l.n l.word (map (λ name. name.now) (drop l.name-index l.names)) ≡ number_of 0 l.word (map (λ name. name.now) l.names))
