use Rattle.std.proofs.Common.{◌≡◌, ◌++◌, map, take}
use Rattle.hm_shake.specs.Kinds.{joined}
use Rattle.hm_shake.proofs.naming.add_joined.Given as goal

-- the words so far
abbrev pub invariant-loop-byte : goal.invariant-loop-byte
invariant-loop-byte l = l.out.items ≡ l.initial.out.items ++ map joined (take l.byte-index l.words)
