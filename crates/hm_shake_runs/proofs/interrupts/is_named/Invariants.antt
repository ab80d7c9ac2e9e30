use Rattle.std.proofs.Common.{◌≡◌, drop}
use Rattle.hm_shake_runs.specs.Heads.{is_named}
use Rattle.hm_shake_runs.proofs.interrupts.is_named.Given as goal

-- no line so far names it
abbrev pub invariant-loop-k : goal.invariant-loop-k
invariant-loop-k l = is_named (drop l.k l.s.lines) l.n ≡ is_named l.s.lines l.n
