use Rattle.std.proofs.Common.{◌+◌, map, sum}
use Rattle.hm_base.specs.declared.Span.{Span}
use Rattle.hm_cpu.proofs.trial.+tried.Given as goal

abbrev pub decreases-tried : goal.decreases-tried
decreases-tried l = l.len + sum (map (λ (s : Span). 1 + s.len) l.rest.now)
