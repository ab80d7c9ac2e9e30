use Rattle.std.proofs.Common.{◌-◌, ◌<◌}
use Rattle.hm_cpu.proofs.Going.{HasLeft}
use Rattle.hm_cpu.specs.Cpus.{IsHandler}
use Rattle.hm_recent.specs.Decodings.{instr_of}
use Rattle.hm_cpu.proofs.running.handler_rest.Given as goal

abbrev pub invariant-loop-k : goal.invariant-loop-k
invariant-loop-k l = record { way : HasLeft (instr_of l.i) (l.left - l._k) l.initial.x l.x; handler : l._k < l.left → IsHandler l.x }
