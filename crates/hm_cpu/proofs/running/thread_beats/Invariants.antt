use Rattle.std.proofs.Common.{◌-◌}
use Rattle.hm_exec.specs.Families.{row_of}
use Rattle.hm_cpu.proofs.Going.{HasLeft}
use Rattle.hm_cpu.specs.Cpus.{IsThread}
use Rattle.hm_isa.specs.declared.Instr.TheVariants as instr
use Rattle.hm_cpu.proofs.running.thread_beats.Given as goal

abbrev pub invariant-loop-k : goal.invariant-loop-k
invariant-loop-k l = record { way : HasLeft (instr.Vector (row_of l.v)) (4 - l._k) l.initial.x l.x; thread : IsThread l.x }
