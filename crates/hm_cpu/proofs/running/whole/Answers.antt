use Rattle.std.proofs.Common.{Result, Err, ap, sym, ◌∙◌}
use Rattle.hm_base.specs.declared.Fault.{Fault}
use Rattle.hm_run_laws.specs.Nested.{steps}
use Rattle.hm_isa.specs.declared.Instr.{Instr}
use Rattle.hm_cpu.proofs.OneStep.{one_step}
use Rattle.hm_recent.proofs.Rows.{listed_here}
use Rattle.hm_cpu.specs.Cpus.{nested_of}
use Rattle.hm_run.specs.Program.{steps_left, vector_of}
use Rattle.hm_state.specs.State.{state_of}
use Rattle.hm_recent.proofs.Known.{kept_stands}
use Rattle.hm_mem.specs.Memory.{memory_of, flash_at}
use Rattle.hm_cpu.proofs.running.whole.Goals as goal

pub returns-in-Err-clause-value : goal.returns-in-Err-clause-value
unfolding state_of
returns-in-Err-clause-value c listing s is sound =
    let x = c.args.x.now in
    let here = listed_here listing (flash_at (memory_of x.mem)) x.regs.pc (Err c.in-Err.fault) is c.in-Err.ensures.fault in
    c.none_stands.ensures.value listing s is sound ∙ one_step listing s (nested_of x)
    ∙ sym (ap (λ (r : Result Instr Fault). steps listing s (steps_left (vector_of r) x.window.a) (nested_of x)) here)

pub rest_of-requires-clause-stands : goal.rest_of-requires-clause-stands
rest_of-requires-clause-stands c =
    kept_stands c.keep.new.recent (flash_at (memory_of c.args.x.now.mem)) c.args.x.now.regs.pc c.kept.result.now c.in_default.ensures.kept c.kept.ensures.value
