use Rattle.std.proofs.Common.{ap, sym, ◌∙◌}
use Rattle.hm_cpu.specs.Cpus.{config_of, nested_of, step_ended}
use Rattle.hm_cpu.specs.declared.step_ends.StepEnd.{StepEnd}
use Rattle.hm_run_laws.specs.Nested.{Ended}
use Rattle.hm_run_laws.specs.Runs.{stops}
use Rattle.hm_machine.proofs.conclusion.conclude_step.Goals as goal

pub returns-in-Stopped-clause-ended : goal.returns-in-Stopped-clause-ended
returns-in-Stopped-clause-ended c es =
    let x = c.args.x.now in
    c.stopped.ensures.ended c.args.step es
    ∙ sym (ap (λ (h : StepEnd). stops c.args.tick c.args.step c.args.younger (Ended (step_ended h (config_of x)) (nested_of x).acts) es) c.in-Stopped.is)
