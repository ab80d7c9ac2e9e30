use Rattle.std.proofs.Common.{ap, ◌∙◌, Result, Err}
use Rattle.hm_cpu.specs.Cpus.{config_of, step_ended}
use Rattle.hm_mem.specs.Memory.{memory_of}
use Rattle.hm_order.specs.Machine.{End, did}
use Rattle.hm_run.specs.Program.{core}
use Rattle.hm_run.specs.declared.Cause.{Cause}
use Rattle.hm_state.specs.State.{State, state_of}
use Rattle.hm_window.specs.declared.rule.Rule.{Rule}
use Rattle.hm_cpu.proofs.younger.younger_beat.Goals as goal

-- a beat that stops changes nothing
pub returns-in-Err-clause-value : goal.returns-in-Err-clause-value
returns-in-Err-clause-value c listing =
    let x = c.args.x.now in
    let m = memory_of x.mem in
    let still = c.in-Err.ensures.stopped in
    (λ j. Err (step_ended c.end_of.result
    (record { a = x.window.a; b = x.window.b; n = x.retired; steps = x.older_steps; state = state_of (still.0 j) (still.1 j) x.output.items })))
    ∙ ap (λ (e : End State Cause Rule). Err e) (c.end_of.ensures.value listing m (config_of x))
    ∙ ap (λ (r : Result State Cause). did (core listing m.around) (config_of x) r) (c.in-Err.ensures.value x.output.items)
