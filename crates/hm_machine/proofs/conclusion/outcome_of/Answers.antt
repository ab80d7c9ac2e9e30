use Rattle.std.proofs.Common.{ℕ, map, refl, ap, sym, ◌∙◌}
use Rattle.hm_cpu.specs.Cpus.{config_of, nested_of}
use Rattle.hm_run_laws.specs.Runs.{stacked_of}
use Rattle.hm_run.specs.declared.Cause.{Cause}
use Rattle.hm_run.specs.Timed.{outcome_of, outcome_of_stop}
use Rattle.hm_state.specs.State.{state_of}
use Rattle.hm_machine.proofs.conclusion.outcome_of.Goals as goal

pub returns-in-Stop : goal.returns-in-Stop
unfolding state_of
returns-in-Stop c =
    let x = c.args.x.now in
    let acts = map stacked_of (nested_of x).acts in
    record {
      value = c.stop_outcome.ensures.value acts (config_of x) (sym c.who_runs.ensures.value) refl
          ∙ ap (λ (pc : ℕ). outcome_of_stop c.args.tick acts (config_of x) pc c.in-Stop.stop) c.pc_of.ensures.value
          ∙ sym (ap (λ (e : Cause). outcome_of c.args.tick acts (config_of x) (record { cause = e; younger = c.args.younger })) c.in-Stop.is);
    }
