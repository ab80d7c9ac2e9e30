use Rattle.std.proofs.Common.{ap, sym}
use Rattle.hm_cpu.specs.Cpus.{config_of}
use Rattle.hm_exc.specs.declared.types.EnterErr.{EnterErr}
use Rattle.hm_run_laws.specs.Entries.{refused}
use Rattle.hm_state.specs.State.{state_of}
use Rattle.hm_machine.proofs.entry.refused.Goals as goal

pub returns-in-Vector : goal.returns-in-Vector
unfolding state_of
returns-in-Vector c = record { value = sym (ap (λ (w : EnterErr). refused c.args.tick (config_of c.args.x.now) w) c.in-Vector.is) }
