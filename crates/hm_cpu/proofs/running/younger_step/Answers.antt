use Rattle.std.proofs.Common.{Ok, Err}
use Rattle.hm_cpu.proofs.Keeping.{keeps_moves}
use Rattle.hm_cpu.proofs.Nestings.{sound_under, step_stays, younger_steps}
use Rattle.hm_order.specs.InFlight.{Younger}
use Rattle.hm_cpu.proofs.running.younger_step.Goals as goal

pub returns-clause-value : goal.returns-clause-value
returns-clause-value c listing s is sound =
    let x = c.args.x.now in
    let did = c.in_default.ensures in
    younger_steps listing s x (sound_under s x sound) c.younger.new.x (Ok tt) did.kept.acts did.count (did.value listing is)

pub returns-in-Err-clause-value : goal.returns-in-Err-clause-value
returns-in-Err-clause-value c listing s is sound =
    let x = c.args.x.now in
    let did = c.in-Err.ensures in
    younger_steps listing s x (sound_under s x sound) c.younger.new.x (Err c.in-Err.end) did.kept.acts did.count (did.value listing is)

pub returns-clause-sound : goal.returns-clause-sound
returns-clause-sound c s sound =
    step_stays s Younger c.args.x.now c.younger.new.x (Ok tt) (λ listing s is h. returns-clause-value c listing s is h) sound

pub returns-clause-moves : goal.returns-clause-moves
returns-clause-moves c = keeps_moves c.in_default.ensures.kept

pub returns-in-Err-clause-moves : goal.returns-in-Err-clause-moves
returns-in-Err-clause-moves c = keeps_moves c.in-Err.ensures.kept
