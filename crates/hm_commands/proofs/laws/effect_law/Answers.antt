use Rattle.hm_commands.proofs.OneEffect.{alike_effects, one_effect}
use Rattle.hm_commands.proofs.SomeEffect.{some_effect}
use Rattle.hm_commands.proofs.laws.effect_law.Goals as goal

pub returns-clause-one : goal.returns-clause-one
returns-clause-one c = one_effect

pub returns-clause-alike : goal.returns-clause-alike
returns-clause-alike c = alike_effects

pub returns-clause-some : goal.returns-clause-some
returns-clause-some c = some_effect
