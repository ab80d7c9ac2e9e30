use Rattle.hm_commands.specs.Effect.{refused_line}
use Rattle.hm_commands.specs.declared.status.Status.TheVariants.{Refused}
use Rattle.helium_shake.proofs.Writing.{says}
use Rattle.helium_shake.proofs.top.say_refused.Goals as goal

pub returns-clause-effect : goal.returns-clause-effect
returns-clause-effect g c = says Refused (refused_line c.args.why) _ _ _ c.refuse.ensures.effect
