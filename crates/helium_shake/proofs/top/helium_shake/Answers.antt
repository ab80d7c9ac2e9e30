use Rattle.std.proofs.Common.{Option, ap, option_map, subst, sym, ◌∙◌}
use Rattle.hm_commands.specs.declared.status.Status.TheVariants.{Usage}
use Rattle.helium_shake.proofs.Shaking.{usage_said}
use Rattle.helium_shake.proofs.Writing.{says}
use Rattle.helium_shake.specs.Effects.{Shakes, usage_line}
use Rattle.helium_shake.specs.Words.{Asked, meant}
use Rattle.helium_shake.proofs.top.helium_shake.Goals as goal

pub returns-in-None : goal.returns-in-None
returns-in-None g c = record {
  effect = λ listings are.
      let nothing = ap (option_map meant) (sym c.in-None.is) ∙ c.parse.ensures.value in
      let old = g.H.Host.state c.args.host.now in
      let new = g.H.Host.state c.say_usage.new.host in
      subst (λ (a : Option Asked). Shakes listings a old new c.say_usage.result) nothing
      (usage_said listings old new c.say_usage.result (says Usage usage_line old new c.say_usage.result c.say_usage.ensures.effect) c.say_usage.ensures.calls);
}
