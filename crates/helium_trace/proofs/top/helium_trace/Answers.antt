use Rattle.std.proofs.Common.{Option, ap, sym, subst, option_map, ◌∙◌}
use Rattle.hm_commands.proofs.Carrying.{usage_said}
use Rattle.helium_trace.specs.Effects.{Traces, usage_line}
use Rattle.helium_trace.specs.Words.{Asked, meant}
use Rattle.helium_trace.proofs.top.helium_trace.Goals as goal

pub returns-in-None : goal.returns-in-None
returns-in-None g c = record {
  effect = λ listings are.
      let nothing = ap (option_map meant) (sym c.in-None.is) ∙ c.parse.ensures.value in
      let old = g.H.Host.state c.args.host.now in
      let new = g.H.Host.state c.say_usage.new.host in
      subst (λ (a : Option Asked). Traces listings a old new c.say_usage.result) nothing
      (usage_said usage_line old new c.say_usage.result c.say_usage.ensures.effect c.say_usage.ensures.calls);
}
