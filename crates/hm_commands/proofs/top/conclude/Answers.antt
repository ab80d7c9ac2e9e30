use Rattle.std.proofs.Common.{◌≡◌, Some, inl, subst}
use Rattle.hm_commands.specs.declared.status.Status.TheVariants.{Refused}
use Rattle.hm_work.specs.Work.{finish_of, refuses}
use Rattle.hm_commands.specs.Calls.{MakesCalls, way_of}
use Rattle.hm_commands.specs.Effect.{Carries, StaysOrMakesAll, calls_for, effect_for, refused_line}
use Rattle.hm_commands.proofs.Carrying.{stays_spent}
use Rattle.hm_commands.proofs.top.conclude.Goals as goal

pub returns-in-Err-Refused : goal.returns-in-Err-Refused
returns-in-Err-Refused g c = record {
  effect = λ o gives.
      let h : refuses c.in-Err-Refused.why ≡ o = rw (c.in-Err-Refused.is, rw c.in-Err-Refused.is at c.in-Err-Refused.field-0-is) at gives in
      subst (λ o'. Carries (effect_for o') (g.H.Host.state c.args.host.now) (g.H.Host.state c.refuse.new.host) c.refuse.result) h c.refuse.ensures.effect;
  calls = λ o gives.
      let h : refuses c.in-Err-Refused.why ≡ o = rw (c.in-Err-Refused.is, rw c.in-Err-Refused.is at c.in-Err-Refused.field-0-is) at gives in
      subst (λ o'. MakesCalls (calls_for (effect_for o')) (g.H.Host.state c.args.host.now).calls (g.H.Host.state c.refuse.new.host).calls
      (way_of c.refuse.result)) h c.refuse.ensures.calls;
  spent = λ o gives is. inl (stays_spent Refused (Some (refused_line c.in-Err-Refused.why)) (g.H.Host.state c.args.host.now) (g.H.Host.state c.refuse.new.host)
      c.refuse.result c.refuse.ensures.effect is);
  wanted = λ is. (let no = rw (c.in-Err-Refused.is, rw c.in-Err-Refused.is at c.in-Err-Refused.field-0-is) at is in absurd cc);
}

pub returns-after-finish-clause-spent : goal.returns-after-finish-clause-spent
returns-after-finish-clause-spent g c = λ o gives wanted.
    let h : finish_of c.in-Ok.finish ≡ o = rw c.in-Ok.is at gives in
    subst (λ o'. StaysOrMakesAll (calls_for (effect_for o')) (g.H.Host.state c.args.host.now) (g.H.Host.state c.carry_out.new.host)) h
    (c.carry_out.ensures.spent wanted)
