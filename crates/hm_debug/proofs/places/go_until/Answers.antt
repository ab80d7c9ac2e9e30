use Rattle.std.proofs.Common.{◌≡◌, ℕ, ap, ◌∙◌, subst, Option}
use Rattle.std.specs.Prelude.{IfOk}
use Rattle.hm_debug.specs.Answers.{Gives, at_end, found_or_end}
use Rattle.hm_machine.specs.Taped.{Taped}
use Rattle.hm_debug.proofs.places.go_until.Goals as goal

pub returns-in-Some-clause-gives : goal.returns-in-Some-clause-gives
returns-in-Some-clause-gives c f film =
    subst (λ (o : Option ℕ). IfOk c.tell_tick.result (λ tick. Gives (found_or_end c.args.tape.now.last o) c.args.out.now.items c.tell_tick.new.out.items tick))
    (c.in-Some.ensures.next f film) c.tell_tick.ensures.gives

pub returns-in-None-clause-gives : goal.returns-in-None-clause-gives
returns-in-None-clause-gives c f film =
    let last : c.last.result ≡ c.args.tape.now.last = c.last.ensures.value ∙ ap (λ (w : Taped). w.last) c.next_reaching.ensures.stays in
    let at_last = subst (λ (n : ℕ). IfOk c.tell_end.result (λ tick. Gives (at_end n) c.args.out.now.items c.tell_end.new.out.items tick)) last
    c.tell_end.ensures.gives in
    subst (λ (o : Option ℕ). IfOk c.tell_end.result (λ tick. Gives (found_or_end c.args.tape.now.last o) c.args.out.now.items c.tell_end.new.out.items tick))
    (c.in-None.ensures.next f film) at_last
