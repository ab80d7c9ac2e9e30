use Rattle.std.proofs.Common.{ℕ, ◌-◌, ap, sym, ◌∙◌, subst, Bool}
use Rattle.hm_debug.proofs.Going.{next_found, next_none, next_on}
use Rattle.hm_debug.specs.Answers.{next_at, reaches}
use Rattle.hm_debug.specs.Films.{IsFilm}
use Rattle.hm_machine.specs.Taped.{Taped}
use Rattle.hm_debug.proofs.places.next_reaching.Goals as goal

pub loop-tick-preserved : goal.loop-tick-preserved
loop-tick-preserved c = record {
  stays = c.reaches_at.ensures.stays ∙ c.loop-tick.invariant.stays;
  next = λ f film.
      let here = subst (λ (w : Taped). IsFilm f w) (sym c.loop-tick.invariant.stays) film in
      c.loop-tick.invariant.next f film
      ∙ next_on (λ u. reaches c.args.addr (f.at u)) c.last-last.result c.loop-tick.tick c.loop-tick-test.true
      (sym (c.reaches_at.ensures.value f here) ∙ c.if-reaches_at.false);
}

pub returns-then-reaches_at-clause-next : goal.returns-then-reaches_at-clause-next
returns-then-reaches_at-clause-next c f film =
    let p : ℕ → Bool = λ u. reaches c.args.addr (f.at u) in
    let here = subst (λ (w : Taped). IsFilm f w) (sym c.loop-tick.invariant.stays) film in
    sym (
    ap (λ (n : ℕ). next_at p c.args.place (n - c.args.place)) (sym c.last-last.ensures.value)
    ∙ c.loop-tick.invariant.next f film
    ∙ next_found p c.last-last.result c.loop-tick.tick c.loop-tick-test.true (sym (c.reaches_at.ensures.value f here) ∙ c.if-reaches_at.true)
    )

pub returns-clause-next : goal.returns-clause-next
returns-clause-next c f film =
    let p : ℕ → Bool = λ u. reaches c.args.addr (f.at u) in
    sym (
    ap (λ (n : ℕ). next_at p c.args.place (n - c.args.place)) (sym c.last-last.ensures.value)
    ∙ c.loop-tick.invariant.next f film
    ∙ next_none p c.last-last.result c.loop-tick.tick c.loop-tick-test.false
    )
