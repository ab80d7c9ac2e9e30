use Rattle.std.proofs.Common.{◌≡◌, ap, ◌∙◌, sym, None}
use Rattle.std.proofs.lemmas.List.{nil_from_length}
use Rattle.hm_machine.proofs.Bares.{has_ticks}
use Rattle.hm_machine.specs.Shown.{Shown}
use Rattle.hm_sched.specs.Schedule.{Sched}
use Rattle.hm_machine.proofs.Ticks.{shows_on, shows_still}
use Rattle.hm_machine.proofs.machine.Machine.tick_with.Goals as goal

pub returns-clause-shows : goal.returns-clause-shows
returns-clause-shows g c image s t h =
    let running : c.args.self.now.outcome ≡ None = ap (λ (v : Shown). v.outcome) (sym c.self.view_is) ∙ c.in_default.is in
    shows_on image s t _ _ h running c.advance.ensures.flash c.advance.ensures.plan c.advance.ensures.left c.advance.ensures.next c.advance.ensures.entries

-- a machine under a schedule without lines that goes on shows no run of a schedule
pub returns-then-lines-eq0-clause-shows : goal.returns-then-lines-eq0-clause-shows
returns-then-lines-eq0-clause-shows g c image s t h =
    let running : c.args.self.now.outcome ≡ None = ap (λ (v : Shown). v.outcome) (sym c.self.view_is) ∙ c.in_default.is in
    absurd (has_ticks image s t c.args.self.now h running
    (ap (λ (u : Sched). u.lines) (sym h.plan) ∙ ap (λ (v : Shown). v.schedule.lines) (sym c.self.view_is)
    ∙ nil_from_length c.self.inside.schedule.lines (sym c.lines.ensures.count ∙ c.if-lines-eq0.true)))

-- a machine that has ended
pub returns-in-Some-clause-shows : goal.returns-in-Some-clause-shows
returns-in-Some-clause-shows g c image s t h = shows_still image s t _ _ h (ap (λ (v : Shown). v.outcome) (sym c.self.view_is) ∙ c.in-Some.is)
