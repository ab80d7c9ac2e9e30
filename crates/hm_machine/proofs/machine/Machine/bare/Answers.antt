use Rattle.std.proofs.Common.{sym, subst, []}
use Rattle.hm_machine.proofs.Bares.{first_entered, first_given, first_none}
use Rattle.hm_machine.specs.Bares.{IsBare, ShowsGiven}
use Rattle.hm_machine.specs.Shown.{Shows}
use Rattle.hm_sched.specs.Schedule.{Sched}
use Rattle.hm_machine.proofs.machine.Machine.bare.Goals as goal

pub reopen-requires : goal.reopen-requires
reopen-requires c =
    (c.args.image.now, subst (λ (s : Sched). Shows c.args.image.now s 0 c.in_ok-machine.machine) c.begin-schedule.ensures.made c.in_ok-machine.ensures.shows)

pub returns-clause-bare : goal.returns-clause-bare
returns-clause-bare c =
    let image = c.args.image.now in
    let made = c.begin-schedule.ensures.made in
    let shows = subst (λ (s : Sched). Shows image s 0 c.in_ok-machine.machine) made c.in_ok-machine.ensures.shows in
    let is = c.reopen.ensures.value in
    let given = first_given image c.in_ok-machine.machine shows c.reopen.new.self is in
    subst IsBare (sym is) (record {
      plan = shows.plan;
      acts = first_none image c.in_ok-machine.machine shows;
      none = first_entered image c.in_ok-machine.machine shows;
      made = (image, [], subst (ShowsGiven image []) is given);
    })

pub returns-clause-shows : goal.returns-clause-shows
returns-clause-shows c =
    let image = c.args.image.now in
    first_given image c.in_ok-machine.machine
    (subst (λ (s : Sched). Shows image s 0 c.in_ok-machine.machine) c.begin-schedule.ensures.made c.in_ok-machine.ensures.shows) c.reopen.new.self
    c.reopen.ensures.value
