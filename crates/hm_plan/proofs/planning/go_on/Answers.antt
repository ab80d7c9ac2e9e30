use Rattle.std.proofs.Common.{◌-◌, ◌<◌, refl, sym, ◌∙◌, ap, subst, []}
use Rattle.hm_codes.specs.Listing.{IsListing}
use Rattle.hm_machine.specs.Bares.{IsBare}
use Rattle.hm_machine.specs.Shown.{Shown, run_of}
use Rattle.hm_mem.specs.Memory.{flash_at}
use Rattle.hm_plan_laws.specs.Planned.{plan_line}
use Rattle.hm_run_laws.specs.Runs.{tick}
use Rattle.hm_run.specs.Bare.{bare}
use Rattle.hm_sched.specs.Schedule.{most_ticks}
use Rattle.hm_plan.proofs.planning.go_on.Goals as goal

pub extend-requires-clause-bare : goal.extend-requires-clause-bare
extend-requires-clause-bare c = subst IsBare (sym c.greedy-kind.ensures.same) c.requires.bare

pub extend-requires-clause-ticks : goal.extend-requires-clause-ticks
extend-requires-clause-ticks c = subst (λ (m : Shown). m.ticks < most_ticks - 1) (sym c.greedy-kind.ensures.same) c.requires.ticks

pub returns-clause-next : goal.returns-clause-next
returns-clause-next c = λ listing is.
    let kind = c.greedy-kind.result in
    let same = c.greedy-kind.ensures.same in
    c.extend.ensures.next listing (plan_line 1 kind) (subst (λ (m : Shown). IsListing (flash_at m.memory) listing) (sym same) is)
    (sym c.letters.ensures.value) refl
    ∙ (λ j. tick listing (bare []) (plan_line 1 (c.greedy-kind.ensures.value listing is j)) (run_of (same j) []))

pub returns-clause-flash : goal.returns-clause-flash
returns-clause-flash c = c.extend.ensures.flash ∙ ap (λ (m : Shown). flash_at m.memory) c.greedy-kind.ensures.same
