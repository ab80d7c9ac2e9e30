use Rattle.std.proofs.Common.{◌≡◌, [], None, ◌+◌, ◌∙◌, ◌*◌, ◌≤◌, ◌∷◌, ℕ, List, drop, length, refl, sym, subst}
use Rattle.hm_base.specs.Image.{flash_byte}
use Rattle.hm_codes.proofs.Exists.{exists}
use Rattle.hm_codes.specs.Listing.{Listing}
use Rattle.hm_plan.proofs.Dense.{last_alone}
use Rattle.hm_plan.proofs.Growing.{if_ok, of_planned}
use Rattle.hm_plan.proofs.Lawful.{both, overlaps}
use Rattle.hm_plan_laws.specs.Ends.{DecidedBy, EndsAs, IsGreedyAt, IsPlanEnd}
use Rattle.hm_plan_laws.specs.Planned.{planned}
use Rattle.hm_run.specs.Bare.{bare, bare_program}
use Rattle.hm_run.specs.InOrder.{in_order}
use Rattle.hm_run_laws.specs.Runs.{run, shown_out, tick}
use Rattle.hm_sched.specs.Schedule.{Sched, TickLine, older_letter, ticks_of}
use Rattle.hm_plan.proofs.planning.plan.Goals as goal

pub returns-clause-ends : goal.returns-clause-ends
returns-clause-ends c =
    let image = c.args.image.now in
    let n = c.args.n in
    of_planned image n (λ (listing : Listing) (s : Sched). EndsAs n (shown_out listing image s) (in_order listing image n))
    (λ listing. c.plan_in_order.ensures.ends listing image n)
    c.build.result c.build.ensures.planned

pub returns-clause-exactly : goal.returns-clause-exactly
returns-clause-exactly c =
    let image = c.args.image.now in
    let n = c.args.n in
    of_planned image n (λ (listing : Listing) (s : Sched). DecidedBy n (shown_out listing image s) (in_order listing image n))
    (λ listing. c.plan_in_order.ensures.exactly listing image n)
    c.build.result c.build.ensures.planned

pub returns-clause-only : goal.returns-clause-only
returns-clause-only c =
    let image = c.args.image.now in
    let n = c.args.n in
    of_planned image n (λ (listing : Listing) (s : Sched). IsPlanEnd (shown_out listing image s).outcome)
    (λ listing. c.plan_in_order.ensures.only listing image n)
    c.build.result c.build.ensures.planned

pub returns-clause-few : goal.returns-clause-few
returns-clause-few c =
    let image = c.args.image.now in
    let n = c.args.n in
    let there = exists (flash_byte image) in
    if_ok _ (λ (s : Sched). length (ticks_of s.lines) ≤ 4 * n) c.build.result
    (λ s is. subst (λ (u : Sched). length (ticks_of u.lines) ≤ 4 * n) (sym (is there.0 there.1)) (c.plan_in_order.ensures.few there.0 image n))
    c.build.ensures.planned

pub returns-clause-greedy : goal.returns-clause-greedy
returns-clause-greedy c =
    let image = c.args.image.now in
    let n = c.args.n in
    of_planned image n
    (λ (listing : Listing) (s : Sched). (t : ℕ) (line : TickLine) (left : List TickLine) → drop t (ticks_of s.lines) ≡ line ∷ left
    → IsGreedyAt listing image n s t line)
    (λ listing t line left. c.plan_in_order.ensures.greedy listing image n t line left) c.build.result c.build.ensures.planned

pub returns-clause-dense : goal.returns-clause-dense
returns-clause-dense c =
    let image = c.args.image.now in
    let n = c.args.n in
    of_planned image n
    (λ (listing : Listing) (s : Sched). (t : ℕ) (line : TickLine) (left : List TickLine) → drop t (ticks_of s.lines) ≡ line ∷ left
    → line.letters ≡ older_letter ∷ []
    → let x = run listing image s t in (tick listing (bare []) both x).outcome ≡ None → n ≤ x.machine.config.n + 1)
    (λ listing t line left there one goes.
    let s = planned listing image n in
    let x = (run listing image s t).machine.config in
    let greedy = c.plan_in_order.ensures.greedy listing image n t line left there in
    let ready = (c.open_runs.ensures.ready (bare_program listing) x).1 (overlaps listing image n t s line refl greedy goes) in
    last_alone (bare_program listing) n x ready (sym greedy.letters ∙ one))
    c.build.result c.build.ensures.planned
