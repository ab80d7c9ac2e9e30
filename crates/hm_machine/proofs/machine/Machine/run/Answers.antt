use Rattle.std.proofs.Common.{◌≡◌, ℕ, ◌≤◌, Some, List, ap, sym, ◌∙◌, arith, length, nat_le}
use Rattle.std.proofs.lemmas.Bool.Decides.{nat_tests}
use Rattle.hm_base.specs.Image.{Segment}
use Rattle.hm_machine.proofs.Plain.{plain_report, shown_headline, shown_position, shown_riders, shown_taint}
use Rattle.hm_machine.proofs.Ticks.{shows_end, shows_past}
use Rattle.hm_machine.specs.Shown.{Shown, Shows}
use Rattle.hm_order.proofs.Results.{decide}
use Rattle.hm_run.specs.declared.Outcome.{Outcome}
use Rattle.hm_sched.specs.Schedule.{Sched, plain, ticks_of}
use Rattle.hm_machine.proofs.machine.Machine.run.Goals as goal

-- a machine that has ended shows the end of the run
at_end : (image : List Segment) (s : Sched) (t : ℕ) (m : Shown) (o : Outcome) → m.outcome ≡ Some o → Shows image s t m
    → Shows image s (length (ticks_of s.lines)) m
at_end image s t m o is shows = decide (nat_le t (length (ticks_of s.lines)))
    (λ within.
    let h : t ≤ length (ticks_of s.lines) = grind (arith, nat_tests, within) in
    shows_end image s t (length (ticks_of s.lines)) m o is h shows)
    (λ past.
    let h : length (ticks_of s.lines) ≤ t = grind (arith, nat_tests, past) in
    (shows_past image s t m h shows).1)

pub returns-clause-shows : goal.returns-clause-shows
returns-clause-shows c image s t shows =
    at_end image s _ _ c.in-Some.outcome (ap (λ (v : Shown). v.outcome) (sym c.self.view_is) ∙ c.in-Some.is)
    (c.go_on_with_table-2.ensures.passes.shows image s t shows)

pub returns-clause-plain : goal.returns-clause-plain
returns-clause-plain c image n t listing is shows = plain_report image n _ (returns-clause-shows c image (plain n) t shows) listing is

pub returns-clause-headline : goal.returns-clause-headline
returns-clause-headline c image s t listing is shows = shown_headline image s _ (returns-clause-shows c image s t shows) listing is

pub returns-clause-riders : goal.returns-clause-riders
returns-clause-riders c image s t listing is shows = shown_riders image s _ (returns-clause-shows c image s t shows) listing is

pub returns-clause-taint : goal.returns-clause-taint
returns-clause-taint c image s t listing is shows = shown_taint image s (length (ticks_of s.lines)) _ (returns-clause-shows c image s t shows) listing is

pub returns-clause-position : goal.returns-clause-position
returns-clause-position c image s t listing is shows = shown_position image s (length (ticks_of s.lines)) _ (returns-clause-shows c image s t shows) listing is
