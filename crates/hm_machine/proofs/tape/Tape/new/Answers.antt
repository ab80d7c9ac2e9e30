use Rattle.std.proofs.Common.{◌≡◌, ⊎_elim, ℕ, ◌+◌, ◌*◌, ◌/◌, ◌<◌, ◌≤◌, List, ap, arith, length, refl, sym, ◌∙◌, subst}
use Rattle.std.proofs.lemmas.List.{length-map}
use Rattle.hm_run_laws.specs.Runs.{Run}
use Rattle.hm_machine.proofs.Counts.{ticks_most}
use Rattle.hm_machine.proofs.Reels.{at_end, count_is, first_still, kept_still, lie_first, lie_still, mapped, shows_first}
use Rattle.hm_machine.specs.Shown.{Shown, Shows, fixed_of}
use Rattle.hm_machine.specs.Tapes.{AreApart, AreKept, first_of, machine_at}
use Rattle.hm_machine.specs.declared.checkpoint.Checkpoint.{Checkpoint}
use Rattle.hm_run_laws.specs.Next.{Begins}
use Rattle.hm_sched.specs.Schedule.{Sched, ticks_of}
use Rattle.hm_machine.proofs.tape.Tape.new.Goals as goal

-- from the machine that made the last checkpoint to the one at the end
module _ (c : goal.After-scheduled-place) where
  abbrev checkpoints : List Checkpoint
  checkpoints = c.in_ok-kept.kept.items

  abbrev filled : Shown
  filled = c.filled.new.machine

  abbrev end : Shown
  end = c.run-outcome.new.self

  ends : Shows c.args.image.now c.args.s (length (ticks_of c.args.s.lines)) end
  ends =
      let on = c.in_ok-kept.ensures.goes_on c.args.image.now c.args.s c.in_ok-machine.ensures.shows in
      c.run-outcome.ensures.shows c.args.image.now c.args.s on.0 on.1

  grown : Begins filled.output end.output × (filled.ticks ≤ end.ticks)
  grown =
      let on = c.in_ok-kept.ensures.goes_on c.args.image.now c.args.s c.in_ok-machine.ensures.shows in
      at_end c.args.image.now c.args.s on.0 filled end on.1 ends c.run-outcome.ensures.ended

  more : Begins filled.output c.in_ok-output.output.items
  more = subst (Begins filled.output) (sym c.in_ok-output.ensures.value) grown.0

  kept : AreKept (fixed_of end) c.in_ok-output.output.items checkpoints
  kept = kept_still (fixed_of filled) (fixed_of end) filled.output c.in_ok-output.output.items c.run-outcome.ensures.fixed more checkpoints
      c.in_ok-kept.ensures.kept

  first : first_of checkpoints c.in_ok-output.output.items end ≡ c.in_ok-machine.machine
  first =
      first_still (fixed_of filled) (fixed_of end) filled.output c.in_ok-output.output.items c.run-outcome.ensures.fixed more checkpoints filled end refl refl
      c.in_ok-kept.ensures.some c.in_ok-kept.ensures.kept
      ∙ c.in_ok-kept.ensures.first

  lie : AreApart c.in_ok-machine.machine (fixed_of end) c.in_ok-output.output.items (c.scheduled.result / 64 + 1) checkpoints
  lie = lie_still (fixed_of filled) (fixed_of end) filled.output c.in_ok-output.output.items c.run-outcome.ensures.fixed more c.in_ok-machine.machine
      (c.scheduled.result / 64 + 1) checkpoints c.in_ok-kept.ensures.kept c.in_ok-kept.ensures.lie

pub invariant_of-result : goal.invariant_of-result
invariant_of-result c = record {
  apart = omega arith;
  most = c.ticks-last.ensures.most;
  some = c.in_ok-kept.ensures.some;
  kept = kept c;
  lie = lie_first _ _ (fixed_of (end c)) _ _ (checkpoints c) (first c) (lie c);
  shows = shows_first _ _ _ (end c) (first c) (λ image s h.
      let on = c.in_ok-kept.ensures.goes_on image s h in
      let shown = c.run-outcome.ensures.shows image s on.0 on.1 in
      let place = c.scheduled-place.ensures.value ∙ ap (λ (p : Sched). length (ticks_of p.lines)) shown.plan in
      subst (λ (u : ℕ). Shows image s u (end c)) (sym place) shown);
}

pub returns-clause-tapes : goal.returns-clause-tapes
returns-clause-tapes c = record {
  start = subst (Shows c.args.image.now c.args.s 0) (sym (first c)) c.in_ok-machine.ensures.shows;
  last = λ listing is. sym (ap (λ (r : Run). r.ticks) ((ends c).now listing is)) ∙ sym c.ticks-last.ensures.value;
}

pub returns-clause-apart : goal.returns-clause-apart
returns-clause-apart c = ap (λ (n : ℕ). n / 64 + 1)
    (c.scheduled.ensures.value ∙ ap (λ (p : Sched). length (ticks_of p.lines)) c.in_ok-machine.ensures.shows.plan)

pub returns-clause-lie : goal.returns-clause-lie
returns-clause-lie c =
    mapped (machine_at (fixed_of (end c)) c.in_ok-output.output.items)
    (λ (k : ℕ) (m : Shown). Shows c.args.image.now c.args.s (k * (c.scheduled.result / 64 + 1)) m) (checkpoints c)
    (λ k x e. lie c k x e c.args.image.now c.args.s c.in_ok-machine.ensures.shows)

pub returns-clause-reached : goal.returns-clause-reached
returns-clause-reached c =
    let did = c.in_ok-kept.ensures in
    let some = did.some in
    let low = did.reached in
    let more = (grown c).1 in
    let last = c.ticks-last.ensures.value in
    let apart = returns-clause-apart c in
    let most = ticks_most c.args.image.now c.args.s (length (ticks_of c.args.s.lines)) (end c) (ends c) in
    length-map (checkpoints c) (machine_at (fixed_of (end c)) c.in_ok-output.output.items)
    ∙ count_is (length (checkpoints c)) (c.scheduled.result / 64 + 1) c.ticks-last.result some (omega (arith, low, more, last)) (⊎_elim
    (λ full. subst (λ (n : ℕ). c.ticks-last.result < n * (c.scheduled.result / 64 + 1)) (sym full) (omega (arith, most, last, apart)))
    (λ over.
    let same = ap (λ (m : Shown). m.ticks) (c.run-outcome.ensures.ended over.2) in
    let less = over.1 in
    omega (arith, same, less, last)) did.all)

pub returns-clause-few : goal.returns-clause-few
returns-clause-few c =
    let size = length-map (checkpoints c) (machine_at (fixed_of (end c)) c.in_ok-output.output.items) in
    ⊎_elim (λ full. omega (arith, size, full)) (λ over. let few = over.0 in omega (arith, size, few)) c.in_ok-kept.ensures.all
