use Rattle.std.proofs.Common.{◌≡◌, ℕ, ◌+◌, ◌-◌, ◌*◌, ◌<◌, ◌≤◌, [], ◌∷◌, List, ap, arith, inr, length, refl, sym, ◌∙◌, subst, take}
use Rattle.std.proofs.lemmas.List.{length_push}
use Rattle.hm_machine.proofs.Counts.{ended_before, shows_more}
use Rattle.hm_machine.proofs.Reels.{first_pushed, first_still, kept_still, lie_still, more_apart, new_kept, new_machine, one_less, only_one}
use Rattle.hm_machine.proofs.Reels.{pushed, shows_output}
use Rattle.hm_machine.specs.Checkpoints.{IsKept}
use Rattle.hm_machine.specs.Shown.{Shows, fixed_of}
use Rattle.hm_machine.specs.Tapes.{AreApart, AreKept, ShowsTick, first_of, machine_at}
use Rattle.hm_machine.specs.declared.checkpoint.Checkpoint.{Checkpoint}
use Rattle.hm_run_laws.specs.Next.{Begins}
use Rattle.hm_machine.proofs.reel.filled.Goals as goal

pub loop-k-init : goal.loop-k-init
loop-k-init c =
    let x = c.in_ok-checkpoint.field-0 in
    let m = c.args.machine.now in
    let did = c.in_ok-checkpoint.ensures in
    let items : c.push.new.self.items ≡ x ∷ [] = only_one c.new-kept.result.items c.push.new.self.items x c.new-kept.ensures.items c.in_ok-push.ensures.items in
    let none : 0 * c.args.apart ≡ 0 = omega arith in
    record {
      many = ap length items;
      first = ap (λ (l : List Checkpoint). first_of l m.output m) items ∙ new_machine x m did.written did.shows;
      kept = subst (AreKept (fixed_of m) m.output) (sym items)
          (pushed (λ (k : ℕ) (y : Checkpoint). (y.written ≤ length m.output) × IsKept y (fixed_of m) (take y.written m.output)) [] x (λ k y e. absurd cc)
          (new_kept x m did.written did.kept));
      lie = subst (AreApart m (fixed_of m) m.output c.args.apart) (sym items)
          (pushed (λ (k : ℕ) (y : Checkpoint). ShowsTick m (k * c.args.apart) (machine_at (fixed_of m) m.output y)) [] x (λ k y e. absurd cc)
          (λ image s h. subst (λ (u : ℕ). Shows image s u (machine_at (fixed_of m) m.output x)) (sym none)
          (subst (Shows image s 0) (sym (new_machine x m did.written did.shows)) h)));
      shows = λ image s h. h;
      fixed = refl;
      reached = omega arith;
      small = omega arith;
      begun = omega arith;
    }

pub loop-k-preserved : goal.loop-k-preserved
loop-k-preserved c =
    let cs = c.loop-k.kept.items in
    let x = c.in_ok-checkpoint-2.field-0 in
    let m = c.loop-k.machine in
    let n = c.pass.new.self in
    let start = c.args.machine.now in
    let same = c.pass.ensures.fixed in
    let before = c.loop-k.invariant in
    let did = c.in_ok-checkpoint-2.ensures in
    let items = c.in_ok-push-2.ensures.items in
    let many = before.many in
    let small = before.small in
    let one = c.loop-k.auto._k in
    let some : 0 < length c.loop-k.kept.items = omega (arith, many, one) in
    let image = c.requires.start.0 in
    let s = c.requires.start.1 in
    let old = before.shows image s c.requires.start.2 in
    let more : Begins m.output n.output = shows_output image s c.loop-k.reached c.args.apart m n old (c.pass.ensures.shows image s c.loop-k.reached old) in
    record {
      many = ap length items ∙ length_push cs x ∙ ap (λ (k : ℕ). k + 1) many;
      first = ap (λ (l : List Checkpoint). first_of l n.output n) items ∙ first_pushed cs x n.output n some
          ∙ first_still (fixed_of m) (fixed_of n) m.output n.output same more cs m n refl refl some before.kept ∙ before.first;
      kept = subst (AreKept (fixed_of n) n.output) (sym items)
          (pushed (λ (k : ℕ) (y : Checkpoint). (y.written ≤ length n.output) × IsKept y (fixed_of n) (take y.written n.output)) cs x
          (kept_still (fixed_of m) (fixed_of n) m.output n.output same more cs before.kept) (new_kept x n did.written did.kept));
      lie = subst (AreApart start (fixed_of n) n.output c.args.apart) (sym items)
          (pushed (λ (k : ℕ) (y : Checkpoint). ShowsTick start (k * c.args.apart) (machine_at (fixed_of n) n.output y)) cs x
          (lie_still (fixed_of m) (fixed_of n) m.output n.output same more start c.args.apart cs before.kept before.lie)
          (λ image s h.
          let on = c.pass.ensures.shows image s c.loop-k.reached (before.shows image s h) in
          let tick = before.reached ∙ ap (λ (k : ℕ). k * c.args.apart) (sym many) in
          let at = subst (λ (u : ℕ). Shows image s u n) tick on in
          subst (Shows image s (length cs * c.args.apart)) (sym (new_machine x n did.written did.shows)) at));
      shows = λ image s h. c.pass.ensures.shows image s c.loop-k.reached (before.shows image s h);
      fixed = same ∙ before.fixed;
      reached = more_apart c.loop-k.reached c.args.apart c.loop-k._k before.reached;
      small = let less = c.requires.small in omega (arith, small, less);
      begun = let ticks = c.if-ticks-reached.false in let are = c.ticks.ensures.value in omega (arith, ticks, are);
    }

pub returns-clause-goes_on : goal.returns-clause-goes_on
returns-clause-goes_on c image s h = (c.loop-k.reached, c.loop-k.invariant.shows image s h)

-- WHERE THE RUN ENDED before the next
pub returns-then-ticks-reached-clause-first : goal.returns-then-ticks-reached-clause-first
returns-then-ticks-reached-clause-first c =
    let cs = c.loop-k.kept.items in
    let m = c.loop-k.machine in
    let n = c.pass.new.self in
    let before = c.loop-k.invariant in
    let many = before.many in
    let one = c.loop-k.auto._k in
    let image = c.requires.start.0 in
    let s = c.requires.start.1 in
    let old = before.shows image s c.requires.start.2 in
    let more = shows_output image s c.loop-k.reached c.args.apart m n old (c.pass.ensures.shows image s c.loop-k.reached old) in
    first_still (fixed_of m) (fixed_of n) m.output n.output c.pass.ensures.fixed more cs m n refl refl (omega (arith, many, one)) before.kept ∙ before.first

pub returns-then-ticks-reached-clause-kept : goal.returns-then-ticks-reached-clause-kept
returns-then-ticks-reached-clause-kept c =
    let m = c.loop-k.machine in
    let n = c.pass.new.self in
    let before = c.loop-k.invariant in
    let image = c.requires.start.0 in
    let s = c.requires.start.1 in
    let old = before.shows image s c.requires.start.2 in
    let more = shows_output image s c.loop-k.reached c.args.apart m n old (c.pass.ensures.shows image s c.loop-k.reached old) in
    kept_still (fixed_of m) (fixed_of n) m.output n.output c.pass.ensures.fixed more c.loop-k.kept.items before.kept

pub returns-then-ticks-reached-clause-lie : goal.returns-then-ticks-reached-clause-lie
returns-then-ticks-reached-clause-lie c =
    let m = c.loop-k.machine in
    let n = c.pass.new.self in
    let before = c.loop-k.invariant in
    let image = c.requires.start.0 in
    let s = c.requires.start.1 in
    let old = before.shows image s c.requires.start.2 in
    let more = shows_output image s c.loop-k.reached c.args.apart m n old (c.pass.ensures.shows image s c.loop-k.reached old) in
    lie_still (fixed_of m) (fixed_of n) m.output n.output c.pass.ensures.fixed more c.args.machine.now c.args.apart c.loop-k.kept.items before.kept before.lie

pub returns-then-ticks-reached-clause-goes_on : goal.returns-then-ticks-reached-clause-goes_on
returns-then-ticks-reached-clause-goes_on c image s h =
    (c.loop-k.reached + c.args.apart, c.pass.ensures.shows image s c.loop-k.reached (c.loop-k.invariant.shows image s h))

pub returns-then-ticks-reached-clause-reached : goal.returns-then-ticks-reached-clause-reached
returns-then-ticks-reached-clause-reached c =
    let before = c.loop-k.invariant in
    let one = c.loop-k.auto._k in
    let image = c.requires.start.0 in
    let s = c.requires.start.1 in
    let old = before.shows image s c.requires.start.2 in
    let grown = shows_more image s c.loop-k.reached c.args.apart c.loop-k.machine c.pass.new.self old (c.pass.ensures.shows image s c.loop-k.reached old) in
    let begun = before.begun in
    let least : c.loop-k.reached ≤ c.pass.new.self.ticks = omega (arith, begun, grown) in
    let is = ap (λ (k : ℕ). (k - 1) * c.args.apart) before.many ∙ one_less c.loop-k.reached c.args.apart c.loop-k._k (omega (arith, one)) before.reached in
    subst (λ (r : ℕ). r ≤ c.pass.new.self.ticks) (sym is) least

pub returns-then-ticks-reached-clause-all : goal.returns-then-ticks-reached-clause-all
returns-then-ticks-reached-clause-all c =
    let before = c.loop-k.invariant in
    let many = before.many in
    let most = c.loop-k.auto._k in
    let image = c.requires.start.0 in
    let s = c.requires.start.1 in
    let ticks = c.if-ticks-reached.true in
    let are = c.ticks.ensures.value in
    let less : c.pass.new.self.ticks < c.loop-k.reached + c.args.apart = omega (arith, ticks, are) in
    let is : c.loop-k.reached + c.args.apart ≡ length c.loop-k.kept.items * c.args.apart = before.reached ∙ ap (λ (k : ℕ). k * c.args.apart) (sym many) in
    let on = c.pass.ensures.shows image s c.loop-k.reached (before.shows image s c.requires.start.2) in
    inr (
      omega (arith, many, most),
      subst (λ (r : ℕ). c.pass.new.self.ticks < r) is less,
      ended_before image s (c.loop-k.reached + c.args.apart) c.pass.new.self on less,
    )

pub returns-clause-reached : goal.returns-clause-reached
returns-clause-reached c =
    let before = c.loop-k.invariant in
    let one = c.loop-k.auto._k in
    let is = ap (λ (k : ℕ). (k - 1) * c.args.apart) before.many ∙ one_less c.loop-k.reached c.args.apart c.loop-k._k (omega (arith, one)) before.reached in
    subst (λ (r : ℕ). r ≤ c.loop-k.machine.ticks) (sym is) before.begun
