-- Ticks one behind another, until a run ends.
use Rattle.std.proofs.Common.{◌≡◌, ℕ, ◌+◌, ◌<◌, ◌≤◌, suc, List, Option, Some, None, ap, sym, ◌∙◌, subst, ◌⊎◌, inl, inr, ⊎_elim, arith, length, refl}
use Rattle.std.proofs.Common.{add-zero, eq-zero-or-pos}
use Rattle.std.specs.Prelude.{IsSome}
use Rattle.hm_base.specs.Image.{Segment}
use Rattle.hm_machine.proofs.Ticks.{shows_end}
use Rattle.hm_machine.specs.Calls.{tick_answer}
use Rattle.hm_machine.specs.Passing.{Passes}
use Rattle.hm_machine.specs.Shown.{Shown, Shows, fixed_of}
use Rattle.hm_run.specs.declared.Outcome.{Outcome}
use Rattle.hm_run.specs.declared.Outcome.TheVariants as outcome
use Rattle.hm_run.specs.declared.Turn.TheVariants.{Ended, Running}
use Rattle.hm_sched.specs.Schedule.{Sched}

-- what a turn says of the outcome
pub ended_by : (x : Option Outcome) (o : Outcome) → Ended o ≡ tick_answer x → x ≡ Some o
ended_by None o e = absurd cc
ended_by (Some p) o e = cc

pub running_by : (x : Option Outcome) → Running ≡ tick_answer x → x ≡ None
running_by None e = refl
running_by (Some p) e = absurd cc

-- k ticks went on from one machine to another
pub record Went (k : ℕ) (first now : Shown) : Type 0 where
  pub begun : first.outcome ≡ None
  pub lines : 0 < length first.schedule.lines
  pub running : now.outcome ≡ None
  pub fewer : length now.left + k ≤ length first.left

-- where k ticks may have been done and none ended the run
pub record Going (k : ℕ) (first now : Shown) : Type 0 where
  pub shows : (image : List Segment) (s : Sched) (t : ℕ) → Shows image s t first → Shows image s (t + k) now
  pub turns : now.ticks + length now.left ≤ first.ticks + length first.left
  pub went : ((k ≡ 0) × (now ≡ first)) ⊎ Went k first now
  pub fixed : fixed_of now ≡ fixed_of first

-- before the first
pub none_done : (m : Shown) → Going 0 m m
none_done m = record { shows = λ image s t h. rw add-zero h; turns = omega arith; went = inl (refl, refl); fixed = refl }

-- where all are done
pub all_done : (count : ℕ) (first now : Shown) → Going count first now → Passes count first now
all_done count first now g = record {
  shows = g.shows;
  ended = λ some. by_ended g.went some;
  turns = g.turns;
  out = λ none empty pos. by_out g.went empty pos;
  through = λ less. by_through g.went less;
  fixed = g.fixed;
} where
  by_ended : ((count ≡ 0) × (now ≡ first)) ⊎ Went count first now → IsSome first.outcome → now ≡ first
  by_ended (inl z) some = z.1
  by_ended (inr w) some = absurd (let o = subst IsSome w.begun some in cc)

  by_out : ((count ≡ 0) × (now ≡ first)) ⊎ Went count first now → length first.schedule.lines ≡ 0 → 0 < count
      → now ≡ record first { outcome = Some outcome.OutOfTicks }
  by_out (inl z) empty pos = absurd (let zero = z.0 in omega (arith, zero, pos))
  by_out (inr w) empty pos = absurd (let lines = w.lines in omega (arith, lines, empty))

  by_through : ((count ≡ 0) × (now ≡ first)) ⊎ Went count first now → length first.left < count → IsSome now.outcome
  by_through (inl z) less = absurd (let zero = z.0 in omega (arith, zero, less))
  by_through (inr w) less = absurd (let fewer = w.fewer in omega (arith, fewer, less))

-- one tick more, behind k that went on
module _ (k : ℕ) (first now new : Shown) (g : Going k first now)
    (shows : (image : List Segment) (s : Sched) (t : ℕ) → Shows image s t now → Shows image s (suc t) new)
    (ended : IsSome now.outcome → new ≡ now)
    (fewer : now.outcome ≡ None → 0 < length now.schedule.lines → length new.left < length now.left)
    (once : now.outcome ≡ None → 0 < length now.schedule.lines → new.ticks ≡ now.ticks + 1)
    (out : now.outcome ≡ None → length now.schedule.lines ≡ 0 → new ≡ record now { outcome = Some outcome.OutOfTicks })
    (fixed : fixed_of new ≡ fixed_of now) where
  shown : (image : List Segment) (s : Sched) (t : ℕ) → Shows image s t first → Shows image s (t + (k + 1)) new
  shown image s t h =
      let one : suc (t + k) ≡ t + (k + 1) = omega arith in
      subst (λ (u : ℕ). Shows image s u new) one (shows image s (t + k) (g.shows image s t h))

  taken : (o : Option Outcome) → now.outcome ≡ o → new.ticks + length new.left ≤ now.ticks + length now.left
  taken None none = ⊎_elim
      (λ empty. subst (λ (m : Shown). m.ticks + length m.left ≤ now.ticks + length now.left) (sym (out none empty)) (omega arith))
      (λ some. let less = fewer none some in let one = once none some in omega arith) (eq-zero-or-pos (length now.schedule.lines))
  taken (Some o) is = subst (λ (m : Shown). m.ticks + length m.left ≤ now.ticks + length now.left) (sym (ended (subst IsSome (sym is) refl))) (omega arith)

  turned : new.ticks + length new.left ≤ first.ticks + length first.left
  turned = let before = g.turns in let here = taken now.outcome refl in omega (arith, before, here)

  -- it goes on
  module _ (none : new.outcome ≡ None) where
    ran : (o : Option Outcome) → now.outcome ≡ o → now.outcome ≡ None
    ran None is = is
    ran (Some o) is = absurd (let same = ap (λ (m : Shown). m.outcome) (ended (subst IsSome (sym is) refl)) in cc)

    running : now.outcome ≡ None
    running = ran now.outcome refl

    lined : 0 < length now.schedule.lines
    lined = ⊎_elim (λ empty. absurd (let o = ap (λ (m : Shown). m.outcome) (out running empty) in cc)) (λ some. some)
        (eq-zero-or-pos (length now.schedule.lines))

    went : ((k ≡ 0) × (now ≡ first)) ⊎ Went k first now → Went (k + 1) first new
    went (inl z) =
        let less = fewer running lined in
        let left = ap (λ (m : Shown). length m.left) z.1 in
        let zero = z.0 in record {
          begun = ap (λ (m : Shown). m.outcome) (sym z.1) ∙ running;
          lines = subst (λ (m : Shown). 0 < length m.schedule.lines) z.1 lined;
          running = none;
          fewer = omega (arith, less, left, zero);
        }
    went (inr w) =
        let less = fewer running lined in
        let before = w.fewer in record { begun = w.begun; lines = w.lines; running = none; fewer = omega (arith, less, before) }

    pub one_more : Going (k + 1) first new
    one_more = record { shows = shown; turns = turned; went = inr (went g.went); fixed = fixed ∙ g.fixed }

  -- it ends the run
  module _ (count : ℕ) (o : Outcome) (within : k < count) (is : new.outcome ≡ Some o) where
    stayed : ((k ≡ 0) × (now ≡ first)) ⊎ Went k first now → IsSome first.outcome → new ≡ first
    stayed (inl z) some = ended (subst (λ (m : Shown). IsSome m.outcome) (sym z.1) some) ∙ z.1
    stayed (inr w) some = absurd (let none = subst IsSome w.begun some in cc)

    emptied : ((k ≡ 0) × (now ≡ first)) ⊎ Went k first now → first.outcome ≡ None → length first.schedule.lines ≡ 0
        → new ≡ record first { outcome = Some outcome.OutOfTicks }
    emptied (inl z) none empty =
        out (ap (λ (m : Shown). m.outcome) z.1 ∙ none) (ap (λ (m : Shown). length m.schedule.lines) z.1 ∙ empty)
        ∙ ap (λ (m : Shown). record m { outcome = Some outcome.OutOfTicks }) z.1
    emptied (inr w) none empty = absurd (let lines = w.lines in omega (arith, lines, empty))

    pub ended_early : Passes count first new
    ended_early = record {
      shows = λ image s t h.
          let most : t + (k + 1) ≤ t + count = omega (arith, within) in
          shows_end image s (t + (k + 1)) (t + count) new o is most (shown image s t h);
      ended = stayed g.went;
      turns = turned;
      out = λ none empty pos. emptied g.went none empty;
      through = λ less. subst IsSome (sym is) refl;
      fixed = fixed ∙ g.fixed;
    }
