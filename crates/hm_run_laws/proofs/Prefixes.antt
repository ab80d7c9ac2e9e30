-- A run by the ticks that were done: those that come later change nothing of it.
use Rattle.std.proofs.Common.{◌≡◌, ℕ, zero, suc, ◌+◌, ◌==◌, ap, refl, sym, ◌∙◌, subst, Bool, true, false, cond, List, [], ◌∷◌, take, drop, Option, Some, None}
use Rattle.std.proofs.Common.{Result, Ok, Err}
use Rattle.hm_base.specs.Image.{Segment}
use Rattle.hm_codes.specs.Listing.{Listing}
use Rattle.hm_exc.specs.Entry.{entry_refusal}
use Rattle.hm_exc.specs.declared.types.EnterErr.{EnterErr}
use Rattle.hm_order.specs.Beats.{then}
use Rattle.hm_order.specs.Machine.{Config}
use Rattle.hm_order.specs.InFlight.{InFlight, Older, Younger}
use Rattle.hm_run.specs.declared.Outcome.{Outcome}
use Rattle.hm_run.specs.Program.{steps_left, vector_of}
use Rattle.hm_run.specs.Timed.{or_out, bounds_of}
use Rattle.hm_sched.specs.Schedule.{older_letter, younger_letter}
use Rattle.hm_state.specs.State.{State, regs_of}
use Rattle.hm_whole.specs.Whole.{seen_in}
use Rattle.hm_window.specs.Positions.{may_end}
use Rattle.hm_run_laws.proofs.TickCounts.{closed_entries, closed_machine, closed_ticks, ended_ticks}
use Rattle.hm_run_laws.specs.Nested.{Interrupted, Nested, TickEnd, at_step, letter, letters, step_under, steps}
use Rattle.hm_run_laws.specs.Runs.{ended, enters, enters_unless, may_enter, picks, tick}
use Rattle.hm_sched.specs.Schedule.{Sched, TickLine, ticks_of}
use Rattle.hm_run_laws.specs.Runs.{Run, after_count, begin, closed, next, run, tick_of}
use Rattle.hm_run_laws.specs.Next.{SameSoFar, SameTicks, after_ticks}

module _ (listing : Listing) (s : Sched) where
  -- one more tick at the end of those that were done
  taken : (t : ℕ) (lines : List TickLine) (x : Run) → next listing s (drop t lines) (closed (drop t lines) (after_ticks listing s (take t lines) x))
      ≡ closed (drop (suc t) lines) (after_ticks listing s (take (suc t) lines) x)
  taken zero [] x = refl
  taken zero (line ∷ lines) x = refl
  taken (suc t) [] x = refl
  taken (suc t) (line ∷ lines) x = taken t lines (tick_of listing s line x x.outcome)

  pub run_taken : (image : List Segment) (t : ℕ)
      → run listing image s t ≡ closed (drop t (ticks_of s.lines)) (after_ticks listing s (take t (ticks_of s.lines)) (begin image s))
  run_taken image zero = refl
  run_taken image (suc t) = ap (next listing s (drop t (ticks_of s.lines))) (run_taken image t) ∙ taken t (ticks_of s.lines) (begin image s)

-- EACH TICK of a run that goes on is one more
module _ (listing : Listing) (s : Sched) where
  pub one_tick : (line : TickLine) (x : Run) → x.outcome ≡ None → (tick listing s line x).ticks ≡ x.ticks + 1
  one_tick line x none =
      ap (λ (o : Option Outcome). (tick_of listing s line x o).ticks) none ∙ ended_ticks s line x (letters listing s 0 line.letters x.machine)

-- THE LINES OF A SCHEDULE are read nowhere but in what its ticks are, and its format nowhere
abbrev pub bare : Sched → Sched
bare s = record s { format = 1; lines = [] }

module _ (listing : Listing) (s : Sched) where
  step_bare : (t : InFlight) (c : Config State) (acts : List Interrupted) → step_under listing s t c acts ≡ step_under listing (bare s) t c acts
  step_bare t c [] = refl
  step_bare Older c (x ∷ acts) = refl
  step_bare Younger c (x ∷ acts) = refl

  steps_bare : (n : ℕ) (x : Nested) → steps listing s n x ≡ steps listing (bare s) n x
  steps_bare zero x = refl
  steps_bare (suc n) x = λ j. then (step_bare Older x.config x.acts j) (λ y. steps_bare n y j)

  letter_bare : (l : ℕ) (x : Nested) → letter listing s l x ≡ letter listing (bare s) l x
  letter_bare l x = λ j.
      cond (l == older_letter) (step_bare Older x.config x.acts j)
      (cond (l == younger_letter) (step_bare Younger x.config x.acts j) (steps_bare (steps_left (vector_of (listing x.config.state.pc)) x.config.a) x j))

  letters_bare : (ls : List ℕ) (k : ℕ) (x : Nested) → letters listing s k ls x ≡ letters listing (bare s) k ls x
  letters_bare [] k x = refl
  letters_bare (l ∷ ls) k x = λ j. then (at_step (k + 1) (l == younger_letter) (letter_bare l x j)) (λ y. letters_bare ls (k + 1) y j)

  unless_bare : (e : ℕ) (o : Option EnterErr) (x : Run) → enters_unless s e o x ≡ enters_unless (bare s) e o x
  unless_bare e None x = refl
  unless_bare e (Some why) x = refl

  enters_bare : (o : Option ℕ) (x : Run) → enters s o x ≡ enters (bare s) o x
  enters_bare None x = refl
  enters_bare (Some e) x = let t = x.machine.config.state in unless_bare e (entry_refusal (bounds_of s) (regs_of t) (seen_in t) e) x

  may_enter_bare : (x : Run) → may_enter s x ≡ may_enter (bare s) x
  may_enter_bare x = λ j. cond s.entries (enters_bare (picks x) x j) x

  judged_bare : (b : Bool) (x y : Run) → cond b (may_enter s x) y ≡ cond b (may_enter (bare s) x) y
  judged_bare true x y = may_enter_bare x
  judged_bare false x y = refl

  ended_bare : (line : TickLine) (x : Run) (r : Result Nested TickEnd) → ended s line x r ≡ ended (bare s) line x r
  ended_bare line x (Ok m) = judged_bare (may_end m.config.a m.config.b)
      (after_count line (record { outcome = None; machine = m; ticks = x.ticks + 1; entries = x.entries })) _
  ended_bare line x (Err e) = refl

  tick_bare : (line : TickLine) (x : Run) (o : Option Outcome) → tick_of listing s line x o ≡ tick_of listing (bare s) line x o
  tick_bare line x (Some o) = refl
  tick_bare line x None = ap (ended s line x) (letters_bare line.letters 0 x.machine) ∙ ended_bare line x (letters listing (bare s) 0 line.letters x.machine)

  pub ticks_bare : (lines : List TickLine) (x : Run) → after_ticks listing s lines x ≡ after_ticks listing (bare s) lines x
  ticks_bare [] x = refl
  ticks_bare (line ∷ lines) x = ap (after_ticks listing s lines) (tick_bare line x x.outcome) ∙ ticks_bare lines (tick_of listing (bare s) line x x.outcome)

bare_same : (s u : Sched) (t : ℕ) → SameTicks s u t → bare s ≡ bare u
bare_same s u t h = λ j. record { format = 1; entries = h.entries j; lo = h.lo j; hi = h.hi j; floor = h.floor j; process = h.process j; lines = [] }

out_twice : (o : Option Outcome) → or_out (or_out o) ≡ or_out o
out_twice None = refl
out_twice (Some o) = refl

closed_out : (left : List TickLine) (z : Run) → or_out (closed left z).outcome ≡ or_out z.outcome
closed_out [] z = out_twice z.outcome
closed_out (line ∷ left) z = refl

same_closed : (left more : List TickLine) (z : Run) → SameSoFar (closed left z) (closed more z)
same_closed left more z = record {
  machine = closed_machine left z ∙ sym (closed_machine more z);
  ticks = closed_ticks left z ∙ sym (closed_ticks more z);
  entries = closed_entries left z ∙ sym (closed_entries more z);
  outcome = closed_out left z ∙ sym (closed_out more z);
}

module _ (listing : Listing) (image : List Segment) (s u : Sched) (t : ℕ) (h : SameTicks s u t) where
  left_there : after_ticks listing s (take t (ticks_of s.lines)) (begin image s) ≡ after_ticks listing u (take t (ticks_of u.lines)) (begin image u)
  left_there =
      ticks_bare listing s (take t (ticks_of s.lines)) (begin image s)
      ∙ (λ j. after_ticks listing (bare_same s u t h j) (h.ticks j) (begin image (bare_same s u t h j)))
      ∙ sym (ticks_bare listing u (take t (ticks_of u.lines)) (begin image u))

  pub run_alike : SameSoFar (run listing image s t) (run listing image u t)
  run_alike =
      let z = after_ticks listing u (take t (ticks_of u.lines)) (begin image u) in
      subst (λ (x : Run). SameSoFar x (run listing image u t)) (sym (run_taken listing s image t ∙ ap (closed (drop t (ticks_of s.lines))) left_there))
      (subst (λ (y : Run). SameSoFar (closed (drop t (ticks_of s.lines)) z) y) (sym (run_taken listing u image t))
      (same_closed (drop t (ticks_of s.lines)) (drop t (ticks_of u.lines)) z))
