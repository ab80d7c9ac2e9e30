-- Where nothing is interrupted, a step is the thread's; and under a schedule without entries nothing ever is.
use Rattle.std.proofs.Common.{◌≡◌, ℕ, zero, suc, ◌==◌, ◌+◌, ap, refl, sym, ◌∙◌, subst, Bool, false, cond, List, [], ◌∷◌, drop, length, Option, Some, None}
use Rattle.std.proofs.Common.{arith}
use Rattle.std.proofs.Common.{Result, Ok, Err}
use Rattle.hm_base.specs.Image.{Segment}
use Rattle.hm_codes.specs.Listing.{Listing}
use Rattle.hm_run_laws.proofs.Choices.{either}
use Rattle.hm_run_laws.proofs.Order.{keeps_order, still_thread}
use Rattle.hm_run_laws.specs.Nested.{Ended, Interrupted, Nested, NestedEnd, NestedStep, Offends, TickEnd, at_step, letter, letters, step, steps, to_end}
use Rattle.hm_run_laws.specs.Nested.{with_acts}
use Rattle.hm_run_laws.specs.Order.{thread_at}
use Rattle.hm_run_laws.specs.Runs.{Pointers, Run, after_count, begin, closed, ended, enters, may_enter, next, picks, run, shown, stops, tick, tick_of}
use Rattle.hm_run_laws.proofs.Wholes.{older_steps, to_end as thread_to_end}
use Rattle.hm_run_laws.specs.Overlap.{AgreesAfter, StaysInOrder}
use Rattle.hm_order.specs.Beats.{then}
use Rattle.hm_order.specs.Machine.{Config, Stopped, Broken, older, younger}
use Rattle.hm_order.specs.InFlight.{Older, Younger}
use Rattle.hm_run.specs.declared.Outcome.{Outcome}
use Rattle.hm_run.specs.declared.Outcome.TheVariants as outcome
use Rattle.hm_run.specs.Program.{Program, Stepped, steps_left, vector_of}
use Rattle.hm_run.specs.Timed.{thread_program}
use Rattle.hm_sched.specs.Schedule.{TickLine, Sched, older_letter, younger_letter, ticks_of}
use Rattle.hm_state.specs.Start.{start}
use Rattle.hm_state.specs.State.{State}
use Rattle.hm_window.specs.Positions.{may_end}
use Rattle.hm_window.specs.declared.rule.Rule.TheVariants as rule

-- nothing is interrupted
abbrev pub uninterrupted : Config State → Nested
uninterrupted c = record { config = c; acts = [] }

-- and nothing entered
abbrev pub quiet : Option Outcome → Config State → ℕ → Run
quiet o c t = record { outcome = o; machine = uninterrupted c; ticks = t; entries = [] }

pub alone_is : (x : Nested) → x.acts ≡ [] → x ≡ uninterrupted x.config
alone_is x h = λ j. record { config = x.config; acts = h j }

-- nothing is interrupted, and these are the stack pointers at its entries
pub record Still (es : List Pointers) (x : Run) : Type 0 where
  pub acts : x.machine.acts ≡ []
  pub entries : x.entries ≡ es

module _ (listing : Listing) (s : Sched) where
  abbrev machine : Program
  machine = thread_program listing s

  -- STEPS
  then_alone : (r : Stepped) (f : Config State → Stepped) (g : Nested → NestedStep) → ((c : Config State) → g (uninterrupted c) ≡ with_acts [] (f c))
      → then (with_acts [] r) g ≡ with_acts [] (then r f)
  then_alone (Ok c) f g h = h c
  then_alone (Err e) f g h = refl

  steps_alone : (k : ℕ) (c : Config State) → steps listing s k (uninterrupted c) ≡ with_acts [] (older_steps machine k c)
  steps_alone zero c = refl
  steps_alone (suc k) c = then_alone (older machine c) (older_steps machine k) (steps listing s k) (steps_alone k)

  -- the older instruction to its end
  pub ends_alone : (c : Config State) → to_end listing s (uninterrupted c) ≡ with_acts [] (thread_to_end machine c)
  ends_alone c = steps_alone (steps_left (vector_of (listing c.state.pc)) c.a) c

  -- LETTERS leave nothing interrupted
  abbrev acts_in : NestedEnd → List Interrupted
  acts_in (Ended e acts) = acts
  acts_in (Offends what c acts) = acts

  abbrev Alone : NestedStep → Type 0
  Alone (Ok x) = x.acts ≡ []
  Alone (Err e) = acts_in e ≡ []

  abbrev AloneTick : Result Nested TickEnd → Type 0
  AloneTick (Ok x) = x.acts ≡ []
  AloneTick (Err e) = acts_in e.end ≡ []

  with_none : (r : Stepped) → Alone (with_acts [] r)
  with_none r = grind arith

  letter_none : (l : ℕ) (c : Config State) → Alone (letter listing s l (uninterrupted c))
  letter_none l c =
      let older_one = step listing s Older (uninterrupted c) in
      let younger_one = step listing s Younger (uninterrupted c) in
      let all = to_end listing s (uninterrupted c) in
      either Alone (l == older_letter) older_one (cond (l == younger_letter) younger_one all) (with_none (older machine c))
      (either Alone (l == younger_letter) younger_one all (with_none (younger machine c))
      (subst Alone (sym (ends_alone c)) (with_none (thread_to_end machine c))))

  at_step_none : (k : ℕ) (younger : Bool) (r : NestedStep) → Alone r → AloneTick (at_step k younger r)
  at_step_none k younger (Ok x) h = h
  at_step_none k younger (Err e) h = h

  then_none : (r : Result Nested TickEnd) (f : Nested → Result Nested TickEnd) → AloneTick r → ((c : Config State) → AloneTick (f (uninterrupted c)))
      → AloneTick (then r f)
  then_none (Ok x) f h k = subst (λ (y : Nested). AloneTick (f y)) (sym (alone_is x h)) (k x.config)
  then_none (Err e) f h k = h

  letters_none : (ls : List ℕ) (k : ℕ) (c : Config State) → AloneTick (letters listing s k ls (uninterrupted c))
  letters_none [] k c = refl
  letters_none (l ∷ ls) k c =
      then_none (at_step (k + 1) (l == younger_letter) (letter listing s l (uninterrupted c))) (letters listing s (k + 1) ls)
      (at_step_none (k + 1) (l == younger_letter) (letter listing s l (uninterrupted c)) (letter_none l c)) (letters_none ls (k + 1))

  -- TICKS without entries
  stops_still : (es : List Pointers) (t k : ℕ) (younger : Bool) (e : NestedEnd) → acts_in e ≡ [] → Still es (stops t k younger e es)
  stops_still es t k younger (Ended (Stopped c e) acts) h = record { acts = h; entries = refl }
  stops_still es t k younger (Ended (Broken c r) acts) h = record { acts = h; entries = refl }
  stops_still es t k younger (Offends what c acts) h = record { acts = h; entries = refl }

  module _ (none : s.entries ≡ false) where
    may_enter_still : (es : List Pointers) (x : Run) → Still es x → Still es (may_enter s x)
    may_enter_still es x h = subst (λ (b : Bool). Still es (cond b (enters s (picks x) x) x)) (sym none) h

    ended_still : (line : TickLine) (x : Run) (r : Result Nested TickEnd) → AloneTick r → Still x.entries (ended s line x r)
    ended_still line x (Ok m) h =
        let y : Run = record { outcome = None; machine = m; ticks = x.ticks + 1; entries = x.entries } in
        let broken : Outcome = outcome.RuleBroken y.ticks (length line.letters) (rule.Ending m.config.a m.config.b) in
        either (Still x.entries) (may_end m.config.a m.config.b) (may_enter s (after_count line y)) (record y { outcome = Some broken })
        (may_enter_still x.entries (after_count line y) (record { acts = h; entries = refl })) (record { acts = h; entries = refl })
    ended_still line x (Err e) h = stops_still x.entries (x.ticks + 1) e.step e.younger e.end h

    tick_by : (line : TickLine) (x : Run) (o : Option Outcome) → x.machine.acts ≡ [] → Still x.entries (tick_of listing s line x o)
    tick_by line x (Some o) h = record { acts = h; entries = refl }
    tick_by line x None h =
        ended_still line x (letters listing s 0 line.letters x.machine)
        (subst (λ (m : Nested). AloneTick (letters listing s 0 line.letters m)) (sym (alone_is x.machine h)) (letters_none line.letters 0 x.machine.config))

    pub tick_still : (line : TickLine) (x : Run) → x.machine.acts ≡ [] → Still x.entries (tick listing s line x)
    tick_still line x h = tick_by line x x.outcome h

    closed_still : (es : List Pointers) (left : List TickLine) (x : Run) → Still es x → Still es (closed left x)
    closed_still es [] x h = record { acts = h.acts; entries = h.entries }
    closed_still es (line ∷ left) x h = h

    next_still : (es : List Pointers) (left : List TickLine) (x : Run) → Still es x → Still es (next listing s left x)
    next_still es [] x h = h
    next_still es (line ∷ left) x h =
        let y = tick_still line x h.acts in
        closed_still es left (tick listing s line x) (record { acts = y.acts; entries = y.entries ∙ h.entries })

    still_from : (image : List Segment) (t : ℕ) → Still [] (run listing image s t)
    still_from image zero = closed_still [] (ticks_of s.lines) (begin image s) (record { acts = refl; entries = refl })
    still_from image (suc t) = next_still [] (drop t (ticks_of s.lines)) (run listing image s t) (still_from image t)

pub run_still : (listing : Listing) (image : List Segment) (s : Sched) (t : ℕ) → s.entries ≡ false
    → let x = run listing image s t in (x.machine.acts ≡ []) × (x.entries ≡ [])
run_still listing image s t none = let h = still_from listing s none image t in (h.acts, h.entries)

-- so whole instructions in order agree with what is shown
pub stays_in_order : (listing : Listing) (image : List Segment) (s : Sched) (t : ℕ) → s.entries ≡ false
    → StaysInOrder listing image s (shown (run listing image s t))
stays_in_order listing image s t none =
    let x = run listing image s t in
    subst (AgreesAfter (thread_program listing s) (start image) x.outcome)
    (ap (thread_at x.outcome x.machine.config) (run_still listing image s t none).0 ∙ still_thread x.outcome x.machine.config)
    (keeps_order listing image s t).thread
