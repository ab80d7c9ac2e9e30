-- The headline and its riders, from what holds after each tick.
use Rattle.std.proofs.Common.{◌≡◌, ℕ, ◌+◌, ◌*◌, ◌<◌, ap, refl, sym, ◌∙◌, subst, ⊎_elim, List, [], ◌∷◌, map, length, Option, Some}
use Rattle.hm_base.specs.Image.{Segment}
use Rattle.hm_codes.specs.Listing.{Listing}
use Rattle.hm_order.specs.Machine.{Config}
use Rattle.hm_order.specs.Position.{Holds}
use Rattle.hm_run_laws.specs.Overlap.{AgreesAfter}
use Rattle.hm_run_laws.specs.Ends.{GoesOn}
use Rattle.hm_run_laws.specs.Readings.{ShownInOrder}
use Rattle.hm_run_laws.proofs.Halts.{halts, riders_of, shown_between}
use Rattle.hm_run.specs.Headline.{HaltsInOrder, Headline, Riders}
use Rattle.hm_run.specs.InOrder.{Full, in_order}
use Rattle.hm_run.specs.Report.{memory_text, report_text}
use Rattle.hm_run.specs.declared.Outcome.{Outcome}
use Rattle.hm_run.specs.declared.Outcome.TheVariants as outcome
use Rattle.hm_run.specs.declared.Reason.{Reason}
use Rattle.hm_run.specs.Program.{Program}
use Rattle.hm_run.specs.Timed.{Timed, thread_program}
use Rattle.hm_sched.specs.Schedule.{Sched, ticks_of}
use Rattle.hm_state.specs.Start.{start}
use Rattle.hm_state.specs.State.{State}
use Rattle.hm_run_laws.specs.Nested.{Interrupted, Nested}
use Rattle.hm_run_laws.specs.Order.{HaltsInThread, KeepsOrder, thread_at, thread_of}
use Rattle.hm_run_laws.specs.Runs.{Run, run, run_out, shown, stacked_of}
use Rattle.hm_run_laws.proofs.Order.{keeps_order}

-- what is counted is the thread's
pub counted_n : (c : Config State) (acts : List Interrupted) → (thread_of c acts).n ≡ c.n
counted_n c [] = refl
counted_n c (x ∷ []) = refl
counted_n c (x ∷ y ∷ acts) = counted_n c (y ∷ acts)

counted_steps : (c : Config State) (acts : List Interrupted) → (thread_of c acts).steps ≡ c.steps
counted_steps c [] = refl
counted_steps c (x ∷ []) = refl
counted_steps c (x ∷ y ∷ acts) = counted_steps c (y ∷ acts)

module _ (listing : Listing) (image : List Segment) (s : Sched) where
  abbrev machine : Program
  machine = thread_program listing s

  -- while the run goes on, what holds of the thread
  pub going_on : (x : Run) → KeepsOrder listing image s x → GoesOn x.outcome → Holds machine (start image) (thread_of x.machine.config x.machine.acts)
  going_on x keeps on = ⊎_elim
      (λ e. subst (λ (q : Option Outcome). AgreesAfter machine (start image) q (thread_at q x.machine.config x.machine.acts)) e keeps.thread)
      (λ e. subst (λ (q : Option Outcome). AgreesAfter machine (start image) q (thread_at q x.machine.config x.machine.acts)) e keeps.thread) on

  between_at : (x : Run) → KeepsOrder listing image s x → GoesOn x.outcome → (thread_of x.machine.config x.machine.acts).a ≡ 0
      → ShownInOrder listing image x.machine.config.n (thread_of x.machine.config x.machine.acts).state
  between_at x keeps on none =
      let c = thread_of x.machine.config x.machine.acts in
      subst (λ (n : ℕ). ShownInOrder listing image n c.state) (counted_n x.machine.config x.machine.acts)
      (shown_between listing image s c (going_on x keeps on) none)

  pub between_every : (t : ℕ) → let x = run listing image s t in GoesOn x.outcome → (thread_of x.machine.config x.machine.acts).a ≡ 0
      → ShownInOrder listing image x.machine.config.n (thread_of x.machine.config x.machine.acts).state
  between_every t on none = between_at (run listing image s t) (keeps_order listing image s t) on none

  -- where it has halted the thread stands as it is
  halted_at : (o : Option Outcome) (reason : Reason) (n : ℕ) (x : Nested) → o ≡ Some (outcome.Halted reason n)
      → AgreesAfter machine (start image) o (thread_at o x.config x.acts)
      → AgreesAfter machine (start image) o x.config
  halted_at o reason n x e h =
      subst (λ (q : Option Outcome). AgreesAfter machine (start image) q x.config) (sym e)
      (subst (λ (q : Option Outcome). AgreesAfter machine (start image) q (thread_at q x.config x.acts)) e h)

  halts_alone : (o : Option Outcome) (reason : Reason) (n : ℕ) (acts : List Interrupted) → o ≡ Some (outcome.Halted reason n) → HaltsInThread o acts → acts ≡ []
  halts_alone o reason n acts e h = subst (λ (q : Option Outcome). HaltsInThread q acts) e h

  halts_in_order : (x : Run) (report file : List ℕ) → KeepsOrder listing image s x → report ≡ report_text (shown x) → file ≡ memory_text (shown x)
      → (reason : Reason) (n : ℕ) → x.outcome ≡ Some (outcome.Halted reason n) → HaltsInOrder listing image report file reason n
  halts_in_order x report file keeps r f reason n e =
      halts listing image s (shown x) report file (halted_at x.outcome reason n x.machine e keeps.thread)
      (ap (map stacked_of) (halts_alone x.outcome reason n x.machine.acts e keeps.halts)) r f reason n e

  pub headline_every : (report file : List ℕ) → report ≡ report_text (shown (run_out listing image s)) → file ≡ memory_text (shown (run_out listing image s))
      → Headline listing image (shown (run_out listing image s)) report file
  headline_every report file r f =
      let t = length (ticks_of s.lines) in
      record { report_is = r; file_is = f; in_order = halts_in_order (run_out listing image s) report file (keeps_order listing image s t) r f }

  -- THE RIDERS, of the thread, whose numbers are those that are shown
  abbrev thread_shown : Run → Timed
  thread_shown x = record (shown x) { config = thread_at x.outcome x.machine.config x.machine.acts }

  full_n : (o : Option Outcome) (t : ℕ) (c : Config State) (acts : List Interrupted) → o ≡ Some (outcome.OutputFull t) → (thread_at o c acts).n ≡ c.n
  full_n o t c acts e = ap (λ (q : Option Outcome). (thread_at q c acts).n) e

  out_steps : (o : Option Outcome) (c : Config State) (acts : List Interrupted) → o ≡ Some outcome.OutOfTicks → (thread_at o c acts).steps ≡ c.steps
  out_steps o c acts e = ap (λ (q : Option Outcome). (thread_at q c acts).steps) e ∙ counted_steps c acts

  riders_at : (x : Run) → KeepsOrder listing image s x → Riders listing image (shown x)
  riders_at x keeps =
      let rides = riders_of listing image s (thread_shown x) keeps.thread in
      let c = x.machine.config in
      record {
        fault = rides.fault;
        full = λ t e. subst (λ (n : ℕ). (u : State) × (in_order listing image (n + 1) ≡ Full (n + 1) u)) (full_n x.outcome t c x.machine.acts e)
            (rides.full t e);
        few = λ reason n u h e. subst (λ (k : ℕ). k < 4 * n) (out_steps x.outcome c x.machine.acts e) (rides.few reason n u h e);
      }

  pub riders_every : Riders listing image (shown (run_out listing image s))
  riders_every = riders_at (run_out listing image s) (keeps_order listing image s (length (ticks_of s.lines)))
