-- A plain schedule: each tick does one whole instruction, or ends the run at it. All else is what holds for any schedule.
use Rattle.std.proofs.Common.{◌≡◌, ℕ, zero, suc, ◌+◌, ◌-◌, ◌<◌, ◌≤◌, arith, ap, refl, sym, ◌∙◌, subst, ◌⊎◌, ⊎_elim, inl, inr, Bool, false, cond, List, []}
use Rattle.std.proofs.Common.{◌∷◌, drop, length, map, Option, Some, None, Result, Ok, Err}
use Rattle.hm_base.specs.Image.{Segment}
use Rattle.hm_beat.specs.Laws.{NoTaint}
use Rattle.hm_codes.specs.Listing.{Listing}
use Rattle.hm_run_laws.proofs.Ends.{next_ended}
use Rattle.hm_run_laws.proofs.Quiet.{ends_alone, quiet, run_still, stays_in_order}
use Rattle.hm_run_laws.specs.Nested.{NestedStep, at_step, letters, with_acts}
use Rattle.hm_run_laws.specs.Runs.{Run, begin, closed, ended, enters, next, picks, run, run_out, shown, shown_out, stacked_of}
use Rattle.hm_run_laws.proofs.Breakpoints.{Leaves}
use Rattle.hm_run_laws.proofs.Halts.{fault_as, full_as, halted_as, kept, reports_going, reports_stop, shown_between}
use Rattle.hm_run_laws.proofs.Stopped.{stopped_later}
use Rattle.hm_run_laws.proofs.Ticks.{clean_start}
use Rattle.hm_run_laws.proofs.Wholes.{Comes, between, leaves, to_end, whole_step}
use Rattle.hm_run_laws.specs.Ends.{GoesOn}
use Rattle.hm_run_laws.specs.Stopped.{HasStopped}
use Rattle.hm_run_laws.specs.Overlap.{HaltsAfter, StaysInOrder, StopsBetween}
use Rattle.hm_run_laws.specs.Sequence.{FaultsAt}
use Rattle.hm_mem.specs.Memory.{Around, thread_under}
use Rattle.hm_order.specs.Beats.{then}
use Rattle.hm_order.specs.Machine.{Config}
use Rattle.hm_order.specs.Position.{Holds}
use Rattle.hm_run_laws.specs.Plain.{plain_end, plain_ticks}
use Rattle.hm_run.specs.declared.Outcome.{Outcome}
use Rattle.hm_run.specs.declared.Outcome.TheVariants as outcome
use Rattle.hm_run.specs.declared.Who.TheVariants.{Thread, Handler, Entry}
use Rattle.hm_run.specs.Headline.{PlainReport}
use Rattle.hm_run.specs.InOrder.{InOrder, Halted, Full, Faulted, in_order}
use Rattle.hm_run.specs.Program.{Program, Stepped, alone as whole_alone}
use Rattle.hm_run.specs.Report.{outcome_line}
use Rattle.hm_run.specs.Stops as why
use Rattle.hm_run.specs.Stops.{WholeStop}
use Rattle.hm_run.specs.Timed.{Timed, bounds_of, counted_with, or_out, thread_program, with_devices}
use Rattle.hm_sched.specs.Schedule.{Sched, TickLine, plain_line, plain, plain_lines, repeat, ticks_of}
use Rattle.hm_state.specs.Start.{start}
use Rattle.hm_state.specs.State.{State}

-- A run of plain ticks ends at one of its first t instructions: it halts there, has a fault, or has no room for its output.
-- Nothing else ends it before it is out of ticks.
abbrev PlainlyEnds : ℕ → Config State → Outcome → Type 0
PlainlyEnds t c outcome.OutOfTicks = ⊥
PlainlyEnds t c (outcome.Halted reason k) = k ≤ t
PlainlyEnds t c (outcome.Fault Thread f pc k) = k < t
PlainlyEnds t c (outcome.Fault Handler f pc k) = ⊥
PlainlyEnds t c (outcome.Fault Entry f pc k) = ⊥
PlainlyEnds t c (outcome.RuleBroken i j r) = ⊥
PlainlyEnds t c (outcome.HandlerBroken i what) = ⊥
PlainlyEnds t c (outcome.TaintedRead i pc addr) = ⊥
PlainlyEnds t c (outcome.StackSpent i sp) = ⊥
PlainlyEnds t c (outcome.OutputFull k) = (k ≤ t) × (k ≡ c.n + 1)

-- the outcome of a run that goes on, where so many ticks are left
abbrev left_out : ℕ → Option Outcome
left_out zero = Some outcome.OutOfTicks
left_out (suc k) = None

-- a run that goes on after t ticks: t instructions are done, no byte is tainted, and nothing was interrupted
record Goes (left t : ℕ) (x : Run) : Type 0 where
  steps : ℕ
  state : State
  run : x ≡ quiet (left_out left) (between t steps state) t
  clean : NoTaint state

-- in which tick a plain run ends so
abbrev ended_in : Outcome → ℕ
ended_in (outcome.Halted reason k) = k
ended_in (outcome.Fault who f pc k) = k + 1
ended_in (outcome.OutputFull k) = k
ended_in o = 0

-- a run that one of the first t instructions ended
record Ends (t : ℕ) (x : Run) : Type 0 where
  end : Outcome
  outcome : x.outcome ≡ Some end
  plainly : PlainlyEnds t x.machine.config end
  ticks : x.ticks ≡ ended_in end

abbrev Plainly : ℕ → ℕ → Run → Type 0
Plainly left t x = Goes left t x ⊎ Ends t x

-- ONE TICK
later_ends : (t : ℕ) (c : Config State) (o : Outcome) → PlainlyEnds t c o → PlainlyEnds (suc t) c o
later_ends t c (outcome.Halted reason k) h = omega arith
later_ends t c (outcome.Fault Thread f pc k) h = omega arith
later_ends t c (outcome.OutputFull k) h = let few = h.0 in (omega arith, h.1)
later_ends t c o h = absurd h

closed_ends : (rest : List TickLine) (t : ℕ) (y : Run) → Ends t y → Ends t (closed rest y)
closed_ends [] t y h = record { end = h.end; outcome = ap or_out h.outcome; plainly = h.plainly; ticks = h.ticks }
closed_ends (l ∷ rest) t y h = h

closed_goes : (line : TickLine) (left t k : ℕ) (u : State) → NoTaint u → Goes left t (closed (repeat left line []) (quiet None (between t k u) t))
closed_goes line zero t k u clean = record { steps = k; state = u; run = refl; clean = clean }
closed_goes line (suc left) t k u clean = record { steps = k; state = u; run = refl; clean = clean }

module _ (listing : Listing) (s : Sched) (n : ℕ) (none : s.entries ≡ false) where
  abbrev machine : Program
  machine = thread_program listing s

  abbrev around : Around
  around = thread_under (bounds_of s)

  -- the end of a plain tick after t others, by what the letter comes to
  abbrev after_tick : ℕ → Config State → NestedStep → Run
  after_tick t c r = ended s (plain_line n) (quiet None c t) (then (at_step 1 false r) (letters listing s 1 []))

  abbrev rest : ℕ → List TickLine
  rest left = repeat left (plain_line n) []

  -- where it goes on nothing enters
  goes_on : (t j : ℕ) (c : Config State) (u : State) → after_tick t c (with_acts [] (Ok (between (suc t) j u)))
      ≡ quiet None (between (suc t) j (with_devices (counted_with (plain_line n).irq) u)) (suc t)
  goes_on t j c u =
      let one : t + 1 ≡ suc t = omega arith in
      let x = quiet None (between (suc t) j (with_devices (counted_with (plain_line n).irq) u)) in
      ap (λ (b : Bool). cond b (enters s (picks (x (t + 1))) (x (t + 1))) (x (t + 1))) none ∙ ap x one

  tick_comes : (left t : ℕ) (c : Config State) (q : Result State WholeStop) → Leaves q → (r : Stepped) → Comes t q r
      → Plainly left (suc t) (closed (rest left) (after_tick t c (with_acts [] r)))
  tick_comes left t c (Ok u) leaves r h =
      subst (λ (r : Stepped). Plainly left (suc t) (closed (rest left) (after_tick t c (with_acts [] r)))) (sym h.1)
      (subst (λ (y : Run). Plainly left (suc t) (closed (rest left) y)) (sym (goes_on t h.0 c u)) (inl (closed_goes (plain_line n) left (suc t) h.0 _ leaves)))
  tick_comes left t c (Err (why.Halt reason)) leaves r h =
      let same = h.1 in
      subst (λ (r : Stepped). Plainly left (suc t) (closed (rest left) (after_tick t c (with_acts [] r)))) (sym h.2)
      (inr (closed_ends (rest left) (suc t) _
      (record { end = outcome.Halted reason (h.0.n + 1); outcome = refl; plainly = omega arith; ticks = omega arith })))
  tick_comes left t c (Err why.Full) leaves r h =
      let same = h.1 in
      subst (λ (r : Stepped). Plainly left (suc t) (closed (rest left) (after_tick t c (with_acts [] r)))) (sym h.2)
      (inr (closed_ends (rest left) (suc t) _
      (record { end = outcome.OutputFull (t + 1); outcome = refl; plainly = (omega arith, omega arith); ticks = refl })))
  tick_comes left t c (Err (why.Faults f)) leaves r h =
      let same = h.1 in
      subst (λ (r : Stepped). Plainly left (suc t) (closed (rest left) (after_tick t c (with_acts [] r)))) (sym h.2)
      (inr (closed_ends (rest left) (suc t) _
      (record { end = outcome.Fault Thread f h.0.state.pc h.0.n; outcome = refl; plainly = omega arith; ticks = omega arith })))

  tick_goes : (left t : ℕ) (x : Run) → Goes (suc left) t x → Plainly left (suc t) (next listing s (plain_line n ∷ rest left) x)
  tick_goes left t x h =
      let c = between t h.steps h.state in
      subst (λ (y : Run). Plainly left (suc t) (next listing s (plain_line n ∷ rest left) y)) (sym h.run)
      (subst (λ (r : NestedStep). Plainly left (suc t) (closed (rest left) (after_tick t c r))) (sym (ends_alone listing s c))
      (tick_comes left t c (whole_alone listing h.state) (leaves around refl (listing h.state.pc) h.state h.clean) (to_end machine c)
      (whole_step listing around refl t h.steps h.state h.clean)))

  tick_plainly : (left t : ℕ) (x : Run) → Plainly (suc left) t x → Plainly left (suc t) (next listing s (plain_line n ∷ rest left) x)
  tick_plainly left t x (inl h) = tick_goes left t x h
  tick_plainly left t x (inr h) =
      subst (Plainly left (suc t)) (sym (next_ended listing s (plain_line n ∷ rest left) x h.end h.outcome))
      (inr (record { end = h.end; outcome = h.outcome; plainly = later_ends t x.machine.config h.end h.plainly; ticks = h.ticks }))

-- THE TICKS OF A PLAIN SCHEDULE
ticks_plain : (n : ℕ) → ticks_of (plain_lines n) ≡ repeat n (plain_line n) []
ticks_plain zero = refl
ticks_plain (suc n) = refl

drop_repeat : (t n : ℕ) (line : TickLine) → drop t (repeat n line []) ≡ repeat (n - t) line []
drop_repeat zero n line = let e : n - 0 ≡ n = omega arith in rw e refl
drop_repeat (suc t) zero line = let e : 0 - suc t ≡ 0 = omega arith in rw e refl
drop_repeat (suc t) (suc n) line = let e : suc n - suc t ≡ n - t = omega arith in rw e (drop_repeat t n line)

left_at : (t left n : ℕ) → t + suc left ≡ n → drop t (ticks_of (plain_lines n)) ≡ plain_line n ∷ repeat left (plain_line n) []
left_at t left n e =
    let k : n - t ≡ suc left = omega arith in
    ap (drop t) (ticks_plain n) ∙ drop_repeat t n (plain_line n) ∙ ap (λ (j : ℕ). repeat j (plain_line n) []) k

repeat_length : (n : ℕ) (line : TickLine) → length (repeat n line []) ≡ n
repeat_length zero line = refl
repeat_length (suc n) line = ap suc (repeat_length n line)

-- a plain schedule of n ticks has n ticks
pub plain_length : (n : ℕ) → length (ticks_of (plain n).lines) ≡ n
plain_length n = ap length (ticks_plain n) ∙ repeat_length n (plain_line n)

-- A SCHEDULE OF n PLAIN TICKS without entries, whatever its region and its floors
module _ (listing : Listing) (image : List Segment) (s : Sched) (n : ℕ) (none : s.entries ≡ false) (lines : s.lines ≡ plain_lines n) where
  goes_first : (left : ℕ) → n ≡ left → Goes left 0 (closed (ticks_of s.lines) (begin image s))
  goes_first left e =
      subst (λ (l : List TickLine). Goes left 0 (closed l (begin image s)))
      (sym (ap ticks_of lines ∙ ticks_plain n ∙ ap (λ (k : ℕ). repeat k (plain_line n) []) e))
      (closed_goes (plain_line n) left 0 0 _ (clean_start (bounds_of s) image))

  plainly : (t left : ℕ) → t + left ≡ n → Plainly left t (run listing image s t)
  plainly zero left e = let same : n ≡ left = omega arith in inl (goes_first left same)
  plainly (suc t) left e =
      let more : t + suc left ≡ n = omega arith in
      subst (λ (l : List TickLine). Plainly left (suc t) (next listing s l (run listing image s t)))
      (sym (ap (λ (l : List TickLine). drop t (ticks_of l)) lines ∙ left_at t left n more))
      (tick_plainly listing s n none left t (run listing image s t) (plainly t (suc left) more))

  plainly_out : Plainly 0 n (run_out listing image s)
  plainly_out =
      let all : n + 0 ≡ n = omega arith in
      subst (λ (t : ℕ). Plainly 0 n (run listing image s t)) (sym (ap (λ (l : List TickLine). length (ticks_of l)) lines ∙ plain_length n)) (plainly n 0 all)

-- while a plain run goes on, each tick retires one instruction
on_retired : (left t : ℕ) (x : Run) → Plainly left t x → GoesOn x.outcome → (x.machine.config.n ≡ t) × (x.machine.config.a ≡ 0)
on_retired left t x (inl h) on = (ap (λ (y : Run). y.machine.config.n) h.run, ap (λ (y : Run). y.machine.config.a) h.run)
on_retired left t x (inr h) on =
    absurd (⊎_elim (λ e. let no : None ≡ Some h.end = sym e ∙ h.outcome in absurd cc)
    (λ e. over h.end (let same : Some outcome.OutOfTicks ≡ Some h.end = sym e ∙ h.outcome in cc) h.plainly) on)
  where
    over : (o : Outcome) → outcome.OutOfTicks ≡ o → PlainlyEnds t x.machine.config o → ⊥
    over o e p = subst (PlainlyEnds t x.machine.config) (sym e) p

pub retires : (listing : Listing) (image : List Segment) (n t : ℕ) → t ≤ n → let x = run listing image (plain n) t in
    GoesOn x.outcome → (x.machine.config.n ≡ t) × (x.machine.config.a ≡ 0)
retires listing image n t few on =
    let all : t + (n - t) ≡ n = omega arith in
    on_retired (n - t) t (run listing image (plain n) t) (plainly listing image (plain n) n refl refl t (n - t) all) on

-- REPORTS
-- a plain run comes to what the instructions in order come to
pub record Tells (n : ℕ) (x : Timed) (y : InOrder) : Type 0 where
  pub report : PlainReport x y
  pub ends : x.outcome ≡ Some (plain_end y)
  pub ticks : x.ticks ≡ plain_ticks n y

module _ (listing : Listing) (image : List Segment) (s : Sched) (n : ℕ) (no_entries : s.entries ≡ false) (lines : s.lines ≡ plain_lines n) where
  goes_reports : (x : Run) → StaysInOrder listing image s (shown x) → Goes 0 n x → Tells n (shown x) (in_order listing image n)
  goes_reports x keeps h =
      let out : x.outcome ≡ Some outcome.OutOfTicks = ap (λ (y : Run). y.outcome) h.run in
      let holds : Holds (thread_program listing s) (start image) x.machine.config = kept listing image s (shown x) (Some outcome.OutOfTicks) keeps out in
      let stands : x.machine.config.a ≡ 0 = ap (λ (y : Run). y.machine.config.a) h.run in
      let done : x.machine.config.n ≡ n = ap (λ (y : Run). y.machine.config.n) h.run in
      let alone : map stacked_of x.machine.acts ≡ [] = ap (λ (y : Run). map stacked_of y.machine.acts) h.run in
      let there = shown_between listing image s x.machine.config holds stands in
      subst (Tells n (shown x)) (sym there.runs ∙ ap (in_order listing image) done)
      (record { report = reports_going listing image s (shown x) out alone holds stands; ends = out; ticks = ap (λ (y : Run). y.ticks) h.run })

  -- what stopped the instructions in order within n
  within : (x : Timed) (k : ℕ) (y : InOrder) → k ≤ n → in_order listing image k ≡ y → HasStopped y → Tells n x y → Tells n x (in_order listing image n)
  within x k y few e stopped h = subst (Tells n x) (sym (stopped_later listing image k n few (subst HasStopped (sym e) stopped) ∙ e)) h

  ends_reports : (x : Timed) → StaysInOrder listing image s x → x.acts ≡ [] → (o : Outcome) → x.outcome ≡ Some o → PlainlyEnds n x.config o
      → x.ticks ≡ ended_in o → Tells n x (in_order listing image n)
  ends_reports x keeps none outcome.OutOfTicks e p t = absurd p
  ends_reports x keeps none (outcome.Halted reason k) e p t =
      let h : HaltsAfter (thread_program listing s) (start image) reason k x.config = kept listing image s x (Some (outcome.Halted reason k)) keeps e in
      within x k (Halted reason k h.between.order) p (halted_as listing image s reason k x.config h) tt
      (record { report = reports_stop listing image s x (outcome.Halted reason k) h.before (why.Halt reason) e none h.between; ends = e; ticks = t })
  ends_reports x keeps none (outcome.Fault Thread f pc k) e p t =
      let h : FaultsAt (thread_program listing s) (start image) k f pc = kept listing image s x (Some (outcome.Fault Thread f pc k)) keeps e in
      within x (k + 1) (Faulted f.kind pc f.addr k) (omega arith) (fault_as listing image s f pc k h) tt
      (record { report = ap outcome_line e; ends = e; ticks = t })
  ends_reports x keeps none (outcome.Fault Handler f pc k) e p t = absurd p
  ends_reports x keeps none (outcome.Fault Entry f pc k) e p t = absurd p
  ends_reports x keeps none (outcome.RuleBroken i j r) e p t = absurd p
  ends_reports x keeps none (outcome.HandlerBroken i what) e p t = absurd p
  ends_reports x keeps none (outcome.TaintedRead i pc addr) e p t = absurd p
  ends_reports x keeps none (outcome.StackSpent i sp) e p t = absurd p
  ends_reports x keeps none (outcome.OutputFull k) e p t =
      let h : StopsBetween (thread_program listing s) (start image) x.config.n why.Full x.config
      = kept listing image s x (Some (outcome.OutputFull k)) keeps e in
      let same : k ≡ x.config.n + 1 = p.1 in
      let ends = e ∙ ap (λ (i : ℕ). Some (outcome.OutputFull i)) same in
      within x (x.config.n + 1) (Full (x.config.n + 1) h.order) (subst (λ (i : ℕ). i ≤ n) same p.0) (full_as listing image s x.config h) tt
      (record {
        report = reports_stop listing image s x (outcome.OutputFull (x.config.n + 1)) x.config.n why.Full ends none h;
        ends = ends;
        ticks = t ∙ same;
      })

  plain_reports : (x : Run) → StaysInOrder listing image s (shown x) → x.machine.acts ≡ [] → Plainly 0 n x → Tells n (shown x) (in_order listing image n)
  plain_reports x keeps alone (inl h) = goes_reports x keeps h
  plain_reports x keeps alone (inr h) = ends_reports (shown x) keeps (ap (map stacked_of) alone) h.end h.outcome h.plainly h.ticks

  pub tells : Tells n (shown_out listing image s) (in_order listing image n)
  tells =
      let t = length (ticks_of s.lines) in
      plain_reports (run_out listing image s) (stays_in_order listing image s t no_entries) (run_still listing image s t no_entries).0
      (plainly_out listing image s n no_entries lines)

-- a plain run reports what the instructions in order come to
pub reports : (listing : Listing) (image : List Segment) (n : ℕ) → PlainReport (shown_out listing image (plain n)) (in_order listing image n)
reports listing image n = (tells listing image (plain n) n refl refl).report

-- and it ends as they do
pub plain_ends : (listing : Listing) (image : List Segment) (n : ℕ) → (shown_out listing image (plain n)).outcome ≡ Some (plain_end (in_order listing image n))
plain_ends listing image n = (tells listing image (plain n) n refl refl).ends
