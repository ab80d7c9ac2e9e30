-- Where instructions in order halt at the n-th, every run that halts shows what the plain run of n ticks does.
use Rattle.std.proofs.Common.{◌≡◌, ℕ, sym, ap, ◌∙◌, subst, length, List, [], Some, Option}
use Rattle.hm_base.specs.Image.{Segment}
use Rattle.hm_codes.specs.Listing.{Listing}
use Rattle.hm_run_laws.proofs.Alike.{alike_every}
use Rattle.hm_run_laws.proofs.Order.{keeps_order}
use Rattle.hm_run_laws.specs.Order.{HaltsInThread, thread_at}
use Rattle.hm_run_laws.specs.Nested.{Nested}
use Rattle.hm_run_laws.specs.Runs.{run_out}
use Rattle.hm_run_laws.proofs.Halts.{halted_as}
use Rattle.hm_run_laws.proofs.Plain.{plain_ends}
use Rattle.hm_run_laws.proofs.Readings.{shown_alike}
use Rattle.hm_run_laws.specs.Plain.{plain_end}
use Rattle.hm_run_laws.specs.Overlap.{AgreesAfter, HaltsAfter}
use Rattle.hm_run_laws.specs.Readings.{ShownAlike}
use Rattle.hm_run.specs.declared.Outcome.{Outcome}
use Rattle.hm_run.specs.declared.Outcome.TheVariants as outcome
use Rattle.hm_run.specs.declared.Reason.{Reason}
use Rattle.hm_run.specs.declared.Reason.TheVariants.{Break}
use Rattle.hm_run.specs.InOrder.{Halted, InOrder, in_order}
use Rattle.hm_run.specs.Timed.{thread_program}
use Rattle.hm_sched.specs.Schedule.{Sched, plain, ticks_of}
use Rattle.hm_state.specs.Start.{start}
use Rattle.hm_state.specs.State.{State, regs_of}
use Rattle.hm_soak_laws.specs.Summary.{EndsAlike, HaltsInOrder}
use Rattle.hm_soak_laws.proofs.Counting.{Counts, run_counts}

-- the order's state at a halt
record AtHalt (listing : Listing) (image : List Segment) (x : Nested) (r : Reason) (n : ℕ) : Type 0 where
  order : State
  halts : in_order listing image n ≡ Halted r n order
  retired : x.config.n ≡ n
  alike : ShownAlike x.config.state order

same_state : (r q : Reason) (n : ℕ) (s t : State) → Halted r n s ≡ Halted q n t → s ≡ t
same_state r q n s t e = cc

module _ (listing : Listing) (image : List Segment) where
  at_halt : (s : Sched) (r : Reason) (n : ℕ) → (run_out listing image s).outcome ≡ Some (outcome.Halted r n)
      → AtHalt listing image (run_out listing image s).machine r n
  at_halt s r n e =
      let x = run_out listing image s in
      let alone : x.machine.acts ≡ [] =
      subst (λ (q : Option Outcome). HaltsInThread q x.machine.acts) e (keeps_order listing image s (length (ticks_of s.lines))).halts in
      let counts : Counts (Some (outcome.Halted r n)) x.machine.acts x.machine.config.n =
      subst (λ (q : Option Outcome). Counts q x.machine.acts x.machine.config.n) e (run_counts s listing image (length (ticks_of s.lines))) in
      let keeps = keeps_order listing image s (length (ticks_of s.lines)) in
      let h : HaltsAfter (thread_program listing s) (start image) r n x.machine.config =
      subst (λ (q : Option Outcome). AgreesAfter (thread_program listing s) (start image) q (thread_at q x.machine.config x.machine.acts)) e keeps.thread in
      record {
        order = h.between.order;
        halts = halted_as listing image s r n x.machine.config h;
        retired = counts alone;
        alike = shown_alike x.machine.config.state h.between.order h.between.live h.between.pc;
      }

  pub halted_retired : (s : Sched) (r : Reason) (n : ℕ) → (run_out listing image s).outcome ≡ Some (outcome.Halted r n)
      → (run_out listing image s).machine.config.n ≡ n
  halted_retired s r n e = (at_halt s r n e).retired

  pub plain_halts : (n : ℕ) → HaltsInOrder listing image n → (run_out listing image (plain n)).outcome ≡ Some (outcome.Halted (Break 0) n)
  plain_halts n h =
      plain_ends listing image n ∙ ap (λ (y : InOrder). Some (plain_end y)) h.halts

  pub ends_alike : (n : ℕ) (s : Sched) (r : Reason) (k : ℕ) → HaltsInOrder listing image n → (run_out listing image s).outcome ≡ Some (outcome.Halted r k)
      → EndsAlike listing image n s r k
  ends_alike n s r k h e =
      let f = plain_halts n h in
      let same = alike_every listing image s (plain n) r (Break 0) k n e f in
      let x = at_halt s r k e in
      let y = at_halt (plain n) (Break 0) n f in
      let there : in_order listing image n ≡ Halted r n x.order = subst (λ (m : ℕ). in_order listing image m ≡ Halted r m x.order) same.number x.halts in
      let one : x.order ≡ y.order = same_state r (Break 0) n x.order y.order (sym there ∙ y.halts) in
      record {
        reason = same.reason;
        number = same.number;
        retired = x.retired ∙ same.number;
        plain_halts = f;
        same = record {
          registers = x.alike.registers ∙ ap regs_of one ∙ sym y.alike.registers;
          output = x.alike.output ∙ ap (λ (t : State). t.rest.output) one ∙ sym y.alike.output;
        };
      }
