-- Two runs of one image that halt come to one state in order.
use Rattle.std.proofs.Common.{◌≡◌, ℕ, ◌+◌, ◌≤◌, ap, refl, sym, ◌∙◌, subst, ◌⊎◌, ⊎_elim, inl, inr, zero, suc, arith, List, Some}
use Rattle.hm_base.specs.Image.{Segment, sram_start}
use Rattle.hm_codes.specs.Listing.{Listing}
use Rattle.hm_run_laws.proofs.Stopped.{stopped_later}
use Rattle.hm_run_laws.specs.Stopped.{HasStopped}
use Rattle.hm_run.specs.Headline.{HaltsInOrder}
use Rattle.hm_run.specs.InOrder.{InOrder, Halted, in_order, in_order_report}
use Rattle.hm_run.specs.Report.{memory_text, report_text}
use Rattle.hm_run.specs.Timed.{Timed}
use Rattle.hm_run.specs.declared.Outcome.TheVariants as outcome
use Rattle.hm_run.specs.declared.Reason.{Reason}
use Rattle.hm_sched.specs.Schedule.{Sched}
use Rattle.hm_state.specs.State.{State, Byte}
use Rattle.hm_run_laws.specs.Alike.{HaltAlike}
use Rattle.hm_run_laws.specs.Runs.{run_out, shown}
use Rattle.hm_run_laws.proofs.Headlines.{headline_every}

either_way : (n m : ℕ) → (n ≤ m) ⊎ (m ≤ n)
either_way zero m = inl (omega arith)
either_way (suc n) zero = inr (omega arith)
either_way (suc n) (suc m) = ⊎_elim (λ h. inl (omega arith)) (λ h. inr (omega arith)) (either_way n m)

abbrev halted : Reason → ℕ → State → InOrder
halted r n s = Halted r n s

-- the parts of a halt
pub record SameHalt (r q : Reason) (n m : ℕ) (s t : State) : Type 0 where
  reason : r ≡ q
  number : n ≡ m
  state : s ≡ t

same_halt : (r q : Reason) (n m : ℕ) (s t : State) → halted r n s ≡ halted q m t → SameHalt r q n m s t
same_halt r q n m s t e = record { reason = cc; number = cc; state = cc }

module _ (listing : Listing) (image : List Segment) where
  later : (r q : Reason) (n m : ℕ) (s t : State) → in_order listing image n ≡ Halted r n s → in_order listing image m ≡ Halted q m t → n ≤ m
      → SameHalt r q n m s t
  later r q n m s t e f le =
      let stopped : HasStopped (in_order listing image n) = subst HasStopped (sym e) tt in
      same_halt r q n m s t (sym e ∙ sym (stopped_later listing image n m le stopped) ∙ f)

  one_halt : (r q : Reason) (n m : ℕ) (s t : State) → in_order listing image n ≡ Halted r n s → in_order listing image m ≡ Halted q m t → SameHalt r q n m s t
  one_halt r q n m s t e f =
      ⊎_elim (λ le. later r q n m s t e f le)
      (λ le. let h = later q r m n t s f e le in record { reason = sym h.reason; number = sym h.number; state = sym h.state }) (either_way n m)

  alike : (x y : Timed) (r q : Reason) (n m : ℕ) → HaltsInOrder listing image (report_text x) (memory_text x) r n
      → HaltsInOrder listing image (report_text y) (memory_text y) q m
      → HaltAlike x y r q n m
  alike x y r q n m h k =
      let same = one_halt r q n m h.state k.state h.halts k.halts in
      record {
        reason = same.reason;
        number = same.number;
        report = h.report_is ∙ (λ j. in_order_report (Halted (same.reason j) (same.number j) (same.state j))) ∙ sym k.report_is;
        bytes = λ j lt clean clear. h.bytes j lt clean ∙ ap (λ (s : State). (s.cell (Byte (sram_start + j))).n) same.state ∙ sym (k.bytes j lt clear);
      }

  pub alike_every : (s u : Sched) (r q : Reason) (n m : ℕ) → (run_out listing image s).outcome ≡ Some (outcome.Halted r n)
      → (run_out listing image u).outcome ≡ Some (outcome.Halted q m)
      → HaltAlike (shown (run_out listing image s)) (shown (run_out listing image u)) r q n m
  alike_every s u r q n m e f =
      alike (shown (run_out listing image s)) (shown (run_out listing image u)) r q n m
      ((headline_every listing image s _ _ refl refl).in_order r n e) ((headline_every listing image u _ _ refl refl).in_order q m f)
