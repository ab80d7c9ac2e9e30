-- Instructions in order: what is there once one of them stops.
use Rattle.std.proofs.Common.{◌≡◌, ℕ, zero, suc, ◌+◌, ◌-◌, ◌≤◌, arith, ap, refl, sym, ◌∙◌, subst, List, Result, Ok, Err, add-one, add-zero, add-suc}
use Rattle.hm_base.specs.Image.{Segment}
use Rattle.hm_codes.specs.Listing.{Listing}
use Rattle.hm_run.specs.InOrder.{InOrder, Running, Halted, Full, Faulted, after, one_more, in_order}
use Rattle.hm_run.specs.Program.{alone}
use Rattle.hm_run.specs.Stops as why
use Rattle.hm_run.specs.Stops.{WholeStop}
use Rattle.hm_state.specs.State.{State}
use Rattle.hm_run_laws.specs.Stopped.{HasStopped, StaysStopped}

module _ (listing : Listing) (image : List Segment) where
  -- instruction n + 1 after n
  one_after : (n : ℕ) (y z : InOrder) → in_order listing image n ≡ y → one_more listing n y ≡ z → in_order listing image (n + 1) ≡ z
  one_after n y z e h = ap (in_order listing image) (add-one n) ∙ ap (one_more listing n) e ∙ h

  stopped_after : (n : ℕ) (s : State) (r : Result State WholeStop) → in_order listing image n ≡ Running s → alone listing s ≡ r
      → StaysStopped listing image (after n s r)
  stopped_after n s (Ok t) e h = tt
  stopped_after n s (Err (why.Halt reason)) e h = one_after n (Running s) (Halted reason (n + 1) s) e (ap (after n s) h)
  stopped_after n s (Err why.Full) e h = one_after n (Running s) (Full (n + 1) s) e (ap (after n s) h)
  stopped_after n s (Err (why.Faults f)) e h = one_after n (Running s) (Faulted f.kind s.pc f.addr n) e (ap (after n s) h)

  stopped_more : (n : ℕ) (y : InOrder) → in_order listing image n ≡ y → StaysStopped listing image y → StaysStopped listing image (one_more listing n y)
  stopped_more n (Running s) e h = stopped_after n s (alone listing s) e refl
  stopped_more n y e h = h

  -- what stops the instructions in order stops them at its own number
  pub stays_stopped : (n : ℕ) → StaysStopped listing image (in_order listing image n)
  stays_stopped zero = tt
  stays_stopped (suc n) = stopped_more n (in_order listing image n) refl (stays_stopped n)

  stopped_still : (n : ℕ) (y : InOrder) → HasStopped y → one_more listing n y ≡ y
  stopped_still n (Running s) h = absurd h
  stopped_still n y h = refl

  later_by : (n k : ℕ) → HasStopped (in_order listing image n) → in_order listing image (n + k) ≡ in_order listing image n
  later_by n zero h = ap (in_order listing image) (add-zero n)
  later_by n (suc k) h =
      let same = later_by n k h in
      let still : HasStopped (in_order listing image (n + k)) = subst HasStopped (sym same) h in
      ap (in_order listing image) (add-suc n k) ∙ stopped_still (n + k) (in_order listing image (n + k)) still ∙ same

  -- once they have stopped, more of them come to the same
  pub stopped_later : (n m : ℕ) → n ≤ m → HasStopped (in_order listing image n) → in_order listing image m ≡ in_order listing image n
  stopped_later n m le h =
      let sum : n + (m - n) ≡ m = omega arith in
      ap (in_order listing image) (sym sum) ∙ later_by n (m - n) h
