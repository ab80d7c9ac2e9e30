-- The checkpoints of a run's journal.
use Rattle.std.proofs.Common.{◌≡◌, ℕ, zero, suc, ◌+◌, ◌*◌, ◌/◌, ◌<◌, ◌≤◌, arith, ap, refl, inr, subst, sym, ◌∙◌, List, [], length, slice_get, Some, add-one}
use Rattle.std.proofs.lemmas.List.{length_push}
use Rattle.std.proofs.Math.Nat.{div-lt_iff_lt-mul, div-mul-le_self, lt-div-mul-add, mul-le-mul}
use Rattle.hm_base.specs.Image.{Segment}
use Rattle.hm_codes.specs.Listing.{Listing}
use Rattle.hm_run_laws.specs.Runs.{run_out}
use Rattle.hm_machine.proofs.Reels.{one_more_tick, pushed}
use Rattle.hm_sched.specs.Schedule.{Sched, most_ticks, ticks_of}
use Rattle.hm_journal.proofs.RunTicks.{few_ticks}
use Rattle.hm_journal.specs.Journals.{IsJournal, ReportAt, most_checkpoints}
use Rattle.hm_journal.specs.Runs.{AreOfRun, first_checkpoints, journal_of, report_at}

module _ (report : ℕ → List ℕ) (every : ℕ) where
  pub long : (n : ℕ) → length (first_checkpoints report every n) ≡ n
  long zero = refl
  long (suc n) = length_push (first_checkpoints report every n) _ ∙ add-one (length (first_checkpoints report every n)) ∙ ap suc (long n)

  -- checkpoint k lies at tick k * every, and has its report
  pub record Lies (n k : ℕ) (x : ReportAt) : Type 0 where
    pub below : k < n
    pub tick : x.tick ≡ k * every
    pub report_is : x.report ≡ report (k * every)

  none_there : (k : ℕ) (x : ReportAt) → slice_get [] k ≡ Some x → Lies 0 k x
  none_there zero x e = absurd cc
  none_there (suc k) x e = absurd cc

  pub lies : (n k : ℕ) (x : ReportAt) → slice_get (first_checkpoints report every n) k ≡ Some x → Lies n k x
  lies zero k x e = none_there k x e
  lies (suc n) k x e =
      pushed (Lies (suc n)) (first_checkpoints report every n) (record { tick = n * every; report = report (n * every) })
      (λ j y there. let before = lies n j y there in let low = before.below in
      record { below = omega (arith, low); tick = before.tick; report_is = before.report_is })
      (subst (λ j. Lies (suc n) j (record { tick = n * every; report = report (n * every) })) (sym (long n))
      (record { below = omega arith; tick = refl; report_is = refl }))
      k x e

same_share : (m n k : ℕ) → 0 < k → m ≤ n → m / k ≤ n / k
same_share m n k some le =
    let above : n < n / k * k + k = lt-div-mul-add some in
    let next = one_more_tick (n / k) k in
    let less : m / k < n / k + 1 = (div-lt_iff_lt-mul some).1 (omega (arith, above, next, le)) in
    omega (arith, less)

-- the k-th lies where the run begins its tick
pub reached : (last every k : ℕ) → k < last / every + 1 → k * every ≤ last
reached last every k h =
    let below : k ≤ last / every = omega (arith, h) in
    let scaled : k * every ≤ last / every * every = mul-le-mul below (omega arith) in
    let all = div-mul-le_self last every in
    omega (arith, scaled, all)

module _ (listing : Listing) (image : List Segment) (s : Sched) (every : ℕ) where
  -- A RUN'S JOURNAL IS THE RUN'S
  pub own : AreOfRun listing image s (journal_of listing image s every).format (journal_of listing image s every).checkpoints
  own k x there =
      let last = (run_out listing image s).ticks in
      let at = lies (report_at listing image s) every (last / every + 1) k x there in
      let fits = reached last every k at.below in
      let tick = at.tick in
      record { begun = omega (arith, fits, tick); report = at.report_is ∙ ap (report_at listing image s) (sym tick) }

  -- and one that there is, where it is not too long
  pub sound : 1 ≤ every → every ≤ most_ticks → length (ticks_of s.lines) / every + 1 ≤ most_checkpoints → IsJournal (journal_of listing image s every)
  sound some most few =
      let last = (run_out listing image s).ticks in
      let n = last / every + 1 in
      let size = long (report_at listing image s) every n in
      let less : last / every ≤ length (ticks_of s.lines) / every =
      same_share last (length (ticks_of s.lines)) every (omega (arith, some)) (few_ticks listing image s) in
      record {
        format = inr refl;
        some = omega (arith, size);
        few = omega (arith, size, less, few);
        every = omega (arith, some);
        most = most;
        ticks = λ k x there. (lies (report_at listing image s) every n k x there).tick;
      }
