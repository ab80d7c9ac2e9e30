-- Checkpoints that are compared with a run come to one answer, and to one alone.
use Rattle.std.proofs.Common.{◌≡◌, ℕ, zero, suc, ◌<◌, arith, ap, refl, subst, sym, ◌∙◌, ◌⊎◌, inl, inr, List, [], ◌∷◌, slice_get, Some, Result, Ok, Err}
use Rattle.std.proofs.lemmas.Bool.{cases_eq, cases_lt}
use Rattle.hm_base.specs.Image.{Segment}
use Rattle.hm_codes.specs.Listing.{Listing}
use Rattle.hm_run_laws.specs.Runs.{run_out}
use Rattle.hm_sched.specs.Schedule.{Sched}
use Rattle.hm_journal.proofs.Deciding.{same_or}
use Rattle.hm_journal.specs.Formats.{report_in}
use Rattle.hm_journal.specs.Journals.{ReportAt}
use Rattle.hm_journal.specs.Runs.{AreOfRun, IsComparison, IsFirstToDiffer, IsOfRun, report_at}
use Rattle.hm_journal.specs.declared.journal.JournalErr.{JournalErr}
use Rattle.hm_journal.specs.declared.journal.JournalErr.TheVariants as err

module _ (listing : Listing) (image : List Segment) (s : Sched) (format : ℕ) where
  of_run_or : (x : ReportAt) → IsOfRun listing image s format x ⊎ (¬ (IsOfRun listing image s format x))
  of_run_or x =
      elim (cases_lt (run_out listing image s).ticks x.tick) [
        | inl past ↦ inr (λ is. let begun = is.begun in omega (arith, past, begun))
        | inr begun ↦ elim (same_or x.report (report_in format (report_at listing image s x.tick))) [
          | inl same ↦
              inl (record { begun = begun; report = same })
          | inr never ↦ inr (λ is. never is.report)
        ]
      ]

  none_there : AreOfRun listing image s format []
  none_there zero x e = absurd cc
  none_there (suc k) x e = absurd cc

  more_there : (y : ReportAt) (ys : List ReportAt) → IsOfRun listing image s format y → AreOfRun listing image s format ys
      → AreOfRun listing image s format (y ∷ ys)
  more_there y ys first rest zero x e = let same : y ≡ x = cc in subst (IsOfRun listing image s format) same first
  more_there y ys first rest (suc k) x e = rest k x e

  before_later : (y : ReportAt) (ys : List ReportAt) (n : ℕ) → IsOfRun listing image s format y
      → ((k : ℕ) (x : ReportAt) → k < n → slice_get ys k ≡ Some x → IsOfRun listing image s format x)
      → (k : ℕ) (x : ReportAt) → k < suc n → slice_get (y ∷ ys) k ≡ Some x → IsOfRun listing image s format x
  before_later y ys n first rest zero x less e = let same : y ≡ x = cc in subst (IsOfRun listing image s format) same first
  before_later y ys n first rest (suc k) x less e = rest k x (omega (arith, less)) e

  none_before : (xs : List ReportAt) (k : ℕ) (x : ReportAt) → k < 0 → slice_get xs k ≡ Some x → IsOfRun listing image s format x
  none_before xs k x less e = absurd (omega (arith, less))

  first_or : (xs : List ReportAt) → AreOfRun listing image s format xs ⊎ ((t : ℕ) × IsFirstToDiffer listing image s format xs t)
  first_or [] = inl none_there
  first_or (y ∷ ys) =
      elim (of_run_or y) [
        | inr never ↦ inr (y.tick, record { place = 0; checkpoint = y; there = refl; lies = refl; differs = never; before = none_before (y ∷ ys) })
        | inl first ↦
            elim (first_or ys) [
              | inl rest ↦ inl (more_there y ys first rest)
              | inr later ↦
                  let d = later.1 in
                  inr (
                    later.0,
                    record {
                      place = suc d.place;
                      checkpoint = d.checkpoint;
                      there = d.there;
                      lies = d.lies;
                      differs = d.differs;
                      before = before_later y ys d.place first d.before;
                    },
                  )
            ]
      ]

  pub some_comparison : (xs : List ReportAt) → (r : Result Unit JournalErr) × IsComparison listing image s format xs r
  some_comparison xs = elim (first_or xs) [ inl all ↦ (Ok tt, all) | inr first ↦ (Err (err.Differs first.0), first.1) ]

  never_both : (xs : List ReportAt) (t : ℕ) → AreOfRun listing image s format xs → ¬ (IsFirstToDiffer listing image s format xs t)
  never_both xs t all first = first.differs (all first.place first.checkpoint first.there)

  one_first : (xs : List ReportAt) (t u : ℕ) → IsFirstToDiffer listing image s format xs t → IsFirstToDiffer listing image s format xs u → t ≡ u
  one_first xs t u a b =
      elim (cases_lt a.place b.place) [
        | inl less ↦ absurd (a.differs (b.before a.place a.checkpoint less a.there))
        | inr most ↦
            elim (cases_eq a.place b.place) [
              | inr never ↦
                  let less : b.place < a.place = elim (cases_lt b.place a.place) [ inl l ↦ l | inr m ↦ absurd (never (omega (arith, most, m))) ] in
                  absurd (b.differs (a.before b.place b.checkpoint less b.there))
              | inl same ↦
                  let here : slice_get xs a.place ≡ Some b.checkpoint = ap (slice_get xs) same ∙ b.there in
                  let there : slice_get xs a.place ≡ Some a.checkpoint = a.there in
                  let one : a.checkpoint ≡ b.checkpoint = cc in
                  sym a.lies ∙ ap (λ (x : ReportAt). x.tick) one ∙ b.lies
            ]
      ]

  pub one_comparison : (xs : List ReportAt) (q r : Result Unit JournalErr) → IsComparison listing image s format xs q → IsComparison listing image s format xs r
      → q ≡ r
  one_comparison xs (Ok u) (Ok v) a b = refl
  one_comparison xs (Ok u) (Err (err.Differs t)) a b = absurd (never_both xs t a b)
  one_comparison xs (Ok u) (Err e) a b = absurd b
  one_comparison xs (Err (err.Differs t)) (Ok u) a b = absurd (never_both xs t b a)
  one_comparison xs (Err (err.Differs t)) (Err (err.Differs u)) a b = ap (λ n. Err (err.Differs n)) (one_first xs t u a b)
  one_comparison xs (Err (err.Differs t)) (Err e) a b = absurd b
  one_comparison xs (Err e) r a b = absurd a
