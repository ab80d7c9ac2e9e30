-- A run to the end of its ticks, and beyond.
use Rattle.std.proofs.Common.{◌≡◌, ℕ, zero, suc, ◌+◌, ◌-◌, ◌≤◌, ◌<◌, arith, ap, refl, sym, ◌∙◌, subst, List, [], ◌∷◌, drop, length, Option, Some, None}
use Rattle.std.proofs.Common.{add-suc, add-zero}
use Rattle.std.proofs.lemmas.List.{length-drop, nil_from_length}
use Rattle.hm_base.specs.Image.{Segment}
use Rattle.hm_codes.specs.Listing.{Listing}
use Rattle.hm_run_laws.specs.Runs.{Run, begin, closed, next, run, run_out, tick_of}
use Rattle.hm_run_laws.specs.Ends.{HasEnded}
use Rattle.hm_run.specs.declared.Outcome.{Outcome}
use Rattle.hm_run.specs.declared.Outcome.TheVariants as outcome
use Rattle.hm_run.specs.Timed.{or_out}
use Rattle.hm_sched.specs.Schedule.{TickLine, Sched, ticks_of}

-- CLOSING. With ticks left a run goes on, an ended one stays, and with none left it ends.
pub closed_on : (left : List TickLine) (x : Run) → 0 < length left → closed left x ≡ x
closed_on [] x h = absurd (omega arith)
closed_on (line ∷ left) x h = refl

pub closed_ended : (left : List TickLine) (x : Run) (o : Outcome) → x.outcome ≡ Some o → closed left x ≡ x
closed_ended [] x o e = ap (λ (q : Option Outcome). record x { outcome = or_out q }) e ∙ ap (λ (q : Option Outcome). record x { outcome = q }) (sym e)
closed_ended (line ∷ left) x o e = refl

pub closed_out : (left : List TickLine) (x : Run) → x.outcome ≡ None → left ≡ [] → closed left x ≡ record x { outcome = Some outcome.OutOfTicks }
closed_out left x none nothing = ap (λ (l : List TickLine). closed l x) nothing ∙ ap (λ (q : Option Outcome). record x { outcome = or_out q }) none

module _ (listing : Listing) (s : Sched) where
  -- an ended run stays as it is
  pub next_ended : (left : List TickLine) (x : Run) (o : Outcome) → x.outcome ≡ Some o → next listing s left x ≡ x
  next_ended [] x o e = refl
  next_ended (line ∷ left) x o e = ap (λ (q : Option Outcome). closed left (tick_of listing s line x q)) e ∙ closed_ended left x o e

  module _ (image : List Segment) where
    ended_more : (o : Outcome) (t k : ℕ) → (run listing image s t).outcome ≡ Some o → run listing image s (t + k) ≡ run listing image s t
    ended_more o t zero e = ap (run listing image s) (add-zero t)
    ended_more o t (suc k) e =
        let same = ended_more o t k e in
        let still : (run listing image s (t + k)).outcome ≡ Some o = ap (λ (x : Run). x.outcome) same ∙ e in
        ap (run listing image s) (add-suc t k) ∙ next_ended (drop (t + k) (ticks_of s.lines)) (run listing image s (t + k)) o still ∙ same

    pub ended_stays : (o : Outcome) (t u : ℕ) → t ≤ u → (run listing image s t).outcome ≡ Some o → run listing image s u ≡ run listing image s t
    ended_stays o t u le e =
        let sum : t + (u - t) ≡ u = omega arith in
        ap (run listing image s) (sym sum) ∙ ended_more o t (u - t) e

    out : (o : Option Outcome) → HasEnded (or_out o)
    out (Some o) = (o, refl)
    out None = (outcome.OutOfTicks, refl)

    out_at : (left : List TickLine) (x : Run) → left ≡ [] → HasEnded (closed left x).outcome
    out_at left x e = subst (λ (l : List TickLine). HasEnded (closed l x).outcome) (sym e) (out x.outcome)

    -- with the last of the ticks it has ended
    last : (left : List TickLine) (x : Run) → length left ≡ 1 → HasEnded (next listing s left x).outcome
    last [] x e = absurd (omega arith)
    last (line ∷ []) x e = out (tick_of listing s line x x.outcome).outcome
    last (line ∷ more ∷ left) x e = absurd (omega arith)

    ended_at : (t : ℕ) → t ≡ length (ticks_of s.lines) → HasEnded (run listing image s t).outcome
    ended_at zero e = out_at (ticks_of s.lines) (begin image s) (nil_from_length (ticks_of s.lines) (sym e))
    ended_at (suc t) e =
        let one : length (drop t (ticks_of s.lines)) ≡ 1 = length-drop t (ticks_of s.lines) ∙ omega arith in
        last (drop t (ticks_of s.lines)) (run listing image s t) one

    pub all_ended : HasEnded (run_out listing image s).outcome
    all_ended = ended_at (length (ticks_of s.lines)) refl

    -- past the end of the ticks nothing changes
    pub run_past : (t : ℕ) → length (ticks_of s.lines) ≤ t → run listing image s t ≡ run_out listing image s
    run_past t le = ended_stays all_ended.0 (length (ticks_of s.lines)) t le all_ended.1
