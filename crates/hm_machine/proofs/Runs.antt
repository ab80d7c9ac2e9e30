-- What a tick came to, of a run.
use Rattle.std.proofs.Common.{◌≡◌, ℕ, ◌+◌, ◌<◌, arith, ap, sym, ◌∙◌, subst, List, [], ◌∷◌, length, Bool, Option, Some, None, Result, Err}
use Rattle.hm_codes.specs.Listing.{Listing}
use Rattle.hm_run_laws.specs.Nested.{Nested}
use Rattle.hm_run_laws.proofs.Soundness.{next_sound}
use Rattle.hm_run_laws.proofs.TickCounts.{closed_entries}
use Rattle.hm_run_laws.specs.Sound.{IsSound}
use Rattle.hm_run_laws.specs.Runs.{Pointers, Run, closed, next, tick_of}
use Rattle.hm_machine.specs.Ticked.{entered_in, Came}
use Rattle.hm_machine.specs.Shown.{run_with}
use Rattle.hm_run_laws.proofs.Ends.{closed_ended, closed_on, closed_out}
use Rattle.hm_run.specs.declared.Outcome.{Outcome}
use Rattle.hm_run.specs.declared.Outcome.TheVariants as outcome
use Rattle.hm_sched.specs.Schedule.{TickLine, Sched}

-- A TICK, by what it came to: where its run ended, and where it goes on with ticks left or with none
abbrev pub Comes : Option Outcome → Nested → ℕ → Run → Type 0
Comes o m t r = run_with o m t r.entries ≡ r

pub comes : (o : Option Outcome) (m : Nested) (t : ℕ) (es : List Pointers) (r : Run) → run_with o m t es ≡ r → Comes o m t r
comes o m t es r e = ap (λ (l : List Pointers). run_with o m t l) (sym (ap (λ (x : Run). x.entries) e)) ∙ e

-- the stack pointers at its entries, where none entered
pub came_over : (o : Outcome) (m : Nested) (t : ℕ) (es : List Pointers) (r : Run) → run_with (Some o) m t es ≡ r → Came (Err o) m t es r
came_over o m t es r e =
    let same : length es ≡ length r.entries = ap (λ (x : Run). length x.entries) e in
    (comes (Some o) m t es r e, omega (arith, same))

-- while it goes on, what always holds does
pub comes_sound : (listing : Listing) (s : Sched) (left : List TickLine) (x : Run) (m : Nested) (t : ℕ) → (x.outcome ≡ None → IsSound s x.machine)
    → Comes None m t (next listing s left x) → IsSound s m
comes_sound listing s left x m t h e =
    subst (IsSound s) (ap (λ (r : Run). r.machine) (sym e)) (next_sound s listing left x h (ap (λ (r : Run). r.outcome) (sym e)))

module _ (listing : Listing) (s : Sched) (line : TickLine) (rest : List TickLine) (x : Run) (going : x.outcome ≡ None) where
  abbrev ticked : Run
  ticked = tick_of listing s line x None

  ticked_is : next listing s (line ∷ rest) x ≡ closed rest ticked
  ticked_is = ap (λ (o : Option Outcome). closed rest (tick_of listing s line x o)) going

  -- how many entered, by what the tick answered
  pub comes_counted : (a : Result Bool Outcome) (m : Nested) (t : ℕ) (es : List Pointers) (old new : ℕ) → Came a m t es ticked → new ≡ old + entered_in a
      → new + length es ≡ old + length (next listing s (line ∷ rest) x).entries
  comes_counted a m t es old new h e =
      let same : length (next listing s (line ∷ rest) x).entries ≡ length ticked.entries = ap (λ (r : Run). length r.entries) ticked_is
      ∙ ap length (closed_entries rest ticked) in
      let count : length ticked.entries ≡ length es + entered_in a = h.1 in
      omega (arith, same, count, e)

  kept : (o : Option Outcome) (m : Nested) (t : ℕ) → Comes o m t ticked → next listing s (line ∷ rest) x ≡ ticked → Comes o m t (next listing s (line ∷ rest) x)
  kept o m t h e = subst (Comes o m t) (sym e) h

  pub comes_ended : (o : Outcome) (m : Nested) (t : ℕ) → Comes (Some o) m t ticked → Comes (Some o) m t (next listing s (line ∷ rest) x)
  comes_ended o m t h = kept (Some o) m t h (ticked_is ∙ closed_ended rest ticked o (ap (λ (r : Run). r.outcome) (sym h)))

  pub comes_on : (m : Nested) (t : ℕ) → 0 < length rest → Comes None m t ticked → Comes None m t (next listing s (line ∷ rest) x)
  comes_on m t some h = kept None m t h (ticked_is ∙ closed_on rest ticked some)

  pub comes_out : (m : Nested) (t : ℕ) → rest ≡ [] → Comes None m t ticked → Comes (Some outcome.OutOfTicks) m t (next listing s (line ∷ rest) x)
  comes_out m t nothing h =
      subst (Comes (Some outcome.OutOfTicks) m t) (sym (ticked_is ∙ closed_out rest ticked (ap (λ (r : Run). r.outcome) (sym h)) nothing))
      (ap (λ (r : Run). record r { outcome = Some outcome.OutOfTicks }) h)
