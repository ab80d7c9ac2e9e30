-- How many ticks a run begins.
use Rattle.std.proofs.Common.{◌≡◌, ◌⊎◌, inl, inr, ℕ, zero, suc, ◌+◌, ◌≤◌, ◌<◌, arith, ap, refl, sym, ◌∙◌, subst, List, [], ◌∷◌, drop}
use Rattle.std.proofs.Common.{length, length-drop, ⊎_elim, Option, Some, None, add-zero, add-suc}
use Rattle.std.proofs.lemmas.Bool.{cases_lt}
use Rattle.std.specs.Prelude.{IsSome}
use Rattle.hm_base.specs.Image.{Segment, flash_byte}
use Rattle.hm_codes.proofs.Exists.{exists}
use Rattle.hm_codes.specs.Listing.{Listing}
use Rattle.hm_run_laws.proofs.TickCounts.{closed_ticks, ended_ticks}
use Rattle.hm_run_laws.specs.Nested.{letters}
use Rattle.hm_run_laws.specs.Runs.{Run, begin, next, run, tick_of}
use Rattle.hm_run_laws.proofs.Ends.{all_ended, next_ended, run_past}
use Rattle.hm_machine.specs.Shown.{Shown, Shows}
use Rattle.hm_run.specs.declared.Outcome.{Outcome}
use Rattle.hm_sched.specs.Schedule.{TickLine, Sched, ticks_of}

-- A TICK begins one
next_count : (listing : Listing) (s : Sched) (left : List TickLine) (x : Run) → x.outcome ≡ None → 0 < length left → (next listing s left x).ticks ≡ x.ticks + 1
next_count listing s [] x none some = absurd (omega arith)
next_count listing s (line ∷ left) x none some =
    closed_ticks left (tick_of listing s line x x.outcome)
    ∙ ap (λ (o : Option Outcome). (tick_of listing s line x o).ticks) none ∙ ended_ticks s line x (letters listing s 0 line.letters x.machine)

-- A RUN after t ticks has begun t, or it ended before
abbrev HasBegun : ℕ → Run → Type 0
HasBegun t x = (x.ticks ≡ t) ⊎ ((x.ticks < t) × IsSome x.outcome)

fewer : (t : ℕ) (x : Run) → HasBegun t x → x.ticks < suc t
fewer t x (inl h) = omega (arith, h)
fewer t x (inr h) = let less = h.0 in omega (arith, less)

module _ (listing : Listing) (image : List Segment) (s : Sched) where
  -- while it goes on there is a tick left
  out_past : (t : ℕ) → (run listing image s t).outcome ≡ None → length (ticks_of s.lines) ≤ t → ⊥
  out_past t none le =
      let end = all_ended listing s image in
      let is : (run listing image s t).outcome ≡ Some end.0 = ap (λ (x : Run). x.outcome) (run_past listing s image t le) ∙ end.1 in
      let wrong : None ≡ Some end.0 = sym none ∙ is in
      absurd cc

  some_left : (t : ℕ) → (run listing image s t).outcome ≡ None → 0 < length (drop t (ticks_of s.lines))
  some_left t none =
      let size = length-drop t (ticks_of s.lines) in
      ⊎_elim (λ below. omega (arith, size, below)) (λ past. absurd (out_past t none past)) (cases_lt t (length (ticks_of s.lines)))

  next_begun : (t : ℕ) (o : Option Outcome) → (run listing image s t).outcome ≡ o → HasBegun t (run listing image s t)
      → HasBegun (suc t) (run listing image s (suc t))
  next_begun t (Some o) e h =
      let same : run listing image s (suc t) ≡ run listing image s t = next_ended listing s (drop t (ticks_of s.lines)) (run listing image s t) o e in
      subst (HasBegun (suc t)) (sym same) (inr (fewer t (run listing image s t) h, subst IsSome (sym e) refl))
  next_begun t None e (inl h) = inl (next_count listing s (drop t (ticks_of s.lines)) (run listing image s t) e (some_left t e) ∙ omega (arith, h))
  next_begun t None e (inr h) = let wrong = subst IsSome e h.1 in absurd cc

  begun : (t : ℕ) → HasBegun t (run listing image s t)
  begun zero = inl (closed_ticks (ticks_of s.lines) (begin image s))
  begun (suc t) = next_begun t (run listing image s t).outcome refl (begun t)

  next_more : (t : ℕ) (o : Option Outcome) → (run listing image s t).outcome ≡ o → (run listing image s t).ticks ≤ (run listing image s (suc t)).ticks
  next_more t (Some o) e =
      let same = ap (λ (x : Run). x.ticks) (next_ended listing s (drop t (ticks_of s.lines)) (run listing image s t) o e) in omega (arith, same)
  next_more t None e = let one = next_count listing s (drop t (ticks_of s.lines)) (run listing image s t) e (some_left t e) in omega (arith, one)

  more : (t k : ℕ) → (run listing image s t).ticks ≤ (run listing image s (t + k)).ticks
  more t zero = subst (λ (u : ℕ). (run listing image s t).ticks ≤ (run listing image s u).ticks) (sym (add-zero t)) (omega arith)
  more t (suc k) =
      let before = more t k in
      let one = next_more (t + k) (run listing image s (t + k)).outcome refl in
      subst (λ (u : ℕ). (run listing image s t).ticks ≤ (run listing image s u).ticks) (sym (add-suc t k)) (omega (arith, before, one))

-- A MACHINE that shows it
pub shows_begun : (image : List Segment) (s : Sched) (t : ℕ) (m : Shown) → Shows image s t m → (m.ticks ≡ t) ⊎ ((m.ticks < t) × IsSome m.outcome)
shows_begun image s t m h =
    let there = exists (flash_byte image) in
    let same = h.now there.0 there.1 in
    at (run there.0 image s t) (begun there.0 image s t) (ap (λ (x : Run). x.ticks) same) (ap (λ (x : Run). x.outcome) same)
  where
    at : (x : Run) → HasBegun t x → m.ticks ≡ x.ticks → m.outcome ≡ x.outcome → (m.ticks ≡ t) ⊎ ((m.ticks < t) × IsSome m.outcome)
    at x (inl h) e o = inl (e ∙ h)
    at x (inr h) e o = inr (let less = h.0 in omega (arith, less, e), subst IsSome (sym o) h.1)

pub shows_more : (image : List Segment) (s : Sched) (t k : ℕ) (m n : Shown) → Shows image s t m → Shows image s (t + k) n → m.ticks ≤ n.ticks
shows_more image s t k m n h i =
    let there = exists (flash_byte image) in
    let first = ap (λ (x : Run). x.ticks) (h.now there.0 there.1) in
    let second = ap (λ (x : Run). x.ticks) (i.now there.0 there.1) in
    let grown = more there.0 image s t k in
    omega (arith, first, second, grown)

-- one that has begun fewer has ended
pub ended_before : (image : List Segment) (s : Sched) (t : ℕ) (m : Shown) → Shows image s t m → m.ticks < t → IsSome m.outcome
ended_before image s t m h less = by (shows_begun image s t m h)
  where
    by : (m.ticks ≡ t) ⊎ ((m.ticks < t) × IsSome m.outcome) → IsSome m.outcome
    by (inl e) = absurd (omega (arith, e, less))
    by (inr e) = e.1

pub ticks_most : (image : List Segment) (s : Sched) (t : ℕ) (m : Shown) → Shows image s t m → m.ticks ≤ t
ticks_most image s t m h = by (shows_begun image s t m h)
  where
    by : (m.ticks ≡ t) ⊎ ((m.ticks < t) × IsSome m.outcome) → m.ticks ≤ t
    by (inl e) = omega (arith, e)
    by (inr e) = let less = e.0 in omega (arith, less)
