-- One tick of the machine.
use Rattle.std.proofs.Common.{◌≡◌, ℕ, suc, zero, ◌+◌, ◌-◌, ◌≤◌, ◌<◌, arith, ap, refl, sym, ◌∙◌, subst, Bool, cond, true, false, List, [], ◌∷◌, drop, drop-drop}
use Rattle.std.proofs.Common.{length, Ok, Err, Some, None, add-one, add-zero, add-suc}
use Rattle.hm_base.specs.Image.{Segment, flash_byte}
use Rattle.hm_codes.proofs.Exists.{exists}
use Rattle.hm_codes.specs.Listing.{Listing, IsListing}
use Rattle.hm_run_laws.specs.Runs.{Pointers, Run, next, run, shown}
use Rattle.hm_run_laws.proofs.Ends.{all_ended, next_ended, run_past}
use Rattle.std.specs.Prelude.{IsSome}
use Rattle.hm_machine.specs.Machines.{left_in, HasTick}
use Rattle.hm_machine.specs.Shown.{Shown, Shows, run_of, timed_of}
use Rattle.hm_mem.specs.Memory.{flash_at}
use Rattle.hm_run.specs.declared.Outcome.{Outcome}
use Rattle.hm_window.specs.declared.rule.Rule.{Rule}
use Rattle.hm_sched.specs.Schedule.{TickLine, Sched, repeat, ticks_of}
use Rattle.hm_window.specs.Overlap.{judged}

-- a cursor that stands in a line has a tick left
pub some_left : (lines : List TickLine) (used : ℕ) → HasTick lines used → 0 < length (left_in lines used)
some_left [] used h = absurd h
some_left (x ∷ xs) used h =
    let e : x.count - used ≡ suc (x.count - (used + 1)) = omega arith in
    subst (λ (n : ℕ). 0 < length (repeat n x (ticks_of xs))) (sym e) (omega arith)

-- what is answered at the end of a tick
pub may_end_well : (b : Bool) (r : Rule) (u : Unit {0}) → judged (cond b None (Some r)) ≡ Ok u → b ≡ true
may_end_well true r u e = refl
may_end_well false r u e = let no : Err r ≡ Ok u = e in absurd cc

-- SHOWING
drop_next : (t : ℕ) (xs : List TickLine) → drop 1 (drop t xs) ≡ drop (suc t) xs
drop_next t xs = drop-drop 1 t xs ∙ ap (λ (k : ℕ). drop k xs) (add-one t)

-- a machine after one more tick
pub shows_on : (image : List Segment) (s : Sched) (t : ℕ) (old new : Shown) → Shows image s t old → old.outcome ≡ None
    → flash_at new.memory ≡ flash_at old.memory → new.schedule ≡ old.schedule → (new.outcome ≡ None → new.left ≡ drop 1 old.left)
    → ((listing : Listing) (es : List Pointers) → IsListing (flash_at old.memory) listing → let r = next listing old.schedule old.left (run_of old es) in
    run_of new r.entries ≡ r)
    → ((listing : Listing) (es : List Pointers) → IsListing (flash_at old.memory) listing
    → new.entries + length es ≡ old.entries + length (next listing old.schedule old.left (run_of old es)).entries)
    → Shows image s (suc t) new
shows_on image s t old new h none flash schedule left now counted = record {
  bytes = flash ∙ h.bytes;
  plan = schedule ∙ h.plan;
  left = λ on. left on ∙ ap (drop 1) (h.left none) ∙ drop_next t (ticks_of s.lines);
  now = λ listing is.
      let es = (run listing image s t).entries in
      let same : next listing old.schedule old.left (run_of old es) ≡ run listing image s (suc t) =
      λ j. next listing (h.plan j) (h.left none j) (h.now listing is j) in
      subst (λ (r : Run). run_of new r.entries ≡ r) same (now listing es (subst (λ (f : ℕ → ℕ). IsListing f listing) (sym h.bytes) is));
  count = λ listing is.
      let es = (run listing image s t).entries in
      let same : next listing old.schedule old.left (run_of old es) ≡ run listing image s (suc t) =
      λ j. next listing (h.plan j) (h.left none j) (h.now listing is j) in
      let more : new.entries + length es ≡ old.entries + length (run listing image s (suc t)).entries
      = subst (λ (r : Run). new.entries + length es ≡ old.entries + length r.entries) same
      (counted listing es (subst (λ (f : ℕ → ℕ). IsListing f listing) (sym h.bytes) is)) in
      let before : old.entries ≡ length es = h.count listing is in
      omega (arith, more, before);
}

-- a machine that has ended after one more tick, and at the end of the run
pub shows_still : (image : List Segment) (s : Sched) (t : ℕ) (m : Shown) (o : Outcome) → Shows image s t m → m.outcome ≡ Some o → Shows image s (suc t) m
shows_still image s t m o h e = record {
  bytes = h.bytes;
  plan = h.plan;
  left = λ n. absurd cc;
  now = λ listing is.
      let over : (run listing image s t).outcome ≡ Some o = ap (λ (x : Run). x.outcome) (sym (h.now listing is)) ∙ e in
      let still : run listing image s t ≡ run listing image s (suc t) = sym (next_ended listing s (drop t (ticks_of s.lines)) (run listing image s t) o over) in
      subst (λ (r : Run). run_of m r.entries ≡ r) still (h.now listing is);
  count = λ listing is.
      let over : (run listing image s t).outcome ≡ Some o = ap (λ (x : Run). x.outcome) (sym (h.now listing is)) ∙ e in
      h.count listing is ∙ ap (λ (r : Run). length r.entries) (sym (next_ended listing s (drop t (ticks_of s.lines)) (run listing image s t) o over));
}

shows_later : (image : List Segment) (s : Sched) (t k : ℕ) (m : Shown) (o : Outcome) → m.outcome ≡ Some o → Shows image s t m → Shows image s (t + k) m
shows_later image s t zero m o e h = rw add-zero h
shows_later image s t (suc k) m o e h = rw add-suc (shows_still image s (t + k) m o (shows_later image s t k m o e h) e)

pub shows_end : (image : List Segment) (s : Sched) (t u : ℕ) (m : Shown) (o : Outcome) → m.outcome ≡ Some o → t ≤ u → Shows image s t m → Shows image s u m
shows_end image s t u m o e le h =
    let sum : t + (u - t) ≡ u = omega arith in
    subst (λ (v : ℕ). Shows image s v m) sum (shows_later image s t (u - t) m o e h)

-- past the end of its schedule a machine has ended, and shows the end
pub shows_past : (image : List Segment) (s : Sched) (t : ℕ) (m : Shown) → length (ticks_of s.lines) ≤ t → Shows image s t m
    → IsSome m.outcome × Shows image s (length (ticks_of s.lines)) m
shows_past image s t m le h =
    let there = exists (flash_byte image) in
    let end = all_ended there.0 s image in
    let over : m.outcome ≡ Some end.0
    = ap (λ (x : Run). x.outcome) (h.now there.0 there.1 ∙ run_past there.0 s image t le) ∙ end.1 in (
      subst IsSome (sym over) refl,
      record {
        bytes = h.bytes;
        plan = h.plan;
        left = λ none. let no : None ≡ Some end.0 = sym none ∙ over in absurd cc;
        now = λ listing is. subst (λ (r : Run). run_of m r.entries ≡ r) (run_past listing s image t le) (h.now listing is);
        count = λ listing is. h.count listing is ∙ ap (λ (r : Run). length r.entries) (run_past listing s image t le);
      },
    )

-- what is shown of a run, whatever the stack pointers at its entries were
pub timed_is : (m : Shown) (r : Run) → run_of m r.entries ≡ r → timed_of m ≡ shown r
timed_is m r h = ap shown h
