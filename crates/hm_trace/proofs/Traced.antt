-- The ticks of a run, as a machine goes through them.
use Rattle.std.proofs.Common.{◌≡◌, ℕ, zero, suc, ◌+◌, ◌-◌, ◌<◌, ◌≤◌, ap, arith, refl, sym, ◌∙◌, subst, Bool, true, false, cond, is_some, List, [], ◌++◌}
use Rattle.std.proofs.Common.{append-nil, append_assoc, drop, length, nat_lt, Option, Some, None}
use Rattle.hm_base.specs.Image.{Segment, flash_byte}
use Rattle.hm_codes.specs.Listing.{IsListing, Listing}
use Rattle.hm_run_laws.specs.Runs.{run, shown}
use Rattle.hm_machine.proofs.Bares.{has_ticks}
use Rattle.hm_machine.proofs.Ticks.{timed_is}
use Rattle.hm_machine.specs.Shown.{Shown, Shows, timed_of}
use Rattle.hm_mem.specs.Memory.{flash_at}
use Rattle.hm_run.specs.Timed.{Timed}
use Rattle.hm_run.specs.declared.Outcome.{Outcome}
use Rattle.hm_sched.specs.Schedule.{Sched, ticks_of}
use Rattle.hm_trace.specs.Marks.{mark_between, mark_of, mark_seen}
use Rattle.hm_trace.specs.Stands.{Past, first_line, past_at}
use Rattle.hm_trace.specs.Traces.{head_in, tail_in, tick_in, tick_part, ticks_from, trace_text}
use Rattle.hm_trace.specs.declared.marks.Mark.{Mark}
use Rattle.hm_trace.specs.declared.running.Form.{Form}

-- WHAT A MACHINE SHOWS of a run
pub timed_at : (image : List Segment) (s : Sched) (t : ℕ) (listing : Listing) (m : Shown) → IsListing (flash_byte image) listing → Shows image s t m
    → timed_of m ≡ shown (run listing image s t)
timed_at image s t listing m listed h = timed_is m (run listing image s t) (h.now listing listed)

outcome_at : (image : List Segment) (s : Sched) (t : ℕ) (listing : Listing) (m : Shown) → IsListing (flash_byte image) listing → Shows image s t m
    → m.outcome ≡ (run listing image s t).outcome
outcome_at image s t listing m listed h = ap (λ (x : Timed). x.outcome) (timed_at image s t listing m listed h)

-- its flash has the listing of the image
pub listed_in : (image : List Segment) (s : Sched) (t : ℕ) (listing : Listing) (m : Shown) → IsListing (flash_byte image) listing → Shows image s t m
    → IsListing (flash_at m.memory) listing
listed_in image s t listing m listed h = subst (λ (f : ℕ → ℕ). IsListing f listing) (sym h.bytes) listed

-- one without a next tick has ended
pub ended_at : (image : List Segment) (s : Sched) (t : ℕ) (m : Shown) → Shows image s t m → (m.outcome ≡ None → m.schedule.lines ≡ [])
    → (o : Outcome) × (m.outcome ≡ Some o)
ended_at image s t m h none = some_of m.outcome refl
  where
    some_of : (o : Option Outcome) → m.outcome ≡ o → (q : Outcome) × (m.outcome ≡ Some q)
    some_of None e = absurd (has_ticks image s t m h e (ap (λ (u : Sched). u.lines) (sym h.plan) ∙ none e))
    some_of (Some q) e = (q, e)

-- TICKS THAT ARE LEFT
ticks_over : (form : Form) (listing : Listing) (image : List Segment) (s : Sched) (t n : ℕ) → is_some (run listing image s t).outcome ≡ true
    → ticks_from form listing image s t n ≡ []
ticks_over form listing image s t zero e = refl
ticks_over form listing image s t (suc n) e = ap (λ (b : Bool). cond b [] (tick_part form listing image s t ++ ticks_from form listing image s (suc t) n)) e

-- none where the run has ended
pub ticks_ended : (form : Form) (listing : Listing) (image : List Segment) (s : Sched) (t n : ℕ) (m : Shown) (o : Outcome) (out all : List ℕ)
    → IsListing (flash_byte image) listing → Shows image s t m → m.outcome ≡ Some o
    → out ++ ticks_from form listing image s t n ≡ all → out ≡ all
ticks_ended form listing image s t n m o out all listed h e left =
    let over : is_some (run listing image s t).outcome ≡ true = ap (λ (x : Option Outcome). is_some x) (sym (outcome_at image s t listing m listed h) ∙ e) in
    sym (append-nil out) ∙ ap (λ (x : List ℕ). out ++ x) (sym (ticks_over form listing image s t n over)) ∙ left

-- none where all are done
pub ticks_done : (form : Form) (listing : Listing) (image : List Segment) (s : Sched) (t count k : ℕ) (out all : List ℕ) → count ≤ k
    → out ++ ticks_from form listing image s (t + k) (count - k) ≡ all → out ≡ all
ticks_done form listing image s t count k out all past left =
    let none : count - k ≡ 0 = omega arith in
    sym (append-nil out) ∙ ap (λ (x : List ℕ). out ++ x) (sym (ap (ticks_from form listing image s (t + k)) none)) ∙ left

-- one more, and the others
ticks_more : (form : Form) (listing : Listing) (image : List Segment) (s : Sched) (t count k : ℕ) → k < count
    → is_some (run listing image s (t + k)).outcome ≡ false
    → ticks_from form listing image s (t + k) (count - k)
    ≡ tick_part form listing image s (t + k) ++ ticks_from form listing image s (t + (k + 1)) (count - (k + 1))
ticks_more form listing image s t count k below on = more (count - k) (count - (k + 1)) (omega arith)
  where
    more : (n j : ℕ) → n ≡ suc j → ticks_from form listing image s (t + k) n
        ≡ tick_part form listing image s (t + k) ++ ticks_from form listing image s (t + (k + 1)) j
    more n j e =
        let next : suc (t + k) ≡ t + (k + 1) = omega arith in
        ap (ticks_from form listing image s (t + k)) e
        ∙ ap (λ (b : Bool). cond b [] (tick_part form listing image s (t + k) ++ ticks_from form listing image s (suc (t + k)) j)) on
        ∙ ap (λ (u : ℕ). tick_part form listing image s (t + k) ++ ticks_from form listing image s u j) next

-- a tick as a machine did it
module _ (form : Form) (listing : Listing) (image : List Segment) (s : Sched) (t : ℕ) (m new : Shown) (listed : IsListing (flash_byte image) listing)
    (h : Shows image s t m) (there : Shows image s (suc t) new) where
  mark_is : mark_seen m new ≡ mark_between (run listing image s t) (run listing image s (suc t))
  mark_is = λ j.
      mark_of (length (timed_at image s t listing m listed h j).acts) (length (timed_at image s (suc t) listing new listed there j).acts)
      (nat_lt (h.count listing listed j) (there.count listing listed j))

  past_is : (before : Past) → m.outcome ≡ None → before ≡ past_at (first_line m.left) (timed_of m)
      → before ≡ past_at (first_line (drop t (ticks_of s.lines))) (shown (run listing image s t))
  past_is before on is = is ∙ (λ j. past_at (first_line (h.left on j)) (timed_at image s t listing m listed h j))

  pub part_is : (before : Past) (mark : Mark) → m.outcome ≡ None → before ≡ past_at (first_line m.left) (timed_of m) → mark ≡ mark_seen m new
      → tick_in form listing before mark (timed_of new) ≡ tick_part form listing image s t
  part_is before mark on is marked =
      λ j. tick_in form listing (past_is before on is j) ((marked ∙ mark_is) j) (timed_at image s (suc t) listing new listed there j)

-- it is added, and the others are left
pub ticks_on : (form : Form) (listing : Listing) (image : List Segment) (s : Sched) (t count k : ℕ) (before : Past) (mark : Mark) (m new : Shown)
    (out after all : List ℕ) → k < count → IsListing (flash_byte image) listing
    → Shows image s (t + k) m → Shows image s (suc (t + k)) new → m.outcome ≡ None → before ≡ past_at (first_line m.left) (timed_of m) → mark ≡ mark_seen m new
    → after ≡ out ++ tick_in form listing before mark (timed_of new)
    → out ++ ticks_from form listing image s (t + k) (count - k) ≡ all → after ++ ticks_from form listing image s (t + (k + 1)) (count - (k + 1)) ≡ all
ticks_on form listing image s t count k before mark m new out after all below listed h there on is marked added left =
    let going : is_some (run listing image s (t + k)).outcome ≡ false =
    ap (λ (x : Option Outcome). is_some x) (sym (outcome_at image s (t + k) listing m listed h) ∙ on) in
    let part = part_is form listing image s (t + k) m new listed h there before mark on is marked in
    let rest = ticks_from form listing image s (t + (k + 1)) (count - (k + 1)) in
    ap (λ (x : List ℕ). x ++ rest) (added ∙ ap (λ (x : List ℕ). out ++ x) part)
    ∙ append_assoc out (tick_part form listing image s (t + k)) rest
    ∙ ap (λ (x : List ℕ). out ++ x) (sym (ticks_more form listing image s t count k below going))
    ∙ left

-- ALL OF A TRACE
pub traced : (form : Form) (listing : Listing) (image : List Segment) (s : Sched) (first last : ℕ) (m : Shown) (head ticks out : List ℕ) → 1 ≤ first
    → first ≤ last → IsListing (flash_byte image) listing
    → Shows image s (first - 1 + (last + 1 - first)) m → head ≡ [] ++ head_in form
    → ticks ≡ head ++ ticks_from form listing image s (first - 1) (last + 1 - first)
    → out ≡ ticks ++ tail_in form (timed_of m) → out ≡ trace_text form listing image s first last
traced form listing image s first last m head ticks out some order listed h head_is ticks_are out_is =
    let sum : first - 1 + (last + 1 - first) ≡ last = omega arith in
    let there = subst (λ (t : ℕ). Shows image s t m) sum h in
    let middle = ticks_from form listing image s (first - 1) (last + 1 - first) in
    out_is
    ∙ ap (λ (x : List ℕ). x ++ tail_in form (timed_of m)) (ticks_are ∙ ap (λ (x : List ℕ). x ++ middle) head_is)
    ∙ append_assoc (head_in form) middle (tail_in form (timed_of m))
    ∙ ap (λ (y : Timed). head_in form ++ (middle ++ tail_in form y)) (timed_at image s last listing m listed there)
