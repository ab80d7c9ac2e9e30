-- What holds at each position of the thread, from what the abstract machine keeps.
use Rattle.std.proofs.Common.{◌≡◌, ℕ, zero, suc, ◌+◌, ◌-◌, ◌<◌, ◌≤◌, arith, ap, refl, sym, ◌∙◌, subst, Option, Some, None, Result, Ok, Err, inl, inr}
use Rattle.std.proofs.Common.{◌⊎◌, List}
use Rattle.hm_base.specs.Image.{Segment}
use Rattle.hm_base.specs.declared.Fault.{Fault}
use Rattle.hm_base.specs.declared.Stop.{Stop}
use Rattle.hm_base.specs.declared.Stop.TheVariants as stop
use Rattle.hm_beat.specs.Rows.{retired}
use Rattle.hm_codes.specs.Listing.{Listing}
use Rattle.hm_isa.specs.declared.Instr.{Instr}
use Rattle.hm_isa.specs.declared.Instr.TheVariants as instr
use Rattle.hm_isa.specs.declared.Vector.{Vector}
use Rattle.hm_mem.specs.Memory.{Around, thread_under}
use Rattle.hm_mem.specs.declared.Actor.TheVariants.{Thread}
use Rattle.hm_order.specs.Beats.{Live, then}
use Rattle.hm_order.specs.Machine.{Config}
use Rattle.hm_order.specs.Position.{Between, Holds, Inside, Reaches, Second, ahead}
use Rattle.hm_order.proofs.Results.{ok_same}
use Rattle.hm_run_laws.specs.Ends.{GoesOn}
use Rattle.hm_run_laws.proofs.Laws.{Agree, agree, caused_ok, laws, live_of}
use Rattle.hm_run_laws.proofs.Readings.{shown_alike}
use Rattle.hm_run_laws.proofs.Sequence.{runs_to}
use Rattle.hm_rows.specs.Context.{with_context}
use Rattle.hm_rows.specs.Rows.{refuse, vector_whole}
use Rattle.hm_run.specs.declared.Cause.{Cause}
use Rattle.hm_run.specs.declared.Cause.TheVariants as cause
use Rattle.hm_run.specs.Program.{Program, caused, cause_of, core, or_fault, unless_refused, vector_of, vector_row}
use Rattle.hm_run.specs.Stops as why
use Rattle.hm_run.specs.Stops.{WholeStop}
use Rattle.hm_run.specs.Timed.{bounds_of}
use Rattle.hm_sched.specs.Schedule.{Sched}
use Rattle.hm_state.specs.Start.{start}
use Rattle.hm_state.specs.State.{State}
use Rattle.hm_whole.specs.Watched.{view}
use Rattle.hm_run_laws.specs.Order.{KeepsOrder, thread_of}
use Rattle.hm_run_laws.specs.Runs.{Run, run}
use Rattle.hm_run_laws.proofs.Order.{keeps_order}
use Rattle.hm_run_laws.proofs.Headlines.{counted_n, going_on}
use Rattle.hm_run_laws.specs.Position.{Ahead, AtPosition, ComesTo, EndsAs, InsideRow, ReadsTaint, SameState, some_beats}
use Rattle.hm_run_laws.proofs.Beats.{beats_are, beats_pc, reads_taint}

-- STATES
same_of : (s t : State) → Agree s t → s.pc ≡ t.pc → SameState s t
same_of s t h pc = record { shown = shown_alike s t (live_of s t h) pc; places = h.places; bytes = h.bytes; sticky = h.sticky; pc = pc; rest = h.rest }

same_behind : (u v : State) → Live view u v → u.pc + 4 ≡ v.pc → SameState (retired u) v
same_behind u v live pc =
    let h = agree u v live in
    same_of (retired u) v (record { places = h.places; bytes = h.bytes; sticky = h.sticky; rest = h.rest }) pc

-- A VECTOR ROW goes on or has a fault
abbrev IsPlain : Result State WholeStop → Type 0
IsPlain (Ok z) = Unit {0}
IsPlain (Err (why.Faults f)) = Unit {0}
IsPlain (Err (why.Halt reason)) = ⊥
IsPlain (Err why.Full) = ⊥

plain_whole : (q : Result State Fault) → IsPlain (or_fault q)
plain_whole (Ok z) = tt
plain_whole (Err f) = tt

plain_begun : (o : Option Fault) (t : State) (f : State → Result State Fault) → IsPlain (then (unless_refused o t) (λ u. or_fault (f u)))
plain_begun None t f = plain_whole (f t)
plain_begun (Some e) t f = tt

plain_row : (v : Vector) (s : State) → IsPlain (vector_row v s)
plain_row v s = plain_begun (refuse v (with_context s)) (with_context s) (vector_whole v)

module _ (listing : Listing) (x : Around) (thread : x.actor ≡ Thread) where
  abbrev machine : Program
  machine = core listing x

  -- THE BEATS OF THE YOUNGER
  ahead_of : (p b : ℕ) (r : Result Instr Fault) (s z v : State) → listing p ≡ r → b < 3 → Second machine (vector_of r) b s
      → ahead machine (vector_of r) b z ≡ Ok v → Ahead x listing p b z v
  ahead_of p zero (Ok (instr.Scalar i)) s z v e low second h = ok_same h
  ahead_of p zero (Ok (instr.Branch i)) s z v e low second h = ok_same h
  ahead_of p zero (Ok (instr.Vector w)) s z v e low second h = ok_same h
  ahead_of p zero (Err f) s z v e low second h = ok_same h
  ahead_of p (suc b) (Ok (instr.Scalar i)) s z v e low second h = absurd cc
  ahead_of p (suc b) (Ok (instr.Branch i)) s z v e low second h = absurd cc
  ahead_of p (suc b) (Ok (instr.Vector w)) s z v e low second h =
      let few : 0 + suc b ≤ 4 = omega arith in
      (w, e, caused_ok (some_beats x w 0 (suc b) z) v (sym (beats_are x w (suc b) 0 z few) ∙ h))
  ahead_of p (suc b) (Err f) s z v e low second h = absurd cc

  ahead_pc : (p b : ℕ) (z v : State) → Ahead x listing p b z v → v.pc ≡ z.pc
  ahead_pc p zero z v h = ap (λ (u : State). u.pc) (sym h)
  ahead_pc p (suc b) z v h = beats_pc x h.0 (suc b) 0 z v h.2

  -- THE REMAINING BEATS
  module _ (c : Config State) (y : State) (row : Vector) (pc : c.state.pc ≡ y.pc) (low : c.a < 4) (few : c.b < 3) where
    abbrev Told : Result State Stop → Type 0
    Told r = some_beats x row c.a (4 - c.a) c.state ≡ r

    tainted_comes : (q : Result State WholeStop) → IsPlain q → ReadsTaint x row c.a c.state → ComesTo x listing c row q
    tainted_comes (Ok z) p h = inr h
    tainted_comes (Err (why.Faults f)) p h = inr h
    tainted_comes (Err (why.Halt reason)) p h = p
    tainted_comes (Err why.Full) p h = p

    stops_so : (e : Stop) (w : WholeStop) → Told (Err e) → cause_of w ≡ cause.Stop e → ComesTo x listing c row (Err w)
    stops_so e (why.Halt reason) t h = absurd cc
    stops_so e why.Full t h = absurd cc
    stops_so e (why.Faults f) t h =
        let same : e ≡ stop.Fault f = cc in
        inl (ap (λ (r : Result State Stop). then r (λ u. Ok (retired u))) (t ∙ ap Err same))

    ends_so : (u z v : State) → Told (Ok u) → vector_row row y ≡ Ok z → Second machine (vector_of (listing (y.pc + 4))) c.b c.state
        → ahead machine (vector_of (listing (y.pc + 4))) c.b z ≡ Ok v → Live view u v → EndsAs x listing c row z
    ends_so u z v t e second h live =
        let goes : Ahead x listing (y.pc + 4) c.b z v = ahead_of (y.pc + 4) c.b (listing (y.pc + 4)) c.state z v refl few second h in
        let behind : u.pc + 4 ≡ v.pc =
        ap (λ (p : ℕ). p + 4) (beats_pc x row (4 - c.a) c.a c.state u t ∙ pc)
        ∙ sym (ahead_pc (y.pc + 4) c.b z v goes ∙ (laws listing x thread).whole_pc row y z e) in
        record {
          left = retired u;
          done = ap (λ (r : Result State Stop). then r (λ w. Ok (retired w))) t;
          ahead = v;
          goes = subst (λ (p : ℕ). Ahead x listing (p + 4) c.b z v) (sym pc) goes;
          same = same_behind u v live behind;
        }

    comes : (r : Result State Stop) → Told r → Second machine (vector_of (listing (y.pc + 4))) c.b c.state
        → Reaches machine (caused r) (vector_row row y) (vector_of (listing (y.pc + 4))) c.b → ComesTo x listing c row (vector_row row y)
    comes (Ok u) t second h =
        subst (λ (q : Result State WholeStop). ComesTo x listing c row q) (sym h.2) (inl (ends_so u h.0 h.1 t h.2 second h.3 h.4))
    comes (Err e) t second (inl tainted) = tainted_comes (vector_row row y) (plain_row row y) (reads_taint x thread row c.a c.state e low t tainted)
    comes (Err e) t second (inr h) = subst (λ (q : Result State WholeStop). ComesTo x listing c row q) (sym h.2) (stops_so e h.0 t h.1)

  vector_stands : (r : Result Instr Fault) (v : Vector) → vector_of r ≡ Some v → r ≡ Ok (instr.Vector v)
  vector_stands (Ok (instr.Vector w)) v e = let same : w ≡ v = cc in ap (λ (u : Vector). Ok (instr.Vector u)) same
  vector_stands r v e = absurd cc

  inside_row : (c : Config State) (y : State) → c.state.pc ≡ y.pc → Inside machine c y → InsideRow x listing c y
  inside_row c y pc h =
      let low : c.a < 4 = h.below in
      let all : c.a + (4 - c.a) ≤ 4 = omega arith in
      record {
        row = h.row;
        here = ap listing pc ∙ vector_stands (listing y.pc) h.row h.here;
        comes_to = comes c y h.row pc h.below h.few (some_beats x h.row c.a (4 - c.a) c.state) refl h.second
            (subst (λ (r : Result State Cause). Reaches machine r (vector_row h.row y) (vector_of (listing (y.pc + 4))) c.b)
            (beats_are x h.row (4 - c.a) c.a c.state all) h.ends);
      }

  not_both : (a : ℕ) {P : Type 0} → a ≡ 0 → 0 < a → P
  not_both a {P} e h = absurd (omega arith)

  position_of : (image : List Segment) (c : Config State) → Holds machine (start image) c → AtPosition listing image x c.n c
  position_of image c h = placed h.place
    where
      placed : Between machine c h.order ⊎ Inside machine c h.order → AtPosition listing image x c.n c
      placed (inl b) = record {
        order = h.order;
        runs = runs_to listing image x c.n h.order h.runs;
        pc = h.pc;
        older = let e : c.a ≡ 0 = b.a in omega arith;
        younger = let e : c.b ≡ 0 = b.b in omega arith;
        between = λ e. (b.b, same_of c.state h.order (agree c.state h.order b.live) h.pc);
        inside = λ low. not_both c.a b.a low;
      }
      placed (inr i) = record {
        order = h.order;
        runs = runs_to listing image x c.n h.order h.runs;
        pc = h.pc;
        older = i.below;
        younger = i.few;
        between = λ e. not_both c.a e i.begun;
        inside = λ low. inside_row c h.order h.pc i;
      }

-- AFTER EACH TICK
module _ (listing : Listing) (image : List Segment) (s : Sched) where
  position_at : (x : Run) → KeepsOrder listing image s x → GoesOn x.outcome
      → AtPosition listing image (thread_under (bounds_of s)) x.machine.config.n (thread_of x.machine.config x.machine.acts)
  position_at x keeps on =
      let c = thread_of x.machine.config x.machine.acts in
      subst (λ (n : ℕ). AtPosition listing image (thread_under (bounds_of s)) n c) (counted_n x.machine.config x.machine.acts)
      (position_of listing (thread_under (bounds_of s)) refl image c (going_on listing image s x keeps on))

pub position_every : (listing : Listing) (image : List Segment) (s : Sched) (t : ℕ) → let x = run listing image s t in
    GoesOn x.outcome → AtPosition listing image (thread_under (bounds_of s)) x.machine.config.n (thread_of x.machine.config x.machine.acts)
position_every listing image s t on = position_at listing image s (run listing image s t) (keeps_order listing image s t) on
