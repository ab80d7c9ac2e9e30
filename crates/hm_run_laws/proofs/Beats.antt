-- Beats of a row one after another, and where one of them reads a tainted byte.
use Rattle.std.proofs.Common.{◌≡◌, ℕ, zero, suc, ◌+◌, ◌-◌, ◌<◌, ◌≤◌, arith, ap, refl, sym, ◌∙◌, subst, Bool, true, cond, List, [], ◌∷◌, Option, Some}
use Rattle.std.proofs.Common.{None, Ok, Err, add-zero}
use Rattle.hm_base.specs.declared.Stop.{Stop}
use Rattle.hm_base.specs.Stops.{is_tainted}
use Rattle.hm_beat.specs.Rows.{Tree}
use Rattle.hm_beat.specs.Trees.{Asks, Check, Fails, FailsElse, Leaf, action, asked, checked, finish, holds, reach, tested}
use Rattle.hm_beat.proofs.Trees.{one_of, other_of}
use Rattle.hm_isa.specs.declared.Vector.{Vector}
use Rattle.hm_mem.specs.Memory.{Around}
use Rattle.hm_mem.specs.declared.Actor.TheVariants.{Thread}
use Rattle.hm_order.specs.Beats.{beats, then}
use Rattle.hm_order.proofs.Results.{decide, ok_err, ok_same, err_same, then_err, then_ok, then_ok_at, true_not_false}
use Rattle.hm_run_laws.proofs.Vectors.{beat_pc}
use Rattle.hm_rows.proofs.Rows.{row_laws}
use Rattle.hm_rows.specs.Rows.{vector_tree}
use Rattle.hm_run_laws.proofs.Laws.{caused_then, of_four_is}
use Rattle.hm_run.specs.Program.{caused, rows}
use Rattle.hm_state.specs.State.{State, Cell, At, Byte, Value, cells}
use Rattle.hm_state.proofs.Cells.{cell_laws}
use Rattle.hm_run_laws.specs.Position.{ReadsTaint, beat, some_beats}

-- THE TWO WORDS FOR BEATS: those of the abstract machine, and these
pub beats_are : (x : Around) (v : Vector) (n k : ℕ) (s : State) → k + n ≤ 4 → beats (rows x) v k n s ≡ caused (some_beats x v k n s)
beats_are x v zero k s low = refl
beats_are x v (suc n) k s low =
    let first : k < 4 = omega arith in
    let later : suc k + n ≤ 4 = omega arith in
    ap (λ (t : Tree). then (caused ((action cells t).run s)) (beats (rows x) v (suc k) n)) (of_four_is (vector_tree v x) k first)
    ∙ caused_then (beat x v k s) (beats (rows x) v (suc k) n) (some_beats x v (suc k) n) (λ t. beats_are x v n (suc k) t later)

-- beats leave the program counter
pub beats_pc : (x : Around) (v : Vector) (n k : ℕ) (s t : State) → some_beats x v k n s ≡ Ok t → t.pc ≡ s.pc
beats_pc x v zero k s t e = ap (λ (u : State). u.pc) (sym (ok_same e))
beats_pc x v (suc n) k s t e =
    let first = then_ok (beat x v k s) (some_beats x v (suc k) n) t e in
    beats_pc x v n (suc k) first.0 t first.2 ∙ beat_pc (vector_tree v x k) s first.0 first.1

-- THE BEAT THAT STOPS
record Found (x : Around) (v : Vector) (n k : ℕ) (s : State) (e : Stop) : Type 0 where
  before : ℕ
  below : before < n
  state : State
  done : some_beats x v k before s ≡ Ok state
  stops : beat x v (k + before) state ≡ Err e

module _ (x : Around) (v : Vector) where
  one_later : (n k : ℕ) (s t : State) (e : Stop) → beat x v k s ≡ Ok t → Found x v n (suc k) t e → Found x v (suc n) k s e
  one_later n k s t e first h = record {
    before = suc h.before;
    below = let low : h.before < n = h.below in omega arith;
    state = h.state;
    done = then_ok_at (beat x v k s) (some_beats x v (suc k) h.before) t first ∙ h.done;
    stops = let place : k + suc h.before ≡ suc k + h.before = omega arith in subst (λ (p : ℕ). beat x v p h.state ≡ Err e) (sym place) h.stops;
  }

  found : (n k : ℕ) (s : State) (e : Stop) → some_beats x v k n s ≡ Err e → Found x v n k s e
  found zero k s e h = absurd (ok_err h)
  found (suc n) k s e h =
      then_err (beat x v k s) (some_beats x v (suc k) n) e h
      (λ stop. record { before = 0; below = omega arith; state = s; done = refl; stops = subst (λ (p : ℕ). beat x v p s ≡ Err e) (sym (add-zero k)) stop })
      (λ t first rest. one_later n k s t e first (found n (suc k) t e rest))

-- A STOP AS TAINTED is at a byte that is asked for, and tainted
record AsksTaint (cs : List (Check Cell Stop)) (s : State) : Type 0 where
  byte : ℕ
  asks : holds cells (asked cs) (Byte byte) ≡ true
  taint : (s.cell (Byte byte)).taint ≡ true

asks_taint : (cs : List (Check Cell Stop)) (s : State) (e : Stop) → FailsElse is_tainted cs → checked cells cs s ≡ Some e → is_tainted e ≡ true → AsksTaint cs s
asks_taint [] s e fails h t = absurd cc
asks_taint (Fails f ∷ cs) s e fails h t = let same : f ≡ e = cc in true_not_false (is_tainted e) t (ap is_tainted (sym same) ∙ fails.0)
asks_taint (Asks (At p) f ∷ cs) s e fails h t = let more = asks_taint cs s e fails h t in record { byte = more.byte; asks = more.asks; taint = more.taint }
asks_taint (Asks (Byte a) f ∷ cs) s e fails h t = decide (s.cell (Byte a)).taint
    (λ is. record { byte = a; asks = one_of (cells.same (Byte a) (Byte a)) (holds cells (asked cs) (Byte a)) (cell_laws.refl_same (Byte a)); taint = is })
    (λ isnt.
    let more = asks_taint cs s e fails (ap (λ (b : Bool). cond b (Some f) (checked cells cs s)) (sym isnt) ∙ h) t in
    record { byte = more.byte; asks = other_of (cells.same (Byte a) (Byte more.byte)) (holds cells (asked cs) (Byte more.byte)) more.asks; taint = more.taint })

pub stopped : (o : Option Stop) (l : Leaf Cell Value Stop) (s : State) (e : Stop) → finish cells o l s ≡ Err e → o ≡ Some e
stopped (Some f) l s e h = ap Some (err_same h)
stopped None l s e h = absurd (ok_err h)

module _ (x : Around) (thread : x.actor ≡ Thread) (v : Vector) where
  tainted_beat : (k : ℕ) (s : State) (e : Stop) → beat x v k s ≡ Err e → is_tainted e ≡ true → AsksTaint (reach (vector_tree v x k) s).checks s
  tainted_beat k s e h t =
      asks_taint (reach (vector_tree v x k) s).checks s e ((row_laws v).careful x k s thread).fails
      (stopped (checked cells (reach (vector_tree v x k) s).checks s) (reach (vector_tree v x k) s) s e h) t

  used : (k : ℕ) (s : State) (a : ℕ) → holds cells (asked (reach (vector_tree v x k) s).checks) (Byte a) ≡ true
      → (action cells (vector_tree v x k)).uses s (Byte a) ≡ true
  used k s a h =
      other_of (tested cells (vector_tree v x k) s (Byte a)) _
      (other_of (holds cells (reach (vector_tree v x k) s).reads (Byte a)) (holds cells (asked (reach (vector_tree v x k) s).checks) (Byte a)) h)

  pub reads_taint : (a : ℕ) (s : State) (e : Stop) → a < 4 → some_beats x v a (4 - a) s ≡ Err e → is_tainted e ≡ true → ReadsTaint x v a s
  reads_taint a s e low h t =
      let f = found x v (4 - a) a s e h in
      let below : f.before < 4 - a = f.below in
      let count : f.before ≡ (a + f.before) - a = omega arith in
      let byte = tainted_beat (a + f.before) f.state e f.stops t in
      record {
        beat_number = a + f.before;
        from = omega arith;
        below = omega arith;
        state = f.state;
        done = subst (λ (m : ℕ). some_beats x v a m s ≡ Ok f.state) count f.done;
        byte = byte.byte;
        reads = used (a + f.before) f.state byte.byte byte.asks;
        taint = byte.taint;
        why = e;
        stops = f.stops;
        tainted = t;
      }
