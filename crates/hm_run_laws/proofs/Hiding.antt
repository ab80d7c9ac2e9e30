-- What handlers and entries change of the memory is hidden from the thread.
use Rattle.std.proofs.Common.{◌≡◌, ℕ, zero, suc, ◌-◌, ◌==◌, slice_index, ap, refl, sym, ◌∙◌, subst, Bool, true, false, cond, nat_lt, List, []}
use Rattle.std.proofs.Common.{Result, Ok, Err}
use Rattle.hm_beat.specs.Laws.{WritesTaint}
use Rattle.hm_beat.specs.Ordered.{nothing, of_four}
use Rattle.hm_beat.specs.Trees.{action, reach}
use Rattle.hm_beat.proofs.Tainting.{beat_hides}
use Rattle.hm_beat.proofs.Exchange.{rest_stays}
use Rattle.hm_exc.specs.Entry.{in_frame}
use Rattle.hm_exc.specs.declared.types.Activation.{Activation}
use Rattle.hm_isa.specs.declared.Instr.{Instr}
use Rattle.hm_isa.specs.declared.Vector.{Vector}
use Rattle.hm_mem.specs.Devices.{open_devices}
use Rattle.hm_mem.specs.Memory.{Around, Bounds, no_bounds, thread_under}
use Rattle.hm_mem.specs.Seen.{marks}
use Rattle.hm_mem.specs.declared.Actor.TheVariants.{Thread}
use Rattle.hm_mem.specs.declared.Dev.{Dev}
use Rattle.hm_order.specs.Beats.{Live}
use Rattle.hm_order.specs.Machine.{begin}
use Rattle.hm_order.proofs.Results.{decide, ok_err, ok_same, true_not_false}
use Rattle.hm_run_laws.proofs.Laws.{begun_in, caused_ok, value_in}
use Rattle.hm_run_laws.proofs.Ticks.{open_arrived, open_cond}
use Rattle.hm_rows.proofs.Context.{context_fresh, fresh}
use Rattle.hm_rows.proofs.Rows.{row_laws}
use Rattle.hm_rows.specs.Context.{with_context}
use Rattle.hm_rows.specs.Rows.{vector_tree}
use Rattle.hm_run.specs.Program.{Program, begins, rows}
use Rattle.hm_run.specs.Timed.{counted_with, with_devices}
use Rattle.hm_sched.specs.Schedule.{Sched}
use Rattle.hm_state.specs.State.{State, At, Byte, Value, Rest, cells, regs_of}
use Rattle.hm_sys.specs.Exceptions.{accepted, tick_number}
use Rattle.hm_thumb.specs.Laws.{under_handler}
use Rattle.hm_thumb.specs.Steps.{Stepped}
use Rattle.hm_whole.specs.Watched.{GoesHidden, Watched, In, Beside, Held, InCell, Besides, held, dead, view}
use Rattle.hm_whole.specs.Whole.{Went, goes_from, scalar_in_machine, state_with}
use Rattle.hm_whole.proofs.Agreement.{whole-hides}
use Rattle.hm_run_laws.specs.Entries.{entered_state}
use Rattle.hm_run_laws.specs.Registers.{registers_in, restored}

-- The bytes that are not tainted in t are those of s, and the output and the device words that a thread may read are the same.
pub record Hides (s t : State) : Type 0 where
  pub bytes : (a : ℕ) → (t.cell (Byte a)).taint ≡ false → t.cell (Byte a) ≡ s.cell (Byte a)
  pub devices : open_devices t.rest.devices ≡ open_devices s.rest.devices
  pub output : t.rest.output ≡ s.rest.output

pub hides_none : (s : State) → Hides s s
hides_none s = record { bytes = λ a live. refl; devices = refl; output = refl }

pub hides_then : (s t u : State) → Hides s t → Hides t u → Hides s u
hides_then s t u h k = record {
  bytes = λ a live. k.bytes a live ∙ h.bytes a (sym (ap (λ (v : Value). v.taint) (k.bytes a live)) ∙ live);
  devices = k.devices ∙ h.devices;
  output = k.output ∙ h.output;
}

-- UNDER REGISTERS THAT ARE GIVEN BACK
abbrev given : Rest → Dev → List ℕ → Held
given r d out = Besides (record r { devices = d; output = out; around = thread_under no_bounds })

pub restored_live : (r : _) (s t : State) → Hides s t → Live view (restored r Thread t) (restored r Thread s)
restored_live r s t h = record { cells = same; sticky = refl }
  where
    same : (w : Watched) → dead w (held (restored r Thread t) w) ≡ false → held (restored r Thread t) w ≡ held (restored r Thread s) w
    same (In (At p)) d = refl
    same (In (Byte a)) d = ap InCell (h.bytes a d)
    same Beside d = λ j. given r.beside (h.devices j) (h.output j)

-- the registers that stand there already
pub own_live : (s t : State) → Hides s t → Live view (restored (registers_in s) Thread t) s
own_live s t h = record { cells = same; sticky = refl }
  where
    same : (w : Watched) → dead w (held (restored (registers_in s) Thread t) w) ≡ false → held (restored (registers_in s) Thread t) w ≡ held s w
    same (In (At p)) d = refl
    same (In (Byte a)) d = ap InCell (h.bytes a d)
    same Beside d = λ j. given s.rest (h.devices j) (h.output j)

-- THE DEVICES AT THE END OF A TICK
pub counted_hides : (irq : List ℕ) (s : State) → Hides s (with_devices (counted_with irq) s)
counted_hides irq s = record { bytes = λ a live. refl; devices = open_arrived irq s.rest.devices; output = refl }

-- AN ENTRY
open_accepted : (e : ℕ) (d : Dev) → open_devices (accepted e d) ≡ open_devices d
open_accepted e d = open_cond (e == tick_number) _ _ d refl refl

pub entry_hides : (s : Sched) (x : Activation) (t : State) → Hides t (entered_state s x t)
unfolding state_with
entry_hides s x t = record { bytes = bytes; devices = open_accepted x.number t.rest.devices; output = refl }
  where
    bytes : (a : ℕ) → ((entered_state s x t).cell (Byte a)).taint ≡ false → (entered_state s x t).cell (Byte a) ≡ t.cell (Byte a)
    bytes a live = decide (in_frame x a)
        (λ is. true_not_false (cond (in_frame x a) true (t.cell (Byte a)).taint) (ap (λ (b : Bool). cond b true (t.cell (Byte a)).taint) is) live)
        (λ isnt. λ j. record {
          n = cond (isnt j) (slice_index x.bytes (a - x.frame)) (t.cell (Byte a)).n;
          taint = cond (isnt j) true (t.cell (Byte a)).taint;
        })

-- AN INSTRUCTION OF A HANDLER
abbrev devices_in : Dev → Held → Dev
devices_in d (InCell v) = d
devices_in d (Besides r) = r.devices

pub goes_output : {E : Type 0} (s : State) (q : Result Stepped E) (y : Went) → goes_from s q ≡ Ok y → y.state.rest.output ≡ s.rest.output
unfolding state_with
goes_output s (Ok x) y e = ap (λ (w : Went). w.state.rest.output) (sym (ok_same e))
goes_output s (Err f) y e = absurd (ok_err (sym e))

hidden_by : (s : State) (y : Went) → GoesHidden s (Ok y) → y.state.rest.output ≡ s.rest.output → Hides s y.state
unfolding state_with
hidden_by s y h out =
    let live = h (regs_of s) (thread_under no_bounds) [] in
    record {
      bytes = λ a clean. ap (value_in (s.cell (Byte a))) (live.cells (In (Byte a)) clean);
      devices = ap (devices_in s.rest.devices) (live.cells Beside refl);
      output = out;
    }

pub scalar_hides : (frame : ℕ) (bounds : Bounds) (i : Instr) (s : State) (y : Went) → scalar_in_machine (under_handler frame bounds) i s ≡ Ok y
    → Hides s y.state
scalar_hides frame bounds i s y e =
    hidden_by s y (subst (GoesHidden s) e (whole-hides frame bounds i s)) (goes_output s _ y e)

-- A BEAT OF A HANDLER
module _ (x : Around) (handler : marks x.actor ≡ true) where
  taints : (v : Vector) (k : ℕ) (s : State) → WritesTaint true (reach (of_four (vector_tree v x) k) s).writes
  taints v k s = one_of (nat_lt k 4)
    where
      one_of : (b : Bool) → WritesTaint true (reach (cond b (vector_tree v x k) nothing) s).writes
      one_of true = subst (λ (b : Bool). WritesTaint b (reach (vector_tree v x k) s).writes) handler ((row_laws v).taints x k s)
      one_of false = tt

  pub beat_hidden : (v : Vector) (k : ℕ) (s t : State) → ((rows x).act v k).run s ≡ Ok t → Hides s t
  beat_hidden v k s t e =
      let tree = of_four (vector_tree v x) k in
      let run : (action cells tree).run s ≡ Ok t = caused_ok ((action cells tree).run s) t e in
      let rest : t.rest ≡ s.rest = rest_stays tree s t run in
      record {
        bytes = beat_hides tree s t (taints v k s) run;
        devices = ap (λ (r : Rest). open_devices r.devices) rest;
        output = ap (λ (r : Rest). r.output) rest;
      }

fresh_hides : (s : State) → Hides s (fresh s)
fresh_hides s = record { bytes = λ a live. refl; devices = refl; output = refl }

pub context_hides : (s : State) → Hides s (with_context s)
context_hides s = subst (Hides s) (sym (context_fresh s)) (one_of s.rest.fpca)
  where
    one_of : (b : Bool) → Hides s (cond b s (fresh s))
    one_of true = hides_none s
    one_of false = fresh_hides s

pub begin_hides : (M : Program) → ((v : Vector) (s : State) → M.start v s ≡ begins v s) → (v : Vector) (a : ℕ) (s t : State) → begin M v a s ≡ Ok t → Hides s t
begin_hides M starts v zero s t e = subst (Hides s) (begun_in v s t (sym (starts v s) ∙ e)).1 (context_hides s)
begin_hides M starts v (suc a) s t e = subst (Hides s) (ok_same e) (hides_none s)
