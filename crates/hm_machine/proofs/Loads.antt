-- A machine at the start.
use Rattle.hm_cpu.specs.Cpus.{interrupted_of}
use Rattle.hm_run.specs.Timed.{bounds_of}
use Rattle.std.proofs.Common.{◌≡◌, ℕ, zero, suc, ◌+◌, ◌-◌, ◌%◌, ◌<◌, ◌≤◌, arith, ap, refl, sym, ◌∙◌, subst, List, [], ◌∷◌, drop, length, map, Option, Some}
use Rattle.std.proofs.Common.{None, All, false}
use Rattle.hm_base.specs.Image.{Segment, first_byte, flash_byte, word_at}
use Rattle.hm_machine.proofs.Cursors.{begins, left_new}
use Rattle.hm_machine.specs.Machines.{left_in, left_while, HasTick}
use Rattle.hm_machine.specs.Shown.{Shows, run_with}
use Rattle.hm_mem.specs.Memory.{Memory, byte_at, flash_at, tainted_at, first_devices, thread_under}
use Rattle.hm_order.specs.Machine.{at_start}
use Rattle.hm_regs.specs.declared.Regs.{Regs}
use Rattle.hm_regs.specs.Start.{start_regs}
use Rattle.hm_run.specs.declared.Outcome.{Outcome}
use Rattle.hm_run.specs.declared.Outcome.TheVariants as outcome
use Rattle.hm_exc.specs.declared.types.Activation.{Activation}
use Rattle.hm_run_laws.proofs.Soundness.{start_sound}
use Rattle.hm_run_laws.specs.Runs.{Run, begin, closed, run}
use Rattle.hm_run_laws.specs.Sound.{IsSound}
use Rattle.hm_run_laws.proofs.TickCounts.{closed_entries}
use Rattle.hm_machine.proofs.Runs.{Comes}
use Rattle.hm_run_laws.proofs.Ends.{closed_out}
use Rattle.hm_sched.specs.Schedule.{TickLine, Sched, IsLine, most_ticks, ticks_of}
use Rattle.hm_state.proofs.Started.{started}
use Rattle.hm_state.specs.Start.{reset_pc, reset_sp, start_under}
use Rattle.hm_state.specs.State.{state_of}

-- the first tick of lines that have one
pub first_stands : (most : ℕ) (lines : List TickLine) → All (IsLine most) lines → 0 < length (ticks_of lines) → HasTick (drop 0 lines) 0
first_stands most [] all some = absurd (omega arith)
first_stands most (x ∷ xs) all some = begins most (x ∷ xs) 0 (omega arith) all

state_at_start : (image : List Segment) (s : Sched) (m : Memory) (sp pc : ℕ) (regs : Regs) (output : List ℕ)
    → flash_at m ≡ flash_byte image → ((a : ℕ) → byte_at m a ≡ first_byte image a) → ((a : ℕ) → tainted_at m a ≡ false)
    → m.devices ≡ first_devices → m.around ≡ thread_under (bounds_of s)
    → sp ≡ word_at (flash_at m) 0 → pc ≡ word_at (flash_at m) 4 → regs ≡ start_regs (sp - sp % 4) (pc - pc % 2) → output ≡ []
    → state_of regs m output ≡ start_under (bounds_of s) image
state_at_start image s m sp pc regs output flash bytes clean devices around esp epc eregs eout =
    let p : sp ≡ reset_sp image = esp ∙ ap (λ (f : ℕ → ℕ). word_at f 0) flash in
    let q : pc ≡ reset_pc image = epc ∙ ap (λ (f : ℕ → ℕ). word_at f 4) flash in
    (λ i. state_of (eregs i) m (eout i)) ∙ (λ i. state_of (start_regs (p i - p i % 4) (q i - q i % 2)) m [])
    ∙ started image m (bounds_of s) bytes clean devices around

-- before the first tick
pub begun : (left : List TickLine) (x : Run) (o : Option Outcome) → x.outcome ≡ None
    → (0 < length left → o ≡ None) → (length left ≡ 0 → o ≡ Some outcome.OutOfTicks)
    → Comes o x.machine x.ticks (closed left x)
begun [] x o none some out =
    subst (λ (r : Run). Comes o x.machine x.ticks r) (sym (closed_out [] x none refl))
    (ap (λ (q : Option Outcome). run_with q x.machine x.ticks x.entries) (out refl))
begun (l ∷ left) x o none some out = let e = some (omega arith) in ap (λ (q : Option Outcome). record x { outcome = q }) (e ∙ sym none)

pub first_left : (lines : List TickLine) (o : Option Outcome) → o ≡ None → left_while o (left_in (drop 0 lines) 0) ≡ drop 0 (ticks_of lines)
first_left lines o none = ap (λ (q : Option Outcome). left_while q (left_in lines 0)) none ∙ left_new lines

pub shows_start : (image : List Segment) (s : Sched) (m : Memory) (sp pc : ℕ) (regs : Regs) (output : List ℕ) (acts : List Activation) (o : Option Outcome)
    → flash_at m ≡ flash_byte image → ((a : ℕ) → byte_at m a ≡ first_byte image a) → ((a : ℕ) → tainted_at m a ≡ false)
    → m.devices ≡ first_devices → m.around ≡ thread_under (bounds_of s)
    → sp ≡ word_at (flash_at m) 0 → pc ≡ word_at (flash_at m) 4 → regs ≡ start_regs (sp - sp % 4) (pc - pc % 2) → output ≡ []
    → acts ≡ [] → (0 < length (ticks_of s.lines) → o ≡ None) → (length (ticks_of s.lines) ≡ 0 → o ≡ Some outcome.OutOfTicks)
    → Shows image s 0 (record {
      regs = regs;
      memory = m;
      output = output;
      a = 0;
      b = 0;
      retired = 0;
      older_steps = 0;
      outcome = o;
      acts = acts;
      ticks = 0;
      entries = 0;
      schedule = s;
      left = left_while o (left_in (drop 0 s.lines) 0);
    })
shows_start image s m sp pc regs output acts o flash bytes clean devices around esp epc eregs eout eacts some out = record {
  bytes = flash;
  plan = refl;
  left = first_left s.lines o;
  now = λ listing is.
      (λ j. run_with o (record {
        config = at_start (state_at_start image s m sp pc regs output flash bytes clean devices around esp epc eregs eout j);
        acts = map interrupted_of (eacts j);
      }) 0 (run listing image s 0).entries)
      ∙ begun (ticks_of s.lines) (begin image s) o refl some out;
  count = λ listing is. sym (ap length (closed_entries (ticks_of s.lines) (begin image s)));
}

-- what holds at the start
pub sound_start : (image : List Segment) (s : Sched) (m : Memory) (sp pc : ℕ) (regs : Regs) (output : List ℕ) (acts : List Activation)
    → flash_at m ≡ flash_byte image → ((a : ℕ) → byte_at m a ≡ first_byte image a) → ((a : ℕ) → tainted_at m a ≡ false)
    → m.devices ≡ first_devices → m.around ≡ thread_under (bounds_of s)
    → sp ≡ word_at (flash_at m) 0 → pc ≡ word_at (flash_at m) 4 → regs ≡ start_regs (sp - sp % 4) (pc - pc % 2) → output ≡ [] → acts ≡ []
    → IsSound s (record { config = at_start (state_of regs m output); acts = map interrupted_of acts })
sound_start image s m sp pc regs output acts flash bytes clean devices around esp epc eregs eout eacts =
    let first : record { config = at_start (state_of regs m output); acts = map interrupted_of acts } ≡ (begin image s).machine = λ j. record {
      config = at_start (state_at_start image s m sp pc regs output flash bytes clean devices around esp epc eregs eout j);
      acts = map interrupted_of (eacts j);
    } in
    subst (IsSound s) (sym first) (start_sound image s)

-- the address of the first instruction is odd
pub odd_pc : (image : List Segment) (m : Memory) (pc : ℕ) → flash_at m ≡ flash_byte image → pc ≡ word_at (flash_at m) 4 → (pc % 2 ≡ 0 → ⊥)
    → reset_pc image % 2 ≡ 1
odd_pc image m pc flash e odd =
    let q : pc ≡ reset_pc image = e ∙ ap (λ (f : ℕ → ℕ). word_at f 4) flash in
    subst (λ (n : ℕ). n % 2 ≡ 1) q (omega arith)

-- a run that goes on has a tick
pub running_ticks : (n : ℕ) (o : Option Outcome) → o ≡ None → (n ≡ 0 → o ≡ Some outcome.OutOfTicks) → 0 < n
running_ticks zero o none out = absurd (let e = out refl in cc)
running_ticks (suc n) o none out = omega arith

pub first_length : (lines : List TickLine) → length (ticks_of lines) ≤ most_ticks → 0 + length (left_in (drop 0 lines) 0) ≤ most_ticks
first_length lines h = let e = ap length (left_new lines) in omega arith
