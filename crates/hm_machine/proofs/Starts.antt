-- A machine that is put back to the start of its runs, under another schedule.
use Rattle.std.proofs.Common.{◌≡◌, ℕ, ◌<◌, arith, ap, refl, sym, ◌∙◌, subst, Bool, cond, ltb, true, false, List, [], drop, length, slice_index}
use Rattle.std.proofs.Common.{slice_index_or, Option, Some, None}
use Rattle.std.proofs.lemmas.Bool.{ltb-true}
use Rattle.std.proofs.lemmas.List.{get_or_default}
use Rattle.hm_base.specs.Image.{Segment, first_byte, flash_byte, flash_size, given}
use Rattle.hm_codes.proofs.Exists.{exists}
use Rattle.hm_run_laws.proofs.Soundness.{start_sound}
use Rattle.hm_run_laws.proofs.TickCounts.{closed_entries, closed_machine, closed_ticks}
use Rattle.hm_run_laws.specs.Nested.{Nested}
use Rattle.hm_run_laws.specs.Runs.{Run, begin, run}
use Rattle.hm_run_laws.specs.Sound.{IsSound}
use Rattle.hm_machine.proofs.Loads.{begun, first_left}
use Rattle.hm_machine.specs.Checkpoints.{IsKept, at_checkpoint}
use Rattle.hm_machine.specs.Machines.{left_in, left_while}
use Rattle.hm_machine.specs.Shown.{Fixed, Shown, Shows, fixed_of, run_of, run_with}
use Rattle.hm_machine.specs.Starts.{IsStart}
use Rattle.hm_machine.specs.declared.checkpoint.Checkpoint.{Checkpoint}
use Rattle.hm_machine.specs.declared.start.Start.{Start}
use Rattle.hm_mem.specs.Memory.{Around, Bounds, Memory, byte_at, thread_under}
use Rattle.hm_regs.specs.declared.Regs.{Regs}
use Rattle.hm_run.specs.Timed.{bounds_of}
use Rattle.hm_run.specs.declared.Outcome.{Outcome}
use Rattle.hm_run.specs.declared.Outcome.TheVariants as outcome
use Rattle.hm_sched.specs.Schedule.{Sched, ticks_of}
use Rattle.hm_state.specs.Start.{first_cell, start_under}
use Rattle.hm_state.specs.State.{At, Byte, Cell, State, cell_of, state_of}

-- THE STATE. The bytes of flash are those of the image, however the list that holds them goes on.
flash_or : (b : Bool) (x y z g h : ℕ) → (b ≡ true → x ≡ g) → cond b y z ≡ cond b g h → cond b x z ≡ cond b g h
flash_or true x y z g h first same = first refl
flash_or false x y z g h first same = same

in_flash : (b : Bool) (x g : ℕ) → b ≡ true → x ≡ cond b g 255 → x ≡ g
in_flash true x g is e = e
in_flash false x g is e = absurd cc

module _ (image : List Segment) (regs : Regs) (m : Memory) (old new : Bounds) (output : List ℕ) (first : state_of regs m output ≡ start_under old image)
    (flash : List ℕ) (whole : length flash ≡ flash_size) (bytes : (a : ℕ) → slice_index_or flash a 255 ≡ flash_byte image a)
    (around : Around) (thread : around ≡ thread_under new) where
  abbrev other : Memory
  other = record m { flash = flash; around = around }

  byte_first : (a : ℕ) → byte_at m a ≡ first_byte image a
  unfolding state_of start_under
  byte_first a = ap (λ (s : State). (s.cell (Byte a)).n) first

  byte_still : (a : ℕ) → byte_at other a ≡ first_byte image a
  byte_still a =
      flash_or (ltb a flash_size) (slice_index flash a) (slice_index m.flash a) _ (given image 255 a) _
      (λ is.
      let below : a < flash_size = ltb-true a flash_size is in
      let inside : a < length flash = omega (arith, below, whole) in
      get_or_default flash a 0 255 inside ∙ in_flash (ltb a flash_size) (slice_index_or flash a 255) (given image 255 a) is (bytes a)) (byte_first a)

  cell_still : (c : Cell) → cell_of regs other c ≡ first_cell image c
  unfolding state_of start_under
  cell_still (At p) = ap (λ (s : State). s.cell (At p)) first
  cell_still (Byte a) = λ j. record { n = byte_still a j; taint = ap (λ (s : State). (s.cell (Byte a)).taint) first j }

  -- the same state under other bounds
  pub state_again : state_of regs other [] ≡ start_under new image
  unfolding state_of start_under
  state_again = λ j. record {
    cell = λ c. cell_still c j;
    sticky = ap (λ (s : State). s.sticky) first j;
    pc = ap (λ (s : State). s.pc) first j;
    rest = record (ap (λ (s : State). s.rest) first j) { output = []; around = thread j };
  }

-- THE RUN at its start
module _ (image : List Segment) (t : Sched) (x : Start) (from : IsStart image t x) where
  abbrev kept : Shown
  kept = record (at_checkpoint x.checkpoint (fixed_of from.machine) []) { outcome = from.machine.outcome; left = from.machine.left }

  shown : Shows image t 0 kept
  shown = subst (Shows image t 0) (sym from.is) from.shows

  first_machine : (run_of kept []).machine ≡ (begin image t).machine
  first_machine =
      let there = exists (flash_byte image) in
      ap (λ (r : Run). r.machine) (shown.now there.0 there.1) ∙ closed_machine (ticks_of t.lines) (begin image t)

  pub first_ticks : x.checkpoint.ticks ≡ 0
  first_ticks =
      let there = exists (flash_byte image) in
      ap (λ (r : Run). r.ticks) (shown.now there.0 there.1) ∙ closed_ticks (ticks_of t.lines) (begin image t)

  first_entries : x.checkpoint.entries ≡ 0
  first_entries =
      let there = exists (flash_byte image) in
      shown.count there.0 there.1 ∙ ap length (closed_entries (ticks_of t.lines) (begin image t))

  pub first_older : x.checkpoint.window.a ≡ 0
  first_older = ap (λ (m : Nested). m.config.a) first_machine

  pub first_younger : x.checkpoint.window.b ≡ 0
  first_younger = ap (λ (m : Nested). m.config.b) first_machine

  first_retired : x.checkpoint.retired ≡ 0
  first_retired = ap (λ (m : Nested). m.config.n) first_machine

  first_steps : x.checkpoint.older_steps ≡ 0
  first_steps = ap (λ (m : Nested). m.config.steps) first_machine

  not_none : {P : Type 0} → x.checkpoint.outcome ≡ None → P
  not_none none = let no : Some outcome.OutOfTicks ≡ None = sym from.over ∙ none in absurd cc

  -- a machine of any image may be put back to it
  pub kept_start : (f : Fixed) → IsKept x.checkpoint f []
  kept_start f =
      let ticks = first_ticks in
      let entries = first_entries in
      let retired = first_retired in
      let steps = first_steps in
      record {
        room = omega arith;
        position = λ none. not_none none;
        sound = λ none. not_none none;
        running = λ none. not_none none;
        begun = λ none. not_none none;
        few = omega (arith, ticks);
        entries = omega (arith, entries);
        retired = omega (arith, retired);
        steps = omega (arith, steps);
      }

  -- AGAIN, under a schedule with these bounds
  module _ (s : Sched) (f : Fixed) (whole : length f.flash ≡ flash_size) (bytes : (a : ℕ) → slice_index_or f.flash a 255 ≡ flash_byte image a)
      (bounds : f.places.bounds ≡ bounds_of s) where
    abbrev again : Shown
    again = at_checkpoint x.checkpoint f []

    around_again : again.memory.around ≡ thread_under (bounds_of s)
    unfolding state_of start_under
    around_again = λ j. record { actor = ap (λ (m : Nested). m.config.state.rest.around.actor) first_machine j; bounds = bounds j }

    machine_again : (run_of again []).machine ≡ (begin image s).machine
    machine_again = λ j. record {
      config = record {
        a = first_older j;
        b = first_younger j;
        n = first_retired j;
        steps = first_steps j;
        state = state_again image x.checkpoint.regs kept.memory (bounds_of t) (bounds_of s) [] (ap (λ (m : Nested). m.config.state) first_machine) f.flash whole
            bytes again.memory.around around_again j;
      };
      acts = ap (λ (m : Nested). m.acts) first_machine j;
    }

    pub sound_again : IsSound s (run_of again []).machine
    sound_again = subst (IsSound s) (sym machine_again) (start_sound image s)

    pub shows_again : (o : Option Outcome) → (0 < length (ticks_of s.lines) → o ≡ None) → (length (ticks_of s.lines) ≡ 0 → o ≡ Some outcome.OutOfTicks)
        → Shows image s 0 (record again { outcome = o; schedule = s; left = left_while o (left_in (drop 0 s.lines) 0) })
    shows_again o some out = record {
      bytes = λ j. λ (a : ℕ). bytes a j;
      plan = refl;
      left = first_left s.lines o;
      now = λ listing is. (λ j. run_with o (machine_again j) (first_ticks j) (run listing image s 0).entries)
          ∙ begun (ticks_of s.lines) (begin image s) o refl some out;
      count = λ listing is. first_entries ∙ sym (ap length (closed_entries (ticks_of s.lines) (begin image s)));
    }

-- IT IS KEPT. Before its first tick nothing is written.
written_none : (image : List Segment) (s : Sched) (m : Shown) → Shows image s 0 m → m.output ≡ []
unfolding state_of start_under
written_none image s m h =
    let there = exists (flash_byte image) in
    ap (λ (r : Run). r.machine.config.state.rest.output) (h.now there.0 there.1)
    ∙ ap (λ (x : Nested). x.config.state.rest.output) (closed_machine (ticks_of s.lines) (begin image s))

pub is_start : (image : List Segment) (s : Sched) (m : Shown) (c : Checkpoint) → Shows image s 0 m → at_checkpoint c (fixed_of m) m.output ≡ m
    → IsStart image s (record { checkpoint = record c { outcome = Some outcome.OutOfTicks } })
is_start image s m c h is = record {
  machine = m;
  shows = h;
  is = (λ j. record (at_checkpoint c (fixed_of m) (sym (written_none image s m h) j)) { outcome = m.outcome; left = m.left })
      ∙ ap (λ (v : Shown). record v { outcome = m.outcome; left = m.left }) is;
  over = refl;
}
