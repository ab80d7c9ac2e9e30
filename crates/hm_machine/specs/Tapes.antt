-- How a tape's fields show what callers see of it.
use Rattle.std.specs.Prelude.{◌≡◌, ℕ, ◌*◌, ◌<◌, ◌≤◌, List, [], ◌∷◌, length, map, take, slice_get, Some}
use Rattle.hm_base.specs.Image.{Segment}
use Rattle.hm_machine.specs.Checkpoints.{IsKept, at_checkpoint}
use Rattle.hm_machine.specs.Shown.{Fixed, Shown, Shows, fixed_of}
use Rattle.hm_machine.specs.Taped.{Taped}
use Rattle.hm_machine.specs.declared.checkpoint.Checkpoint.{Checkpoint}
use Rattle.hm_machine.specs.declared.tape.Tape.TheInside.{Inside}
use Rattle.hm_sched.specs.Schedule.{Sched, most_ticks}

-- a machine at a checkpoint of a run, by what the run leaves and its output
abbrev pub machine_at : Fixed → List ℕ → Checkpoint → Shown
machine_at f output c = at_checkpoint c f (take c.written output)

-- a machine at the first checkpoint
abbrev pub first_of : List Checkpoint → List ℕ → Shown → Shown
first_of [] output m = m
first_of (c ∷ cs) output m = machine_at (fixed_of m) output c

-- what callers see of a tape's fields
abbrev pub tape_view : Inside → Taped
tape_view w = record {
  start = first_of w.kept.items w.output.items w.machine;
  last = w.last;
  checkpoints = map (machine_at (fixed_of w.machine) w.output.items) w.kept.items;
  apart = w.apart;
}

-- m shows tick t of each run that starts so
abbrev pub ShowsTick : Shown → ℕ → Shown → Type 0
ShowsTick start t m = (image : List Segment) (s : Sched) → Shows image s 0 start → Shows image s t m

-- a machine can be put back to each of them
abbrev pub AreKept : Fixed → List ℕ → List Checkpoint → Type 0
AreKept f output cs = (k : ℕ) (c : Checkpoint) → slice_get cs k ≡ Some c → (c.written ≤ length output) × IsKept c f (take c.written output)

-- they lie at the ticks 0, apart, 2 * apart and so on
abbrev pub AreApart : Shown → Fixed → List ℕ → ℕ → List Checkpoint → Type 0
AreApart start f output apart cs = (k : ℕ) (c : Checkpoint) → slice_get cs k ≡ Some c → ShowsTick start (k * apart) (machine_at f output c)

-- what always holds of a tape's fields
pub record IsTape (w : Inside) : Type 0 where
  pub apart : 0 < w.apart
  pub most : w.last ≤ most_ticks
  pub some : 0 < length w.kept.items
  pub kept : AreKept (fixed_of w.machine) w.output.items w.kept.items
  pub lie : AreApart (first_of w.kept.items w.output.items w.machine) (fixed_of w.machine) w.output.items w.apart w.kept.items
  -- the tick at which the machine is
  pub shows : ShowsTick (first_of w.kept.items w.output.items w.machine) w.place w.machine
