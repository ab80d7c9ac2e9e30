-- CHECKPOINTS: what a machine shows once it is put back to one.
use Rattle.std.specs.Prelude.{◌≡◌, ℕ, ◌+◌, ◌*◌, ◌<◌, ◌≤◌, IsTrue, List, [], length, None}
use Rattle.hm_exc.specs.Entry.{newest_first}
use Rattle.hm_run_laws.specs.Sound.{IsSound}
use Rattle.hm_machine.specs.Machines.{GoesOn, left_at, left_while}
use Rattle.hm_machine.specs.Shown.{Fixed, Shown, run_of}
use Rattle.hm_machine.specs.declared.checkpoint.Checkpoint.{Checkpoint}
use Rattle.hm_mem.specs.Stills.{contents_in}
use Rattle.hm_run.specs.Program.{most_output}
use Rattle.hm_sched.specs.Schedule.{most_ticks}

-- A MACHINE AT A CHECKPOINT, by what its run leaves and what was written by then
abbrev pub at_checkpoint : Checkpoint → Fixed → List ℕ → Shown
at_checkpoint c f output = record {
  regs = c.regs;
  memory = record {
    flash = f.flash;
    sram = (contents_in c.still).sram;
    taint = (contents_in c.still).taint;
    devices = (contents_in c.still).devices;
    around = record f.places { actor = (contents_in c.still).actor };
  };
  output = output;
  a = c.window.a;
  b = c.window.b;
  retired = c.retired;
  older_steps = c.older_steps;
  outcome = c.outcome;
  acts = newest_first c.acts;
  ticks = c.ticks;
  entries = c.entries;
  schedule = f.schedule;
  left = left_while c.outcome (left_at f.schedule.lines c.cursor);
}

-- What always holds of a machine holds of it there.
pub record IsKept (c : Checkpoint) (f : Fixed) (output : List ℕ) : Type 0 where
  pub room : length output ≤ most_output
  pub position : c.outcome ≡ None → (c.window.a < 4) × (c.window.b ≤ 2) × (0 < c.window.a → IsTrue c.regs.fpca)
  pub sound : c.outcome ≡ None → IsSound f.schedule (run_of (at_checkpoint c f output) []).machine
  pub running : c.outcome ≡ None → GoesOn f.schedule.lines c.cursor
  pub begun : c.outcome ≡ None → c.ticks + length (left_at f.schedule.lines c.cursor) ≤ most_ticks
  pub few : c.ticks ≤ most_ticks
  pub entries : c.entries ≤ c.ticks
  pub retired : c.retired ≤ 33 * c.ticks
  pub steps : c.older_steps ≤ 33 * c.ticks
