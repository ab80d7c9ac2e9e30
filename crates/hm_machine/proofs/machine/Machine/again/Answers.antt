use Rattle.std.proofs.Common.{◌≡◌, ℕ, ◌+◌, ◌≤◌, arith, ap, inl, sym, ◌∙◌, subst, [], drop, length}
use Rattle.hm_base.specs.Image.{flash_size}
use Rattle.hm_run_laws.specs.Sound.{IsSound}
use Rattle.hm_machine.proofs.Loads.{first_length, first_stands, running_ticks}
use Rattle.hm_machine.proofs.Starts.{first_older, first_ticks, first_younger, kept_start, shows_again, sound_again}
use Rattle.hm_machine.specs.Checkpoints.{at_checkpoint}
use Rattle.hm_machine.specs.Machines.{left_in, left_while, machine_view}
use Rattle.hm_machine.specs.Shown.{Fixed, Shown, Shows, fixed_of, run_of}
use Rattle.hm_machine.specs.Starts.{SameBounds}
use Rattle.hm_run.specs.Timed.{bounds_of}
use Rattle.hm_sched.specs.Schedule.{Sched, most_irq, most_ticks}
use Rattle.hm_machine.proofs.machine.Machine.again.Goals as goal

pub back-requires : goal.back-requires
back-requires c = record { kept = kept_start c.requires.start.0 c.requires.start.1 c.args.start.now c.requires.start.4 (fixed_of c.args.self.now) }

-- what is known once it is put back
module _ (c : goal.After-drop-self-inside) where
  abbrev put : Fixed
  put = fixed_of c.args.self.now

  there : machine_view c.self.inside ≡ at_checkpoint c.args.start.now.checkpoint put []
  there = c.self.view_is ∙ c.back.ensures.shows

  whole : length put.flash ≡ flash_size
  whole = ap (λ (v : Shown). length v.memory.flash) (sym there) ∙ c.self.inside.cpu.mem.flash_whole

  plan : c.self.inside.schedule ≡ c.args.self.now.schedule
  plan = ap (λ (v : Shown). v.schedule) there

  -- under a schedule with the same region and floors
  module _ (u : Sched) (is : c.args.self.now.schedule ≡ u) (same : SameBounds u c.args.s) where
    inside_bounds : bounds_of c.self.inside.schedule ≡ bounds_of c.args.s
    inside_bounds = ap bounds_of (plan ∙ is) ∙ same

    bounds : put.places.bounds ≡ bounds_of c.args.s
    bounds = ap (λ (v : Shown). v.memory.around.bounds) (sym there) ∙ c.self.invariant.bounds ∙ inside_bounds

pub invariant_of-self : goal.invariant_of-self
invariant_of-self c =
    let s = c.args.s in
    let image = c.requires.start.0 in
    let t = c.requires.start.1 in
    let x = c.args.start.now in
    let from = c.requires.start.4 in
    let shows = c.requires.start.5 in
    let same = c.requires.start.6 in
    let ticks : c.self.inside.ticks ≡ 0 = ap (λ (v : Shown). v.ticks) (there c) ∙ first_ticks image t x from in
    let older : c.self.inside.cpu.window.a ≡ 0 = ap (λ (v : Shown). v.a) (there c) ∙ first_older image t x from in
    let younger : c.self.inside.cpu.window.b ≡ 0 = ap (λ (v : Shown). v.b) (there c) ∙ first_younger image t x from in
    let did = c.first_outcome-self-inside.ensures in
    record {
      capacity = c.self.invariant.capacity;
      bounds = c.self.invariant.bounds ∙ inside_bounds c c.requires.start.2 shows.plan same;
      position = λ none. (omega arith, omega arith, λ some. absurd (omega arith));
      sound = λ none. subst (λ (v : Shown). IsSound s (run_of v []).machine) (sym (there c))
          (sound_again image t x from s (put c) (whole c) (λ a. ap (λ (f : ℕ → ℕ). f a) shows.bytes) (bounds c c.requires.start.2 shows.plan same));
      running = λ none. inl (first_stands (most_irq s.format) s.lines did.sound.each_line (running_ticks _ c.first_outcome-self-inside.result none did.out));
      begun = λ none. subst (λ (n : ℕ). n + length (left_in (drop 0 s.lines) 0) ≤ most_ticks) (sym ticks) (first_length s.lines did.most);
      few = c.self.invariant.few;
      entries = c.self.invariant.entries;
      retired = c.self.invariant.retired;
      steps = c.self.invariant.steps;
    }

pub returns : goal.returns
returns c = record {
  shows = λ image t u k from shows same.
      let s = c.args.s in
      let o = c.first_outcome-self-inside.result in
      subst (Shows image s 0) (ap (λ (v : Shown). record v { outcome = o; schedule = s; left = left_while o (left_in (drop 0 s.lines) 0) }) (sym (there c)))
      (shows_again image t c.args.start.now from s (put c) (whole c) (λ a. ap (λ (f : ℕ → ℕ). f a) shows.bytes) (bounds c u shows.plan same) o
      c.first_outcome-self-inside.ensures.none c.first_outcome-self-inside.ensures.out);
}
