use Rattle.std.proofs.Common.{◌≡◌, arith, ap, inr, sym, ◌∙◌, subst, [], length}
use Rattle.hm_run_laws.specs.Sound.{IsSound}
use Rattle.hm_machine.proofs.Bares.{first_position, first_sound, no_left}
use Rattle.hm_machine.specs.Machines.{left_at}
use Rattle.hm_machine.specs.Shown.{Shown, run_of}
use Rattle.hm_sched.specs.Schedule.{Sched}
use Rattle.hm_machine.proofs.machine.Machine.reopen.Goals as goal

pub invariant_of-self : goal.invariant_of-self
invariant_of-self c =
    let inside = c.self.inside in
    let image = c.requires.0 in
    let shows = c.requires.1 in
    let at = first_position image c.args.self.now shows in
    let older : inside.cpu.window.a ≡ 0 = ap (λ (v : Shown). v.a) c.self.view_is ∙ at.0 in
    let younger : inside.cpu.window.b ≡ 0 = ap (λ (v : Shown). v.b) c.self.view_is ∙ at.1 in
    let empty : inside.schedule.lines ≡ [] = ap (λ (v : Shown). v.schedule.lines) c.self.view_is ∙ ap (λ (s : Sched). s.lines) shows.plan in
    let none : length (left_at inside.schedule.lines inside.cursor) ≡ 0 = ap length (no_left inside.schedule.lines inside.cursor empty) in
    let few = c.self.invariant.few in
    record {
      capacity = c.self.invariant.capacity;
      bounds = c.self.invariant.bounds;
      position = λ on. (omega arith, omega arith, λ some. absurd (omega arith));
      sound = λ on. subst (λ (v : Shown). IsSound v.schedule (run_of v []).machine) (sym c.self.view_is)
          (subst (λ (s : Sched). IsSound s (run_of c.args.self.now []).machine) (sym shows.plan) (first_sound image c.args.self.now shows));
      running = λ on. inr empty;
      begun = λ on. omega (arith, none, few);
      few = few;
      entries = c.self.invariant.entries;
      retired = c.self.invariant.retired;
      steps = c.self.invariant.steps;
    }
