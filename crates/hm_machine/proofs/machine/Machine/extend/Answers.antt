use Rattle.std.proofs.Common.{◌≡◌, ◌+◌, ◌<◌, arith, ap, inr, refl, sym, ◌∙◌, subst, [], ◌∷◌, ◌++◌, length, Option, None, Some}
use Rattle.hm_codes.proofs.Exists.{exists}
use Rattle.hm_codes.specs.Listing.{Listing, IsListing}
use Rattle.hm_cpu.proofs.Keeping.{moved_bounds, moved_flash}
use Rattle.hm_cpu.specs.Cpus.{nested_of, IsSoundUnder}
use Rattle.hm_cpu.specs.declared.cpu.Cpu.{Cpu}
use Rattle.hm_exc.specs.Entry.{newest_first}
use Rattle.hm_run_laws.specs.Runs.{Run, tick, tick_of}
use Rattle.hm_machine.proofs.Bares.{ended_still, given_more, given_on, no_left, still_none}
use Rattle.hm_machine.proofs.Runs.{comes_on, comes_sound}
use Rattle.hm_machine.specs.Bares.{IsBare}
use Rattle.hm_machine.specs.Machines.{left_at, machine_view}
use Rattle.hm_machine.specs.Shown.{Shown, run_of, run_with}
use Rattle.hm_machine.specs.declared.machine.Machine.TheInside.{Inside}
use Rattle.hm_mem.specs.Memory.{flash_at, memory_of}
use Rattle.hm_run.specs.Bare.{bare}
use Rattle.hm_run.specs.declared.Outcome.{Outcome}
use Rattle.hm_sched.specs.Schedule.{TickLine, Sched, no_irq}
use Rattle.hm_machine.proofs.machine.Machine.extend.Goals as goal

-- a machine that has ended
pub returns-in-Some-clause-shows : goal.returns-in-Some-clause-shows
returns-in-Some-clause-shows c image given line letters irq h =
    given_more image given line c.args.self.now c.args.self.now h refl
    (λ listing is. ended_still listing line (run_of c.args.self.now []) c.in-Some.outcome
    (ap (λ (v : Shown). v.outcome) (sym c.self.view_is) ∙ c.in-Some.is))

pub invariant_of-self-in-Ok : goal.invariant_of-self-in-Ok
invariant_of-self-in-Ok c =
    let inside = c.self.inside in
    let running : inside.outcome ≡ None = c.in_default.is in
    let s = inside.schedule in
    let line : TickLine = record { count = 1; letters = c.args.letters.now; irq = no_irq } in
    let before = run_with None (nested_of inside.cpu) inside.ticks [] in
    let there = exists (flash_at (memory_of inside.cpu.mem)) in
    let plan : s ≡ bare [] = ap (λ (v : Shown). v.schedule) c.self.view_is ∙ c.requires.bare.plan in
    let did = c.in-Ok.ensures.value there.0 s line inside.ticks [] there.1 (ap (λ (u : Sched). u.entries) plan) refl refl refl
    (c.self.invariant.sound running) in
    let empty : s.lines ≡ [] = ap (λ (u : Sched). u.lines) plan in
    let none : length (left_at s.lines inside.cursor) ≡ 0 = ap length (no_left s.lines inside.cursor empty) in
    let few : inside.ticks < 16777215 = subst (λ (v : Shown). v.ticks < 16777215) (sym c.self.view_is) c.requires.ticks in
    let count = c.in-Ok.ensures.count in
    let retired = c.self.invariant.retired in
    let steps = c.self.invariant.steps in
    let entries = c.self.invariant.entries in
    record {
      capacity = c.in-Ok.ensures.moves.room ∙ c.self.invariant.capacity;
      bounds = moved_bounds c.in-Ok.ensures.moves ∙ c.self.invariant.bounds;
      sound = λ on. comes_sound there.0 s (line ∷ line ∷ []) before (nested_of c.tick.new.x) (inside.ticks + 1) (λ still. c.self.invariant.sound running)
          (comes_on there.0 s line (line ∷ []) before refl (nested_of c.tick.new.x) (inside.ticks + 1) (omega arith) did.0);
      position = λ on. c.in-Ok.ensures.position;
      running = λ on. inr empty;
      begun = λ on. omega (arith, none, few);
      few = omega (arith, few);
      entries = omega (arith, entries);
      retired = omega (arith, count.0, retired);
      steps = omega (arith, count.1, steps);
    }

-- THE TICK, of a machine that goes on
module _ (inside : Inside) (old : Shown) (view : machine_view inside ≡ old) (bared : IsBare old) (running : inside.outcome ≡ None) where
  -- it is sound without ticks too
  sound : IsSoundUnder inside.schedule inside.cpu → IsSoundUnder (bare []) inside.cpu
  sound h = subst (λ (s : Sched). IsSoundUnder s inside.cpu) (ap (λ (v : Shown). v.schedule) view ∙ bared.plan) h

  next_run : (listing : Listing) (line : TickLine) (o : Option Outcome) (x : Cpu)
      → (let r = tick_of listing (bare []) line (run_with None (nested_of inside.cpu) inside.ticks []) None in
      run_with o (nested_of x) (inside.ticks + 1) r.entries ≡ r)
      → run_with o (nested_of x) (inside.ticks + 1) [] ≡ tick listing (bare []) line (run_of old [])
  next_run listing line o x e =
      given_on listing line (machine_view inside) (ap (λ (v : Shown). v.acts) view ∙ bared.acts) running o (nested_of x) (inside.ticks + 1) e
      ∙ ap (λ (v : Shown). tick listing (bare []) line (run_of v [])) view

-- one that goes on
pub returns-in-Ok-clause-next : goal.returns-in-Ok-clause-next
returns-in-Ok-clause-next c listing line is letters irq =
    let inside = c.self.inside in
    let old = c.args.self.now in
    let running : inside.outcome ≡ None = c.in_default.is in
    let listed = subst (λ (v : Shown). IsListing (flash_at v.memory) listing) (sym c.self.view_is) is in
    let did = c.in-Ok.ensures.value listing (bare []) line inside.ticks [] listed refl letters irq refl
    (sound inside old c.self.view_is c.requires.bare running (c.self.invariant.sound running)) in
    subst (λ (o : Option Outcome). run_with o (nested_of c.tick.new.x) (inside.ticks + 1) [] ≡ tick listing (bare []) line (run_of old [])) (sym running)
    (next_run inside old c.self.view_is c.requires.bare running listing line None c.tick.new.x did.0)

pub returns-in-Ok-clause-shows : goal.returns-in-Ok-clause-shows
returns-in-Ok-clause-shows c image given line letters irq h =
    given_more image given line c.args.self.now _ h (moved_flash c.in-Ok.ensures.moves ∙ ap (λ (v : Shown). flash_at v.memory) c.self.view_is)
    (λ listing is. returns-in-Ok-clause-next c listing line is letters irq)

pub returns-in-Ok-clause-bare : goal.returns-in-Ok-clause-bare
returns-in-Ok-clause-bare c =
    let there = exists (flash_at c.args.self.now.memory) in
    let line : TickLine = record { count = 1; letters = c.args.letters.now; irq = no_irq } in
    let made = c.requires.bare.made in
    record {
      plan = ap (λ (v : Shown). v.schedule) c.self.view_is ∙ c.requires.bare.plan;
      acts = still_none there.0 line c.args.self.now (newest_first c.tick.new.x.acts) c.requires.bare
          (ap (λ (r : Run). r.machine.acts) (returns-in-Ok-clause-next c there.0 line there.1 refl refl));
      none = ap (λ (v : Shown). v.entries) c.self.view_is ∙ c.requires.bare.none;
      made = (made.0, made.1 ++ line ∷ [], returns-in-Ok-clause-shows c made.0 made.1 line refl refl made.2);
    }

-- and one that ends the run
pub returns-in-Err-clause-next : goal.returns-in-Err-clause-next
returns-in-Err-clause-next c listing line is letters irq =
    let inside = c.self.inside in
    let old = c.args.self.now in
    let running : inside.outcome ≡ None = c.in_default.is in
    let listed = subst (λ (v : Shown). IsListing (flash_at v.memory) listing) (sym c.self.view_is) is in
    let did = c.in-Err.ensures.value listing (bare []) line inside.ticks [] listed refl letters irq refl
    (sound inside old c.self.view_is c.requires.bare running (c.self.invariant.sound running)) in
    next_run inside old c.self.view_is c.requires.bare running listing line (Some c.in-Err.outcome) c.tick.new.x did.0

pub returns-in-Err-clause-shows : goal.returns-in-Err-clause-shows
returns-in-Err-clause-shows c image given line letters irq h =
    given_more image given line c.args.self.now _ h (moved_flash c.in-Err.ensures.moves ∙ ap (λ (v : Shown). flash_at v.memory) c.self.view_is)
    (λ listing is. returns-in-Err-clause-next c listing line is letters irq)

pub returns-in-Err-clause-bare : goal.returns-in-Err-clause-bare
returns-in-Err-clause-bare c =
    let there = exists (flash_at c.args.self.now.memory) in
    let line : TickLine = record { count = 1; letters = c.args.letters.now; irq = no_irq } in
    let made = c.requires.bare.made in
    record {
      plan = ap (λ (v : Shown). v.schedule) c.self.view_is ∙ c.requires.bare.plan;
      acts = still_none there.0 line c.args.self.now (newest_first c.tick.new.x.acts) c.requires.bare
          (ap (λ (r : Run). r.machine.acts) (returns-in-Err-clause-next c there.0 line there.1 refl refl));
      none = ap (λ (v : Shown). v.entries) c.self.view_is ∙ c.requires.bare.none;
      made = (made.0, made.1 ++ line ∷ [], returns-in-Err-clause-shows c made.0 made.1 line refl refl made.2);
    }

pub returns-in-Err-clause-flash : goal.returns-in-Err-clause-flash
returns-in-Err-clause-flash c = moved_flash c.in-Err.ensures.moves ∙ ap (λ (v : Shown). flash_at v.memory) c.self.view_is

pub returns-in-Ok-clause-flash : goal.returns-in-Ok-clause-flash
returns-in-Ok-clause-flash c = moved_flash c.in-Ok.ensures.moves ∙ ap (λ (v : Shown). flash_at v.memory) c.self.view_is
