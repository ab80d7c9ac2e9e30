use Rattle.std.proofs.Common.{◌≡◌, ◌<◌, ◌≤◌, ℕ, suc, arith, ap, refl, sym, ◌∙◌, subst, Bool, [], ◌∷◌, ◌+◌, None, Some, Result, Ok, Err, List, drop, true, false}
use Rattle.std.proofs.Common.{length, inl}
use Rattle.std.specs.Int.{from_bool}
use Rattle.hm_codes.proofs.Exists.{exists}
use Rattle.hm_cpu.proofs.Keeping.{moved_bounds}
use Rattle.hm_cpu.specs.Cpus.{nested_of}
use Rattle.hm_machine.proofs.Bares.{stands_there}
use Rattle.hm_codes.specs.Listing.{Listing}
use Rattle.hm_run_laws.specs.Nested.{Nested}
use Rattle.hm_run_laws.specs.Runs.{Pointers, Run, next, tick_of}
use Rattle.hm_machine.proofs.Runs.{comes_counted, comes_ended, comes_on, comes_out, comes_sound}
use Rattle.hm_machine.proofs.Ticks.{some_left}
use Rattle.hm_machine.specs.Ticked.{entered_in, Came}
use Rattle.hm_machine.specs.Machines.{left_at, left_while, machine_view}
use Rattle.hm_machine.specs.Shown.{Shown, run_of, run_with}
use Rattle.hm_machine.specs.declared.machine.Machine.TheInside.{Inside}
use Rattle.hm_mem.specs.Memory.{flash_at, memory_of}
use Rattle.hm_run.specs.declared.Outcome.{Outcome}
use Rattle.hm_run.specs.declared.Outcome.TheVariants as outcome
use Rattle.hm_sched.specs.Schedule.{TickLine, line_of}
use Rattle.hm_machine.proofs.machine.Machine.advance.Goals as goal

pub line_at-line-requires : goal.line_at-line-requires
line_at-line-requires g c = stands_there c.self.inside.schedule.lines c.self.inside.cursor
    (c.self.invariant.running (ap (λ (v : Shown). v.outcome) c.self.view_is ∙ c.requires.running))
    (subst (λ (v : Shown). 0 < length v.schedule.lines) (sym c.self.view_is) c.requires.lines)

pub after_tick-requires-clause-stands : goal.after_tick-requires-clause-stands
after_tick-requires-clause-stands g c = stands_there c.self.inside.schedule.lines c.self.inside.cursor
    (c.self.invariant.running (ap (λ (v : Shown). v.outcome) c.self.view_is ∙ c.requires.running))
    (subst (λ (v : Shown). 0 < length v.schedule.lines) (sym c.self.view_is) c.requires.lines)

-- a tick of the line at which the cursor stands is one of the first line that is left
module _ (listing : Listing) (inside : Inside) (running : inside.outcome ≡ None) (line : TickLine) (es : List Pointers)
    (first : let left = left_at inside.schedule.lines inside.cursor in left ≡ line ∷ drop 1 left) where
  abbrev rest : List TickLine
  rest = drop 1 (left_at inside.schedule.lines inside.cursor)

  abbrev before : Run
  before = run_with None (nested_of inside.cpu) inside.ticks es

  abbrev after : Run
  after = next listing inside.schedule (line ∷ rest) before

  next_is : after ≡ (let m = machine_view inside in next listing m.schedule m.left (run_of m es))
  next_is = λ j. next listing inside.schedule (left_while (sym running j) (sym first j)) (run_with (sym running j) (nested_of inside.cpu) inside.ticks es)

  -- how many entered
  counted : (a : Result Bool Outcome) (m : Nested) (t n : ℕ) → Came a m t es (tick_of listing inside.schedule line before None)
      → n ≡ inside.entries + entered_in a
      → n + length es ≡ inside.entries + length (let v = machine_view inside in next listing v.schedule v.left (run_of v es)).entries
  counted a m t n h e =
      subst (λ (r : Run). n + length es ≡ inside.entries + length r.entries) next_is
      (comes_counted listing inside.schedule line rest before refl a m t es inside.entries n h e)

-- 1 where one entered, else 0
as_entered : (b : Bool) → from_bool b ≡ entered_in (Ok b)
as_entered true = refl
as_entered false = refl

pub returns-in-Err-clause-next : goal.returns-in-Err-clause-next
returns-in-Err-clause-next g c =
    rw (← c.self.view_is) (λ listing es is.
    let inside = c.self.inside in
    let running : inside.outcome ≡ None = ap (λ (v : Shown). v.outcome) c.self.view_is ∙ c.requires.running in
    let s = inside.schedule in
    let line = line_of c.line_at-line.result.now in
    let did = c.in-Err.ensures.value listing s line inside.ticks es is (sym c.entries-may_enter.ensures.value) (sym c.as_slice.ensures.value) refl refl
    (c.self.invariant.sound running) in
    subst (λ (r : Run). run_with (Some c.in-Err.outcome) (nested_of c.tick.new.x) (inside.ticks + 1) r.entries ≡ r)
    (next_is listing inside running line es c.line_at-line.ensures.first)
    (comes_ended listing s line (drop 1 (left_at s.lines inside.cursor)) (run_with None (nested_of inside.cpu) inside.ticks es) refl c.in-Err.outcome
    (nested_of c.tick.new.x) (inside.ticks + 1) did.0))

pub returns-in-Err-clause-entries : goal.returns-in-Err-clause-entries
returns-in-Err-clause-entries g c =
    rw (← c.self.view_is) (λ listing es is.
    let inside = c.self.inside in
    let running : inside.outcome ≡ None = ap (λ (v : Shown). v.outcome) c.self.view_is ∙ c.requires.running in
    let line = line_of c.line_at-line.result.now in
    let did = c.in-Err.ensures.value listing inside.schedule line inside.ticks es is (sym c.entries-may_enter.ensures.value) (sym c.as_slice.ensures.value) refl
    refl (c.self.invariant.sound running) in
    counted listing inside running line es c.line_at-line.ensures.first (Err c.in-Err.outcome) (nested_of c.tick.new.x) (inside.ticks + 1) inside.entries did
    (omega arith))

pub returns-in-Some-clause-next : goal.returns-in-Some-clause-next
returns-in-Some-clause-next g c =
    rw (← c.self.view_is) (λ listing es is.
    let inside = c.self.inside in
    let running : inside.outcome ≡ None = ap (λ (v : Shown). v.outcome) c.self.view_is ∙ c.requires.running in
    let s = inside.schedule in
    let left = left_at s.lines inside.cursor in
    let line = line_of c.line_at-line.result.now in
    let before = run_with None (nested_of inside.cpu) inside.ticks es in
    let did = c.in-Ok.ensures.value listing s line inside.ticks es is (sym c.entries-may_enter.ensures.value) (sym c.as_slice.ensures.value) refl refl
    (c.self.invariant.sound running) in
    subst (λ (r : Run). run_with inside.outcome (nested_of c.tick.new.x) (inside.ticks + 1) r.entries ≡ r)
    (next_is listing inside running line es c.line_at-line.ensures.first)
    (subst (λ (o : _). run_with o (nested_of c.tick.new.x) (inside.ticks + 1) (next listing s (line ∷ drop 1 left) before).entries
    ≡ next listing s (line ∷ drop 1 left) before) (sym running)
    (comes_on listing s line (drop 1 left) before refl (nested_of c.tick.new.x) (inside.ticks + 1)
    (subst (λ (l : List TickLine). 0 < length l) c.in-Some.ensures.left
    (some_left (drop c.in-Some.cursor.line s.lines) c.in-Some.cursor.used c.in-Some.ensures.stands)) did.0)))

pub returns-in-Some-clause-entries : goal.returns-in-Some-clause-entries
returns-in-Some-clause-entries g c =
    rw (← c.self.view_is) (λ listing es is.
    let inside = c.self.inside in
    let running : inside.outcome ≡ None = ap (λ (v : Shown). v.outcome) c.self.view_is ∙ c.requires.running in
    let line = line_of c.line_at-line.result.now in
    let did = c.in-Ok.ensures.value listing inside.schedule line inside.ticks es is (sym c.entries-may_enter.ensures.value) (sym c.as_slice.ensures.value) refl
    refl (c.self.invariant.sound running) in
    counted listing inside running line es c.line_at-line.ensures.first (Ok c.in-Ok.entered) (nested_of c.tick.new.x) (inside.ticks + 1) _ did
    (ap (λ (n : ℕ). inside.entries + n) (c.from.ensures ∙ as_entered c.in-Ok.entered)))

pub returns-in-None-clause-next : goal.returns-in-None-clause-next
returns-in-None-clause-next g c =
    rw (← c.self.view_is) (λ listing es is.
    let inside = c.self.inside in
    let running : inside.outcome ≡ None = ap (λ (v : Shown). v.outcome) c.self.view_is ∙ c.requires.running in
    let s = inside.schedule in
    let line = line_of c.line_at-line.result.now in
    let did = c.in-Ok.ensures.value listing s line inside.ticks es is (sym c.entries-may_enter.ensures.value) (sym c.as_slice.ensures.value) refl refl
    (c.self.invariant.sound running) in
    subst (λ (r : Run). run_with (Some outcome.OutOfTicks) (nested_of c.tick.new.x) (inside.ticks + 1) r.entries ≡ r)
    (next_is listing inside running line es c.line_at-line.ensures.first)
    (comes_out listing s line (drop 1 (left_at s.lines inside.cursor)) (run_with None (nested_of inside.cpu) inside.ticks es) refl (nested_of c.tick.new.x)
    (inside.ticks + 1) c.in-None.ensures.none did.0))

pub returns-in-None-clause-entries : goal.returns-in-None-clause-entries
returns-in-None-clause-entries g c =
    rw (← c.self.view_is) (λ listing es is.
    let inside = c.self.inside in
    let running : inside.outcome ≡ None = ap (λ (v : Shown). v.outcome) c.self.view_is ∙ c.requires.running in
    let line = line_of c.line_at-line.result.now in
    let did = c.in-Ok.ensures.value listing inside.schedule line inside.ticks es is (sym c.entries-may_enter.ensures.value) (sym c.as_slice.ensures.value) refl
    refl (c.self.invariant.sound running) in
    counted listing inside running line es c.line_at-line.ensures.first (Ok c.in-Ok.entered) (nested_of c.tick.new.x) (inside.ticks + 1) _ did
    (ap (λ (n : ℕ). inside.entries + n) (c.from.ensures ∙ as_entered c.in-Ok.entered)))

-- at most one enters
one_most : (b : Bool) → entered_in (Ok b) ≤ 1
one_most b = grind arith

pub invariant_of-self-in-Some : goal.invariant_of-self-in-Some
invariant_of-self-in-Some g c =
    let inside = c.self.inside in
    let running : inside.outcome ≡ None = ap (λ (v : Shown). v.outcome) c.self.view_is ∙ c.requires.running in
    let s = inside.schedule in
    let left = left_at s.lines inside.cursor in
    let line = line_of c.line_at-line.result.now in
    let before = run_with None (nested_of inside.cpu) inside.ticks [] in
    let there = exists (flash_at (memory_of inside.cpu.mem)) in
    let did = c.in-Ok.ensures.value there.0 s line inside.ticks [] there.1 (sym c.entries-may_enter.ensures.value) (sym c.as_slice.ensures.value) refl refl
    (c.self.invariant.sound running) in
    let more = subst (λ (l : List TickLine). 0 < length l) c.in-Some.ensures.left
    (some_left (drop c.in-Some.cursor.line s.lines) c.in-Some.cursor.used c.in-Some.ensures.stands) in
    let first : length left ≡ suc (length (drop 1 left)) = ap length c.line_at-line.ensures.first in
    let behind : length (left_at s.lines c.in-Some.cursor) ≡ length (drop 1 left) = ap length c.in-Some.ensures.left in
    let begun = c.self.invariant.begun running in
    let count = c.in-Ok.ensures.count in
    let retired = c.self.invariant.retired in
    let steps = c.self.invariant.steps in
    let entries = c.self.invariant.entries in
    let once = one_most c.in-Ok.entered in
    let entered = c.from.ensures ∙ as_entered c.in-Ok.entered in
    record {
      capacity = c.in-Ok.ensures.moves.room ∙ c.self.invariant.capacity;
      bounds = moved_bounds c.in-Ok.ensures.moves ∙ c.self.invariant.bounds;
      sound = λ none. comes_sound there.0 s (line ∷ drop 1 left) before (nested_of c.tick.new.x) (inside.ticks + 1) (λ on. c.self.invariant.sound running)
          (comes_on there.0 s line (drop 1 left) before refl (nested_of c.tick.new.x) (inside.ticks + 1) more did.0);
      position = λ none. c.in-Ok.ensures.position;
      running = λ none. inl c.in-Some.ensures.stands;
      begun = λ none. omega (arith, first, behind, begun);
      few = omega (arith, first, begun);
      entries = omega (arith, entries, once, entered);
      retired = omega (arith, count.0, retired);
      steps = omega (arith, count.1, steps);
    }

pub returns-in-Err-clause-fixed : goal.returns-in-Err-clause-fixed
returns-in-Err-clause-fixed g c =
    let moves = c.in-Err.ensures.moves in
    rw (← c.self.view_is) (λ j. record { flash = moves.flash j; places = moves.places j; schedule = c.self.inside.schedule })

pub returns-in-Some-clause-fixed : goal.returns-in-Some-clause-fixed
returns-in-Some-clause-fixed g c =
    let moves = c.in-Ok.ensures.moves in
    rw (← c.self.view_is) (λ j. record { flash = moves.flash j; places = moves.places j; schedule = c.self.inside.schedule })

pub returns-in-None-clause-fixed : goal.returns-in-None-clause-fixed
returns-in-None-clause-fixed g c =
    let moves = c.in-Ok.ensures.moves in
    rw (← c.self.view_is) (λ j. record { flash = moves.flash j; places = moves.places j; schedule = c.self.inside.schedule })
