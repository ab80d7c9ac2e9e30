-- The steps of what runs, by the parts of the machine.
use Rattle.std.proofs.Common.{◌≡◌, ℕ, ◌<◌, ◌≤◌, ◌==◌, arith, refl, ap, sym, ◌∙◌, subst, Bool, true, false, not, ◌&&◌, IsTrue, List, [], ◌∷◌, length, map}
use Rattle.std.proofs.Common.{Option, Some, None, Result, Ok, Err}
use Rattle.std.proofs.lemmas.Bool.Decides.{nat_tests}
use Rattle.std.proofs.lemmas.List.{length-map, length-reverse}
use Rattle.std.specs.Prelude.{reverse, OnOk, IfOk}
use Rattle.arrayvec.specs.ArrayVec.{ArrayVec, array_vec_len}
use Rattle.hm_base.specs.declared.Fault.{Fault}
use Rattle.hm_base.specs.declared.Stop.{Stop}
use Rattle.hm_base.specs.declared.Stop.TheVariants as stop
use Rattle.hm_codes.proofs.Exists.{exists}
use Rattle.hm_codes.specs.Listing.{Listing, IsListing}
use Rattle.hm_cpu.specs.Cpus.{CountsNone, IsSoundUnder, IsUnder, config_of, interrupted_of, nested_of, reached, reached_younger, returns, state_in, stepped}
use Rattle.hm_cpu.specs.declared.cpu.Cpu.{Cpu}
use Rattle.hm_cpu.specs.declared.step_ends.StepEnd.{StepEnd}
use Rattle.hm_cpu.specs.declared.step_ends.StepEnd.TheVariants as step_end
use Rattle.hm_cpu.specs.declared.step_ends.LetterEnd.{LetterEnd}
use Rattle.hm_cpu.specs.declared.step_ends.LetterEnd.TheVariants as letter_end
use Rattle.hm_exc.specs.Entry.{actor_under, newest_first, window_in}
use Rattle.hm_exc.specs.Return.{return_rule}
use Rattle.hm_exc.specs.declared.types.Activation.{Activation}
use Rattle.hm_exc.specs.declared.types.Broken.{Broken}
use Rattle.hm_run_laws.proofs.Soundness.{step_sound}
use Rattle.hm_run_laws.specs.Nested.{Ended, Interrupted, NestedStep, Offends, around_under, handles, returned, step, step_under, uncounted, went, with_acts}
use Rattle.hm_run_laws.specs.Runs.{stacked_of}
use Rattle.hm_run_laws.specs.Registers.{cell_back, registers_of, restored}
use Rattle.hm_run_laws.specs.Sound.{AreStacked, IsSound, IsStacked}
use Rattle.hm_isa.specs.declared.Instr.{Instr}
use Rattle.hm_isa.specs.declared.Instr.TheVariants as instr
use Rattle.hm_isa.specs.declared.Vector.{Vector}
use Rattle.hm_mem.specs.Memory.{Around, Memory, byte_at, flash_at, memory_of}
use Rattle.hm_mem.specs.Seen.{with_actor}
use Rattle.hm_mem.specs.declared.Actor.{Actor}
use Rattle.hm_order.specs.InFlight.{InFlight, Older, Younger}
use Rattle.hm_order.specs.Machine as order
use Rattle.hm_order.specs.Machine.{begun, older, younger}
use Rattle.hm_regs.specs.declared.Regs.{Regs}
use Rattle.hm_run.specs.Program.{Stepped, core}
use Rattle.hm_run.specs.declared.Cause.{Cause}
use Rattle.hm_run.specs.declared.Cause.TheVariants as cause
use Rattle.hm_run.specs.declared.Offence.TheVariants as offence
use Rattle.hm_sched.specs.Schedule.{Sched}
use Rattle.hm_state.specs.State.{Cell, State, cell_of, regs_of, state_of}
use Rattle.hm_thumb.specs.Families.{is_vector_row}
use Rattle.hm_whole.specs.Whole.{scalar_in_machine}
use Rattle.hm_window.specs.declared.rule.Window.{Window}
use Rattle.hm_window.specs.Positions.{may_end}

-- REGISTERS. Those of a state that is made of registers, and those that are given back.
cell_is : (r q : Regs) (actor : Actor) (m : Memory) (output : List ℕ) (c : Cell)
    → cell_back (registers_of r) (state_of q m output) c ≡ cell_of r (with_actor actor m) c
unfolding state_of
cell_is r q actor m output c = grind arith

restored_is : (r q : Regs) (actor : Actor) (m : Memory) (output : List ℕ)
    → restored (registers_of r) actor (state_of q m output) ≡ state_of r (with_actor actor m) output
unfolding state_of
restored_is r q actor m output =
    let whole = restored (registers_of r) actor (state_of q m output) in
    λ j. record whole { cell = λ (c : Cell). cell_is r q actor m output c j }

-- ACTIVATIONS
stacked_are : (xs : List Activation) → map (λ (x : Interrupted). x.stacked) (map interrupted_of xs) ≡ xs
stacked_are [] = refl
stacked_are (x ∷ xs) = ap (λ (ys : List Activation). x ∷ ys) (stacked_are xs)

pub same_acts : (x y : Cpu) → y.acts ≡ x.acts → (nested_of y).acts ≡ (nested_of x).acts
same_acts x y e = ap (λ (a : ArrayVec Activation). map interrupted_of (newest_first a)) e

-- there is a newest where there are some
some_first : (xs : List Activation) → 0 < length xs → (y : Activation) × (rest : List Activation) × (xs ≡ y ∷ rest)
some_first [] some = absurd (omega arith)
some_first (y ∷ rest) some = (y, rest, refl)

pub newest_there : (a : ArrayVec Activation) → 0 < array_vec_len a → (y : Activation) × (rest : List Activation) × (newest_first a ≡ y ∷ rest)
newest_there a some = let same : length (reverse a.items) ≡ length a.items = length-reverse a.items in some_first (reverse a.items) (omega (arith, same, some))

none_first : (xs : List Activation) → length xs ≡ 0 → xs ≡ []
none_first [] none = refl
none_first (x ∷ xs) none = absurd (omega (arith, none))

pub none_there : (a : ArrayVec Activation) → array_vec_len a ≡ 0 → newest_first a ≡ []
none_there a none = let same : length (reverse a.items) ≡ length a.items = length-reverse a.items in none_first (reverse a.items) (omega (arith, same, none))

pub none_active : (x : Cpu) → array_vec_len x.acts ≡ 0 → (nested_of x).acts ≡ []
none_active x none = ap (map interrupted_of) (none_there x.acts none)

pub how_many : (x : Cpu) → length (nested_of x).acts ≡ array_vec_len x.acts
how_many x = length-map (newest_first x.acts) interrupted_of ∙ length-reverse x.acts.items

pub stacked_many : (x : Cpu) → length (map stacked_of (map interrupted_of (newest_first x.acts))) ≡ array_vec_len x.acts
stacked_many x = length-map (map interrupted_of (newest_first x.acts)) stacked_of ∙ how_many x

-- what a test of emptiness tells
pub is_none : (n : ℕ) (b : Bool) → b ≡ (n == 0) → b ≡ true → n ≡ 0
is_none n b e h = grind (arith, nat_tests)

pub is_some : (n : ℕ) (b : Bool) → b ≡ (n == 0) → b ≡ false → 0 < n
is_some n b e h = grind (arith, nat_tests)

-- what is known of the newest, and of those under it
pub newest_stacked : (x : Cpu) (y : Activation) (rest : List Activation) → newest_first x.acts ≡ y ∷ rest → AreStacked (nested_of x).acts
    → IsStacked (interrupted_of y) (map interrupted_of rest)
newest_stacked x y rest newest h =
    let all : AreStacked (map interrupted_of (y ∷ rest)) = subst (λ (l : List Activation). AreStacked (map interrupted_of l)) newest h in all.0

-- A POSITION that was put away
positions : (a b : ℕ) → may_end a b ≡ true → (a < 4) × (b ≤ 2)
positions a b e = grind (arith, nat_tests)

inside : (w : Window) → 0 < w.a → (w.a == 0 && w.b == 0) ≡ false
inside w some = let no : (w.a == 0) ≡ false = grind (arith, nat_tests, some) in ap (λ (q : Bool). q && w.b == 0) no

pub position_back : (x : Interrupted) (acts : List Interrupted) → IsStacked x acts → (w : Window) → w ≡ window_in x.stacked → (r : Regs) → r ≡ x.stacked.regs
    → (w.a < 4) × (w.b ≤ 2) × (0 < w.a → IsTrue r.fpca)
position_back x acts h w e r q =
    let at = positions w.a w.b (ap (λ (v : Window). may_end v.a v.b) e ∙ h.fits.enters.position) in (
      at.0,
      at.1,
      λ some.
          let context : r.fpca ≡ true = ap (λ (r : Regs). r.fpca) q
          ∙ h.context (ap (λ (v : Window). v.a == 0 && v.b == 0) (sym (e ∙ h.position)) ∙ inside w some) in
          subst IsTrue (sym context) refl,
    )

-- WHAT ALWAYS HOLDS
pub sound_under : (s : Sched) (x : Cpu) → IsSoundUnder s x → IsUnder s x
unfolding state_of
sound_under s x h = h.around

-- a step leaves it so
if_ok : (s : Sched) (y : Cpu) (r : Result Unit LetterEnd) → IfOk (stepped r y) (IsSound s) → OnOk r (IsSoundUnder s y)
if_ok s y (Ok u) h = h
if_ok s y (Err e) h = tt

pub step_stays : (s : Sched) (t : InFlight) (x y : Cpu) (r : Result Unit LetterEnd)
    → ((listing : Listing) (s : Sched) → IsListing (flash_at (memory_of x.mem)) listing → IsSoundUnder s x → stepped r y ≡ step listing s t (nested_of x))
    → IsSoundUnder s x → OnOk r (IsSoundUnder s y)
step_stays s t x y r value h =
    let there = exists (flash_at (memory_of x.mem)) in
    if_ok s y r (subst (λ (q : NestedStep). IfOk q (IsSound s)) (sym (value there.0 s there.1 h)) (step_sound s there.0 t (nested_of x) h))

-- WHAT A STEP ANSWERS, by what the step of the thread's parts answers
abbrev pub lifted : Result Unit Cause → Result Unit LetterEnd
lifted (Ok u) = Ok u
lifted (Err e) = Err (letter_end.Step (step_end.Stopped e))

abbrev pub raised : Result Unit StepEnd → Result Unit LetterEnd
raised (Ok u) = Ok u
raised (Err h) = Err (letter_end.Step h)

lifted_is : (r : Result Unit Cause) (y : Cpu) → stepped (lifted r) y ≡ with_acts (nested_of y).acts (reached r y)
lifted_is r y = grind arith

raised_is : (r : Result Unit StepEnd) (y : Cpu) → stepped (raised r) y ≡ with_acts (nested_of y).acts (reached_younger r y)
raised_is r y = grind arith

module _ (listing : Listing) (s : Sched) (x : Cpu) (under : IsUnder s x) where
  abbrev around : Around
  around = (memory_of x.mem).around

  -- THE OLDER of the thread
  pub thread_steps : (y : Cpu) (r : Result Unit Cause) → (nested_of x).acts ≡ [] → y.acts ≡ x.acts
      → reached r y ≡ older (core listing around) (config_of x) → stepped (lifted r) y ≡ step listing s Older (nested_of x)
  thread_steps y r none same e =
      lifted_is r y
      ∙ (λ j. with_acts ((same_acts x y same ∙ none) j) (e j))
      ∙ ap (λ (a : Around). with_acts [] (older (core listing a) (config_of x))) (under ∙ ap (around_under s) none)
      ∙ sym (ap (step_under listing s Older (config_of x)) none)

  -- THE YOUNGER of what runs, whose step counts nothing
  nothing_counted : (y : Cpu) (r : Result Unit StepEnd) → CountsNone x y → uncounted (config_of x) (reached_younger r y) ≡ reached_younger r y
  nothing_counted y (Ok u) count = λ j. Ok (record (config_of y) { n = sym count.0 j; steps = sym count.1 j })
  nothing_counted y (Err h) count = refl

  by_acts : (acts : List Interrupted) (q : Stepped) → q ≡ younger (core listing (around_under s acts)) (config_of x) → uncounted (config_of x) q ≡ q
      → with_acts acts q ≡ step_under listing s Younger (config_of x) acts
  by_acts [] q e same = ap (with_acts []) e
  by_acts (y ∷ acts) q e same = ap (with_acts (y ∷ acts)) (sym same ∙ ap (uncounted (config_of x)) e)

  pub younger_steps : (y : Cpu) (r : Result Unit StepEnd) → y.acts ≡ x.acts → CountsNone x y
      → reached_younger r y ≡ younger (core listing around) (config_of x) → stepped (raised r) y ≡ step listing s Younger (nested_of x)
  younger_steps y r same count e =
      raised_is r y
      ∙ ap (λ (acts : List Interrupted). with_acts acts (reached_younger r y)) (same_acts x y same)
      ∙ by_acts (nested_of x).acts (reached_younger r y) (e ∙ ap (λ (a : Around). younger (core listing a) (config_of x)) under) (nothing_counted y r count)

  -- A HANDLER
  module _ (z : Activation) (rest : List Activation) (newest : newest_first x.acts ≡ z ∷ rest) where
    abbrev below : List Interrupted
    below = map interrupted_of rest

    acts_are : (nested_of x).acts ≡ interrupted_of z ∷ below
    acts_are = ap (map interrupted_of) newest

    around_is : around_under s (interrupted_of z ∷ below) ≡ around
    around_is = sym (under ∙ ap (around_under s) acts_are)

    handler_is : handles (core listing around) around (listing x.regs.pc) (config_of x) (interrupted_of z) below ≡ step listing s Older (nested_of x)
    unfolding state_of
    handler_is =
        sym (ap (step_under listing s Older (config_of x)) acts_are
        ∙ ap (λ (a : Around). handles (core listing a) a (listing x.regs.pc) (config_of x) (interrupted_of z) below) around_is)

    -- an instruction that is no vector row
    by_row : (i : Instr) → IsTrue (not (is_vector_row i))
        → went (core listing around) (config_of x) (interrupted_of z) below (scalar_in_machine around i (state_in x))
        ≡ handles (core listing around) around (Ok i) (config_of x) (interrupted_of z) below
    by_row (instr.Scalar i) other = refl
    by_row (instr.Branch i) other = refl
    by_row (instr.Vector v) other = absurd cc

    pub other_steps : (i : Instr) → listing x.regs.pc ≡ Ok i → IsTrue (not (is_vector_row i))
        → went (core listing around) (config_of x) (interrupted_of z) below (scalar_in_machine around i (state_in x)) ≡ step listing s Older (nested_of x)
    other_steps i here other =
        by_row i other
        ∙ ap (λ (q : Result Instr Fault). handles (core listing around) around q (config_of x) (interrupted_of z) below) (sym here)
        ∙ handler_is

    -- one that stops
    pub other_stops : (y : Cpu) (o : LetterEnd) (e : Stop) (i : Instr) → listing x.regs.pc ≡ Ok i → IsTrue (not (is_vector_row i))
        → o ≡ letter_end.Step (step_end.Stopped (cause.Stop e))
        → config_of y ≡ begun (core listing around) (config_of x) → y.acts ≡ x.acts → Err e ≡ scalar_in_machine around i (state_in x)
        → stepped (Err o) y ≡ step listing s Older (nested_of x)
    other_stops y o e i here other is config same stop =
        ap (λ (q : LetterEnd). stepped (Err q) y) is
        ∙ (λ j. Err (Ended (order.Stopped (config j) (cause.Stop e)) ((same_acts x y same ∙ acts_are) j)))
        ∙ ap (went (core listing around) (config_of x) (interrupted_of z) below) stop
        ∙ other_steps i here other

    -- a beat of a vector row
    pub row_steps : (v : Vector) (q : Stepped) → listing x.regs.pc ≡ Ok (instr.Vector v) → q ≡ older (core listing around) (config_of x)
        → with_acts (nested_of x).acts (uncounted (config_of x) q) ≡ step listing s Older (nested_of x)
    row_steps v q here e =
        (λ j. with_acts (acts_are j) (uncounted (config_of x) (e j)))
        ∙ ap (λ (r : Result Instr Fault). handles (core listing around) around r (config_of x) (interrupted_of z) below) (sym here)
        ∙ handler_is

    -- nothing stands there
    pub fault_steps : (f : Fault) (q : Stepped) → listing x.regs.pc ≡ Err f → q ≡ older (core listing around) (config_of x)
        → with_acts (nested_of x).acts (uncounted (config_of x) q) ≡ step listing s Older (nested_of x)
    fault_steps f q here e =
        (λ j. with_acts (acts_are j) (uncounted (config_of x) (e j)))
        ∙ ap (λ (r : Result Instr Fault). handles (core listing around) around r (config_of x) (interrupted_of z) below) (sym here)
        ∙ handler_is

  -- NOTHING STANDS at the program counter of what runs
  pub none_steps : (f : Fault) → listing x.regs.pc ≡ Err f
      → Err (order.Stopped (config_of x) (cause.Stop (stop.Fault f))) ≡ older (core listing around) (config_of x)
      → stepped (lifted (Err (cause.Stop (stop.Fault f)))) x ≡ step listing s Older (nested_of x)
  none_steps f here e = by_newest (newest_first x.acts) refl
    where
      by_newest : (l : List Activation) → newest_first x.acts ≡ l → stepped (lifted (Err (cause.Stop (stop.Fault f)))) x ≡ step listing s Older (nested_of x)
      by_newest [] newest = thread_steps x (Err (cause.Stop (stop.Fault f))) (ap (map interrupted_of) newest) refl e
      by_newest (z ∷ rest) newest = fault_steps z rest newest f (Err (order.Stopped (config_of x) (cause.Stop (stop.Fault f)))) here e

-- A RETURN, by the rule that it breaks
module _ (x : Cpu) (z : Activation) (rest : List Activation) where
  abbrev as_ruled : Option Broken → NestedStep
  as_ruled o = returned o (config_of x) (interrupted_of z) (map interrupted_of rest) (state_in x)

  pub rule_is : (value : ℕ) (o : Option Broken) → regs_of (state_in x) ≡ x.regs → o ≡ return_rule x.regs (byte_at (memory_of x.mem)) value z
      → as_ruled o ≡ returns value z rest x
  unfolding state_of
  rule_is value o same e = ap as_ruled (e ∙ ap (λ (r : Regs). return_rule r (byte_at (memory_of x.mem)) value z) (sym same))

  -- the position and the state before an instruction that returns are forgotten
  pub returned_from : (o : Option Broken) (before : State)
      → as_ruled o ≡ returned o (record (config_of x) { state = before }) (interrupted_of z) (map interrupted_of rest) (state_in x)
  returned_from o before = grind arith

  pub returned_ok : (y : Cpu) → y.regs ≡ z.regs → memory_of y.mem ≡ with_actor (actor_under rest) (memory_of x.mem) → newest_first y.acts ≡ rest
      → y.window ≡ window_in z
      → y.output ≡ x.output → y.retired ≡ x.retired → y.older_steps ≡ x.older_steps → Ok (nested_of y) ≡ as_ruled None
  returned_ok y regs memory acts window output n steps =
      (λ j. Ok (record {
        config = record { a = (window j).a; b = (window j).b; n = n j; steps = steps j; state = state_of (regs j) (memory j) (output j).items };
        acts = map interrupted_of (acts j);
      }))
      ∙ ap (λ (t : State). Ok (record
      { config = record { a = (window_in z).a; b = (window_in z).b; n = x.retired; steps = x.older_steps; state = t }; acts = map interrupted_of rest }))
      (ap (λ (l : List Activation). state_of z.regs (with_actor (actor_under l) (memory_of x.mem)) x.output.items) (sym (stacked_are rest))
      ∙ sym (restored_is z.regs x.regs (actor_under (map (λ (y : Interrupted). y.stacked) (map interrupted_of rest))) (memory_of x.mem) x.output.items))

  pub returned_err : (b : Broken) (y : Cpu) → newest_first x.acts ≡ z ∷ rest → y.regs ≡ x.regs → memory_of y.mem ≡ memory_of x.mem → y.acts ≡ x.acts
      → y.window ≡ x.window
      → y.output ≡ x.output → y.retired ≡ x.retired → y.older_steps ≡ x.older_steps
      → Err (Offends (offence.Left b) (config_of y) (nested_of y).acts) ≡ as_ruled (Some b)
  returned_err b y newest regs memory same window output n steps =
      λ j. Err (Offends (offence.Left b)
      (record { a = (window j).a; b = (window j).b; n = n j; steps = steps j; state = state_of (regs j) (memory j) (output j).items })
      ((same_acts x y same ∙ ap (map interrupted_of) newest) j))
