-- Machines to which ticks are given one by one.
use Rattle.std.proofs.Common.{◌≡◌, ℕ, ◌<◌, ◌≤◌, arith, ap, refl, sym, ◌∙◌, subst, false, List, [], ◌∷◌, ◌++◌, length, map, Option}
use Rattle.std.proofs.Common.{Some, None, inl, inr}
use Rattle.std.specs.Option.{is_some}
use Rattle.std.proofs.lemmas.List.{drop_all}
use Rattle.hm_base.specs.Image.{Segment, flash_byte}
use Rattle.hm_codes.proofs.Exists.{exists}
use Rattle.hm_codes.specs.Listing.{Listing, IsListing}
use Rattle.hm_cpu.specs.Cpus.{interrupted_of, nested_of, IsSoundUnder}
use Rattle.hm_cpu.specs.declared.cpu.Cpu.{Cpu}
use Rattle.hm_exc.specs.declared.types.Activation.{Activation}
use Rattle.hm_run_laws.proofs.Quiet.{tick_still}
use Rattle.hm_run_laws.proofs.Soundness.{start_sound}
use Rattle.hm_run_laws.specs.Nested.{Nested, around_under}
use Rattle.hm_run_laws.specs.Runs.{Run, begin, tick, tick_of}
use Rattle.hm_run_laws.specs.Sound.{IsSound}
use Rattle.hm_run_laws.proofs.Ends.{all_ended, run_past}
use Rattle.hm_machine.specs.Bares.{IsBare, ShowsGiven}
use Rattle.hm_machine.specs.Machines.{GoesOn, StandsIn, left_at, left_in}
use Rattle.hm_machine.specs.declared.cursor.Cursor.{Cursor}
use Rattle.hm_machine.specs.Shown.{Shown, Shows, run_of, run_with}
use Rattle.hm_mem.specs.Memory.{flash_at, memory_of, thread_under}
use Rattle.hm_run.specs.Bare.{bare}
use Rattle.hm_state.specs.Start.{first_bounds}
use Rattle.hm_state.specs.State.{state_of}
use Rattle.hm_run_laws.specs.Next.{after_ticks}
use Rattle.hm_run.specs.declared.Outcome.{Outcome}
use Rattle.hm_sched.specs.Schedule.{TickLine, Sched, ticks_of}

-- A machine that shows a schedule has ended, or the schedule has ticks.
pub has_ticks : (image : List Segment) (s : Sched) (t : ℕ) (m : Shown) → Shows image s t m → m.outcome ≡ None → s.lines ≡ [] → ⊥
has_ticks image s t m h none empty =
    let there = exists (flash_byte image) in
    let end = all_ended there.0 s image in
    let few : length (ticks_of s.lines) ≤ t = let size : length (ticks_of s.lines) ≡ 0 = ap (λ (l : List TickLine). length (ticks_of l)) empty in omega arith in
    let over : m.outcome ≡ Some end.0 = ap (λ (x : Run). x.outcome) (h.now there.0 there.1 ∙ run_past there.0 s image t few) ∙ end.1 in
    let wrong : None ≡ Some end.0 = sym none ∙ over in
    absurd cc

-- ACTIVATIONS: none is made
no_acts : (acts : List Activation) → map interrupted_of acts ≡ [] → acts ≡ []
no_acts [] h = refl
no_acts (x ∷ xs) h = absurd cc

pub still_none : (listing : Listing) (line : TickLine) (old : Shown) (acts : List Activation) → IsBare old
    → map interrupted_of acts ≡ (tick listing (bare []) line (run_of old [])).machine.acts → acts ≡ []
still_none listing line old acts is h = no_acts acts (h ∙ (tick_still listing (bare []) refl line (run_of old []) (ap (map interrupted_of) is.acts)).acts)

-- after one more tick
after_more : (listing : Listing) (given : List TickLine) (line : TickLine) (x : Run)
    → after_ticks listing (bare []) (given ++ line ∷ []) x ≡ tick listing (bare []) line (after_ticks listing (bare []) given x)
after_more listing [] line x = refl
after_more listing (g ∷ gs) line x = after_more listing gs line (tick listing (bare []) g x)

pub given_more : (image : List Segment) (given : List TickLine) (line : TickLine) (old new : Shown) → ShowsGiven image given old
    → flash_at new.memory ≡ flash_at old.memory
    → ((listing : Listing) → IsListing (flash_at old.memory) listing → run_of new [] ≡ tick listing (bare []) line (run_of old []))
    → ShowsGiven image (given ++ line ∷ []) new
given_more image given line old new h flash next = record {
  bytes = flash ∙ h.bytes;
  now = λ listing is.
      next listing (subst (λ (f : ℕ → ℕ). IsListing f listing) (sym h.bytes) is) ∙ ap (tick listing (bare []) line) (h.now listing is)
      ∙ sym (after_more listing given line (begin image (bare [])));
}

-- THE START: a machine under a schedule without ticks, but for its outcome
pub first_given : (image : List Segment) (m : Shown) → Shows image (bare []) 0 m → (o : Shown) → o ≡ record m { outcome = None; left = [] }
    → ShowsGiven image [] o
first_given image m h o is = record {
  bytes = ap (λ (x : Shown). flash_at x.memory) is ∙ h.bytes;
  now = λ listing listed. ap (λ (x : Shown). run_of x []) is ∙ ap (λ (r : Run). record r { outcome = None }) (h.now listing listed);
}

pub first_none : (image : List Segment) (m : Shown) → Shows image (bare []) 0 m → m.acts ≡ []
first_none image m h =
    let there = exists (flash_byte image) in
    no_acts m.acts (ap (λ (r : Run). r.machine.acts) (h.now there.0 there.1))

pub first_entered : (image : List Segment) (m : Shown) → Shows image (bare []) 0 m → m.entries ≡ 0
first_entered image m h =
    let there = exists (flash_byte image) in
    h.count there.0 there.1

pub first_sound : (image : List Segment) (m : Shown) → Shows image (bare []) 0 m → IsSound (bare []) (run_of m []).machine
first_sound image m h =
    let there = exists (flash_byte image) in
    subst (IsSound (bare [])) (sym (ap (λ (r : Run). r.machine) (h.now there.0 there.1))) (start_sound image (bare []))

pub first_position : (image : List Segment) (m : Shown) → Shows image (bare []) 0 m → (m.a ≡ 0) × (m.b ≡ 0)
first_position image m h =
    let there = exists (flash_byte image) in
    let same = h.now there.0 there.1 in
    (ap (λ (r : Run). r.machine.config.a) same, ap (λ (r : Run). r.machine.config.b) same)

-- a run that goes on stands in a line, where there are lines
pub stands_there : (lines : List TickLine) (c : Cursor) → GoesOn lines c → 0 < length lines → StandsIn lines c
stands_there lines c (inl h) some = h
stands_there lines c (inr h) some = let none : length lines ≡ 0 = ap length h in absurd (omega arith)

-- where there are no lines no tick is left
pub no_left : (lines : List TickLine) (c : Cursor) → lines ≡ [] → left_at lines c ≡ []
no_left lines c empty =
    let size : length lines ≡ 0 = ap length empty in
    ap (λ (l : List TickLine). left_in l c.used) (drop_all c.line lines (omega arith))

-- ONE TICK of a machine that goes on: nothing enters in it
module _ (listing : Listing) (line : TickLine) (m : Shown) (acts : m.acts ≡ []) (none : m.outcome ≡ None) where
  abbrev ticked : Run
  ticked = tick_of listing (bare []) line (run_with None (run_of m []).machine m.ticks []) None

  ticked_is : ticked ≡ tick listing (bare []) line (run_of m [])
  ticked_is = λ j. tick_of listing (bare []) line (run_with (sym none j) (run_of m []).machine m.ticks []) (sym none j)

  pub given_on : (o : Option Outcome) (x : Nested) (k : ℕ) → run_with o x k ticked.entries ≡ ticked
      → run_with o x k [] ≡ tick listing (bare []) line (run_of m [])
  given_on o x k e =
      let still = tick_still listing (bare []) refl line (run_of m []) (ap (map interrupted_of) acts) in
      ap (run_with o x k) (sym (ap (λ (r : Run). r.entries) ticked_is ∙ still.entries)) ∙ e ∙ ticked_is

-- and one of a machine that has ended
pub ended_still : (listing : Listing) (line : TickLine) (x : Run) (o : Outcome) → x.outcome ≡ Some o → x ≡ tick listing (bare []) line x
ended_still listing line x o e = sym (ap (λ (q : Option Outcome). tick_of listing (bare []) line x q) e)

-- one in which nothing is interrupted runs the thread under its schedule
pub bare_around : (s : Sched) (x : Cpu) → IsSoundUnder s x → s ≡ bare [] → (nested_of x).acts ≡ [] → (memory_of x.mem).around ≡ thread_under first_bounds
unfolding state_of
bare_around s x sound plan acts = sound.around ∙ (λ j. around_under (plan j) (acts j))

pub not_some : (o : Option Outcome) → is_some o ≡ false → o ≡ None
not_some None e = refl
not_some (Some o) e = absurd cc
