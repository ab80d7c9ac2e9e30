-- Checkpoints in a list, and machines that are put back to them.
use Rattle.std.proofs.Common.{◌≡◌, ℕ, zero, suc, ◌+◌, ◌-◌, ◌*◌, ◌/◌, ◌<◌, ◌≤◌, arith, ap, refl, sym, ◌∙◌, subst, List, [], ◌∷◌, ◌++◌, get_or, length, map, take}
use Rattle.std.proofs.Common.{slice_get, ⊎_elim, Some}
use Rattle.std.specs.Prelude.{IsSome}
use Rattle.std.proofs.lemmas.Bool.{cases_lt}
use Rattle.std.proofs.Math.Nat.{div-eq_of_lt-le}
use Rattle.std.proofs.Math.Seq.{take-length}
use Rattle.std.proofs.lemmas.List.{length-append, take-append-le}
use Rattle.std.proofs.lemmas.Option.{slice_get-get_or}
use Rattle.hm_base.specs.Image.{Segment, flash_byte}
use Rattle.hm_codes.proofs.Exists.{exists}
use Rattle.hm_run_laws.specs.Runs.{Run}
use Rattle.hm_machine.proofs.Counts.{shows_more}
use Rattle.hm_machine.proofs.Ticks.{shows_past}
use Rattle.hm_machine.specs.Checkpoints.{IsKept, at_checkpoint}
use Rattle.hm_machine.specs.Shown.{Fixed, Shown, Shows, fixed_of}
use Rattle.hm_machine.specs.Tapes.{AreApart, AreKept, ShowsTick, first_of, machine_at}
use Rattle.hm_machine.specs.declared.checkpoint.Checkpoint.{Checkpoint}
use Rattle.hm_run_laws.proofs.Outputs.{begins_same, output_grows}
use Rattle.hm_run_laws.specs.Next.{Begins}
use Rattle.hm_sched.specs.Schedule.{Sched, ticks_of}
use Rattle.hm_state.specs.State.{state_of}

-- the element that an index gives
pub found : {A : Type 0} (xs : List A) (k : ℕ) (x : A) → k < length xs → x ≡ get_or xs k x → slice_get xs k ≡ Some x
found xs k x h is = slice_get-get_or xs k x h ∙ ap Some (sym is)

-- what holds of each holds of each with one more at the end
pub pushed : {A : Type 0} (P : ℕ → A → Type 0) (xs : List A) (x : A) → ((k : ℕ) (y : A) → slice_get xs k ≡ Some y → P k y) → P (length xs) x
    → (k : ℕ) (y : A) → slice_get (xs ++ x ∷ []) k ≡ Some y → P k y
pushed P [] x all last zero y e = let same : x ≡ y = cc in subst (P 0) same last
pushed P [] x all last (suc k) y e = absurd cc
pushed P (z ∷ xs) x all last zero y e = all zero y e
pushed P (z ∷ xs) x all last (suc k) y e = pushed (λ n. P (suc n)) xs x (λ n. all (suc n)) last k y e

-- what holds of what a function gives of each
pub mapped : {A B : Type 0} (f : A → B) (P : ℕ → B → Type 0) (xs : List A) → ((k : ℕ) (x : A) → slice_get xs k ≡ Some x → P k (f x))
    → (k : ℕ) (y : B) → slice_get (map f xs) k ≡ Some y → P k y
mapped f P [] all k y e = absurd cc
mapped f P (x ∷ xs) all zero y e = let same : f x ≡ y = cc in subst (P 0) same (all zero x refl)
mapped f P (x ∷ xs) all (suc k) y e = mapped f (λ n. P (suc n)) xs (λ n. all (suc n)) k y e

pub only_one : {A : Type 0} (old new : List A) (x : A) → old ≡ [] → new ≡ old ++ x ∷ [] → new ≡ x ∷ []
only_one old new x none is = is ∙ ap (λ (xs : List _). xs ++ x ∷ []) none

-- THE OUTPUT
same_start : (o p : List ℕ) (n : ℕ) → Begins o p → n ≤ length o → take n p ≡ take n o
same_start o p n h le = ap (take n) h.1 ∙ take-append-le n o h.0 le

longer : (o p : List ℕ) (n : ℕ) → Begins o p → n ≤ length o → n ≤ length p
longer o p n h le = let size = ap length h.1 ∙ length-append o h.0 in omega (arith, size, le)

-- a machine that shows a later tick has the output of one that shows an earlier tick, and perhaps more
pub shows_output : (image : List Segment) (s : Sched) (t k : ℕ) (m n : Shown) → Shows image s t m → Shows image s (t + k) n → Begins m.output n.output
unfolding state_of
shows_output image s t k m n h i =
    let there = exists (flash_byte image) in
    let old : m.output ≡ _ = ap (λ (x : Run). x.machine.config.state.rest.output) (h.now there.0 there.1) in
    let new : n.output ≡ _ = ap (λ (x : Run). x.machine.config.state.rest.output) (i.now there.0 there.1) in
    subst (λ (o : List ℕ). Begins o n.output) (sym old) (subst (Begins _) (sym new) (output_grows there.0 image s t k))

-- ANOTHER MACHINE OF THE RUN, whose output is as long or longer
module _ (f g : Fixed) (o p : List ℕ) (same : g ≡ f) (more : Begins o p) where
  machine_still : (c : Checkpoint) → c.written ≤ length o → machine_at g p c ≡ machine_at f o c
  machine_still c le = λ j. at_checkpoint c (same j) (same_start o p c.written more le j)

  pub kept_still : (cs : List Checkpoint) → AreKept f o cs → AreKept g p cs
  kept_still cs h k c e =
      let old = h k c e in (
        longer o p c.written more old.0,
        subst (λ (x : Fixed). IsKept c x (take c.written p)) (sym same) (subst (IsKept c f) (sym (same_start o p c.written more old.0)) old.1),
      )

  pub lie_still : (start : Shown) (apart : ℕ) (cs : List Checkpoint) → AreKept f o cs → AreApart start f o apart cs → AreApart start g p apart cs
  lie_still start apart cs kept h k c e image s shows =
      subst (Shows image s (k * apart)) (sym (machine_still c (kept k c e).0)) (h k c e image s shows)

  pub first_still : (cs : List Checkpoint) (m n : Shown) → fixed_of m ≡ f → fixed_of n ≡ g → 0 < length cs → AreKept f o cs → first_of cs p n ≡ first_of cs o m
  first_still [] m n is now some kept = absurd (omega arith)
  first_still (c ∷ cs) m n is now some kept =
      ap (λ (x : Fixed). machine_at x p c) now ∙ machine_still c (kept 0 c refl).0 ∙ ap (λ (x : Fixed). machine_at x o c) (sym is)

-- ONE MORE, of the machine as it is
module _ (c : Checkpoint) (m : Shown) (written : c.written ≡ length m.output) where
  whole : take c.written m.output ≡ m.output
  whole = ap (λ (n : ℕ). take n m.output) written ∙ take-length m.output

  pub new_kept : IsKept c (fixed_of m) m.output → (c.written ≤ length m.output) × IsKept c (fixed_of m) (take c.written m.output)
  new_kept h = (omega (arith, written), subst (IsKept c (fixed_of m)) (sym whole) h)

  pub new_machine : at_checkpoint c (fixed_of m) m.output ≡ m → machine_at (fixed_of m) m.output c ≡ m
  new_machine h = ap (at_checkpoint c (fixed_of m)) whole ∙ h

pub first_pushed : (cs : List Checkpoint) (c : Checkpoint) (o : List ℕ) (m : Shown) → 0 < length cs → first_of (cs ++ c ∷ []) o m ≡ first_of cs o m
first_pushed [] c o m some = absurd (omega arith)
first_pushed (d ∷ cs) c o m some = refl

-- from another machine of the run, with its own word for the first
pub lie_first : (a b : Shown) (f : Fixed) (o : List ℕ) (apart : ℕ) (cs : List Checkpoint) → a ≡ b → AreApart b f o apart cs → AreApart a f o apart cs
lie_first a b f o apart cs e h = subst (λ (st : Shown). AreApart st f o apart cs) (sym e) h

pub shows_first : (a b : Shown) (t : ℕ) (m : Shown) → a ≡ b → ShowsTick b t m → ShowsTick a t m
shows_first a b t m e h = subst (λ (st : Shown). ShowsTick st t m) (sym e) h

pub one_more_tick : (k e : ℕ) → k * e + e ≡ (k + 1) * e
one_more_tick k e = grind arith

pub more_apart : (reached apart k : ℕ) → reached + apart ≡ k * apart → (reached + apart) + apart ≡ (k + 1) * apart
more_apart reached apart k e = ap (λ (n : ℕ). n + apart) e ∙ one_more_tick k apart

-- so many checkpoints lie at or before a tick
pub count_is : (count apart last : ℕ) → 0 < count → (count - 1) * apart ≤ last → last < count * apart → count ≡ last / apart + 1
count_is count apart last some low high =
    let one : count - 1 + 1 ≡ count = omega (arith, some) in
    let quotient : last / apart ≡ count - 1 = div-eq_of_lt-le apart low (subst (λ (n : ℕ). last < n * apart) (sym one) high) in
    omega (arith, quotient, some)

pub one_less : (reached apart k : ℕ) → 0 < k → reached + apart ≡ k * apart → (k - 1) * apart ≡ reached
one_less reached apart zero some e = absurd (omega arith)
one_less reached apart (suc k) some e =
    let more : suc k * apart ≡ k * apart + apart = grind arith in
    let less : suc k - 1 ≡ k = omega arith in
    let is : k * apart ≡ reached = omega (arith, e, more) in
    ap (λ (n : ℕ). n * apart) less ∙ is

-- THE END of the run, from any tick: the output has grown, and the ticks
pub at_end : (image : List Segment) (s : Sched) (t : ℕ) (m n : Shown) → Shows image s t m → Shows image s (length (ticks_of s.lines)) n
    → (IsSome m.outcome → n ≡ m)
    → Begins m.output n.output × (m.ticks ≤ n.ticks)
at_end image s t m n h end ended = ⊎_elim
    (λ past.
    let same = ended (shows_past image s t m (omega (arith, past)) h).0 in
    let ticks : n.ticks ≡ m.ticks = ap (λ (x : Shown). x.ticks) same in
    (subst (λ (x : Shown). Begins m.output x.output) (sym same) (begins_same m.output), omega (arith, ticks)))
    (λ below.
    let last = length (ticks_of s.lines) in
    let sum : last ≡ t + (last - t) = omega (arith, below) in
    let there : Shows image s (t + (last - t)) n = subst (λ (u : ℕ). Shows image s u n) sum end in
    (shows_output image s t (last - t) m n h there, shows_more image s t (last - t) m n h there)) (cases_lt (length (ticks_of s.lines)) t)
