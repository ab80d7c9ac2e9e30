-- What is tried of a machine, and undone.
use Rattle.std.specs.Prelude.{eqb}
use Rattle.std.specs.Result.{is_ok}
use Rattle.std.proofs.Common.{◌≡◌, ℕ, zero, suc, ◌+◌, ◌-◌, ◌<◌, ◌≤◌, ◌%◌, ◌^◌, ◌||◌, arith, ap, refl, sym, ◌∙◌, subst, Bool, false, List, []}
use Rattle.std.proofs.Common.{◌∷◌, ◌++◌, drop, take, slice_index_or, length, Option, Some, None, Result, Ok, Err}
use Rattle.std.proofs.lemmas.List.{append-nil, take_rest}
use Rattle.std.proofs.lemmas.Bool.{or_from, or_parts}
use Rattle.hm_base.specs.declared.Span.{Span}
use Rattle.hm_base.specs.declared.Stop.{Stop}
use Rattle.hm_beat.proofs.Lists.{kept_law}
use Rattle.hm_beat.specs.Laws.{Checks, run}
use Rattle.hm_beat.specs.Meeting.{has_byte}
use Rattle.hm_beat.specs.Touches.{span_bytes, span_rest, spanned, stores_in}
use Rattle.hm_beat.specs.Trees.{action}
use Rattle.hm_beat.proofs.Exchange.{rest_stays}
use Rattle.hm_codes.specs.Listing.{Listing}
use Rattle.hm_cpu.specs.Trials.{HoldsAll, standing}
use Rattle.hm_isa.specs.declared.Vector.{Vector}
use Rattle.hm_mem.specs.Memory.{Around, Memory}
use Rattle.hm_mem.specs.Seen.{IsSameElsewhere}
use Rattle.hm_order.specs.Beats.{then}
use Rattle.hm_order.specs.Machine.{Config, did, done, older_of, settle, younger, younger_of}
use Rattle.hm_run_laws.proofs.Laws.{caused_ok}
use Rattle.hm_regs.specs.declared.Regs.{Regs}
use Rattle.hm_rows.specs.Rows.{vector_tree}
use Rattle.hm_run.proofs.Steps.{older_vector}
use Rattle.hm_run.specs.Ready.{goes_on, is_ready}
use Rattle.hm_run.specs.declared.Cause.{Cause}
use Rattle.hm_run.specs.Program.{Program, Stepped, caused, core, rows, step_rule, vector_of}
use Rattle.hm_state.specs.State.{Rest, State, Value, cells, state_of}
use Rattle.hm_undo.specs.Undo.{IsSameBut, held_at}
use Rattle.hm_undo.specs.declared.held.Held.{Held}
use Rattle.hm_window.specs.declared.rule.Rule.{Rule}
use Rattle.hm_window.specs.declared.rule.Rule.TheVariants as rule

-- ADDRESSES
-- an address before others, or among them
behind : (others rest : List ℕ) (x a : ℕ) → (eqb x a || has_byte (others ++ rest) a) ≡ false → has_byte (others ++ (x ∷ rest)) a ≡ false
behind [] rest x a e = e
behind (o ∷ os) rest x a e =
    let one = or_parts (eqb x a) (eqb o a || has_byte (os ++ rest) a) e in
    let two = or_parts (eqb o a) (has_byte (os ++ rest) a) one.1 in
    or_from (eqb o a) (has_byte (os ++ (x ∷ rest)) a) two.0 (behind os rest x a (or_from (eqb x a) (has_byte (os ++ rest) a) one.0 two.1))

-- the bytes of a span behind its first k
wraps : (a k j : ℕ) → ((a + k) % 2 ^ 32 + j) % 2 ^ 32 ≡ (a + (k + j)) % 2 ^ 32
wraps a k j = omega arith

shifted : (a k j n : ℕ) → span_rest ((a + k) % 2 ^ 32) j n ≡ span_rest a (k + j) n
shifted a k j zero = refl
shifted a k j (suc n) =
    let on : k + (j + 1) ≡ (k + j) + 1 = omega arith in
    let rest : span_rest ((a + k) % 2 ^ 32) (j + 1) n ≡ span_rest a ((k + j) + 1) n = shifted a k (j + 1) n ∙ ap (λ (i : ℕ). span_rest a i n) on in
    λ i. wraps a k j i ∷ rest i

span_from : (a k n : ℕ) → span_rest a k n ≡ span_bytes ((a + k) % 2 ^ 32) n
span_from a k zero = refl
span_from a k (suc n) = ap (λ (l : List ℕ). ((a + k) % 2 ^ 32) ∷ l) (sym (shifted a k 1 n))

-- one address more is held, and the others are to be
pub more_held : (all others rest : List ℕ) (addr len : ℕ) → 0 < len → HoldsAll all (others ++ (span_bytes addr len ++ rest))
    → HoldsAll all ((addr ∷ others) ++ (span_bytes ((addr + 1) % 2 ^ 32) (len - 1) ++ rest))
more_held all others rest addr zero some h = absurd (omega arith)
more_held all others rest addr (suc n) some h =
    let size : n ≡ suc n - 1 = omega arith in
    subst (λ (k : ℕ). HoldsAll all ((addr ∷ others) ++ (span_bytes ((addr + 1) % 2 ^ 32) k ++ rest))) size
    (subst (λ (l : List ℕ). HoldsAll all ((addr ∷ others) ++ (l ++ rest))) (span_from addr 1 n)
    (λ a e. h a (behind others (span_rest addr 1 n ++ rest) addr a e)))

-- a span has no more bytes
pub next_held : (all others rest : List ℕ) (addr len : ℕ) → len ≡ 0 → HoldsAll all (others ++ (span_bytes addr len ++ rest)) → HoldsAll all (others ++ rest)
next_held all others rest addr len none h = subst (λ (k : ℕ). HoldsAll all (others ++ (span_bytes addr k ++ rest))) none h

-- the first of some spans, and the others
pub first_span : (spans : List Span) (d : Span) → 1 ≤ length spans
    → spanned spans ≡ span_bytes (slice_index_or spans 0 d).addr (slice_index_or spans 0 d).len ++ spanned (take (length spans - 1) (drop 1 spans))
first_span [] d h = absurd (omega arith)
first_span (x ∷ xs) d h = ap (λ (l : List Span). span_bytes x.addr x.len ++ spanned l) (sym (take_rest (x ∷ xs) 1))

pub all_held : (all others : List ℕ) → HoldsAll all (others ++ []) → HoldsAll all others
all_held all others h = subst (HoldsAll all) (append-nil others) h

-- MEMORIES
pub same_but : (xs ys : List ℕ) (m n : Memory) → IsSameBut xs m n → HoldsAll xs ys → IsSameBut ys m n
same_but xs ys m n h all = record { bytes = λ a e. h.bytes a (all a e); taint = λ a e. h.taint a (all a e); devices = h.devices; elsewhere = h.elsewhere }

pub held_there : (h : Held) (m : Memory) (a : ℕ) → h ≡ held_at m a → h ≡ held_at m h.addr
held_there h m a e = e ∙ ap (held_at m) (sym (ap (λ (x : Held). x.addr) e))

pub held_first : (h : Held) (m n : Memory) (a : ℕ) (xs : List ℕ) → h ≡ held_at m a → IsSameBut (a ∷ xs) m n → IsSameBut (h.addr ∷ xs) m n
held_first h m n a xs e s = subst (λ (x : ℕ). IsSameBut (x ∷ xs) m n) (sym (ap (λ (x : Held). x.addr) e)) s

-- THE TWO STEPS
module _ (listing : Listing) (v : Vector) (r : Regs) (m : Memory) (output : List ℕ) (n steps : ℕ) where
  abbrev M : Program
  M = core listing m.around

  abbrev two : Config State
  two = standing 2 0 n steps (state_of r m output)

  abbrev three : Config State
  three = standing 3 0 n steps (state_of r m output)

  -- the first of the younger, by the rule that it breaks
  by_rule : (o : Option Vector) (q : Option Rule) → vector_of (listing r.pc) ≡ Some v → o ≡ vector_of (listing (r.pc + 4))
      → q ≡ step_rule m.around (Some v) o three
      → younger_of M q o three ≡ younger M three
  unfolding state_of
  by_rule o q row there e =
      ap (λ (x : Option Rule). younger_of M x o three) e ∙ (λ j. younger_of M (step_rule m.around (sym row j) (there j) three) (there j) three)

  pub follows_none : vector_of (listing r.pc) ≡ Some v → None ≡ vector_of (listing (r.pc + 4)) → false ≡ goes_on (younger M three)
  follows_none row none = ap goes_on (by_rule None (Some rule.NotVector) row none refl)

  pub follows_broken : (w : Vector) (q : Rule) → vector_of (listing r.pc) ≡ Some v → Some w ≡ vector_of (listing (r.pc + 4))
      → Some q ≡ step_rule m.around (Some v) (Some w) three
      → false ≡ goes_on (younger M three)
  follows_broken w q row there e = ap goes_on (by_rule (Some w) (Some q) row there e)

  checked_goes : (q : Result State Stop) (x : Result Unit Stop) → Checks q x → is_ok x ≡ goes_on (did M three (caused q))
  checked_goes (Ok t) (Ok u) h = refl
  checked_goes (Ok t) (Err e) h = absurd (let no = h in cc)
  checked_goes (Err f) x h = ap is_ok h

  pub follows_checked : (w : Vector) (x : Result Unit Stop) → vector_of (listing r.pc) ≡ Some v → Some w ≡ vector_of (listing (r.pc + 4))
      → None ≡ step_rule m.around (Some v) (Some w) three → Checks (run (vector_tree w m.around 0) r m output) x → is_ok x ≡ goes_on (younger M three)
  follows_checked w x row there none h = checked_goes (run (vector_tree w m.around 0) r m output) x h ∙ ap goes_on (by_rule (Some w) None row there none)

  -- the third of the older
  pub goes_stops : (e : Cause) → vector_of (listing r.pc) ≡ Some v → Err e ≡ ((rows m.around).act v 2).run (state_of r m output) → false ≡ is_ready M two
  unfolding state_of
  goes_stops e row stop =
      ap (λ (x : Result State Cause). goes_on (then (done M two x (settle M 3 0 n (suc steps))) (younger M))) stop
      ∙ sym (ap (λ (y : Stepped). goes_on (then y (younger M))) (older_vector listing m.around two v row))

  pub goes_further : (t : Regs) (p : Memory) (b : Bool) → vector_of (listing r.pc) ≡ Some v
      → Ok (state_of t p output) ≡ ((rows m.around).act v 2).run (state_of r m output)
      → p.around ≡ m.around → b ≡ goes_on (younger (core listing p.around) (standing 3 0 n (suc steps) (state_of t p output))) → b ≡ is_ready M two
  unfolding state_of
  goes_further t p b row beat around e =
      e ∙ ap (λ (x : Around). goes_on (younger (core listing x) (standing 3 0 n (suc steps) (state_of t p output)))) around
      ∙ ap (λ (x : Result State Cause). goes_on (then (done M two x (settle M 3 0 n (suc steps))) (younger M))) beat
      ∙ sym (ap (λ (y : Stepped). goes_on (then y (younger M))) (older_vector listing m.around two v row))

module _ (listing : Listing) (r : Regs) (m : Memory) (output : List ℕ) (n steps : ℕ) where
  abbrev alone : Program
  alone = core listing m.around

  abbrev at_two : Config State
  at_two = standing 2 0 n steps (state_of r m output)

  -- where no row stands the younger comes too early
  early : (t : State) (o p : Option Vector) → let d = standing 0 0 (suc n) (suc steps) t in goes_on (younger_of alone (step_rule m.around o p d) p d) ≡ false
  early t None p = refl
  early t (Some v) None = refl
  early t (Some v) (Some w) = refl

  other_early : (x : Result State Cause) → goes_on (then (done alone at_two x (λ t. standing 0 0 (suc n) (suc steps) t)) (younger alone)) ≡ false
  other_early (Err e) = refl
  other_early (Ok t) = early t (vector_of (listing t.pc)) (vector_of (listing (t.pc + 4)))

  pub ready_alone : None ≡ vector_of (listing r.pc) → false ≡ is_ready alone at_two
  unfolding state_of
  ready_alone none = sym (other_early (alone.other (state_of r m output)))
      ∙ ap (λ (o : Option Vector). goes_on (then (older_of alone o at_two) (younger alone))) none

-- what the third beat of the older leaves
pub stored : (v : Vector) (r : Regs) (m : Memory) (output : List ℕ) (t : Regs) (p : Memory)
    → Ok (state_of t p output) ≡ ((rows m.around).act v 2).run (state_of r m output) → IsSameElsewhere m p
    → IsSameBut (stores_in (vector_tree v m.around 2) r m output) m p
unfolding state_of
stored v r m output t p beat same =
    let s : State = state_of r m output in
    let did : (action cells (vector_tree v m.around 2)).run s ≡ Ok (state_of t p output) =
    caused_ok ((action cells (vector_tree v m.around 2)).run s) (state_of t p output) (sym beat) in
    let kept = kept_law (vector_tree v m.around 2) s (state_of t p output) did in
    record {
      bytes = λ a h. ap (λ (x : Value). x.n) (kept.bytes a h);
      taint = λ a h. ap (λ (x : Value). x.taint) (kept.bytes a h);
      devices = ap (λ (x : Rest). x.devices) (rest_stays (vector_tree v m.around 2) s (state_of t p output) did);
      elsewhere = same;
    }
