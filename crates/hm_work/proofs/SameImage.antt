-- Images that give the same bytes run alike.
use Rattle.hm_run.specs.Timed.{bounds_of}
use Rattle.std.proofs.Common.{◌≡◌, ℕ, zero, suc, ◌-◌, ◌%◌, false, eqb, cond, List, [], drop, length, None, refl, ap, subst}
use Rattle.hm_base.specs.Image.{Segment, first_byte, flash_byte, word_at}
use Rattle.hm_base.specs.declared.Place.{Place}
use Rattle.hm_base.specs.declared.Place.TheVariants.{R, Ltp}
use Rattle.hm_codes.specs.Listing.{Listing, IsListing}
use Rattle.hm_run_laws.specs.Runs.{begin, closed, next, run, run_out, shown, shown_out}
use Rattle.hm_order.specs.Machine.{at_start}
use Rattle.hm_mem.specs.Memory.{thread_under, Bounds}
use Rattle.hm_sched.specs.Schedule.{Sched, ticks_of}
use Rattle.hm_state.specs.Start.{first_cell, first_rest, first_value, reset_pc, reset_sp, start_under}
use Rattle.hm_state.specs.State.{At, Byte, Cell, word}

-- two images give the same bytes
pub record SameBytes (i j : List Segment) : Type 0 where
  pub at : (a : ℕ) → (flash_byte i a ≡ flash_byte j a) × (first_byte i a ≡ first_byte j a)

flash_alike : (i j : List Segment) → SameBytes i j → flash_byte i ≡ flash_byte j
flash_alike i j h = λ k a. (h.at a).0 k

-- the same listings, and the same address of the first instruction
pub same_listing : (i j : List Segment) (listing : Listing) → SameBytes i j → IsListing (flash_byte i) listing → IsListing (flash_byte j) listing
same_listing i j listing h is = subst (λ (byte : ℕ → ℕ). IsListing byte listing) (flash_alike i j h) is

pub same_reset : (i j : List Segment) → SameBytes i j → reset_pc i ≡ reset_pc j
same_reset i j h = ap (λ (byte : ℕ → ℕ). word_at byte 4) (flash_alike i j h)

same_stack : (i j : List Segment) → SameBytes i j → reset_sp i ≡ reset_sp j
same_stack i j h = ap (λ (byte : ℕ → ℕ). word_at byte 0) (flash_alike i j h)

value_alike : (i j : List Segment) (p : Place) → reset_sp i ≡ reset_sp j → first_value i p ≡ first_value j p
value_alike i j (R n) sp = ap (λ (x : ℕ). cond (eqb n 13) (x - x % 4) (cond (eqb n 14) 0xffffffff 0)) sp
value_alike i j Ltp sp = refl
value_alike i j p sp = refl

cell_alike : (i j : List Segment) (c : Cell) → SameBytes i j → first_cell i c ≡ first_cell j c
cell_alike i j (At p) h = ap word (value_alike i j p (same_stack i j h))
cell_alike i j (Byte a) h = ap word (h.at a).1

pub same_start : (bounds : Bounds) (i j : List Segment) → SameBytes i j → start_under bounds i ≡ start_under bounds j
unfolding start_under
same_start bounds i j h =
    let pc = same_reset i j h in
    λ k. record { cell = λ c. cell_alike i j c h k; sticky = false; pc = pc k - pc k % 2; rest = first_rest (thread_under bounds) }

same_begin : (i j : List Segment) (s : Sched) → SameBytes i j → begin i s ≡ begin j s
same_begin i j s h = λ k. record
    { outcome = None; machine = record { config = at_start (same_start (bounds_of s) i j h k); acts = [] }; ticks = 0; entries = [] }

same_run : (listing : Listing) (i j : List Segment) (s : Sched) (t : ℕ) → SameBytes i j → run listing i s t ≡ run listing j s t
same_run listing i j s zero h = ap (closed (ticks_of s.lines)) (same_begin i j s h)
same_run listing i j s (suc t) h = ap (next listing s (drop t (ticks_of s.lines))) (same_run listing i j s t h)

-- the whole run, and what is shown of it
pub same_run_out : (listing : Listing) (i j : List Segment) (s : Sched) → SameBytes i j → run_out listing i s ≡ run_out listing j s
same_run_out listing i j s h = same_run listing i j s (length (ticks_of s.lines)) h

pub same_shown : (listing : Listing) (i j : List Segment) (s : Sched) → SameBytes i j → shown_out listing i s ≡ shown_out listing j s
same_shown listing i j s h = ap shown (same_run_out listing i j s h)
