-- A beat that loads or stores under the predicate is the part of the whole of the state in which its word alone is active.
use Rattle.std.proofs.Common.{◌≡◌, ℕ, ◌+◌, ◌%◌, ◌^◌, ◌<◌, Bool, true, false, cond, eqb, List, [], ◌∷◌, ◌++◌, map, Option, Some, None, Result, Ok, Err, refl}
use Rattle.std.proofs.Common.{sym, ◌∙◌, ap}
use Rattle.hm_base.specs.declared.Fault.{Fault}
use Rattle.hm_base.specs.declared.Stop.{Stop}
use Rattle.hm_lane.specs.Lanes.{firsts, lanes, unlanes, words}
use Rattle.hm_lane.specs.declared.lanes.Size.{Size}
use Rattle.hm_lane.specs.declared.lanes.Size.TheVariants as size
use Rattle.hm_mem.specs.declared.Actor.TheVariants.{Thread}
use Rattle.hm_mem.specs.Memory.{Around}
use Rattle.hm_mem.specs.Seen.{marks}
use Rattle.hm_base.specs.Results.{unless}
use Rattle.hm_order.specs.Beats.{then}
use Rattle.hm_state.specs.State.{Cell, State, Value}
use Rattle.hm_beat.specs.Rows.{predicate_at, register_at, write_register}
use Rattle.hm_beat.specs.Touches.{span_bytes}
use Rattle.hm_lane_fns.specs.Registers.{advancing, saturating}
use Rattle.hm_moves.specs.Moves.{as_loaded, byte_count}
use Rattle.hm_moves.specs.Ways.{Found, Transfer, at_addresses, at_offsets, contiguous, interleaved, moves_by, way_predicated}
use Rattle.hm_moves.specs.Wholes.{addresses, are_moved, element_bytes, filled_registers, loaded, loaded_elements, number_bytes, read_at, stored_elements}
use Rattle.hm_moves.specs.Wholes.{transfer_whole, written_back}
use Rattle.hm_beat_laws.specs.Exceptions.{element_stop, keeps_others, marked, with_predicate}
use Rattle.hm_beat_laws.specs.MovedParts.{first_among, loaded_among, move_part, moved_among, moved_ones, moves_belong, transfer_among}
use Rattle.hm_beat_laws.specs.Parts.{belongs, only, part_of}
use Rattle.hm_beat_laws.proofs.Alone.{Plain, alone_is, plain-append, plain_words, same_part}
use Rattle.hm_beat_laws.proofs.MovedParts.{ones_are}
use Rattle.hm_beat_laws.proofs.MovedWholes.{moved_live}

-- WHAT IS WRITTEN is neither P0 nor a mask
plain_marked : (m : Bool) (ws : List (Cell × Value)) → Plain ws → Plain (marked m ws)
plain_marked m [] h = tt
plain_marked m (w ∷ ws) h = (h.0, plain_marked m ws h.1)

plain_number : (x k : ℕ) (bs : List ℕ) → Plain (number_bytes x k bs)
plain_number x k [] = tt
plain_number x k (a ∷ bs) = (refl, plain_number x (k + 1) bs)

plain_bytes : (y : Size) (ps : List Bool) (addrs xs : List ℕ) → Plain (element_bytes y ps addrs xs)
plain_bytes y [] addrs xs = tt
plain_bytes y (p ∷ ps) [] xs = tt
plain_bytes y (p ∷ ps) (a ∷ addrs) [] = tt
plain_bytes y (p ∷ ps) (a ∷ addrs) (x ∷ xs) = plain-append (cond p (number_bytes x 0 bs) []) (element_bytes y ps addrs xs) (go p) (plain_bytes y ps addrs xs)
  where
    bs : List ℕ
    bs = span_bytes a (byte_count y)

    go : (q : Bool) → Plain (cond q (number_bytes x 0 bs) [])
    go true = plain_number x 0 bs
    go false = tt

plain_either : (y : Bool) (ws us : List (Cell × Value)) → Plain ws → Plain us → Plain (cond y ws us)
plain_either true ws us h k = h
plain_either false ws us h k = k

-- THE SAME IS READ where other words are not active
same_read : (y : Size) (b : ℕ) (s : State) (a : ℕ) → read_at y s a ≡ read_at y (only b s) a
same_read size.Byte b s a = refl
same_read y b s a = refl

agrees : (b : ℕ) (s : State) (f : Cell → Bool) (o p : Option Stop) (ws us : List (Cell × Value)) → o ≡ p → ws ≡ us → Plain ws
    → ◌≡◌ {A = Result State Stop} (then (unless o (Ok (saturating false ws s))) (λ v. Ok (part_of f v s)))
    (then (unless p (Ok (saturating false us (only b s)))) (λ v. Ok (part_of f (with_predicate (saturating false [] s) v) s)))
agrees b s f o p ws us stops same plain = go o
    ∙ (λ j. then (unless (stops j) (Ok (saturating false (same j) (only b s)))) (λ v. Ok (part_of f (with_predicate (saturating false [] s) v) s)))
  where
    go : (q : Option Stop) → ◌≡◌ {A = Result State Stop} (then (unless q (Ok (saturating false ws s))) (λ v. Ok (part_of f v s)))
        (then (unless q (Ok (saturating false ws (only b s)))) (λ v. Ok (part_of f (with_predicate (saturating false [] s) v) s)))
    go None = ap Ok (same_part b s f false false ws [] plain tt)
    go (Some e) = refl

module _ (x : Around) (store : Bool) (y z : Size) (sign : Bool) (b : ℕ) (low : b < 4) (s : State) where
  abbrev u : State
  u = only b s

  abbrev moves : Found → Transfer
  moves w = record { store = store; memory = y; register = z; signed = sign; found = w }

  abbrev f : Cell → Bool
  f = belongs (eqb b 3) b

  abbrev stop_at : Found → List Bool → State → Option Stop
  stop_at w ps v = first_among (element_stop x store y v) ps (addresses y z w v)

  abbrev writes_at : Found → List Bool → State → List (Cell × Value)
  writes_at w ps v = marked (marks x.actor) (moved_among (moves w) ps (addresses y z w v) v) ++ written_back w v

  abbrev IsAloneMove : Found → Type 0
  IsAloneMove w = move_part x (moves w) b s ≡ then (transfer_among x (are_moved z w u) (moves w) u) (λ v. Ok (part_of f (with_predicate (advancing [] s) v) s))

  -- the active elements of word b, as they are active where it is so alone
  ones : moved_ones z (contiguous 0 0 0 true true) b s ≡ firsts z (predicate_at u)
  ones = ones_are z b s ∙ (λ j. firsts z (sym (alone_is s b low) j))

  -- a register gets elements, or bytes do
  plain_all : (w : Found) (d : ℕ) (back : List (Cell × Value)) → Plain back
      → (let ps = moved_ones z w b s in let addrs = addresses y z w s in let ys = stored_elements z w s in
      let xs = unlanes z (loaded_elements (loaded (moves w) s) ps addrs) in
      Plain (marked (marks x.actor) (cond store (element_bytes y ps addrs ys) (write_register d xs)) ++ back))
  plain_all w d back h =
      let ps = moved_ones z w b s in
      let ws = element_bytes y ps (addresses y z w s) (stored_elements z w s) in
      let xs = unlanes z (loaded_elements (loaded (moves w) s) ps (addresses y z w s)) in
      plain-append (marked (marks x.actor) (cond store ws (write_register d xs))) back
      (plain_marked (marks x.actor) (cond store ws (write_register d xs))
      (plain_either store ws (write_register d xs) (plain_bytes y ps (addresses y z w s) (stored_elements z w s)) (plain_words d 0 (words xs)))) h

  -- a way whose elements, addresses and bases are the same where other words are not active
  by_ones : (w : Found) → moved_ones z w b s ≡ are_moved z w u → addresses y z w s ≡ addresses y z w u → stored_elements z w s ≡ stored_elements z w u
      → written_back w s ≡ written_back w u
      → moves_belong z w (eqb b 3) b ≡ f → Plain (writes_at w (moved_ones z w b s) s) → IsAloneMove w
  by_ones w same found stored back belong plain =
      (λ j. then (transfer_among x (moved_ones z w b s) (moves w) s) (λ v. Ok (part_of (belong j) v s)))
      ∙ agrees b s f (stop_at w (moved_ones z w b s) s) (stop_at w (are_moved z w u) u) (writes_at w (moved_ones z w b s) s) (writes_at w (are_moved z w u) u)
      (λ j. first_among (element_stop x store y s) (same j) (found j))
      (λ j. let read : ℕ → ℕ = λ a. as_loaded (moves_by (moves w)) (same_read y b s a j) in
      marked (marks x.actor) (cond (keeps_others (moves w)) (filled_registers z w (loaded_among read (same j) (found j) (stored j)))
      (cond store (element_bytes y (same j) (found j) (stored j)) (filled_registers z w (loaded_elements read (same j) (found j))))) ++ back j)
      plain

  alone_move : (w : Found) → way_predicated w ≡ true → IsAloneMove w
  alone_move (contiguous d n offset before back) h =
      let w = contiguous d n offset before back in
      by_ones w ones refl refl refl refl (plain_all w d (written_back w s) (plain_either back _ [] (refl, tt) tt))
  alone_move (at_offsets d n m scale) h =
      let w = at_offsets d n m scale in
      by_ones w ones refl refl refl refl (plain_all w d [] tt)
  alone_move (at_addresses d m offset back) h =
      let w = at_addresses d m offset back in
      by_ones w ones refl refl refl refl (plain_all w d (written_back w s)
      (plain_either back _ [] (plain_words m 0 (words (unlanes size.Word (map (λ a. (a + offset) % 2 ^ 32) (lanes size.Word (register_at m s)))))) tt))
  alone_move (interleaved d n four part back) h = cc

pub alone_moves : (x : Around) (t : Transfer) (b : ℕ) (s : State) → way_predicated t.found ≡ true → b < 4
    → move_part x t b s ≡ then (transfer_among x (are_moved t.register t.found (only b s)) t (only b s))
    (λ v. Ok (part_of (belongs (eqb b 3) b) (with_predicate (advancing [] s) v) s))
alone_moves x t b s under low = alone_move x t.store t.memory t.register t.signed b low s t.found under

-- and where it runs, in the thread, that whole is hm_moves'
ran_too : (r : Result State Stop) (q : Result State Fault) (g : State → State) (u : State) → ((w : State) → r ≡ Ok w → q ≡ Ok w)
    → ◌≡◌ {A = Result State Stop} (then r (λ w. Ok (g w))) (Ok u) → ◌≡◌ {A = Result State Fault} (then q (λ w. Ok (g w))) (Ok u)
ran_too (Ok w) q g u h e = (λ j. then (h w refl j) (λ v. Ok (g v))) ∙ ap Ok cc
ran_too (Err k) q g u h e = cc

pub alone_live : (x : Around) (t : Transfer) (b : ℕ) (s u : State) → x.actor ≡ Thread → way_predicated t.found ≡ true → b < 4 → move_part x t b s ≡ Ok u
    → ◌≡◌ {A = Result State Fault} (then (transfer_whole t (only b s)) (λ w. Ok (part_of (belongs (eqb b 3) b) (with_predicate (advancing [] s) w) s))) (Ok u)
alone_live x t b s u thread under low h =
    let v = only b s in
    ran_too (transfer_among x (are_moved t.register t.found v) t v) (transfer_whole t v)
    (λ w. part_of (belongs (eqb b 3) b) (with_predicate (advancing [] s) w) s) u
    (λ w e. moved_live x t v w e thread) (sym (alone_moves x t b s under low) ∙ h)
