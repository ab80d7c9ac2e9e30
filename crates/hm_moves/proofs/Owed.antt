-- What the rows that load or store owe.
use Rattle.std.proofs.Common.{◌≡◌, ℕ, zero, suc, ◌+◌, ◌*◌, ◌/◌, ◌%◌, ◌<◌, Bool, true, false, ◌&&◌, cond, eqb, ltb, List, [], ◌∷◌, refl, arith, ne_eqb}
use Rattle.hm_base.specs.Place.{same_place}
use Rattle.hm_base.specs.declared.Place.{Place}
use Rattle.hm_base.specs.declared.Place.TheVariants.{R}
use Rattle.hm_regs.specs.Writes.{Write, write}
use Rattle.hm_lane.specs.declared.lanes.Size.{Size}
use Rattle.hm_beat.specs.Rows.{Each, word_place}
use Rattle.hm_order.proofs.Results.{true_not_false}
use Rattle.hm_kinds.specs.Row.{is_body}
use Rattle.hm_moves.specs.Moves.{IsMoves, SparesLr, Unwritten, is_word, byte_count}
use Rattle.hm_lane.specs.Lanes.{per_word}
use Rattle.hm_moves.specs.Ways.{Found, Transfer, at_addresses, at_offsets, each_from, interleaved, moves_by, registers, stream, way_back, way_sources}
use Rattle.hm_moves.specs.Ways.{way_words, way_writes_lr, contiguous}

-- word k of a register is no later word of it or of another
word_off : (d n b k : ℕ) → k < b → b < 4 → same_place (word_place d k) (word_place n b) ≡ false
word_off d n b k low high = ne_eqb (4 * d + k) (4 * n + b) (λ e. omega arith)

each_word : (f g : ℕ → ℕ) (j n : ℕ) → Each (λ (p : Place). is_word p ≡ true) (each_from (λ i. word_place (f i) (g i)) j n)
each_word f g j zero = tt
each_word f g j (suc n) = (refl, each_word f g (j + 1) n)

sources_body : (w : Found) (b : ℕ) → Each (λ (p : Place). is_body p ≡ true) (way_sources w b)
sources_body (contiguous d n offset before back) b = (refl, tt)
sources_body (at_offsets d n m scale) b = (refl, (refl, tt))
sources_body (at_addresses d m offset back) b = (refl, tt)
sources_body (interleaved d n four part back) b = (refl, tt)

are_words : (z : Size) (w : Found) (b : ℕ) → Each (λ (p : Place). is_word p ≡ true) (way_words z w b)
are_words z (contiguous d n offset before back) b = (refl, tt)
are_words z (at_offsets d n m scale) b = (refl, tt)
are_words z (at_addresses d m offset back) b = (refl, tt)
are_words z (interleaved d n four part back) b =
    each_word (λ i. d + (stream part z b + i) % registers four) (λ i. byte_count z * ((stream part z b + i) / registers four) / 4) 0
    (cond (ltb (per_word z) (registers four)) (per_word z) (registers four))

body_where : (y : Bool) (p : Place) (x : ℕ) → is_body p ≡ true → Each (λ (v : Write). is_body v.place ≡ true) (cond y (write p x ∷ []) [])
body_where true p x h = (h, tt)
body_where false p x h = tt

back_body : (w : Found) (b : ℕ) (ns : List ℕ) → Each (λ (v : Write). is_body v.place ≡ true) (way_back w b ns)
back_body (contiguous d n offset before back) b ns = body_where (back && eqb b 3) (R n) _ refl
back_body (at_offsets d n m scale) b ns = tt
back_body (at_addresses d m offset back) b ns = body_where back (word_place m b) _ refl
back_body (interleaved d n four part back) b ns = body_where (back && eqb b 3) (R n) _ refl

-- the base is written on the last beat alone
not_last : (k : ℕ) (y : Bool) (p q : Place) (x : ℕ) → k < 3 → Unwritten p (cond (y && eqb k 3) (write q x ∷ []) [])
not_last k true p q x h = ap_false (eqb k 3) (ne_eqb k 3 (λ e. omega arith))
  where
    ap_false : (z : Bool) → z ≡ false → Unwritten p (cond z (write q x ∷ []) [])
    ap_false true e = true_not_false true refl e
    ap_false false e = tt
not_last k false p q x h = tt

every : (P : Place → Type 0) (ps : List Place) → ((p : Place) → P p) → Each P ps
every P [] h = tt
every P (p ∷ ps) h = (h p, every P ps h)

word_unwritten : (y : Bool) (m n b k x : ℕ) → k < b → b < 4 → Unwritten (word_place n b) (cond y (write (word_place m k) x ∷ []) [])
word_unwritten true m n b k x low high = (word_off m n b k low high, tt)
word_unwritten false m n b k x low high = tt

unsourced : (w : Found) (b k : ℕ) (ns : List ℕ) → k < b → b < 4 → Each (λ (p : Place). Unwritten p (way_back w k ns)) (way_sources w b)
unsourced (contiguous d n offset before back) b k ns low high =
    every (λ p. Unwritten p (way_back (contiguous d n offset before back) k ns)) (way_sources (contiguous d n offset before back) b)
    (λ p. not_last k back p (R n) _ (omega arith))
unsourced (at_offsets d n m scale) b k ns low high = (tt, (tt, tt))
unsourced (at_addresses d m offset back) b k ns low high = (word_unwritten back m m b k _ low high, tt)
unsourced (interleaved d n four part back) b k ns low high =
    every (λ p. Unwritten p (way_back (interleaved d n four part back) k ns)) (way_sources (interleaved d n four part back) b)
    (λ p. not_last k back p (R n) _ (omega arith))

unread : (z : Size) (w : Found) (b k : ℕ) (ns : List ℕ) → k < b → b < 4 → Each (λ (p : Place). Unwritten p (way_back w k ns)) (way_words z w b)
unread z (contiguous d n offset before back) b k ns low high =
    every (λ p. Unwritten p (way_back (contiguous d n offset before back) k ns)) (way_words z (contiguous d n offset before back) b)
    (λ p. not_last k back p (R n) _ (omega arith))
unread z (at_offsets d n m scale) b k ns low high = (tt, tt)
unread z (at_addresses d m offset back) b k ns low high = (word_unwritten back m d b k _ low high, tt)
unread z (interleaved d n four part back) b k ns low high =
    every (λ p. Unwritten p (way_back (interleaved d n four part back) k ns)) (way_words z (interleaved d n four part back) b)
    (λ p. not_last k back p (R n) _ (omega arith))

no_register : (f g : ℕ → ℕ) (r j n : ℕ) → Each (λ (q : Place). same_place q (R r) ≡ false) (each_from (λ i. word_place (f i) (g i)) j n)
no_register f g r j zero = tt
no_register f g r j (suc n) = (refl, no_register f g r (j + 1) n)

unfilled : (z : Size) (w : Found) (b k : ℕ) → k < b → b < 4
    → Each (λ (p : Place). Each (λ (q : Place). same_place q p ≡ false) (way_words z w k)) (way_sources w b)
unfilled z (contiguous d n offset before back) b k low high = ((refl, tt), tt)
unfilled z (at_offsets d n m scale) b k low high = ((refl, tt), ((word_off d m b k low high, tt), tt))
unfilled z (at_addresses d m offset back) b k low high = ((word_off d m b k low high, tt), tt)
unfilled z (interleaved d n four part back) b k low high = (
  no_register (λ i. d + (stream part z k + i) % registers four) (λ i. byte_count z * ((stream part z k + i) / registers four) / 4) n 0
      (cond (ltb (per_word z) (registers four)) (per_word z) (registers four)),
  tt,
)

word_spares : (y : Bool) (m k x : ℕ) → Unwritten (R 14) (cond y (write (word_place m k) x ∷ []) [])
word_spares true m k x = (refl, tt)
word_spares false m k x = tt

early : (w : Found) (k : ℕ) (ns : List ℕ) → k < 3 → Unwritten (R 14) (way_back w k ns)
early (contiguous d n offset before back) k ns h = not_last k back (R 14) (R n) _ h
early (at_offsets d n m scale) k ns h = tt
early (at_addresses d m offset back) k ns h = word_spares back m k _
early (interleaved d n four part back) k ns h = not_last k back (R 14) (R n) _ h

pub move_is : (t : Transfer) → IsMoves (moves_by t)
move_is t = record {
  sources = sources_body t.found;
  words = are_words t.register t.found;
  back = back_body t.found;
  unsourced = unsourced t.found;
  unread = unread t.register t.found;
  unfilled = λ b k low high e. unfilled t.register t.found b k low high;
  early = early t.found;
}

-- a base that is not lr
base_spared : (y z : Bool) (n x : ℕ) → (y && eqb n 14) ≡ false → Unwritten (R 14) (cond (y && z) (write (R n) x ∷ []) [])
base_spared true true n x e = (e, tt)
base_spared true false n x e = tt
base_spared false z n x e = tt

way_spares : (w : Found) (b : ℕ) (ns : List ℕ) → way_writes_lr w ≡ false → Unwritten (R 14) (way_back w b ns)
way_spares (contiguous d n offset before back) b ns e = base_spared back (eqb b 3) n _ e
way_spares (at_offsets d n m scale) b ns e = tt
way_spares (at_addresses d m offset back) b ns e = word_spares back m b _
way_spares (interleaved d n four part back) b ns e = base_spared back (eqb b 3) n _ e

pub move_spares : (t : Transfer) → way_writes_lr t.found ≡ false → SparesLr (moves_by t)
move_spares t e b ns = way_spares t.found b ns e
