-- The part of word b alone, as of the whole of a state in which that word alone is active.
use Rattle.std.proofs.Common.{◌≡◌, ℕ, ◌+◌, ◌-◌, ◌*◌, ◌%◌, ◌^◌, ◌<◌, Bool, true, false, not, cond, ◌||◌, ◌&&◌, ltb, eqb, List, [], ◌∷◌, ◌++◌, Option, Some, None}
use Rattle.std.proofs.Common.{refl, sym, ◌∙◌, ap, arith, append_assoc, take, drop}
use Rattle.std.specs.Int.{bit_at}
use Rattle.hm_base.specs.declared.Place.{Place}
use Rattle.hm_base.specs.declared.Place.TheVariants.{P0, Mask01, Mask23, Ltp, R}
use Rattle.hm_isa.specs.declared.fields.Below.{Below}
use Rattle.hm_isa.specs.declared.vectors.V6.{V6}
use Rattle.hm_lane.specs.declared.lanes.Size.{Size}
use Rattle.hm_lane.specs.Lanes.{per_word, unlanes}
use Rattle.hm_lane.specs.Predicate.{allowed, mask_place, remains}
use Rattle.hm_lane_fns.specs.declared.words.Operand.{Operand}
use Rattle.hm_lane.specs.declared.lanes.Size.TheVariants.{Byte}
use Rattle.hm_lane_fns.specs.declared.words.Operand.TheVariants.{Vector}
use Rattle.hm_lane_fns.specs.LaneFns.{lane_of, lane_saturates, saturates}
use Rattle.hm_lane_fns.specs.Words.{any_both, lane_tests3, lanewise3, nibble, size_of}
use Rattle.hm_regs.specs.Writes.{write}
use Rattle.hm_state.specs.Store.{put_all}
use Rattle.hm_state.specs.State.{At, Cell, State, Value, at, cells, into, same_cell}
use Rattle.hm_beat.specs.Rows.{Each, active_at, advance_half, predicate_at, register_at, retired, write_words}
use Rattle.hm_beat.proofs.Chained.{Off, off-append, put_other}
use Rattle.hm_beat.proofs.Whole.{put_all-append}
use Rattle.hm_forms.specs.declared.form.Form.{Form}
use Rattle.hm_forms.specs.declared.form.Form.TheVariants as form
use Rattle.hm_forms_elements.specs.Forms.{offset_after, offsets_from}
use Rattle.hm_lane_fns.specs.Registers.{merges_under, operand_register, saturating}
use Rattle.hm_forms_elements.specs.Registers.{long_product_result, round_at}
use Rattle.hm_forms_predicate.specs.Predicates.{half_writes, mask_after, predicate_whole}
use Rattle.hm_forms_predicate.specs.Blocks.{block_whole}
use Rattle.hm_forms.specs.Wholes.{form_whole}
use Rattle.hm_rows.specs.Rows.{Registers}
use Rattle.hm_beat_laws.specs.Exceptions.{chooses_by_predicate, from_beat, gives_registers, is_predicate, with_predicate}
use Rattle.hm_beat_laws.specs.Parts.{alone_writes, belongs, form_part, only, part_of}
use Rattle.hm_moves.proofs.Stored.{rest-put_all, sticky-put_all}
use Rattle.hm_beat_laws.proofs.Kept.{apart, apart_too, by_beat}
use Rattle.hm_beat_laws.proofs.Under.{alone, marks_under, part_under, whole_under, writes_under}

-- WORD b ALONE IS ACTIVE
bits_back : (p q r t : Bool) → (let n = nibble (p ∷ q ∷ r ∷ t ∷ []) % 2 ^ 4 in
    (eqb (bit_at n 0) 1 ≡ p) × (eqb (bit_at n 1) 1 ≡ q) × (eqb (bit_at n 2) 1 ≡ r) × (eqb (bit_at n 3) 1 ≡ t))
bits_back p q r t = grind arith

and_again : (p q : Bool) → (p && q && q) ≡ (p && q)
and_again p q = grind arith

-- four truth values that were put into a slice, and are asked for again
slice_back : (a b c d e f g h : Bool) → (let n = nibble ((a && e) ∷ (b && f) ∷ (c && g) ∷ (d && h) ∷ []) % 2 ^ 4 in
    ◌≡◌ {A = List Bool} ((eqb (bit_at n 0) 1 && e) ∷ (eqb (bit_at n 1) 1 && f) ∷ (eqb (bit_at n 2) 1 && g) ∷ (eqb (bit_at n 3) 1 && h) ∷ [])
    ((a && e) ∷ (b && f) ∷ (c && g) ∷ (d && h) ∷ []))
slice_back a b c d e f g h =
    let back = bits_back (a && e) (b && f) (c && g) (d && h) in
    (λ j. (back.0 j && e) ∷ (back.1 j && f) ∷ (back.2 j && g) ∷ (back.3 j && h) ∷ [])
    ∙ (λ j. and_again a e j ∷ and_again b f j ∷ and_again c g j ∷ and_again d h j ∷ [])

word_back : (b : ℕ) (s : State) → (let p = allowed (at (mask_place b) s) (at (P0 b) s) in let r = λ (j : ℕ). remains (at Ltp s) (at (R 14) s) (4 * b + j) in
    let n = nibble (active_at b s) % 2 ^ 4 in
    ◌≡◌ {A = List Bool} ((eqb (bit_at n 0) 1 && r 0) ∷ (eqb (bit_at n 1) 1 && r 1) ∷ (eqb (bit_at n 2) 1 && r 2) ∷ (eqb (bit_at n 3) 1 && r 3) ∷ [])
    (active_at b s))
word_back b s =
    let p = allowed (at (mask_place b) s) (at (P0 b) s) in
    let r : ℕ → Bool = λ j. remains (at Ltp s) (at (R 14) s) (4 * b + j) in
    slice_back (p 0) (p 1) (p 2) (p 3) (r 0) (r 1) (r 2) (r 3)

-- word k where word b alone is active
abbrev IsActive : State → ℕ → ℕ → Type 0
IsActive s b k = active_at k (only b s) ≡ cond (eqb k b) (active_at b s) (false ∷ false ∷ false ∷ false ∷ [])

pub active_alone : (s : State) (b k : ℕ) → b < 4 → k < 4 → IsActive s b k
active_alone s b k low high = by_beat (λ c. (k : ℕ) → k < 4 → IsActive s c k)
    (by_beat (IsActive s 0) (word_back 0 s) refl refl refl) (by_beat (IsActive s 1) refl (word_back 1 s) refl refl)
    (by_beat (IsActive s 2) refl refl (word_back 2 s) refl)
    (by_beat (IsActive s 3) refl refl refl (word_back 3 s)) b low k high

abbrev pub IsAlone : State → ℕ → Type 0
IsAlone s b = predicate_at (only b s) ≡ alone b s

pub alone_is : (s : State) (b : ℕ) → b < 4 → IsAlone s b
alone_is s = by_beat (IsAlone s) (words 0 (omega arith)) (words 1 (omega arith)) (words 2 (omega arith)) (words 3 (omega arith))
  where
    words : (b : ℕ) → b < 4 → predicate_at (only b s)
        ≡ cond (eqb 0 b) (active_at b s) (false ∷ false ∷ false ∷ false ∷ []) ++ cond (eqb 1 b) (active_at b s) (false ∷ false ∷ false ∷ false ∷ [])
        ++ cond (eqb 2 b) (active_at b s) (false ∷ false ∷ false ∷ false ∷ []) ++ cond (eqb 3 b) (active_at b s) (false ∷ false ∷ false ∷ false ∷ [])
    words b low = λ j. active_alone s b 0 low (omega arith) j ++ active_alone s b 1 low (omega arith) j ++ active_alone s b 2 low (omega arith) j
        ++ active_alone s b 3 low (omega arith) j

-- WRITES BESIDE P0 AND THE MASKS
abbrev pub Plain : List (Cell × Value) → Type 0
Plain ws = Each (λ (w : Cell × Value). is_predicate w.0 ≡ false) ws

plain_off : (ws : List (Cell × Value)) (c : Cell) → Plain ws → is_predicate c ≡ true → Off c ws
plain_off [] c h e = tt
plain_off (w ∷ ws) c h e = (apart_too is_predicate w.0 c h.0 e, plain_off ws c h.1 e)

pub plain-append : (ws us : List (Cell × Value)) → Plain ws → Plain us → Plain (ws ++ us)
plain-append [] us h k = k
plain-append (w ∷ ws) us h k = (h.0, plain-append ws us h.1 k)

pub plain_words : (d k : ℕ) (xs : List ℕ) → Plain (write_words d k xs)
plain_words d k [] = tt
plain_words d k (x ∷ xs) = (refl, plain_words d (k + 1) xs)

plain : (ps : List Bool) (f : Form) (s : State) → Plain (writes_under ps f s)
plain ps (form.Lanes l) s = plain_words l.d.value 0 _
plain ps (form.Constant r) s = plain_words r.d.value 0 _
plain ps (form.Narrowing r) s = plain_words r.d.value 0 _
plain ps (form.Carry r) s = (refl, plain_words r.d.value 0 _)
plain ps (form.Shift r) s = (refl, plain_words r.d.value 0 _)
plain ps (form.Offsets r) s = plain-append (write_words r.d.value 0 _) (_ ∷ []) (plain_words r.d.value 0 _) (refl, tt)
plain ps (form.Sum r) s = (refl, tt)
plain ps (form.Long r) s = (refl, (refl, tt))
plain ps (form.Extreme r) s = (refl, tt)
plain ps (form.Compare r) s = tt
plain ps (form.Count r) s = tt
plain ps form.Invert s = tt
plain ps (form.Select r) s = tt
plain ps (form.LongProduct r) s = plain_words r.d.value 0 _
plain ps (form.Widening r) s = plain_words r.d.value 0 _
plain ps (form.ComplexSum r) s = plain_words r.d.value 0 _
plain ps (form.Reversed r) s = plain_words r.d.value 0 _
plain ps (form.Block r) s = tt

-- the advance writes P0 and the masks alone
advance_off : (s : State) (c : Cell) → is_predicate c ≡ false → Off c (advance_half 0 s ++ advance_half 2 s)
advance_off s c e =
    off-append c (advance_half 0 s) (advance_half 2 s) (half 0 Mask01 (ltb 8 (at Mask01 s)) (not (eqb (at Mask01 s) 0)) refl)
    (half 2 Mask23 (ltb 8 (at Mask23 s)) (not (eqb (at Mask23 s) 0)) refl)
  where
    half : (k : ℕ) (p : Place) (x y : Bool) → is_predicate (At p) ≡ true
        → Off c (cond x (into (write (P0 k) (15 - at (P0 k) s)) ∷ into (write (P0 (k + 1)) (15 - at (P0 (k + 1)) s)) ∷ []) []
        ++ cond y (into (write p (2 * at p s)) ∷ []) [])
    half k p true true h = (apart is_predicate (At (P0 k)) c refl e, (apart is_predicate (At (P0 (k + 1))) c refl e, (apart is_predicate (At p) c h e, tt)))
    half k p true false h = (apart is_predicate (At (P0 k)) c refl e, (apart is_predicate (At (P0 (k + 1))) c refl e, tt))
    half k p false true h = (apart is_predicate (At p) c h e, tt)
    half k p false false h = tt

-- and so does the change of the state
only_same : (b : ℕ) (s : State) (c : Cell) → is_predicate c ≡ false → (only b s).cell c ≡ s.cell c
only_same b s c e = put_other (alone_writes b s) c s
    (off (P0 0) refl, (off (P0 1) refl, (off (P0 2) refl, (off (P0 3) refl, (off Mask01 refl, (off Mask23 refl, tt))))))
  where
    off : (p : Place) → is_predicate (At p) ≡ true → same_cell (At p) c ≡ false
    off p h = apart is_predicate (At p) c h e

-- READING A CELL
put_alike : (ws : List (Cell × Value)) (t v : State) (c : Cell) → t.cell c ≡ v.cell c → (put_all cells ws t).cell c ≡ (put_all cells ws v).cell c
put_alike [] t v c h = h
put_alike (w ∷ ws) t v c h = put_alike ws _ _ c (ap (λ x. cond (same_cell w.0 c) w.1 x) h)

first_counts : (ws us : List (Cell × Value)) (s : State) (c : Cell) → Off c us → (put_all cells (ws ++ us) s).cell c ≡ (put_all cells ws s).cell c
first_counts ws us s c h = ap (λ (t : State). t.cell c) (put_all-append ws us s) ∙ put_other us c (put_all cells ws s) h

last_counts : (ws us : List (Cell × Value)) (s : State) (c : Cell) → Off c ws → (put_all cells (ws ++ us) s).cell c ≡ (put_all cells us s).cell c
last_counts ws us s c h = ap (λ (t : State). t.cell c) (put_all-append ws us s) ∙ put_alike us (put_all cells ws s) s c (put_other ws c s h)

-- ONE STATE OR THE OTHER
module _ (b : ℕ) (s : State) (f : Cell → Bool) (m n : Bool) (ws us : List (Cell × Value)) (beside : Plain ws) (beside_too : Plain us) where
  abbrev u : State
  u = only b s

  abbrev advance : State → List (Cell × Value)
  advance t = advance_half 0 t ++ advance_half 2 t

  abbrev after : List (Cell × Value) → State → State
  after vs t = put_all cells (vs ++ advance_half 0 t ++ advance_half 2 t) t

  grouped : (vs : List (Cell × Value)) (t : State) (c : Cell) → (after vs t).cell c ≡ (put_all cells (vs ++ advance t) t).cell c
  grouped vs t c = ap (λ ws. (put_all cells ws t).cell c) (append_assoc vs (advance_half 0 t) (advance_half 2 t))

  cell_is : (c : Cell) (y : Bool) → is_predicate c ≡ y → (after ws s).cell c ≡ cond y ((after us s).cell c) ((after ws u).cell c)
  cell_is c true e =
      grouped ws s c ∙ last_counts ws (advance s) s c (plain_off ws c beside e)
      ∙ sym (grouped us s c ∙ last_counts us (advance s) s c (plain_off us c beside_too e))
  cell_is c false e =
      grouped ws s c ∙ first_counts ws (advance s) s c (advance_off s c e) ∙ put_alike ws s u c (sym (only_same b s c e))
      ∙ sym (grouped ws u c ∙ first_counts ws (advance u) u c (advance_off u c e))

  pub same_part : part_of f (saturating m ws s) s ≡ part_of f (with_predicate (saturating n us s) (saturating m ws u)) s
  same_part = λ j. record {
    cell = λ c. cond (f c) (cell_is c (is_predicate c) refl j) (s.cell c);
    sticky = m || ((sticky-put_all (ws ++ advance_half 0 s ++ advance_half 2 s) s ∙ sym (sticky-put_all (ws ++ advance_half 0 u ++ advance_half 2 u) u)) j);
    pc = s.pc;
    rest = (rest-put_all (ws ++ advance_half 0 s ++ advance_half 2 s) s ∙ sym (rest-put_all (ws ++ advance_half 0 u ++ advance_half 2 u) u)) j;
  }

-- WHAT IS READ OF IT
same_operand : (z : Size) (by : Operand) (b : ℕ) (s : State) → operand_register z by (only b s) ≡ operand_register z by s
same_operand z (Vector q) b s = refl
same_operand z by b s = refl

same_long_product : (r : V6) (z : Size) (b : ℕ) (s : State) → long_product_result r z (only b s) ≡ long_product_result r z s
same_long_product r Byte b s = refl
same_long_product r z b s = refl

same_round : (q : Option (Below 6)) (b : ℕ) (s : State) → round_at q (only b s) ≡ round_at q s
same_round q b s = grind arith

same_writes : (ps : List Bool) (f : Form) (b : ℕ) (s : State) → writes_under ps f (only b s) ≡ writes_under ps f s
same_writes ps (form.Lanes l) b s =
    λ j. merges_under ps l.d.value
    (lanewise3 l.z (lane_of l.f l.unsigned l.z) (register_at l.d.value s) (register_at l.n.value s) (same_operand l.z l.by b s j)) s
same_writes ps (form.Constant r) b s = refl
same_writes ps (form.Narrowing r) b s = refl
same_writes ps (form.Carry r) b s = refl
same_writes ps (form.Shift r) b s = refl
same_writes ps (form.Offsets r) b s = λ j.
    let place = R (2 * r.n.value) in
    let count = 4 * per_word r.z in
    merges_under ps r.d.value (unlanes r.z (offsets_from r (same_round r.round b s j) count (at place s))) s
    ++ (into (write place (offset_after r (same_round r.round b s j) count (at place s))) ∷ [])
same_writes ps (form.LongProduct r) b s = λ j. merges_under ps r.d.value (same_long_product r (size_of r.z.value) b s j) s
same_writes ps f b s = refl

same_marks : (ps : List Bool) (f : Form) (b : ℕ) (s : State) → marks_under ps f (only b s) ≡ marks_under ps f s
same_marks ps (form.Lanes l) b s = λ j. saturates l.f
    && any_both ps (lane_tests3 l.z (lane_saturates l.f l.unsigned l.z) (register_at l.d.value s) (register_at l.n.value s) (same_operand l.z l.by b s j))
same_marks ps f b s = refl

-- A FORM OF WHICH WORD b ALONE IS ACTIVE
pub alone_part : (f : Form) (b : ℕ) (s : State) → b < 4 → chooses_by_predicate f ≡ false → whole_under (predicate_at s) f s ≡ form_whole f s
    → whole_under (predicate_at (only b s)) (from_beat b f) (only b s) ≡ form_whole (from_beat b f) (only b s) → part_under f b s ≡ form_part f b s
alone_part f b s low heeds whole later =
    let k = belongs (gives_registers (Registers f) b) b in
    let g = from_beat b f in
    let u = only b s in
    same_part b s k (marks_under (alone b s) g s) (marks_under (predicate_at s) f s) (writes_under (alone b s) g s) (writes_under (predicate_at s) f s)
    (plain (alone b s) g s) (plain (predicate_at s) f s)
    ∙ (λ j. part_of k (with_predicate (whole j) (saturating (sym (same_marks (alone b s) g b s) j) (sym (same_writes (alone b s) g b s) j) u)) s)
    ∙ (λ j. part_of k (with_predicate (form_whole f s) (whole_under (sym (alone_is s b low) j) g u)) s)
    ∙ (λ j. part_of k (with_predicate (form_whole f s) (later j)) s)
    ∙ (λ j. part_of k (with_predicate (form_whole f s) (form_whole g (cond (sym heeds j) s u))) s)

-- a form that reads P0 as data, and takes it as it stands
one_state : (v : State) → v ≡ with_predicate v v
one_state v = λ j. record { cell = λ c. either (is_predicate c) (v.cell c) j; sticky = v.sticky; pc = v.pc; rest = v.rest }
  where
    either : (y : Bool) (x : Value) → x ≡ cond y x x
    either y x = grind arith

pub whole_part : (f : Form) (b : ℕ) (s : State) → gives_registers (Registers f) b ≡ true → from_beat b f ≡ f → chooses_by_predicate f ≡ true
    → part_of (belongs true b) (form_whole f s) s ≡ form_part f b s
whole_part f b s gives same heeds =
    (λ j. part_of (belongs (sym gives j) b) (one_state (form_whole f s) j) s)
    ∙ (λ j. part_of (belongs (gives_registers (Registers f) b) b)
    (with_predicate (form_whole f s) (form_whole (sym same j) (cond (sym heeds j) s (only b s)))) s)

-- A FORM THAT WRITES P0 AND THE MASKS ALONE
mask_off : (p : Place) (m : ℕ) (new : Option ℕ) (c : Cell) → is_predicate (At p) ≡ true → is_predicate c ≡ false → Off c (mask_after p m new)
mask_off p m (Some k) c h e = (apart is_predicate (At p) c h e, tt)
mask_off p m None c h e = go (not (eqb m 0))
  where
    go : (y : Bool) → Off c (cond y (into (write p (2 * m)) ∷ []) [])
    go true = (apart is_predicate (At p) c h e, tt)
    go false = tt

slices_off : (l : List Bool) (new : Option ℕ) (s : State) (c : Cell) → is_predicate c ≡ false
    → Off c (half_writes 0 (take 8 l) new s ++ half_writes 2 (drop 8 l) new s)
slices_off l new s c e =
    off-append c (half_writes 0 (take 8 l) new s) (half_writes 2 (drop 8 l) new s)
    (apart is_predicate (At (P0 0)) c refl e, (apart is_predicate (At (P0 1)) c refl e, mask_off Mask01 (at Mask01 s) new c refl e))
    (apart is_predicate (At (P0 2)) c refl e, (apart is_predicate (At (P0 3)) c refl e, mask_off Mask23 (at Mask23 s) new c refl e))

-- no matter which slices and masks it makes of another P0: those of the state count
module _ (b : ℕ) (s : State) (ws us : List (Cell × Value)) (beside : (c : Cell) → is_predicate c ≡ false → Off c ws)
    (beside_too : (c : Cell) → is_predicate c ≡ false → Off c us) where
  one_cell : (c : Cell) (y : Bool) → is_predicate c ≡ y
      → (put_all cells ws s).cell c ≡ cond y ((put_all cells ws s).cell c) ((put_all cells us (only b s)).cell c)
  one_cell c true e = refl
  one_cell c false e = put_other ws c s (beside c e) ∙ sym (put_other us c (only b s) (beside_too c e) ∙ only_same b s c e)

  predicate_part : (f : Cell → Bool)
      → part_of f (retired (put_all cells ws s)) s ≡ part_of f (with_predicate (retired (put_all cells ws s)) (retired (put_all cells us (only b s)))) s
  predicate_part f = λ j. record {
    cell = λ c. cond (f c) (one_cell c (is_predicate c) refl j) (s.cell c);
    sticky = (sticky-put_all ws s ∙ sym (sticky-put_all us (only b s))) j;
    pc = s.pc;
    rest = (rest-put_all ws s ∙ sym (rest-put_all us (only b s))) j;
  }

pub slices_part : (l m : List Bool) (new : Option ℕ) (b : ℕ) (s : State)
    → part_of (belongs true b) (predicate_whole l new s) s
    ≡ part_of (belongs true b) (with_predicate (predicate_whole l new s) (predicate_whole m new (only b s))) s
slices_part l m new b s =
    let u = only b s in
    predicate_part b s (half_writes 0 (take 8 l) new s ++ half_writes 2 (drop 8 l) new s) (half_writes 0 (take 8 m) new u ++ half_writes 2 (drop 8 m) new u)
    (slices_off l new s) (slices_off m new u) (belongs true b)

pub block_part : (k : ℕ) (b : ℕ) (s : State)
    → part_of (belongs true b) (block_whole k s) s ≡ part_of (belongs true b) (with_predicate (block_whole k s) (block_whole k (only b s))) s
block_part k b s = predicate_part b s ws ws both both (belongs true b)
  where
    ws : List (Cell × Value)
    ws = into (write Mask01 k) ∷ into (write Mask23 k) ∷ []

    both : (c : Cell) → is_predicate c ≡ false → Off c ws
    both c e = (apart is_predicate (At Mask01) c refl e, (apart is_predicate (At Mask23) c refl e, tt))
