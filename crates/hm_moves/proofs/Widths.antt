-- Elements by their numbers, for the code that finds them.
use Rattle.std.proofs.Common.{◌≡◌, ℕ, zero, suc, ◌+◌, ◌-◌, ◌*◌, ◌<◌, Bool, true, false, cond, map, List, [], ◌∷◌, ◌++◌, get_or}
use Rattle.std.proofs.Common.{refl, sym, ◌∙◌, ap, arith, append_assoc}
use Rattle.std.proofs.Math.Nat.{mul-zero}
use Rattle.hm_base.specs.Bits.{field}
use Rattle.hm_base.specs.declared.Place.TheVariants.{R}
use Rattle.hm_lane.specs.declared.lanes.Size.{Size}
use Rattle.hm_lane.specs.declared.lanes.Size.TheVariants as size
use Rattle.hm_lane.specs.Lanes.{per_word}
use Rattle.hm_state.specs.State.{State, at}
use Rattle.hm_beat.specs.Rows.{active_at}
use Rattle.hm_moves.specs.declared.elements.Element.{Element}
use Rattle.hm_moves.specs.declared.ways.Contiguous.{Contiguous}
use Rattle.hm_moves.specs.declared.ways.Way.{Way}
use Rattle.hm_moves.specs.declared.ways.Way.TheVariants as way
use Rattle.hm_moves.specs.Moves.{active_ones, byte_count, every_byte}
use Rattle.hm_moves.specs.Ways.{Found, at_addresses, at_offsets, contiguous, each_from, interleaved, way_element, way_of, way_predicated, way_sources}

pub width_some : (z : Size) → 0 < byte_count z
width_some size.Byte = omega arith
width_some size.Half = omega arith
width_some size.Word = omega arith

pub field_at : (z : Size) (j w lane len : ℕ) → lane ≡ byte_count z * j → len ≡ byte_count z
    → field (8 * lane) (8 * lane + (8 * len - 1) + 1 - 8 * lane) w ≡ field (8 * (byte_count z * j)) (8 * byte_count z) w
field_at z j w lane len e f =
    let some = width_some z in
    let n : 8 * lane + (8 * len - 1) + 1 - 8 * lane ≡ 8 * byte_count z = omega arith in
    (λ t. field (8 * e t) (n t) w)

-- the elements of a beat by two numbers are those by what stands in the sources
pub by_sources : (y z : Size) (w : Found) (b first second : ℕ) (ns : List ℕ) (j : ℕ) → first ≡ get_or ns 0 0 → second ≡ get_or ns 1 0
    → way_element y z w b (first ∷ second ∷ []) j ≡ way_element y z w b ns j
by_sources y z (contiguous d n offset before back) b first second ns j e f = ap (λ x. way_element y z (contiguous d n offset before back) b (x ∷ []) j) e
by_sources y z (at_offsets d n m scale) b first second ns j e f = λ t. way_element y z (at_offsets d n m scale) b (e t ∷ f t ∷ []) j
by_sources y z (at_addresses d m offset back) b first second ns j e f = ap (λ x. way_element y z (at_addresses d m offset back) b (x ∷ []) j) e
by_sources y z (interleaved d n four part back) b first second ns j e f = ap (λ x. way_element y z (interleaved d n four part back) b (x ∷ []) j) e

pub each_same : (f g : ℕ → Element) (j n : ℕ) → ((k : ℕ) → f k ≡ g k) → each_from f j n ≡ each_from g j n
each_same f g j zero h = refl
each_same f g j (suc n) h = λ t. h j t ∷ each_same f g (j + 1) n h t

-- one element more
module _ (active : List Bool) (f : ℕ → Element) (j n m : ℕ) (more : n - j ≡ suc m) (es : List Element) where
  step : (es ++ active_ones active (each_from f j (n - j)))
      ≡ es ++ (cond (get_or active (f j).lane false) (f j ∷ []) [] ++ active_ones active (each_from f (j + 1) m))
  step = ap (λ k. es ++ active_ones active (each_from f j k)) more

  pub more_active : (fs : List Element) (e : Element) → fs ≡ es ++ cond (get_or active e.lane false) (e ∷ []) [] → e ≡ f j
      → fs ++ active_ones active (each_from f (j + 1) m) ≡ es ++ active_ones active (each_from f j (n - j))
  more_active fs e h g =
      let rest = active_ones active (each_from f (j + 1) m) in
      ap (λ xs. xs ++ rest) (h ∙ (λ t. es ++ cond (get_or active (g t).lane false) (g t ∷ []) []))
      ∙ append_assoc es (cond (get_or active (f j).lane false) (f j ∷ []) []) rest ∙ sym step

-- a word of those one behind another is the one element of its beat, where its first byte is active
pub only_word : (x : Way) (y z : Size) (w : Contiguous) (b base : ℕ) (active : List Bool) (s : State) (e : Element) → x ≡ way.Contiguous w → per_word z ≡ 1
    → active ≡ active_at b s → base ≡ at (R w.n) s → e ≡ way_element y z (way_of (way.Contiguous w)) b (base ∷ 0 ∷ []) 0 → get_or active 0 false ≡ true
    → active_ones (cond (way_predicated (way_of x)) (active_at b s) every_byte)
    (each_from (way_element y z (way_of x) b (map (λ p. at p s) (way_sources (way_of x) b))) 0 (per_word z)) ≡ e ∷ []
only_word x y z w b base active s e same one act source found on =
    ap (λ v. active_ones (cond (way_predicated (way_of v)) (active_at b s) every_byte)
    (each_from (way_element y z (way_of v) b (map (λ p. at p s) (way_sources (way_of v) b))) 0 (per_word z))) same
    ∙ ap (λ n. active_ones (active_at b s) (each_from (way_element y z (way_of (way.Contiguous w)) b (at (R w.n) s ∷ [])) 0 n)) one
    ∙ (λ t. cond (get_or (sym act t) (mul-zero (byte_count z) t) false) (way_element y z (way_of (way.Contiguous w)) b (sym source t ∷ 0 ∷ []) 0 ∷ []) [] ++ [])
    ∙ (λ t. cond (on t) (sym found t ∷ []) [] ++ [])

-- one of n more
pub each_more : {A : Type 0} (f : ℕ → A) (n i m : ℕ) (xs ys zs : List A) → n - i ≡ suc m → ys ≡ xs ++ f i ∷ [] → xs ++ each_from f i (n - i) ≡ zs
    → ys ++ each_from f (i + 1) m ≡ zs
each_more f n i m xs ys zs more e h =
    ap (λ us. us ++ each_from f (i + 1) m) e ∙ append_assoc xs (f i ∷ []) (each_from f (i + 1) m) ∙ sym (ap (λ k. xs ++ each_from f i k) more) ∙ h
