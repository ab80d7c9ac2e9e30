-- The forms of vector rows that go on across the words of a register: sums and extremes.
use Rattle.std.specs.Prelude.{ℕ, ◌+◌, ◌*◌, ◌/◌, ◌%◌, ◌^◌, Bool, false, not, ◌&&◌, cond, eqb, nat_eq, List, [], ◌∷◌, map, None, ℤ}
use Rattle.std.specs.Int.{int_max, int_min}
use Rattle.hm_base.specs.declared.Place.TheVariants.{R}
use Rattle.hm_isa.specs.declared.vectors.V23.{V23}
use Rattle.hm_isa.specs.declared.vectors.ExtremeName.{ExtremeName}
use Rattle.hm_isa.specs.declared.vectors.ExtremeName.TheVariants as extreme
use Rattle.hm_lane.specs.declared.lanes.Size.TheVariants.{Word}
use Rattle.hm_lane.specs.Lanes.{bytes_of, firsts, lanes, modulus}
use Rattle.hm_beat.specs.Rows.{word_place}
use Rattle.hm_kinds.specs.Row.{Row}
use Rattle.hm_lane_fns.specs.LaneFns.{cut, extended_lane, lane_product, lane_value}
use Rattle.hm_lane_fns.specs.Words.{size_of}
use Rattle.hm_forms_across.specs.declared.long_sums.LongSums.{LongSums}
use Rattle.hm_forms_across.specs.declared.sums.Sums.{Sums}
use Rattle.hm_forms_across.specs.declared.terms.Terms.{Terms}

-- A SUM
-- f of each active pair of lanes is added, modulo m
abbrev pub added : ℕ → (ℕ → ℕ → ℕ) → List Bool → List ℕ → List ℕ → ℕ → ℕ
added m f (p ∷ ps) (x ∷ xs) (y ∷ ys) sum = added m f ps xs ys (cond p ((sum + f x y) % m) sum)
added m f _ _ _ sum = sum

-- V22: what a pair of elements adds, modulo 2^64: their product for VMLADAV, VMLADAVA, VMLALDAV and VMLALDAVA,
-- the second one for VADDV, VADDVA, VADDLV and VADDLVA (DDI0553, "VADDV", "VMLADAV", "VADDLV" and "VMLALDAV")
abbrev pub term : Terms → ℕ → ℕ → ℕ
term t x y = cond t.products (lane_product t.unsigned t.z x y) (extended_lane t.unsigned t.z y)

-- V22: a sum modulo m after beat b: on the first one VADDV, VMLADAV, VADDLV and VMLALDAV begin at 0, and VADDVA, VMLADAVA, VADDLVA and VMLALDAVA
-- go on from their registers (DDI0553, "VADDV", "VMLADAV", "VADDLV" and "VMLALDAV")
abbrev pub sum_after : ℕ → Bool → Terms → ℕ → List Bool → ℕ → ℕ → ℕ → ℕ
sum_after m goes_on t b active x y sum =
    added m (term t) (firsts t.z active) (lanes t.z (bytes_of x)) (lanes t.z (bytes_of y)) (cond (not goes_on && eqb b 0) 0 sum)

-- V22: the sum of VADDV, VADDVA, VMLADAV or VMLADAVA after beat b (DDI0553, "VADDV" and "VMLADAV")
abbrev pub sum_next : Sums → ℕ → List Bool → List ℕ → ℕ
sum_next r b active (sum ∷ x ∷ y ∷ vs) = sum_after (2 ^ 32) r.goes_on r.terms b active x y sum
sum_next r b active _ = 0

-- V22: VADDV, VADDVA, VMLADAV and VMLADAVA, beat by beat (DDI0553, "VADDV" and "VMLADAV")
abbrev pub sum_row : Sums → Row
sum_row r = record {
  always_slice = false;
  reads = λ b. R (2 * r.l.value) ∷ word_place r.n.value b ∷ word_place r.m.value b ∷ [];
  links = λ b. record { place = R (2 * r.l.value); value = λ slice. sum_next r b } ∷ [];
  outs = λ b. [];
  slice = None;
  mask = None;
  mark = None;
}

-- A SUM OF 64 BITS
-- V22: the sum of VADDLV, VADDLVA, VMLALDAV or VMLALDAVA after beat b (DDI0553, "VADDLV" and "VMLALDAV")
abbrev pub long_next : LongSums → ℕ → List Bool → List ℕ → ℕ
long_next r b active (low ∷ high ∷ x ∷ y ∷ vs) = sum_after (2 ^ 64) r.goes_on r.terms b active x y (low + 2 ^ 32 * high)
long_next r b active _ = 0

-- V22: VADDLV, VADDLVA, VMLALDAV and VMLALDAVA, beat by beat (DDI0553, "VADDLV" and "VMLALDAV")
abbrev pub long_row : LongSums → Row
long_row r = record {
  always_slice = false;
  reads = λ b. R (2 * r.l.value) ∷ R (2 * r.h.value + 1) ∷ word_place r.n.value b ∷ word_place r.m.value b ∷ [];
  links = λ b.
      record { place = R (2 * r.l.value); value = λ slice active vs. long_next r b active vs % 2 ^ 32 }
      ∷ record { place = R (2 * r.h.value + 1); value = λ slice active vs. long_next r b active vs / 2 ^ 32 } ∷ [];
  outs = λ b. [];
  slice = None;
  mask = None;
  mark = None;
}

-- AN EXTREME
-- V23: the greater of two numbers for VMAXV, the lesser for VMINV (DDI0553, "VMAXV, VMAXAV" and "VMINV, VMINAV")
abbrev pub better : ExtremeName → ℤ → ℤ → ℤ
better extreme.Max = int_max
better extreme.Min = int_min

-- V23: the best of a number and of the active ones of a list, for VMAXV and VMINV (DDI0553, "VMAXV, VMAXAV" and "VMINV, VMINAV")
abbrev pub best : ExtremeName → List Bool → List ℤ → ℤ → ℤ
best name (p ∷ ps) (x ∷ xs) v = best name ps xs (cond p (better name v x) v)
best name _ _ v = v

-- V23: the extreme of VMAXV or VMINV after a beat: of the low bits of the core register and the active elements of the word
-- (DDI0553, "VMAXV, VMAXAV" and "VMINV, VMINAV")
abbrev pub extreme_next : V23 → List Bool → List ℕ → ℕ
extreme_next r active (t ∷ x ∷ vs) =
    let z = size_of r.z.value in
    let u = nat_eq r.u.value 1 in
    cut Word (best r.name (firsts z active) (map (lane_value u z) (lanes z (bytes_of x))) (lane_value u z (t % modulus z)))
extreme_next r active _ = 0

-- V23: VMAXV and VMINV, beat by beat (DDI0553, "VMAXV, VMAXAV" and "VMINV, VMINAV")
abbrev pub extreme_row : V23 → Row
extreme_row r = record {
  always_slice = false;
  reads = λ b. R r.t.value ∷ word_place r.m.value b ∷ [];
  links = λ b. record { place = R r.t.value; value = λ slice. extreme_next r } ∷ [];
  outs = λ b. [];
  slice = None;
  mask = None;
  mark = None;
}
