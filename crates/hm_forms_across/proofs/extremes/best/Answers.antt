use Rattle.std.proofs.Common.{◌≡◌, ℕ, ◌%◌, ◌/◌, Bool, false, get_or, length, refl, ℤ, List, [], ◌∷◌, map, cond, arith, subst, sym, ◌∙◌, FitsSigned, w64, rules}
use Rattle.std.proofs.lemmas.Int.{to_z-of_z}
use Rattle.hm_isa.specs.declared.vectors.ExtremeName.{ExtremeName}
use Rattle.hm_lane.specs.declared.lanes.Size.TheVariants.{Half, Word}
use Rattle.hm_lane.specs.Lanes.{bytes_of, firsts, lanes}
use Rattle.hm_forms_across.specs.Forms.{best, better}
use Rattle.hm_lane_fns.specs.LaneFns.{lane_value}
use Rattle.hm_lane_fns.proofs.Parts.{half_parts, word_parts}
use Rattle.hm_forms_across.proofs.extremes.best.Goals as goal

-- four active bytes
four_best : (name : ExtremeName) (a : List Bool) → length a ≡ 4 → (w x y z v : ℤ) →
    (let B : Bool → ℤ → ℤ → ℤ = λ p v x. cond p (better name v x) v in
    B (get_or a 3 false) (B (get_or a 2 false) (B (get_or a 1 false) (B (get_or a 0 false) v w) x) y) z) ≡ best name a (w ∷ x ∷ y ∷ z ∷ []) v
four_best name (p ∷ q ∷ r ∷ s ∷ []) e w x y z v = refl
four_best name [] e w x y z v = cc
four_best name (p ∷ []) e w x y z v = cc
four_best name (p ∷ q ∷ []) e w x y z v = cc
four_best name (p ∷ q ∷ r ∷ []) e w x y z v = cc
four_best name (p ∷ q ∷ r ∷ s ∷ t ∷ l) e w x y z v = absurd (omega arith)

pub returns-in-Word : goal.returns-in-Word
returns-in-Word c =
    let N = lane_value c.args.unsigned c.args.z in
    let fv : FitsSigned w64 c.args.v = c.ranges.v in
    let fx : FitsSigned w64 c.lane_value-only.result = search rules in
    let fr : FitsSigned w64 c.better-in-Word.result = search rules in
    let e = simp to_z-of_z at c.better-in-Word.ensures in
    let h : c.better-in-Word.result ≡ best c.args.name (firsts Word c.args.active) (N c.args.x ∷ []) c.args.v = search rules in
    to_z-of_z w64 c.better-in-Word.result fr
    ∙ subst (λ z. c.better-in-Word.result ≡ best c.args.name (firsts z c.args.active) (map N (lanes z (bytes_of c.args.x))) c.args.v) (sym c.in-Word.is)
    (h ∙ (λ j. best c.args.name (firsts Word c.args.active) (map N (word_parts c.args.x (omega arith) j)) c.args.v))

pub returns-in-Half : goal.returns-in-Half
returns-in-Half c =
    let N = lane_value c.args.unsigned c.args.z in
    let fv : FitsSigned w64 c.args.v = c.ranges.v in
    let f0 : FitsSigned w64 c.lane_value-low.result = search rules in
    let f1 : FitsSigned w64 c.lane_value-high.result = search rules in
    let g0 : FitsSigned w64 c.better-first.result = search rules in
    let fr : FitsSigned w64 c.better-in-Half.result = search rules in
    let e0 = simp to_z-of_z at c.better-first.ensures in
    let e1 = simp to_z-of_z at c.better-in-Half.ensures in
    let n0 = c.lane_value-low.ensures.value in
    let n1 = c.lane_value-high.ensures.value in
    let h : c.better-in-Half.result ≡ best c.args.name (firsts Half c.args.active) (N (c.args.x % 65536) ∷ N (c.args.x / 65536) ∷ []) c.args.v = search rules in
    to_z-of_z w64 c.better-in-Half.result fr
    ∙ subst (λ z. c.better-in-Half.result ≡ best c.args.name (firsts z c.args.active) (map N (lanes z (bytes_of c.args.x))) c.args.v) (sym c.in-Half.is)
    (h ∙ (λ j. best c.args.name (firsts Half c.args.active) (map N (half_parts c.args.x (omega arith) j)) c.args.v))

pub returns-in-Byte : goal.returns-in-Byte
returns-in-Byte c =
    let N = lane_value c.args.unsigned c.args.z in
    let fv : FitsSigned w64 c.args.v = c.ranges.v in
    let f0 : FitsSigned w64 c.lane_value-n0.result = search rules in
    let f1 : FitsSigned w64 c.lane_value-n1.result = search rules in
    let f2 : FitsSigned w64 c.lane_value-n2.result = search rules in
    let f3 : FitsSigned w64 c.lane_value-n3.result = search rules in
    let g0 : FitsSigned w64 c.better-v0.result = search rules in
    let g1 : FitsSigned w64 c.better-v1.result = search rules in
    let g2 : FitsSigned w64 c.better-v2.result = search rules in
    let fr : FitsSigned w64 c.better.result = search rules in
    let e0 = simp to_z-of_z at c.better-v0.ensures in
    let e1 = simp to_z-of_z at c.better-v1.ensures in
    let e2 = simp to_z-of_z at c.better-v2.ensures in
    let e3 = simp to_z-of_z at c.better.ensures in
    let B : Bool → ℤ → ℤ → ℤ = λ p v x. cond p (better c.args.name v x) v in
    let p : ℕ → Bool = λ k. get_or c.args.active k false in
    let h0 : c.better-v0.result ≡ B (p 0) c.args.v c.lane_value-n0.result = e0 in
    let h1 : c.better-v1.result ≡ B (p 1) c.better-v0.result c.lane_value-n1.result = e1 in
    let h2 : c.better-v2.result ≡ B (p 2) c.better-v1.result c.lane_value-n2.result = e2 in
    let h3 : c.better.result ≡ B (p 3) c.better-v2.result c.lane_value-n3.result = e3 in
    let Y : ℕ → ℤ = λ k. N (get_or c.bytes.result k 0) in
    let four : length c.args.active ≡ 4 = search rules in
    to_z-of_z w64 c.better.result fr
    ∙ subst (λ z. c.better.result ≡ best c.args.name (firsts z c.args.active) (map N (lanes z (bytes_of c.args.x))) c.args.v) (sym c.in-Byte.is)
    (h3 ∙ (λ j. B (p 3) (h2 j) (c.lane_value-n3.ensures.value j)) ∙ (λ j. B (p 3) (B (p 2) (h1 j) (c.lane_value-n2.ensures.value j)) (Y 3))
    ∙ (λ j. B (p 3) (B (p 2) (B (p 1) (h0 j) (c.lane_value-n1.ensures.value j)) (Y 2)) (Y 3))
    ∙ (λ j. B (p 3) (B (p 2) (B (p 1) (B (p 0) c.args.v (c.lane_value-n0.ensures.value j)) (Y 1)) (Y 2)) (Y 3))
    ∙ four_best c.args.name c.args.active four (Y 0) (Y 1) (Y 2) (Y 3) c.args.v
    ∙ (λ j. best c.args.name c.args.active
    (N (get_or (c.bytes.ensures j) 0 0) ∷ N (get_or (c.bytes.ensures j) 1 0) ∷ N (get_or (c.bytes.ensures j) 2 0) ∷ N (get_or (c.bytes.ensures j) 3 0) ∷ [])
    c.args.v))
