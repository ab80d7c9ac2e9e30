use Rattle.std.proofs.Common.{◌≡◌, ◌∙◌, ℕ, ◌+◌, ◌*◌, ◌%◌, ◌<◌, get_or, ap, subst, sym}
use Rattle.std.proofs.Math.Nat.{mod-eq_of_lt}
use Rattle.hm_lane.specs.Lanes.{bytes_of, modulus, word_of}
use Rattle.hm_lane_fns.specs.LaneFns.{lane_of}
use Rattle.hm_lane_fns.specs.Words.{lanewise3}
use Rattle.hm_lane_fns.proofs.words.lanes_word.Goals as goal

-- a byte is not cut
uncut : (x v : ℕ) → x < 256 → x ≡ v → x ≡ v % 256
uncut x v h e = sym (mod-eq_of_lt h) ∙ ap (λ n. n % 256) e

pub returns-in-Byte : goal.returns-in-Byte
returns-in-Byte c =
    let g = lane_of c.args.f c.args.unsigned c.args.z in
    let old = bytes_of c.args.old in
    let x = bytes_of c.args.x in
    let y = bytes_of c.args.y in
    let of : ℕ → ℕ = λ k. g (get_or old k 0) (get_or x k 0) (get_or y k 0) in
    let is : (k : ℕ) → g (get_or c.bytes.result k 0) (get_or c.bytes-in-Byte.result k 0) (get_or c.bytes-in-Byte-2.result k 0) ≡ of k
    = λ k j. g (get_or (c.bytes.ensures j) k 0) (get_or (c.bytes-in-Byte.ensures j) k 0) (get_or (c.bytes-in-Byte-2.ensures j) k 0) in
    let byte : (v : ℕ) → v < modulus c.args.z → v < 256 = λ v h. subst (λ z. v < modulus z) c.in-Byte.is h in
    let e0 = uncut c.lane-c0.result (of 0) (byte _ c.lane-c0.ensures.below) (c.lane-c0.ensures.value ∙ is 0) in
    let e1 = uncut c.lane-c1.result (of 1) (byte _ c.lane-c1.ensures.below) (c.lane-c1.ensures.value ∙ is 1) in
    let e2 = uncut c.lane-c2.result (of 2) (byte _ c.lane-c2.ensures.below) (c.lane-c2.ensures.value ∙ is 2) in
    let e3 = uncut c.lane-c3.result (of 3) (byte _ c.lane-c3.ensures.below) (c.lane-c3.ensures.value ∙ is 3) in
    subst (λ z. c.word.result ≡ word_of (lanewise3 z g old x y)) (sym c.in-Byte.is)
    (c.word.ensures ∙ (λ j. e0 j + 256 * e1 j + 65536 * e2 j + 16777216 * e3 j))
