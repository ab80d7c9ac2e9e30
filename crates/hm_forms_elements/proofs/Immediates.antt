-- Words of the constant of V15 as code makes them.
use Rattle.std.proofs.Common.{◌≡◌, ℕ, zero, suc, ◌+◌, ◌*◌, ◌%◌, ◌^◌, ◌<◌, [], ◌∷◌, get_or, arith, ◌∙◌}
use Rattle.hm_lane.specs.declared.lanes.Size.TheVariants.{Byte}
use Rattle.hm_lane_fns.specs.Words.{splat}
use Rattle.hm_forms_elements.specs.Constants.{constant_word, ones_where, spread_bits, word_in_turn}

-- ELEMENTS again and again, of one byte
of_byte : (p b : ℕ) → word_in_turn (p ∷ []) b ≡ p + 2 ^ 8 * p + 2 ^ 16 * p + 2 ^ 24 * p
of_byte p b =
    let e = p ∷ [] in
    let at_0 : 4 * b % 1 ≡ 0 = omega arith in
    let at_1 : (4 * b + 1) % 1 ≡ 0 = omega arith in
    let at_2 : (4 * b + 2) % 1 ≡ 0 = omega arith in
    let at_3 : (4 * b + 3) % 1 ≡ 0 = omega arith in
    λ j. get_or e (at_0 j) 0 + 2 ^ 8 * get_or e (at_1 j) 0 + 2 ^ 16 * get_or e (at_2 j) 0 + 2 ^ 24 * get_or e (at_3 j) 0

-- the bytes of all bits, of which a word has those of four
of_bits : (x b : ℕ) → word_in_turn (spread_bits x) b
    ≡ ones_where x (4 * (b % 2)) + ones_where x (4 * (b % 2) + 1) * 2 ^ 8 + ones_where x (4 * (b % 2) + 2) * 2 ^ 16 + ones_where x (4 * (b % 2) + 3) * 2 ^ 24
of_bits x b = turned ∙ half (b % 2) (omega arith)
  where
    turned : word_in_turn (spread_bits x) b
        ≡ get_or (spread_bits x) (4 * (b % 2)) 0 + 2 ^ 8 * get_or (spread_bits x) (4 * (b % 2) + 1) 0 + 2 ^ 16 * get_or (spread_bits x) (4 * (b % 2) + 2) 0 + 2
        ^ 24 * get_or (spread_bits x) (4 * (b % 2) + 3) 0
    turned =
        let at_0 : 4 * b % 8 ≡ 4 * (b % 2) = omega arith in
        let at_1 : (4 * b + 1) % 8 ≡ 4 * (b % 2) + 1 = omega arith in
        let at_2 : (4 * b + 2) % 8 ≡ 4 * (b % 2) + 2 = omega arith in
        let at_3 : (4 * b + 3) % 8 ≡ 4 * (b % 2) + 3 = omega arith in
        λ j. get_or (spread_bits x) (at_0 j) 0 + 2 ^ 8 * get_or (spread_bits x) (at_1 j) 0 + 2 ^ 16 * get_or (spread_bits x) (at_2 j) 0 + 2 ^ 24 * get_or
        (spread_bits x) (at_3 j) 0

    sum : (p q r s : ℕ) → p + 2 ^ 8 * q + 2 ^ 16 * r + 2 ^ 24 * s ≡ p + q * 2 ^ 8 + r * 2 ^ 16 + s * 2 ^ 24
    sum p q r s = omega arith

    half : (n : ℕ) → n < 2
        → get_or (spread_bits x) (4 * n) 0 + 2 ^ 8 * get_or (spread_bits x) (4 * n + 1) 0 + 2 ^ 16 * get_or (spread_bits x) (4 * n + 2) 0 + 2 ^ 24 * get_or
        (spread_bits x) (4 * n + 3) 0
        ≡ ones_where x (4 * n) + ones_where x (4 * n + 1) * 2 ^ 8 + ones_where x (4 * n + 2) * 2 ^ 16 + ones_where x (4 * n + 3) * 2 ^ 24
    half zero h = sum (ones_where x 0) (ones_where x 1) (ones_where x 2) (ones_where x 3)
    half (suc zero) h = sum (ones_where x 4) (ones_where x 5) (ones_where x 6) (ones_where x 7)
    half (suc (suc n)) h = absurd (omega arith)

-- BY CM
pub in_bytes : (cm op x b : ℕ) → cm ≡ 14 → op ≡ 0 → x < 256 → constant_word cm op x b ≡ splat Byte x
in_bytes cm op x b e f h = (λ j. constant_word (e j) (f j) x b) ∙ of_byte x b ∙ omega arith

pub by_bits : (cm op x b : ℕ) → cm ≡ 14 → op ≡ 1
    → constant_word cm op x b ≡ ones_where x (4 * (b % 2)) + ones_where x (4 * (b % 2) + 1) * 2 ^ 8 + ones_where x (4 * (b % 2) + 2) * 2 ^ 16 + ones_where x
    (4 * (b % 2) + 3) * 2 ^ 24
by_bits cm op x b e f = (λ j. constant_word (e j) (f j) x b) ∙ of_bits x b
