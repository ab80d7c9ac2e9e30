-- The letters of a block under a condition with an odd number are those of 16 less its mask under one with an even number.
use Rattle.std.proofs.Common.{◌≡◌, ◌≢◌, ℕ, ◌-◌, ◌%◌, ◌<◌, refl, ◌∙◌, ap, sym, arith}
use Rattle.hm_text_rows.proofs.Words.{◌▹◌, at_below}
use Rattle.hm_text16_rows.specs.Mnemonics.{letters_above}

letters_negated : (mask : ℕ) → mask < 16 → letters_above 0 (16 - mask) ≡ letters_above 1 mask
letters_negated mask lt =
    at_below (λ m. letters_above 0 (16 - m) ≡ letters_above 1 m) 16 mask
    (refl ▹ refl ▹ refl ▹ refl ▹ refl ▹ refl ▹ refl ▹ refl ▹ refl ▹ refl ▹ refl ▹ refl ▹ refl ▹ refl ▹ refl ▹ refl ▹ tt) lt

pub odd_letters : (c mask : ℕ) → c % 2 ≢ 0 → mask < 16 → letters_above 0 (16 - mask) ≡ letters_above (c % 2) mask
odd_letters c mask odd lt =
    let one : c % 2 ≡ 1 = omega (arith, odd) in
    letters_negated mask lt ∙ ap (λ low. letters_above low mask) (sym one)
