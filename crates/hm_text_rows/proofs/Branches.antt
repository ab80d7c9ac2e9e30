-- Branches: the condition that a first word tells, and how far a label's address is.
use Rattle.std.proofs.Common.{◌≡◌, ℕ, zero, suc, ◌+◌, ◌%◌, ◌^◌, ◌<◌, true, Some, refl, arith}
use Rattle.std.specs.Prelude.{unwrap_or}
use Rattle.hm_text_rows.specs.Labels.{distance}
use Rattle.hm_text_rows.specs.Mnemonics.{branch_mnemonic}
use Rattle.hm_text_rows.specs.Operands.{branch_condition_in}
use Rattle.hm_text_rows.proofs.Words.{below_holds, below_is, is_mnemonic, there}

pub condition_back : (c : ℕ) → c < 14 → branch_condition_in (branch_mnemonic c) ≡ Some c
condition_back zero lt = refl
condition_back (suc k) lt =
    there (branch_condition_in (branch_mnemonic (suc k))) (suc k)
    (below_is (λ n. unwrap_or (branch_condition_in (branch_mnemonic n)) 0) (λ n. n) 14 (suc k) refl lt) (omega arith)

pub mnemonic_branch : (c : ℕ) → c < 14 → is_mnemonic (branch_mnemonic c) ≡ true
mnemonic_branch c lt = below_holds (λ n. is_mnemonic (branch_mnemonic n)) 14 c refl lt

-- how far the target is, again
pub distance_back : (from d a : ℕ) → from < 2 ^ 32 + 8 → d < 2 ^ 32 → (from + d) % 2 ^ 32 ≡ a → distance from a ≡ d
unfolding distance
distance_back from d a hf hd e = omega (arith, e)
