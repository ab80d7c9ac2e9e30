-- The names of registers and conditions, as operands.
use Rattle.std.proofs.Common.{◌≡◌, ℕ, ◌<◌, true, List, refl, arith}
use Rattle.hm_tokens.specs.Names.{register_name}
use Rattle.hm_text_rows.proofs.Words.{below_holds, below_is, is_name}
use Rattle.hm_text16_codes.specs.Operands.{narrow_word_value}
use Rattle.hm_text16_rows.specs.Mnemonics.{block_condition}

-- a word that is an operand: its number
pub record Operand (w : List ℕ) (n : ℕ) : Type 0 where
  pub value : narrow_word_value w ≡ n
  pub is : is_name w ≡ true

pub a_register : (n : ℕ) → n < 16 → Operand (register_name n) n
unfolding narrow_word_value
a_register n lt = record {
  value = below_is (λ k. narrow_word_value (register_name k)) (λ k. k) 16 n refl lt;
  is = below_holds (λ k. is_name (register_name k)) 16 n refl lt;
}

pub a_low : (n : ℕ) → n < 8 → Operand (register_name n) n
a_low n lt = a_register n (omega arith)

pub a_condition : (c : ℕ) → c < 15 → Operand (block_condition c) c
unfolding narrow_word_value
a_condition c lt = record {
  value = below_is (λ k. narrow_word_value (block_condition k)) (λ k. k) 15 c refl lt;
  is = below_holds (λ k. is_name (block_condition k)) 15 c refl lt;
}
