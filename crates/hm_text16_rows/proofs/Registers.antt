-- The lists of rows of one halfword: what is read of them, and how many registers they have.
use Rattle.std.proofs.Common.{◌≡◌, ℕ, zero, suc, ◌+◌, ◌*◌, ◌<◌, ◌≤◌, true, ltb, length, refl, subst, arith}
use Rattle.std.proofs.lemmas.Bool.{ltb-true}
use Rattle.hm_isa.specs.Standing.{◌↑◌}
use Rattle.hm_text_rows.specs.Operands.{bits_of, braced}
use Rattle.hm_text_rows.specs.Shapes.{braces, registers_from}
use Rattle.hm_text_rows.proofs.Braces.{braces_bits}
use Rattle.hm_text_rows.proofs.Words.{below_holds}

-- what is proved of a list
pub record Braces (regs : ℕ) : Type 0 where
  pub bits : bits_of (braced (braces regs)) ≡ regs
  pub few : length (registers_from 16 0 regs) ≤ 14

few_of : (regs : ℕ) → ltb (length (registers_from 16 0 regs)) 10 ≡ true → length (registers_from 16 0 regs) ≤ 14
few_of regs e = let lt = ltb-true (length (registers_from 16 0 regs)) 10 e in omega (arith, lt)

pub low_braces : (m : ℕ) → m < 256 → Braces m
low_braces m lt = record {
  bits = braces_bits m (omega (arith, lt));
  few = few_of m (below_holds (λ j. ltb (length (registers_from 16 0 j)) 10) 256 m refl lt);
}

lr_braces : (m : ℕ) → m < 256 → Braces (m + 16384)
lr_braces m lt = record {
  bits = braces_bits (m + 16384) (omega (arith, lt));
  few = few_of (m + 16384) (below_holds (λ j. ltb (length (registers_from 16 0 (j + 16384))) 10) 256 m refl lt);
}

pc_braces : (m : ℕ) → m < 256 → Braces (m + 32768)
pc_braces m lt = record {
  bits = braces_bits (m + 32768) (omega (arith, lt));
  few = few_of (m + 32768) (below_holds (λ j. ltb (length (registers_from 16 0 (j + 32768))) 10) 256 m refl lt);
}

no_more : (m : ℕ) → Braces m → Braces (m + 0)
no_more m b = subst (λ (x : ℕ). Braces x) (omega arith) b

pub push_braces : (x m : ℕ) → x < 2 → m < 256 → Braces (m + x ↑ 14)
push_braces zero m hx hm = no_more m (low_braces m hm)
push_braces (suc zero) m hx hm = lr_braces m hm
push_braces (suc (suc x)) m hx hm = absurd (omega arith)

pub pop_braces : (x m : ℕ) → x < 2 → m < 256 → Braces (m + x ↑ 15)
pop_braces zero m hx hm = no_more m (low_braces m hm)
pop_braces (suc zero) m hx hm = pc_braces m hm
pop_braces (suc (suc x)) m hx hm = absurd (omega arith)

-- how many there are
pub low_few : (m : ℕ) → m < 256 → length (registers_from 16 0 m) ≤ 14
low_few m lt = (low_braces m lt).few

pub push_few : (m x : ℕ) → m < 256 → x < 2 → length (registers_from 16 0 (m + x * 16384)) ≤ 14
push_few m x hm hx = (push_braces x m hx hm).few

pub pop_few : (m x : ℕ) → m < 256 → x < 2 → length (registers_from 16 0 (m + x * 32768)) ≤ 14
pop_few m x hm hx = (pop_braces x m hx hm).few
