-- What stands behind the point of a mnemonic tells a sign and a size.
use Rattle.std.proofs.Common.{◌≡◌, ℕ, zero, suc, ◌+◌, ◌*◌, ◌<◌, Bool, true, false, eqb, List, [], length, refl, arith}
use Rattle.std.specs.Prelude.{◌==◌, ◌||◌, codes, nat_eq}
use Rattle.std.proofs.lemmas.Bool.{agree_below, agree_below_at, eqb-true}
use Rattle.hm_isa.specs.declared.vectors.ComplexSumName.{ComplexSumName}
use Rattle.hm_isa.specs.declared.vectors.ComplexSumName.TheVariants as complex_sum
use Rattle.hm_isa.specs.declared.vectors.ConstantShiftName.{ConstantShiftName}
use Rattle.hm_isa.specs.declared.vectors.ConstantShiftName.TheVariants as by_constant
use Rattle.hm_isa.specs.declared.vectors.NarrowingName.{NarrowingName}
use Rattle.hm_isa.specs.declared.vectors.NarrowingName.TheVariants as narrowing
use Rattle.hm_isa.specs.declared.vectors.OneName.{OneName}
use Rattle.hm_isa.specs.declared.vectors.OneName.TheVariants as one
use Rattle.hm_isa.specs.declared.vectors.ScalarName.{ScalarName}
use Rattle.hm_isa.specs.declared.vectors.ScalarName.TheVariants as by_scalar
use Rattle.hm_isa.specs.MemoryRules.{is_access}
use Rattle.hm_isa.specs.Rules.{is_shifted_by, is_signed_by}
use Rattle.hm_textv_codes.specs.Asked.{access_sign, compare_sign, narrowing_sign}
use Rattle.hm_textv_codes.specs.Operands.{sign_of}
use Rattle.hm_text_rows.specs.Mnemonics.{element_suffix}
use Rattle.hm_text_rows.specs.Operands.{size_of}
use Rattle.hm_text_rows.specs.Shapes.{either}
use Rattle.hm_text_rows.proofs.Words.{◌▹◌, at_below, below_holds, below_is, is_suffix}
use Rattle.hm_textv_rows.specs.Mnemonics.{access_suffix, by_sign, compare_suffix, complex_sum_suffix, constant_shift_suffix, integer, narrowing_suffix}
use Rattle.hm_textv_rows.specs.Mnemonics.{one_suffix, scalar_suffix, signed, unsigned}

pub record Suffix (suffix : List ℕ) (is_bare : Bool) (u z : ℕ) : Type 0 where
  pub is : is_suffix suffix ≡ true
  pub bare : (length suffix == 0) ≡ is_bare
  pub sign : sign_of suffix ≡ u
  pub size : size_of suffix ≡ z

pub no_suffix : Suffix [] true 0 0
unfolding sign_of size_of
no_suffix = record { is = refl; bare = refl; sign = refl; size = refl }

-- a suffix for each size, all of one sign
of_sizes : (f : ℕ → List ℕ) (n u z : ℕ) → z < n → agree_below (λ k. is_suffix (f k)) (λ k. true) n ≡ true
    → agree_below (λ k. length (f k) == 0) (λ k. false) n ≡ true → agree_below (λ k. eqb (sign_of (f k)) u) (λ k. true) n ≡ true
    → agree_below (λ k. eqb (size_of (f k)) k) (λ k. true) n ≡ true → Suffix (f z) false u z
of_sizes f n u z lt is bare sign size = record {
  is = below_holds (λ k. is_suffix (f k)) n z is lt;
  bare = agree_below_at (λ k. length (f k) == 0) (λ k. false) n z bare lt;
  sign = below_is (λ k. sign_of (f k)) (λ k. u) n z sign lt;
  size = below_is (λ k. size_of (f k)) (λ k. k) n z size lt;
}

pub suffix_integer : {z : ℕ} → z < 3 → Suffix (integer z) false 0 z
unfolding sign_of size_of
suffix_integer {z = z} lt = of_sizes integer 3 0 z lt refl refl refl refl

pub suffix_signed : {z : ℕ} → z < 3 → Suffix (signed z) false 0 z
unfolding sign_of size_of
suffix_signed {z = z} lt = of_sizes signed 3 0 z lt refl refl refl refl

pub suffix_unsigned : {z : ℕ} → z < 3 → Suffix (unsigned z) false 1 z
unfolding sign_of size_of
suffix_unsigned {z = z} lt = of_sizes unsigned 3 1 z lt refl refl refl refl

pub suffix_element : {z : ℕ} → z < 4 → Suffix (element_suffix z) false 0 z
unfolding sign_of size_of
suffix_element {z = z} lt = of_sizes element_suffix 4 0 z lt refl refl refl refl

pub suffix_by_sign : {u z : ℕ} → u < 2 → z < 3 → Suffix (by_sign u z) false u z
suffix_by_sign {u = zero} hu hz = suffix_signed hz
suffix_by_sign {u = suc zero} hu hz = suffix_unsigned hz
suffix_by_sign {u = suc (suc u)} hu hz = absurd (omega arith)

-- BY NAMES
-- V9
pub suffix_complex_sum : (name : ComplexSumName) {z : ℕ} → z < 3 → Suffix (complex_sum_suffix name z) false 0 z
suffix_complex_sum complex_sum.Cadd lt = suffix_integer lt
suffix_complex_sum complex_sum.Hcadd lt = suffix_signed lt

-- V10: the sign is 0 where the name says nothing of it
pub suffix_scalar : (name : ScalarName) {u z : ℕ} → u < 2 → z < 3 → is_signed_by name u ≡ true → Suffix (scalar_suffix name u z) false u z
suffix_scalar by_scalar.Add {u = u} hu hz e = rw (eqb-true u 0 e) (suffix_integer hz)
suffix_scalar by_scalar.Sub {u = u} hu hz e = rw (eqb-true u 0 e) (suffix_integer hz)
suffix_scalar by_scalar.Mul {u = u} hu hz e = rw (eqb-true u 0 e) (suffix_integer hz)
suffix_scalar by_scalar.Qdmulh {u = u} hu hz e = rw (eqb-true u 0 e) (suffix_signed hz)
suffix_scalar by_scalar.Qrdmulh {u = u} hu hz e = rw (eqb-true u 0 e) (suffix_signed hz)
suffix_scalar name hu hz e = suffix_by_sign hu hz

-- V11: and so it is here
pub suffix_shift : (name : ConstantShiftName) {u z : ℕ} → u < 2 → z < 3 → is_shifted_by name u ≡ true → Suffix (constant_shift_suffix name u z) false u z
suffix_shift by_constant.Qshlu {u = u} hu hz e = rw (eqb-true u 0 e) (suffix_signed hz)
suffix_shift by_constant.Shl {u = u} hu hz e = rw (eqb-true u 0 e) (suffix_integer hz)
suffix_shift by_constant.Sri {u = u} hu hz e = rw (eqb-true u 0 e) (suffix_element (omega arith))
suffix_shift by_constant.Sli {u = u} hu hz e = rw (eqb-true u 0 e) (suffix_element (omega arith))
suffix_shift name hu hz e = suffix_by_sign hu hz

-- V13
pub suffix_one : (name : OneName) {z : ℕ} → z < 3 → Suffix (one_suffix name z) false 0 z
suffix_one one.Clz lt = suffix_integer lt
suffix_one name lt = suffix_signed lt

-- V15: elements of 8 and of 64 bits
pub suffix_whole : (op : ℕ) → op < 2 → Suffix (either op (codes ".i8") (codes ".i64")) false 0 (3 * op)
unfolding sign_of size_of
suffix_whole (suc (suc op)) lt = absurd (omega arith)
suffix_whole op lt = record { is = refl; bare = refl; sign = refl; size = refl }

-- V16
pub suffix_narrowing : (name : NarrowingName) {z : ℕ} → z < 2 → Suffix (narrowing_suffix name z) false (narrowing_sign name) (z + 1)
suffix_narrowing narrowing.Plain lt = suffix_integer (omega arith)
suffix_narrowing narrowing.Unsigned lt = suffix_unsigned (omega arith)
suffix_narrowing name lt = suffix_signed (omega arith)

-- V20
pub suffix_compare : {c z : ℕ} → c < 8 → z < 3 → Suffix (compare_suffix c z) false (compare_sign c) z
suffix_compare {c = c} {z = z} hc hz =
    let s = suffix_signed hz in
    let u = suffix_unsigned hz in
    let i = suffix_integer hz in
    at_below (λ j. Suffix (compare_suffix j z) false (compare_sign j) z) 8 c (s ▹ s ▹ s ▹ s ▹ u ▹ u ▹ i ▹ i ▹ tt) hc

-- V24 to V27: a store has no sign
pub suffix_access : {l u z : ℕ} → l < 2 → u < 2 → z < 3 → Suffix (access_suffix l u z) false (access_sign l u) z
suffix_access {l = zero} hl hu hz = suffix_element (omega arith)
suffix_access {l = suc zero} hl hu hz = suffix_by_sign hu hz
suffix_access {l = suc (suc l)} hl hu hz = absurd (omega arith)

pub suffix_widening : {l u z : ℕ} → l < 2 → u < 2 → z < 3 → (nat_eq l 1 || nat_eq u 0) ≡ true → Suffix (access_suffix l u z) false u z
suffix_widening {l = zero} {u = u} hl hu hz e = rw (eqb-true u 0 e) (suffix_element (omega arith))
suffix_widening {l = suc zero} hl hu hz e = suffix_by_sign hu hz
suffix_widening {l = suc (suc l)} hl hu hz e = absurd (omega arith)

-- V26: so it is where a load has a sign
pub signed_access : (u l d z y m : ℕ) → is_access u l d z y m ≡ true → (nat_eq l 1 || nat_eq u 0) ≡ true
signed_access u l d z y m e = grind (arith, e)
