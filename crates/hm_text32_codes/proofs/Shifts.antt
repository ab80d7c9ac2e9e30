-- How far a byte is shifted, one step after the other.
use Rattle.std.proofs.Common.{◌≡◌, ℕ, zero, suc, ◌+◌, ◌-◌, ◌/◌, ◌<◌, ◌≤◌, refl, arith}
use Rattle.std.specs.Prelude.{nat_lt, false, true}
use Rattle.std.proofs.lemmas.Bool.Decides.{nat_tests}
use Rattle.hm_text32_codes.specs.Constants.{shift_of}

pub none_left : (n c : ℕ) → n ≡ 0 → 0 ≡ shift_of n c
unfolding shift_of
none_left n c e = rw e refl

pub is_byte : (n c : ℕ) → c < 256 → 0 ≡ shift_of n c
unfolding shift_of
is_byte zero c lt = refl
is_byte (suc n) c lt = let e : nat_lt c 256 ≡ true = grind (arith, nat_tests) in rw e refl

pub one_more : (n c s : ℕ) → 0 < n → 256 ≤ c → s ≡ shift_of (n - 1) (c / 2) → 1 + s ≡ shift_of n c
unfolding shift_of
one_more zero c s some le is = absurd (omega arith)
one_more (suc n) c s some le is =
    let e : nat_lt c 256 ≡ false = grind (arith, nat_tests) in
    let less : suc n - 1 ≡ n = omega arith in
    rw (e, is, less) refl
