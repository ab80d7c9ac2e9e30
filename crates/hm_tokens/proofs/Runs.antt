-- The longest front of a class, and numbers digit by digit.
use Rattle.std.proofs.Common.{◌≡◌, ℕ, zero, suc, ◌+◌, ◌*◌, ◌<◌, ◌≤◌, min, true, false, List, [], ◌∷◌, take, drop, length, get_or, refl, arith}
use Rattle.std.proofs.lemmas.List.{drop_more, drop_all}
use Rattle.hm_tokens.specs.declared.token.Class.{Class}
use Rattle.hm_tokens.specs.Tokens.{is_in, run, digit, value}

pub run_is : (class : Class) (text : List ℕ) (n : ℕ) → n ≤ length text → ((k : ℕ) → k < n → is_in class (get_or text k 0) ≡ true)
    → (n < length text → is_in class (get_or text n 0) ≡ false) → run class text ≡ (take n text, drop n text)
unfolding run
run_is class [] zero le before here = refl
run_is class [] (suc n) le before here = absurd (omega arith)
run_is class (b ∷ bs) zero le before here = rw (here (omega arith)) refl
run_is class (b ∷ bs) (suc n) le before here =
    rw (before 0 (omega arith), run_is class bs n (omega arith) (λ k lt. before (suc k) (omega arith)) (λ lt. here (omega arith))) refl

pub value_more : (base n : ℕ) (text : List ℕ) (i : ℕ) → i < length text
    → value base n (drop i text) ≡ value base (min (n * base + digit (get_or text i 0)) 0x1_0000_0000) (drop (i + 1) text)
unfolding value
value_more base n text i lt = rw (drop_more text i 0 lt) refl

pub value_all : (base n : ℕ) (text : List ℕ) (i : ℕ) → length text ≤ i → value base n (drop i text) ≡ n
unfolding value
value_all base n text i le = rw (drop_all i text le) refl
