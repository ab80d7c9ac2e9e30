-- How long a code is: its first halfword tells.
use Rattle.std.proofs.Common.{◌≡◌, ◌≤◌, ◌<◌, ◌/◌, ◌%◌, ◌^◌, ℕ, Bool, true, ◌&&◌, ◌||◌, List, [], ◌∷◌, length, nat_le, arith, ap, ◌∙◌, ◌⊎◌, inl, inr}
use Rattle.std.proofs.lemmas.Bool.Decides.{nat_tests}
use Rattle.std.proofs.Math.Pow.{pow_mono}
use Rattle.hm_layout.proofs.Bits.{Known, holds, holds_lem, Matches, matches_bound, or_cases, either, both_left, both_right}
use Rattle.hm_layout.proofs.Coded.{Kind, Member, Coded}

-- bits 31 to 27 are 11101, 11110 or 11111
abbrev pub is_long_kind : Kind → Bool
is_long_kind k = holds 29 3 7 k.bits && (holds 28 1 1 k.bits || holds 27 1 1 k.bits)

-- bits 15 to 11 are none of these, and the higher bits are 0
abbrev pub is_short_kind : Kind → Bool
is_short_kind k =
    (nat_le (length k.bits) 32 && holds 16 16 0 k.bits) && ((holds 15 1 0 k.bits || holds 14 1 0 k.bits) || (holds 13 1 0 k.bits || holds 11 2 0 k.bits))

abbrev pub all_kinds : (Kind → Bool) → List Kind → Bool
all_kinds test [] = true
all_kinds test (k ∷ ks) = test k && all_kinds test ks

-- each kind of a list of which all pass a test passes it
pub kind_passes : (test : Kind → Bool) (k : Kind) (ks : List Kind) → all_kinds test ks ≡ true → Member k ks → test k ≡ true
kind_passes test k [] e m = absurd m
kind_passes test k (l ∷ ks) e (inl f) = ap test f ∙ both_left _ _ e
kind_passes test k (l ∷ ks) e (inr m) = kind_passes test k ks (both_right _ _ e) m

long_bits : (n : ℕ) → n / 2 ^ 29 % 2 ^ 3 ≡ 7 → (n / 2 ^ 28 % 2 ^ 1 ≡ 1) ⊎ (n / 2 ^ 27 % 2 ^ 1 ≡ 1) → 0xe800 ≤ n / 65536
long_bits n e name = grind arith

pub long_code : {R : Type 0} (C : Coded R) → C.is_told ≡ true → all_kinds is_long_kind C.kinds ≡ true → (r : R) → 0xe800 ≤ C.code r / 65536
long_code C told long r =
    let (k, m, h) = C.has told r in
    let test : is_long_kind k ≡ true = kind_passes is_long_kind k C.kinds long m in
    long_bits (C.code r) (holds_lem 29 3 7 k.bits (C.code r) (both_left _ _ test) h.bits) (
    either (λ e. inl (holds_lem 28 1 1 k.bits (C.code r) e h.bits)) (λ e. inr (holds_lem 27 1 1 k.bits (C.code r) e h.bits))
    (or_cases _ _ (both_right _ _ test)))

abbrev ShortBits : ℕ → Type 0
ShortBits n = ((n / 2 ^ 15 % 2 ^ 1 ≡ 0) ⊎ (n / 2 ^ 14 % 2 ^ 1 ≡ 0)) ⊎ ((n / 2 ^ 13 % 2 ^ 1 ≡ 0) ⊎ (n / 2 ^ 11 % 2 ^ 2 ≡ 0))

short_bits : (n : ℕ) → n / 2 ^ 16 % 2 ^ 16 ≡ 0 → n < 2 ^ 32 → ShortBits n → n < 0xe800
short_bits n e h name = grind arith

either_bits : {P Q R S : Type 0} {a b c d : Bool} → (a ≡ true → P) → (b ≡ true → Q) → (c ≡ true → R) → (d ≡ true → S)
    → ((a || b) || (c || d)) ≡ true → (P ⊎ Q) ⊎ (R ⊎ S)
either_bits f g h i e =
    either (λ j. inl (either (λ k. inl (f k)) (λ k. inr (g k)) (or_cases _ _ j)))
    (λ j. inr (either (λ k. inl (h k)) (λ k. inr (i k)) (or_cases _ _ j))) (or_cases _ _ e)

-- what has at most 32 digits is below 2 ^ 32
abbrev pub has_32 : Kind → Bool
has_32 k = nat_le (length k.bits) 32

pub below_32 : (bs : List Known) (n : ℕ) → nat_le (length bs) 32 ≡ true → Matches bs n → n < 2 ^ 32
below_32 bs n e m =
    let h : length bs ≤ 32 = grind (arith, nat_tests) in
    let up : 2 ^ length bs ≤ 2 ^ 32 = pow_mono h in
    let bound : n < 2 ^ length bs = matches_bound bs n m in
    omega arith

pub short_code : {R : Type 0} (C : Coded R) → C.is_told ≡ true → all_kinds is_short_kind C.kinds ≡ true → (r : R) → C.code r < 0xe800
short_code C told short r =
    let (k, m, h) = C.has told r in
    let test : is_short_kind k ≡ true = kind_passes is_short_kind k C.kinds short m in
    short_bits (C.code r) (holds_lem 16 16 0 k.bits (C.code r) (both_right _ _ (both_left _ _ test)) h.bits)
    (below_32 k.bits (C.code r) (both_left _ _ (both_left _ _ test)) h.bits)
    (either_bits (λ e. holds_lem 15 1 0 k.bits (C.code r) e h.bits) (λ e. holds_lem 14 1 0 k.bits (C.code r) e h.bits)
    (λ e. holds_lem 13 1 0 k.bits (C.code r) e h.bits) (λ e. holds_lem 11 2 0 k.bits (C.code r) e h.bits) (both_right _ _ test))
