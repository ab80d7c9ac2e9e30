-- What may stand for a shift by more than a lane has bits.
use Rattle.std.proofs.Common.{◌≡◌, ◌≤◌, ◌<◌, ◌-◌, ◌*◌, ◌%◌, ◌^◌, ℕ, zero, suc, ℤ, pos, negsuc, ◌≤ℤ◌, ◌<ℤ◌, ◌+ℤ◌, ◌-ℤ◌, ◌*ℤ◌, Bool, true, false, not, ◌&&◌, ◌||◌}
use Rattle.std.proofs.Common.{◌⊎◌, inl, inr, cond, FitsSigned, w64, to_z, of_z, unsigned_abs, subst, arith, ap, sym, ◌∙◌}
use Rattle.std.specs.Prelude.{int_lt, min}
use Rattle.std.specs.Int.{int_div_euclid}
use Rattle.std.proofs.Math.IntN.{neg_ℤ}
use Rattle.std.proofs.Math.Nat.{div-eq_of_lt, min-eq_left, min-eq_right, mul-mod_left}
use Rattle.std.proofs.Math.Pow.{pow_mono}
use Rattle.std.proofs.lemmas.Nat.{pow-add}
use Rattle.std.proofs.lemmas.Int.{ints, to_z-of_z}
use native.Mathlib.Nat.{mul-le-mul}
use Rattle.hm_lane.specs.declared.lanes.Size.{Size}
use Rattle.hm_lane.specs.declared.lanes.Size.TheVariants.{Byte, Half, Word}
use Rattle.hm_lane.specs.Lanes.{modulus}
use Rattle.hm_lane_fns.specs.declared.functions.LaneFn.{LaneFn}
use Rattle.hm_lane_fns.specs.LaneFns.{StandsFor, clamped, cut, exact, exact_lane, greatest_value, is_outside, least_value, lane_value, shift_count, shifted}
use Rattle.hm_lane_fns.specs.LaneFns.{shifted_rounded}
use Rattle.hm_lane_fns.specs.LaneFns.{takes_signed}

-- numbers above a range are outside it alike, and so are numbers below it
both_above : (lo hi v w : ℤ) → lo ≤ℤ hi → hi <ℤ v → hi <ℤ w
    → ((int_lt v lo || int_lt hi v) ≡ (int_lt w lo || int_lt hi w))
    × (cond (int_lt v lo) lo (cond (int_lt hi v) hi v) ≡ cond (int_lt w lo) lo (cond (int_lt hi w) hi w))
both_above lo hi v w l h k =
    let a : int_lt v lo ≡ false = grind (arith, ints) in
    let b : int_lt hi v ≡ true = grind (arith, ints) in
    let c : int_lt w lo ≡ false = grind (arith, ints) in
    let d : int_lt hi w ≡ true = grind (arith, ints) in
    ((λ j. a j || b j) ∙ sym (λ j. c j || d j), (λ j. cond (a j) lo (cond (b j) hi v)) ∙ sym (λ j. cond (c j) lo (cond (d j) hi w)))

both_below : (lo hi v w : ℤ) → v <ℤ lo → w <ℤ lo
    → ((int_lt v lo || int_lt hi v) ≡ (int_lt w lo || int_lt hi w))
    × (cond (int_lt v lo) lo (cond (int_lt hi v) hi v) ≡ cond (int_lt w lo) lo (cond (int_lt hi w) hi w))
both_below lo hi v w h k =
    let a : int_lt v lo ≡ true = grind (arith, ints) in
    let c : int_lt w lo ≡ true = grind (arith, ints) in (
      (λ j. a j || int_lt hi v) ∙ sym (λ j. c j || int_lt hi w),
      (λ j. cond (a j) lo (cond (int_lt hi v) hi v))
          ∙ sym (λ j. cond (c j) lo (cond (int_lt hi w) hi w)),
    )

in_order : (u : Bool) (z : Size) → least_value u z ≤ℤ greatest_value u z
in_order true Byte = omega (arith, ints)
in_order true Half = omega (arith, ints)
in_order true Word = omega (arith, ints)
in_order false Byte = omega (arith, ints)
in_order false Half = omega (arith, ints)
in_order false Word = omega (arith, ints)

high_limit : (u : Bool) (z : Size) → greatest_value u z <ℤ pos 4294967296
high_limit true Byte = omega (arith, ints)
high_limit true Half = omega (arith, ints)
high_limit true Word = omega (arith, ints)
high_limit false Byte = omega (arith, ints)
high_limit false Half = omega (arith, ints)
high_limit false Word = omega (arith, ints)

low_limit : (u : Bool) (z : Size) → (pos 0 -ℤ pos 4294967296) <ℤ least_value u z
low_limit true Byte = omega (arith, ints)
low_limit true Half = omega (arith, ints)
low_limit true Word = omega (arith, ints)
low_limit false Byte = omega (arith, ints)
low_limit false Half = omega (arith, ints)
low_limit false Word = omega (arith, ints)

stands_above : (u : Bool) (z : Size) (v w : ℤ) → pos 4294967296 ≤ℤ v → pos 4294967296 ≤ℤ w → cut z v ≡ cut z w → StandsFor u z v w
stands_above u z v w h k e =
    let alike = both_above (least_value u z) (greatest_value u z) v w (in_order u z) (omega (arith, ints, high_limit u z))
    (omega (arith, ints, high_limit u z)) in
    (e, alike.0, alike.1)

stands_below : (u : Bool) (z : Size) (v w : ℤ) → v ≤ℤ (pos 0 -ℤ pos 4294967296) → w ≤ℤ (pos 0 -ℤ pos 4294967296) → cut z v ≡ cut z w → StandsFor u z v w
stands_below u z v w h k e =
    let alike = both_below (least_value u z) (greatest_value u z) v w (omega (arith, ints, low_limit u z)) (omega (arith, ints, low_limit u z)) in
    (e, alike.0, alike.1)

-- no bit of a multiple of 2^32 is in a lane
multiple : (a w k : ℕ) → w ≤ k → a * 2 ^ k % 2 ^ w ≡ 0
multiple a w k h =
    let split : 2 ^ k ≡ 2 ^ (k - w) * 2 ^ w = ap (λ (n : ℕ). 2 ^ n) (omega arith) ∙ pow-add 2 (k - w) w in
    let moved : a * (2 ^ (k - w) * 2 ^ w) ≡ (a * 2 ^ (k - w)) * 2 ^ w = grind arith in
    ap (λ n. n % 2 ^ w) (ap (λ p. a * p) split ∙ moved) ∙ mul-mod_left (a * 2 ^ (k - w)) (2 ^ w)

no_bits : (z : Size) (a k : ℕ) → 32 ≤ k → a * 2 ^ k % modulus z ≡ 0
no_bits Byte a k h = multiple a 8 k (omega arith)
no_bits Half a k h = multiple a 16 k (omega arith)
no_bits Word a k h = multiple a 32 k h

cut_pos : (z : Size) (m : ℕ) → m % modulus z ≡ 0 → cut z (pos m) ≡ 0
cut_pos Byte m e = e
cut_pos z m e = e

cut_neg : (z : Size) (m : ℕ) → m % modulus z ≡ 0 → cut z (neg_ℤ (pos m)) ≡ 0
cut_neg z m e = grind arith

whole_cut : (z : Size) → cut z (pos 4294967296) ≡ 0
whole_cut z = grind arith

minus_cut : (z : Size) → cut z (pos 0 -ℤ pos 4294967296) ≡ 0
minus_cut z = grind arith

far : (a k : ℕ) → 32 ≤ k → 0 < a → 4294967296 ≤ a * 2 ^ k
far a k h l =
    let long : 2 ^ 32 ≤ 2 ^ k = pow_mono h in
    let product : 1 * 2 ^ 32 ≤ a * 2 ^ k = mul-le-mul l long in
    omega arith

pub far_up : (v : ℤ) → pos 0 <ℤ v → (u : Bool) (z : Size) (k : ℕ) → 32 ≤ k → StandsFor u z (pos 4294967296) (v *ℤ pos (2 ^ k))
far_up (pos a) l u z k h =
    let much : 4294967296 ≤ a * 2 ^ k = far a k h (omega (arith, ints)) in
    stands_above u z (pos 4294967296) (pos (a * 2 ^ k)) (omega (arith, ints)) (omega (arith, ints))
    (whole_cut z ∙ sym (cut_pos z (a * 2 ^ k) (no_bits z a k h)))
far_up (negsuc a) l u z k h = absurd (omega (arith, ints))

negative : (m : ℕ) → 4294967296 ≤ m → neg_ℤ (pos m) ≤ℤ (pos 0 -ℤ pos 4294967296)
negative m h = omega (arith, ints)

pub far_down : (v : ℤ) → v <ℤ pos 0 → (u : Bool) (z : Size) (k : ℕ) → 32 ≤ k → StandsFor u z (pos 0 -ℤ pos 4294967296) (v *ℤ pos (2 ^ k))
far_down (pos a) l u z k h = absurd (omega (arith, ints))
far_down (negsuc a) l u z k h =
    let much : 4294967296 ≤ suc a * 2 ^ k = far (suc a) k h (omega arith) in
    stands_below u z (pos 0 -ℤ pos 4294967296) (neg_ℤ (pos (suc a * 2 ^ k))) (omega (arith, ints)) (negative (suc a * 2 ^ k) much)
    (minus_cut z ∙ sym (cut_neg z (suc a * 2 ^ k) (no_bits z (suc a) k h)))

-- a number below a power of two over it
small_quotient : (x : ℤ) (n : ℕ) → pos 0 ≤ℤ x → x <ℤ pos n → int_div_euclid x (pos n) ≡ pos 0
small_quotient (pos a) n l h = ap pos (div-eq_of_lt (omega (arith, ints)))
small_quotient (negsuc a) n l h = absurd (omega (arith, ints))

minus_quotient : (x : ℤ) (n : ℕ) → x <ℤ pos 0 → (pos 0 -ℤ pos n) ≤ℤ x → int_div_euclid x (pos n) ≡ negsuc 0
minus_quotient (pos a) n l h = absurd (omega (arith, ints))
minus_quotient (negsuc a) n l h = ap negsuc (div-eq_of_lt (omega (arith, ints)))

long_power : (k : ℕ) → 40 ≤ k → 1099511627776 ≤ 2 ^ k
long_power k h = pow_mono h

-- over any two numbers of more than 33 bits a number has the same quotient, 0 or -1
far_quotients : (v : ℤ) (m n : ℕ) → (pos 0 -ℤ pos 2147483648) ≤ℤ v → v <ℤ pos 4294967296 → 1099511627776 ≤ m → 1099511627776 ≤ n
    → int_div_euclid v (pos m) ≡ int_div_euclid v (pos n)
far_quotients (pos a) m n l h f g =
    small_quotient (pos a) m (omega (arith, ints)) (omega (arith, ints)) ∙ sym (small_quotient (pos a) n (omega (arith, ints)) (omega (arith, ints)))
far_quotients (negsuc a) m n l h f g =
    minus_quotient (negsuc a) m (omega (arith, ints)) (omega (arith, ints)) ∙ sym (minus_quotient (negsuc a) n (omega (arith, ints)) (omega (arith, ints)))

either_way : (a b : ℕ) → (a < b) ⊎ (b ≤ a)
either_way a b = grind arith

-- so 63 may stand for any greater count
pub at_most_63 : (v : ℤ) (k : ℕ) → (pos 0 -ℤ pos 2147483648) ≤ℤ v → v <ℤ pos 4294967296
    → int_div_euclid v (pos (2 ^ min k 63)) ≡ int_div_euclid v (pos (2 ^ k))
at_most_63 v k l h = by_length (either_way k 63)
  where
    by_length : (k < 63) ⊎ (63 ≤ k) → int_div_euclid v (pos (2 ^ min k 63)) ≡ int_div_euclid v (pos (2 ^ k))
    by_length (inl short) = ap (λ n. int_div_euclid v (pos (2 ^ n))) (min-eq_left (omega arith))
    by_length (inr long) =
        ap (λ n. int_div_euclid v (pos (2 ^ n))) (min-eq_right long)
        ∙ far_quotients v (2 ^ 63) (2 ^ k) l h (omega arith) (long_power k (omega arith))

pub doubled : (k : ℕ) → 0 < k → 2 ^ k ≡ 2 * 2 ^ (k - 1)
doubled (suc k) h = grind arith
doubled zero h = absurd (omega arith)

pub near_zero : (v : ℤ) (k : ℕ) → (pos 0 -ℤ pos 2147483648) ≤ℤ v → v <ℤ pos 4294967296 → 40 ≤ k → int_div_euclid (v +ℤ pos (2 ^ (k - 1))) (pos (2 ^ k)) ≡ pos 0
near_zero v k l h long =
    let whole : 2 ^ k ≡ 2 * 2 ^ (k - 1) = doubled k (omega arith) in
    let much : 1099511627776 ≤ 2 ^ k = long_power k long in
    small_quotient (v +ℤ pos (2 ^ (k - 1))) (2 ^ k) (omega (arith, ints)) (omega (arith, ints))

pub stands_itself : (u : Bool) (z : Size) (v w : ℤ) → v ≡ w → StandsFor u z v w
stands_itself u z v w e = (λ j. cut z (e j), λ j. is_outside u z (e j), λ j. clamped u z (e j))

-- what is passed on is the same number
pub passed : (u : Bool) (z : Size) (v w : ℤ) → FitsSigned w64 v → StandsFor u z v w → StandsFor u z (to_z w64 (of_z w64 v)) w
passed u z v w f s = subst (λ x. StandsFor u z x w) (sym (to_z-of_z w64 v f)) s

shift_up : (v s : ℤ) → int_lt s (pos 0) ≡ false → v *ℤ pos (2 ^ unsigned_abs s) ≡ shifted v s
shift_up v s e = sym (λ j. cond (e j) (int_div_euclid v (pos (2 ^ unsigned_abs s))) (v *ℤ pos (2 ^ unsigned_abs s)))

shift_up_rounded : (v s : ℤ) → int_lt s (pos 0) ≡ false → v *ℤ pos (2 ^ unsigned_abs s) ≡ shifted_rounded v s
shift_up_rounded v s e = sym (λ j. cond (e j) (int_div_euclid (v +ℤ pos (2 ^ (unsigned_abs s - 1))) (pos (2 ^ unsigned_abs s))) (v *ℤ pos (2 ^ unsigned_abs s)))

-- a shift to the left by k of v, both of which were passed on
up_passed : (u : Bool) (z : Size) (r v s x : ℤ) (k : ℕ) → FitsSigned w64 r → FitsSigned w64 v → FitsSigned w64 s → k ≡ unsigned_abs (to_z w64 (of_z w64 s))
    → v *ℤ pos (2 ^ unsigned_abs s) ≡ x
    → StandsFor u z r (to_z w64 (of_z w64 v) *ℤ pos (2 ^ k)) → StandsFor u z (to_z w64 (of_z w64 r)) x
up_passed u z r v s x k fr fv fs e is h =
    let count : k ≡ unsigned_abs s = e ∙ ap unsigned_abs (to_z-of_z w64 s fs) in
    let value : to_z w64 (of_z w64 v) *ℤ pos (2 ^ k) ≡ v *ℤ pos (2 ^ unsigned_abs s) = λ j. to_z-of_z w64 v fv j *ℤ pos (2 ^ count j) in
    passed u z r x fr (subst (λ w. StandsFor u z r w) (value ∙ is) h)

pub shifted_up : (u : Bool) (z : Size) (r v s : ℤ) (k : ℕ) → FitsSigned w64 r → FitsSigned w64 v → FitsSigned w64 s → k ≡ unsigned_abs (to_z w64 (of_z w64 s))
    → int_lt s (pos 0) ≡ false
    → StandsFor u z r (to_z w64 (of_z w64 v) *ℤ pos (2 ^ k)) → StandsFor u z (to_z w64 (of_z w64 r)) (shifted v s)
shifted_up u z r v s k fr fv fs e up h = up_passed u z r v s (shifted v s) k fr fv fs e (shift_up v s up) h

pub shifted_rounded_up : (u : Bool) (z : Size) (r v s : ℤ) (k : ℕ) → FitsSigned w64 r → FitsSigned w64 v → FitsSigned w64 s
    → k ≡ unsigned_abs (to_z w64 (of_z w64 s)) → int_lt s (pos 0) ≡ false
    → StandsFor u z r (to_z w64 (of_z w64 v) *ℤ pos (2 ^ k)) → StandsFor u z (to_z w64 (of_z w64 r)) (shifted_rounded v s)
shifted_rounded_up u z r v s k fr fv fs e up h = up_passed u z r v s (shifted_rounded v s) k fr fv fs e (shift_up_rounded v s up) h

-- a shift of a by the count in b, where a and the count s were passed on
pub by_count : (shift : ℤ → ℤ → ℤ) (u : Bool) (z : Size) (r a b s : ℤ) → FitsSigned w64 r → FitsSigned w64 a → FitsSigned w64 b → FitsSigned w64 s
    → s ≡ shift_count (to_z w64 (of_z w64 b))
    → StandsFor u z r (shift (to_z w64 (of_z w64 a)) (to_z w64 (of_z w64 s))) → StandsFor u z (to_z w64 (of_z w64 r)) (shift a (shift_count b))
by_count shift u z r a b s fr fa fb fs e h =
    let count : to_z w64 (of_z w64 s) ≡ shift_count b = to_z-of_z w64 s fs ∙ e ∙ ap shift_count (to_z-of_z w64 b fb) in
    passed u z r (shift a (shift_count b)) fr (subst (λ w. StandsFor u z r w) (λ j. shift (to_z-of_z w64 a fa j) (count j)) h)

-- a function of numbers that were passed on
pub of_numbers : (f : LaneFn) (u s : Bool) (z : Size) (r x y : ℤ) (c a b : ℕ) → FitsSigned w64 r → FitsSigned w64 x → FitsSigned w64 y
    → s ≡ (u && not (takes_signed f)) → x ≡ lane_value s z a → y ≡ lane_value s z b
    → StandsFor u z r (exact f z (lane_value s z c) (to_z w64 (of_z w64 x)) (to_z w64 (of_z w64 y)))
    → StandsFor u z (to_z w64 (of_z w64 r)) (exact_lane f u z c a b)
of_numbers f u s z r x y c a b fr fx fy es ex ey h =
    let first : to_z w64 (of_z w64 x) ≡ lane_value (u && not (takes_signed f)) z a = to_z-of_z w64 x fx ∙ ex ∙ ap (λ s. lane_value s z a) es in
    let second : to_z w64 (of_z w64 y) ≡ lane_value (u && not (takes_signed f)) z b = to_z-of_z w64 y fy ∙ ey ∙ ap (λ s. lane_value s z b) es in
    passed u z r (exact_lane f u z c a b) fr (subst (λ w. StandsFor u z r w) (λ j. exact f z (lane_value (es j) z c) (first j) (second j)) h)
