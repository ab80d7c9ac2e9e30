-- Products, and the lesser and the greater of two elements.
use Rattle.std.proofs.Common.{◌≡◌, ℕ, zero, suc, ◌+◌, ◌-◌, ◌*◌, ◌%◌, ◌^◌, ◌<◌, ◌≤◌, Bool, true, false, cond, ltb, nat_lt, refl, sym, ap, ◌∙◌, arith}
use Rattle.std.specs.Prelude.{ℤ, pos, negsuc, ◌+ℤ◌, ◌-ℤ◌, ◌*ℤ◌, unsigned_abs, int_lt}
use Rattle.std.specs.Int.{int_rem_euclid}
use Rattle.std.proofs.lemmas.Int.{ints}
use Rattle.std.proofs.lemmas.Int.{int_rem_euclid_is}
use Rattle.std.proofs.lemmas.Bool.Decides.{nat_tests}
use Rattle.std.proofs.Math.IntN.{neg_ℤ, pos-+ℤ-pos, pos-*ℤ-pos, pos-*ℤ-negsuc, negsuc-*ℤ-pos, negsuc-*ℤ-negsuc}
use Rattle.std.proofs.Math.Nat.{add-mul, mul-add, add-mul-mod_self_right, mul_comm}
use Rattle.hm_lane.specs.declared.lanes.Size.{Size}
use Rattle.hm_lane.specs.declared.lanes.Size.TheVariants.{Byte as OneByte, Half, Word}
use Rattle.hm_lane.specs.Lanes as list
use Rattle.hm_lane_fns.specs.LaneFns.{cut, half, lane_of, lane_value}
use Rattle.hm_lane_fns.specs.declared.functions.LaneFn.TheVariants as fn
use Rattle.hm_kernel_lang.specs.declared.text.ElementType.{ElementType}
use Rattle.hm_kernel_lang.specs.declared.text.ElementType.TheVariants.{U8, S8, U16, S16, U32, S32}
use Rattle.hm_kernel_lang.specs.Language.{is_signed, modulus, ordered}
use Rattle.hm_kernel.specs.Shows.{size_of_type}
use Rattle.hm_kernel.proofs.Operations.{as_number, some_modulus}
use Rattle.hm_order.proofs.Results.{decide}

small_in : (z : Size) (a : ℕ) → a < list.modulus z → a % list.modulus z ≡ a
small_in z a h = grind arith

-- a number read back
pub cut_number : (z : Size) (a : ℕ) → a < list.modulus z → cut z (lane_value false z a) ≡ a
cut_number z a h =
    let x = as_number z a in
    let small = small_in z a h in
    ap unsigned_abs (int_rem_euclid_is (lane_value false z a) (pos (list.modulus z)) (list.modulus z) x.times a (some_modulus z) refl x.is) ∙ small

pub cut_plain : (z : Size) (a : ℕ) → a < list.modulus z → cut z (pos a) ≡ a
cut_plain z a h = grind arith

-- numbers with a sign are in the order of what stands half as many numbers above them
above : (z : Size) (a : ℕ) → a < list.modulus z → lane_value false z a +ℤ pos (half z) ≡ pos ((a + half z) % list.modulus z)
above OneByte a h = decide (ltb a (2 ^ 7))
    (λ e. (λ j. cond (e j) (pos a) (pos a -ℤ pos (2 ^ 8)) +ℤ pos (2 ^ 7))
    ∙ (let l : a < 2 ^ 7 = grind (arith, nat_tests) in let g : pos a +ℤ pos (2 ^ 7) ≡ pos ((a + 2 ^ 7) % 2 ^ 8) = omega (arith, ints) in g))
    (λ e. (λ j. cond (e j) (pos a) (pos a -ℤ pos (2 ^ 8)) +ℤ pos (2 ^ 7))
    ∙ (let l : 2 ^ 7 ≤ a = grind (arith, nat_tests) in let g : (pos a -ℤ pos (2 ^ 8)) +ℤ pos (2 ^ 7) ≡ pos ((a + 2 ^ 7) % 2 ^ 8) = omega (arith, ints) in g))
above Half a h = decide (ltb a (2 ^ 15))
    (λ e. (λ j. cond (e j) (pos a) (pos a -ℤ pos (2 ^ 16)) +ℤ pos (2 ^ 15))
    ∙ (let l : a < 2 ^ 15 = grind (arith, nat_tests) in let g : pos a +ℤ pos (2 ^ 15) ≡ pos ((a + 2 ^ 15) % 2 ^ 16) = omega (arith, ints) in g))
    (λ e. (λ j. cond (e j) (pos a) (pos a -ℤ pos (2 ^ 16)) +ℤ pos (2 ^ 15))
    ∙ (let l : 2 ^ 15 ≤ a = grind (arith, nat_tests) in let g : (pos a -ℤ pos (2 ^ 16)) +ℤ pos (2 ^ 15) ≡ pos ((a + 2 ^ 15) % 2 ^ 16) = omega (arith, ints) in
    g))
above Word a h = decide (ltb a (2 ^ 31))
    (λ e. (λ j. cond (e j) (pos a) (pos a -ℤ pos (2 ^ 32)) +ℤ pos (2 ^ 31))
    ∙ (let l : a < 2 ^ 31 = grind (arith, nat_tests) in let g : pos a +ℤ pos (2 ^ 31) ≡ pos ((a + 2 ^ 31) % 2 ^ 32) = omega (arith, ints) in g))
    (λ e. (λ j. cond (e j) (pos a) (pos a -ℤ pos (2 ^ 32)) +ℤ pos (2 ^ 31))
    ∙ (let l : 2 ^ 31 ≤ a = grind (arith, nat_tests) in let g : (pos a -ℤ pos (2 ^ 32)) +ℤ pos (2 ^ 31) ≡ pos ((a + 2 ^ 31) % 2 ^ 32) = omega (arith, ints) in
    g))

lt_no : (a b : ℕ) → b ≤ a → nat_lt a b ≡ false
lt_no a b h = grind (arith, nat_tests)

lt_yes : (a b : ℕ) → a < b → nat_lt a b ≡ true
lt_yes a b h = grind (arith, nat_tests)

-- what is cut of the greater and of the lesser number
greatest : (z : Size) (x y : ℤ) (h a b oa ob : ℕ) → x +ℤ pos h ≡ pos oa → y +ℤ pos h ≡ pos ob → cut z x ≡ a → cut z y ≡ b
    → cut z (cond (int_lt y x) x y) ≡ cond (nat_lt oa ob) b a
greatest z x y h a b oa ob p q ca cb = decide (int_lt y x)
    (λ e. let o : ob ≤ oa = omega (arith, ints) in ap (λ (u : Bool). cut z (cond u x y)) e ∙ ca ∙ sym (ap (λ (u : Bool). cond u b a) (lt_no oa ob o)))
    (λ e. decide (nat_lt oa ob)
    (λ f. ap (λ (u : Bool). cut z (cond u x y)) e ∙ cb ∙ sym (ap (λ (u : Bool). cond u b a) f))
    (λ f. let o : ob ≤ oa = grind (arith, nat_tests) in let same : y ≡ x = omega (arith, ints) in
    ap (λ (u : Bool). cut z (cond u x y)) e ∙ ap (cut z) same ∙ ca ∙ sym (ap (λ (u : Bool). cond u b a) f)))

least : (z : Size) (x y : ℤ) (h a b oa ob : ℕ) → x +ℤ pos h ≡ pos oa → y +ℤ pos h ≡ pos ob → cut z x ≡ a → cut z y ≡ b
    → cut z (cond (int_lt y x) y x) ≡ cond (nat_lt ob oa) b a
least z x y h a b oa ob p q ca cb = decide (int_lt y x)
    (λ e. let o : ob < oa = omega (arith, ints) in ap (λ (u : Bool). cut z (cond u y x)) e ∙ cb ∙ sym (ap (λ (u : Bool). cond u b a) (lt_yes ob oa o)))
    (λ e. let o : oa ≤ ob = omega (arith, ints) in ap (λ (u : Bool). cut z (cond u y x)) e ∙ ca ∙ sym (ap (λ (u : Bool). cond u b a) (lt_no ob oa o)))

plain_above : (a : ℕ) → pos a +ℤ pos 0 ≡ pos a
plain_above a = omega (arith, ints)

abbrev pub unsigned_of : ElementType → Bool
unsigned_of t = cond (is_signed t) false true

pub max_is : (t : ElementType) (c a b : ℕ) → a < modulus t → b < modulus t
    → lane_of fn.Max (unsigned_of t) (size_of_type t) c a b ≡ cond (nat_lt (ordered t a) (ordered t b)) b a
max_is U8 c a b h k = greatest OneByte (pos a) (pos b) 0 a b a b (plain_above a) (plain_above b) (cut_plain OneByte a h) (cut_plain OneByte b k)
max_is U16 c a b h k = greatest Half (pos a) (pos b) 0 a b a b (plain_above a) (plain_above b) (cut_plain Half a h) (cut_plain Half b k)
max_is U32 c a b h k = greatest Word (pos a) (pos b) 0 a b a b (plain_above a) (plain_above b) (cut_plain Word a h) (cut_plain Word b k)
max_is S8 c a b h k = greatest OneByte (lane_value false OneByte a) (lane_value false OneByte b) (2 ^ 7) a b _ _ (above OneByte a h) (above OneByte b k)
    (cut_number OneByte a h) (cut_number OneByte b k)
max_is S16 c a b h k = greatest Half (lane_value false Half a) (lane_value false Half b) (2 ^ 15) a b _ _ (above Half a h) (above Half b k)
    (cut_number Half a h)
    (cut_number Half b k)
max_is S32 c a b h k = greatest Word (lane_value false Word a) (lane_value false Word b) (2 ^ 31) a b _ _ (above Word a h) (above Word b k)
    (cut_number Word a h)
    (cut_number Word b k)

pub min_is : (t : ElementType) (c a b : ℕ) → a < modulus t → b < modulus t
    → lane_of fn.Min (unsigned_of t) (size_of_type t) c a b ≡ cond (nat_lt (ordered t b) (ordered t a)) b a
min_is U8 c a b h k = least OneByte (pos a) (pos b) 0 a b a b (plain_above a) (plain_above b) (cut_plain OneByte a h) (cut_plain OneByte b k)
min_is U16 c a b h k = least Half (pos a) (pos b) 0 a b a b (plain_above a) (plain_above b) (cut_plain Half a h) (cut_plain Half b k)
min_is U32 c a b h k = least Word (pos a) (pos b) 0 a b a b (plain_above a) (plain_above b) (cut_plain Word a h) (cut_plain Word b k)
min_is S8 c a b h k = least OneByte (lane_value false OneByte a) (lane_value false OneByte b) (2 ^ 7) a b _ _ (above OneByte a h) (above OneByte b k)
    (cut_number OneByte a h) (cut_number OneByte b k)
min_is S16 c a b h k = least Half (lane_value false Half a) (lane_value false Half b) (2 ^ 15) a b _ _ (above Half a h) (above Half b k) (cut_number Half a h)
    (cut_number Half b k)
min_is S32 c a b h k = least Word (lane_value false Word a) (lane_value false Word b) (2 ^ 31) a b _ _ (above Word a h) (above Word b k) (cut_number Word a h)
    (cut_number Word b k)

-- PRODUCTS
-- a number with a sign is one without, or what is taken away from it
as_negative : (x : ℤ) (m a : ℕ) → a < m → x +ℤ pos (1 * m) ≡ pos a → x ≡ negsuc (m - 1 - a)
as_negative x m a h e = let g : 1 * m ≡ m = omega arith in omega (arith, ints)

as_positive : (x : ℤ) (m a : ℕ) → x +ℤ pos (0 * m) ≡ pos a → x ≡ pos a
as_positive x m a e = let g : 0 * m ≡ 0 = omega arith in omega (arith, ints)

-- (m - a) b + a b = b m, where u is m - a
one_taken : (m a b u : ℕ) → u + a ≡ m → u * b + a * b ≡ b * m
one_taken m a b u e = sym (add-mul u a b) ∙ ap (λ (x : ℕ). x * b) e ∙ mul_comm m b

two_taken : (m a b u w : ℕ) → u + a ≡ m → w + b ≡ m → u * w + (a + b) * m ≡ a * b + m * m
two_taken m a b u w e f =
    let p1 = add-mul a b m in
    let p2 : a * m ≡ a * w + a * b = ap (λ (x : ℕ). a * x) (sym f) ∙ mul-add a w b in
    let p3 : u * w + a * w ≡ m * w = sym (add-mul u a w) ∙ ap (λ (x : ℕ). x * w) e in
    let p4 : m * w + m * b ≡ m * m = sym (mul-add m w b) ∙ ap (λ (x : ℕ). m * x) f in
    let p5 = mul_comm b m in
    omega arith

neg_sum : (x y z : ℕ) → x + y ≡ z → neg_ℤ (pos x) +ℤ pos z ≡ pos y
neg_sum x y z e = omega (arith, ints)

product : (m : ℕ) (x y : ℤ) (a b k l : ℕ) → 0 < m → k ≤ 1 → l ≤ 1 → a < m → b < m → x +ℤ pos (k * m) ≡ pos a → y +ℤ pos (l * m) ≡ pos b
    → int_rem_euclid (x *ℤ y) (pos m) ≡ pos (a * b % m)
product m x y a b zero zero s few1 few2 h i p q =
    (λ j. int_rem_euclid (as_positive x m a p j *ℤ as_positive y m b q j) (pos m)) ∙ ap (λ (z : ℤ). int_rem_euclid z (pos m)) (pos-*ℤ-pos a b)
    ∙ int_rem_euclid_is (pos (a * b)) (pos m) m 0 (a * b) s refl (let g : 0 * m ≡ 0 = omega arith in omega (arith, ints))
product m x y a b (suc zero) zero s few1 few2 h i p q =
    let u = suc (m - 1 - a) in
    let whole : u + a ≡ m = omega arith in
    (λ j. int_rem_euclid (as_negative x m a h p j *ℤ as_positive y m b q j) (pos m)) ∙ ap (λ (z : ℤ). int_rem_euclid z (pos m)) (negsuc-*ℤ-pos (m - 1 - a) b)
    ∙ int_rem_euclid_is (neg_ℤ (pos (u * b))) (pos m) m b (a * b) s refl (neg_sum (u * b) (a * b) (b * m) (one_taken m a b u whole))
product m x y a b zero (suc zero) s few1 few2 h i p q =
    let u = suc (m - 1 - b) in
    let whole : u + b ≡ m = omega arith in
    let turned : a * u + a * b ≡ a * m = sym (mul-add a u b) ∙ ap (λ (z : ℕ). a * z) whole in
    (λ j. int_rem_euclid (as_positive x m a p j *ℤ as_negative y m b i q j) (pos m)) ∙ ap (λ (z : ℤ). int_rem_euclid z (pos m)) (pos-*ℤ-negsuc a (m - 1 - b))
    ∙ int_rem_euclid_is (neg_ℤ (pos (a * u))) (pos m) m a (a * b) s refl (neg_sum (a * u) (a * b) (a * m) turned)
product m x y a b (suc zero) (suc zero) s few1 few2 h i p q =
    let u = suc (m - 1 - a) in
    let w = suc (m - 1 - b) in
    let whole_u : u + a ≡ m = omega arith in
    let whole_w : w + b ≡ m = omega arith in
    let sum = two_taken m a b u w whole_u whole_w in
    (λ j. int_rem_euclid (as_negative x m a h p j *ℤ as_negative y m b i q j) (pos m))
    ∙ ap (λ (z : ℤ). int_rem_euclid z (pos m)) (negsuc-*ℤ-negsuc (m - 1 - a) (m - 1 - b))
    ∙ int_rem_euclid_is (pos (u * w)) (pos m) m (a + b) (a * b + m * m) s refl (pos-+ℤ-pos (u * w) ((a + b) * m) ∙ ap pos sum)
    ∙ ap pos (add-mul-mod_self_right (a * b) m m)
product m x y a b k l s few1 few2 h i p q = grind arith

pub mul_is : (z : Size) (c a b : ℕ) → a < list.modulus z → b < list.modulus z → lane_of fn.Mul false z c a b ≡ a * b % list.modulus z
mul_is z c a b h k =
    let x = as_number z a in
    let y = as_number z b in
    ap unsigned_abs (product (list.modulus z) (lane_value false z a) (lane_value false z b) a b x.times y.times (some_modulus z) x.few y.few h k x.is y.is)
