-- Functions of bits on words are the same functions on bytes, and so on elements of every size.
use Rattle.std.proofs.Common.{◌≡◌, ℕ, zero, suc, ◌+◌, ◌-◌, ◌*◌, ◌/◌, ◌%◌, ◌^◌, ◌<◌, get_or, length, List, [], ◌∷◌, ◌++◌, min, max, refl, sym, ap, ◌∙◌, subst}
use Rattle.std.proofs.Common.{arith, ⊎_elim, bit_and, bit_or, bit_xor}
use Rattle.std.specs.Int.{bit_at}
use Rattle.std.proofs.Math.Nat.{mod-eq_of_lt, mod-lt}
use Rattle.std.proofs.lemmas.Bool.{cases_lt}
use Rattle.std.proofs.lemmas.Nat.{and_mod, or_mod, pow_pos, xor_mod}
use Rattle.std.proofs.lemmas.Nat.Bits.{bit_at_and, bit_at_cat_high, bit_at_cat_low, bit_at_or, bit_at_xor, same_from_bits}
use Rattle.hm_beat.specs.Rows.{register_at, word_place}
use Rattle.hm_lane.specs.declared.lanes.Size.TheVariants.{Word}
use Rattle.hm_lane_fns.specs.Words.{lanewise3}
use Rattle.hm_lane.specs.Lanes as list
use Rattle.hm_lane.specs.Lanes.{bytes_of, halves, paired, words}
use Rattle.hm_state.specs.State.{State, at}
use Rattle.hm_kernel_lang.specs.declared.text.ElementType.{ElementType}
use Rattle.hm_kernel_lang.specs.declared.text.ElementType.TheVariants.{U8, S8, U16, S16, U32, S32}
use Rattle.hm_kernel_lang.specs.Language.{lanes}
use Rattle.hm_kernel.specs.Shows.{element_at, size_of_type}
use Rattle.hm_kernel.proofs.Merging.{AllBytes, bytes_register}

-- a function that is done bit by bit
pub record IsBitwise (f : ℕ → ℕ → ℕ) : Type 0 where
  pub bit : ℕ → ℕ → ℕ
  pub bits : (a b i : ℕ) → bit_at (f a b) i ≡ bit (bit_at a i) (bit_at b i)
  pub low : (a b k : ℕ) → f a b % 2 ^ k ≡ f (a % 2 ^ k) (b % 2 ^ k)

pub and_is : IsBitwise bit_and
and_is = record { bit = min; bits = bit_at_and; low = and_mod }

pub or_is : IsBitwise bit_or
or_is = record { bit = max; bits = bit_at_or; low = or_mod }

pub xor_is : IsBitwise bit_xor
xor_is = record { bit = λ a b. (a + b) % 2; bits = bit_at_xor; low = xor_mod }

small : (x k : ℕ) → x < k → x % k ≡ x
small x k h = mod-eq_of_lt h

module _ (f : ℕ → ℕ → ℕ) (is : IsBitwise f) where
  some_power : (k : ℕ) → 0 < 2 ^ k
  some_power k = pow_pos k

  pub below : (a b k : ℕ) → a < 2 ^ k → b < 2 ^ k → f a b < 2 ^ k
  below a b k h i =
      let e : f a b % 2 ^ k ≡ f a b = is.low a b k ∙ (λ j. f (small a (2 ^ k) h j) (small b (2 ^ k) i j)) in
      subst (λ (x : ℕ). x < 2 ^ k) e (mod-lt (f a b) (some_power k))

  -- two parts of numbers
  joined : (a b c d k : ℕ) → b < 2 ^ k → d < 2 ^ k → f (a * 2 ^ k + b) (c * 2 ^ k + d) ≡ f a c * 2 ^ k + f b d
  joined a b c d k h i = same_from_bits _ _ (λ n. ⊎_elim
      (λ lt. is.bits (a * 2 ^ k + b) (c * 2 ^ k + d) n ∙ (λ j. is.bit (bit_at_cat_low a k b n lt j) (bit_at_cat_low c k d n lt j)) ∙ sym (is.bits b d n)
      ∙ sym (bit_at_cat_low (f a c) k (f b d) n lt))
      (λ le. is.bits (a * 2 ^ k + b) (c * 2 ^ k + d) n ∙ (λ j. is.bit (bit_at_cat_high a k b n h le j) (bit_at_cat_high c k d n i le j))
      ∙ sym (is.bits a c (n - k)) ∙ sym (bit_at_cat_high (f a c) k (f b d) n (below b d k h i) le))
      (cases_lt n k))

  byte_joined : (a b c d : ℕ) → b < 256 → d < 256 → f (b + 256 * a) (d + 256 * c) ≡ f b d + 256 * f a c
  byte_joined a b c d h i =
      let e : b + 256 * a ≡ a * 2 ^ 8 + b = omega arith in
      let g : d + 256 * c ≡ c * 2 ^ 8 + d = omega arith in
      (λ j. f (e j) (g j)) ∙ joined a b c d 8 h i ∙ (let k : f a c * 2 ^ 8 + f b d ≡ f b d + 256 * f a c = omega arith in k)

  pub half_joined : (a b c d : ℕ) → a < 256 → c < 256 → f (a + 256 * b) (c + 256 * d) ≡ f a c + 256 * f b d
  half_joined a b c d h i = byte_joined b a d c h i

  pub word_joined : (a b c d a' b' c' d' : ℕ) → a < 256 → b < 256 → c < 256 → a' < 256 → b' < 256 → c' < 256
      → f (a + 256 * b + 65536 * c + 16777216 * d) (a' + 256 * b' + 65536 * c' + 16777216 * d') ≡ f a a' + 256 * f b b' + 65536 * f c c' + 16777216 * f d d'
  word_joined a b c d a' b' c' d' h i k h' i' k' =
      let e : a + 256 * b + 65536 * c + 16777216 * d ≡ a + 256 * (b + 256 * (c + 256 * d)) = omega arith in
      let g : a' + 256 * b' + 65536 * c' + 16777216 * d' ≡ a' + 256 * (b' + 256 * (c' + 256 * d')) = omega arith in
      (λ j. f (e j) (g j))
      ∙ byte_joined (b + 256 * (c + 256 * d)) a (b' + 256 * (c' + 256 * d')) a' h h'
      ∙ ap (λ (x : ℕ). f a a' + 256 * x) (byte_joined (c + 256 * d) b (c' + 256 * d') b' i i' ∙ ap (λ (x : ℕ). f b b' + 256 * x) (byte_joined d c d' c' k k'))
      ∙ (let l : f a a' + 256 * (f b b' + 256 * (f c c' + 256 * f d d')) ≡ f a a' + 256 * f b b' + 65536 * f c c' + 16777216 * f d d' = omega arith in l)

  -- OF LISTS: elements of the bytes' results are the elements' results
  paired_halves : (xs ys : List ℕ) → AllBytes xs → AllBytes ys → length xs ≡ length ys → halves (paired f xs ys) ≡ paired f (halves xs) (halves ys)
  paired_halves [] ys h i e = refl
  paired_halves (x ∷ []) (y ∷ []) h i e = refl
  paired_halves (x ∷ w ∷ xs) (y ∷ z ∷ ys) h i e = λ j. sym (half_joined x w y z h.0 i.0) j ∷ paired_halves xs ys h.1.1 i.1.1 (omega arith) j
  paired_halves xs ys h i e = absurd (omega arith)

  get_paired : (xs ys : List ℕ) (n e : ℕ) → e < n → length xs ≡ n → length ys ≡ n → get_or (paired f xs ys) e 0 ≡ f (get_or xs e 0) (get_or ys e 0)
  get_paired (x ∷ xs) (y ∷ ys) (suc n) zero h i k = refl
  get_paired (x ∷ xs) (y ∷ ys) (suc n) (suc e) h i k = get_paired xs ys n e (omega arith) (omega arith) (omega arith)
  get_paired xs ys n e h i k = absurd (omega arith)

  -- OF REGISTERS
  abbrev pub both : ℕ → ℕ → State → List ℕ
  both q p s = paired f (register_at q s) (register_at p s)

  both_words : (q p : ℕ) (s : State) → words (both q p s) ≡ paired f (words (register_at q s)) (words (register_at p s))
  both_words q p s = λ j. four 0 j ∷ four 1 j ∷ four 2 j ∷ four 3 j ∷ []
    where
      four : (b : ℕ) → (let x = at (word_place q b) s in let y = at (word_place p b) s in
          f (x % 256) (y % 256) + 256 * f (x / 256 % 256) (y / 256 % 256) + 65536 * f (x / 65536 % 256) (y / 65536 % 256) + 16777216 * f (x / 16777216 % 256)
          (y / 16777216 % 256)
          ≡ f (x % 256 + 256 * (x / 256 % 256) + 65536 * (x / 65536 % 256) + 16777216 * (x / 16777216 % 256))
          (y % 256 + 256 * (y / 256 % 256) + 65536 * (y / 65536 % 256) + 16777216 * (y / 16777216 % 256)))
      four b =
          let x = at (word_place q b) s in
          let y = at (word_place p b) s in
          sym (word_joined (x % 256) (x / 256 % 256) (x / 65536 % 256) (x / 16777216 % 256) (y % 256) (y / 256 % 256) (y / 65536 % 256) (y / 16777216 % 256)
          (omega arith) (omega arith) (omega arith) (omega arith) (omega arith) (omega arith))

  pub both_lanes : (t : ElementType) (q p e : ℕ) (s : State) → e < lanes t
      → get_or (list.lanes (size_of_type t) (both q p s)) e 0 ≡ f (element_at t q e s) (element_at t p e s)
  both_lanes U8 q p e s h = get_paired (register_at q s) (register_at p s) 16 e h refl refl
  both_lanes S8 q p e s h = get_paired (register_at q s) (register_at p s) 16 e h refl refl
  both_lanes U16 q p e s h = ap (λ (x : List ℕ). get_or x e 0)
      (paired_halves (register_at q s) (register_at p s) (bytes_register q s) (bytes_register p s) refl)
      ∙ get_paired (halves (register_at q s)) (halves (register_at p s)) 8 e h refl refl
  both_lanes S16 q p e s h = ap (λ (x : List ℕ). get_or x e 0)
      (paired_halves (register_at q s) (register_at p s) (bytes_register q s) (bytes_register p s) refl)
      ∙ get_paired (halves (register_at q s)) (halves (register_at p s)) 8 e h refl refl
  both_lanes U32 q p e s h = ap (λ (x : List ℕ). get_or x e 0) (both_words q p s)
      ∙ get_paired (words (register_at q s)) (words (register_at p s)) 4 e h refl refl
  both_lanes S32 q p e s h = ap (λ (x : List ℕ). get_or x e 0) (both_words q p s)
      ∙ get_paired (words (register_at q s)) (words (register_at p s)) 4 e h refl refl

  -- the bytes of a word's result
  pub bytes_result : (x y : ℕ) → bytes_of
      (f (x % 256 + 256 * (x / 256 % 256) + 65536 * (x / 65536 % 256) + 16777216 * (x / 16777216 % 256))
      (y % 256 + 256 * (y / 256 % 256) + 65536 * (y / 65536 % 256) + 16777216 * (y / 16777216 % 256)) % 2 ^ 32)
      ≡ paired f (bytes_of x) (bytes_of y)
  bytes_result x y =
      let p = below (x % 256) (y % 256) 8 (omega arith) (omega arith) in
      let q = below (x / 256 % 256) (y / 256 % 256) 8 (omega arith) (omega arith) in
      let r = below (x / 65536 % 256) (y / 65536 % 256) 8 (omega arith) (omega arith) in
      let s = below (x / 16777216 % 256) (y / 16777216 % 256) 8 (omega arith) (omega arith) in
      ap (λ (z : ℕ). bytes_of (z % 2 ^ 32))
      (word_joined (x % 256) (x / 256 % 256) (x / 65536 % 256) (x / 16777216 % 256) (y % 256) (y / 256 % 256) (y / 65536 % 256) (y / 16777216 % 256)
      (omega arith) (omega arith) (omega arith) (omega arith) (omega arith) (omega arith))
      ∙ parts (f (x % 256) (y % 256)) (f (x / 256 % 256) (y / 256 % 256)) (f (x / 65536 % 256) (y / 65536 % 256)) (f (x / 16777216 % 256) (y / 16777216 % 256))
      p q r s
    where
      parts : (a b c d : ℕ) → a < 2 ^ 8 → b < 2 ^ 8 → c < 2 ^ 8 → d < 2 ^ 8 → bytes_of ((a + 256 * b + 65536 * c + 16777216 * d) % 2 ^ 32) ≡ a ∷ b ∷ c ∷ d ∷ []
      parts a b c d h i k l =
          let e1 : (a + 256 * b + 65536 * c + 16777216 * d) % 2 ^ 32 % 256 ≡ a = omega arith in
          let e2 : (a + 256 * b + 65536 * c + 16777216 * d) % 2 ^ 32 / 256 % 256 ≡ b = omega arith in
          let e3 : (a + 256 * b + 65536 * c + 16777216 * d) % 2 ^ 32 / 65536 % 256 ≡ c = omega arith in
          let e4 : (a + 256 * b + 65536 * c + 16777216 * d) % 2 ^ 32 / 16777216 % 256 ≡ d = omega arith in
          λ j. e1 j ∷ e2 j ∷ e3 j ∷ e4 j ∷ []

  -- WORDS of whole registers
  pub result_both : (q p : ℕ) (s : State) → lanewise3 Word (λ c a b. f a b % 2 ^ 32) (register_at q s) (register_at q s) (register_at p s) ≡ both q p s
  result_both q p s = λ j. bytes_result (at (word_place q 0) s) (at (word_place p 0) s) j
      ++ (bytes_result (at (word_place q 1) s) (at (word_place p 1) s) j
      ++ (bytes_result (at (word_place q 2) s) (at (word_place p 2) s) j ++ (bytes_result (at (word_place q 3) s) (at (word_place p 3) s) j ++ [])))

  bytes_paired : (xs ys : List ℕ) → AllBytes xs → AllBytes ys → AllBytes (paired f xs ys)
  bytes_paired (x ∷ xs) (y ∷ ys) h i = (below x y 8 h.0 i.0, bytes_paired xs ys h.1 i.1)
  bytes_paired xs ys h i = tt

  pub bytes_both : (q p : ℕ) (s : State) → AllBytes (both q p s)
  bytes_both q p s = bytes_paired (register_at q s) (register_at p s) (bytes_register q s) (bytes_register p s)
