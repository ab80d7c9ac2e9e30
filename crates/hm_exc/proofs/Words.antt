-- The words of a frame by their numbers, and their bytes.
use Rattle.std.proofs.Common.{◌≡◌, ℕ, zero, suc, ◌+◌, ◌-◌, ◌*◌, ◌/◌, ◌%◌, ◌^◌, ◌<◌, ◌≤◌, Bool, true, false, List, [], ◌∷◌, ◌++◌, length, get_or, take, arith}
use Rattle.std.proofs.Common.{refl, sym, ◌∙◌, ap}
use Rattle.std.specs.Prelude.{if◌then◌else◌, slice_index}
use Rattle.std.proofs.lemmas.List.{get_or-take, get_or_append_left, get_or-append_right, length-take, length-append}
use Rattle.hm_base.specs.Image.{word_at}
use Rattle.hm_exc.specs.Frame.{basic_words, bytes_of_words, context_words, frame_size, frame_words, xpsr}
use Rattle.hm_mem.specs.Devices.{byte_of}
use Rattle.hm_regs.specs.declared.Regs.{Regs}
use Rattle.hm_window.specs.declared.rule.Window.{Window}

-- BYTES OF WORDS
pub length-bytes_of : (xs : List ℕ) → length (bytes_of_words xs) ≡ 4 * length xs
length-bytes_of [] = refl
length-bytes_of (x ∷ xs) = let e : length (bytes_of_words xs) ≡ 4 * length xs = length-bytes_of xs in omega arith

pub get_or-bytes_of : (xs : List ℕ) (k : ℕ) → k < 4 * length xs → get_or (bytes_of_words xs) k 0 ≡ byte_of (get_or xs (k / 4) 0) (k % 4)
get_or-bytes_of [] k h = absurd (omega arith)
get_or-bytes_of (x ∷ xs) zero h = refl
get_or-bytes_of (x ∷ xs) (suc zero) h = refl
get_or-bytes_of (x ∷ xs) (suc (suc zero)) h = refl
get_or-bytes_of (x ∷ xs) (suc (suc (suc zero))) h = refl
get_or-bytes_of (x ∷ xs) (suc (suc (suc (suc k)))) h =
    let l : k < 4 * length xs = omega arith in
    let d : suc (suc (suc (suc k))) / 4 ≡ suc (k / 4) = omega arith in
    let m : suc (suc (suc (suc k))) % 4 ≡ k % 4 = omega arith in
    get_or-bytes_of xs k l ∙ (λ j. byte_of (get_or (x ∷ xs) (sym d j) 0) (sym m j))

pub four_bytes : (x : ℕ) → x < 2 ^ 32 → byte_of x 0 + 0x100 * byte_of x 1 + 0x10000 * byte_of x 2 + 0x1000000 * byte_of x 3 ≡ x
four_bytes x h = omega arith

pub word-bytes_of : (xs : List ℕ) (k : ℕ) → k < length xs → get_or xs k 0 < 2 ^ 32 → word_at (slice_index (bytes_of_words xs)) (4 * k) ≡ get_or xs k 0
word-bytes_of xs k l fits =
    let at : (i : ℕ) → i < 4 → get_or (bytes_of_words xs) (4 * k + i) 0 ≡ byte_of (get_or xs k 0) i = (λ i b.
    let d : (4 * k + i) / 4 ≡ k = omega arith in
    let m : (4 * k + i) % 4 ≡ i = omega arith in
    get_or-bytes_of xs (4 * k + i) (omega arith) ∙ (λ j. byte_of (get_or xs (d j) 0) (m j))) in
    let first : get_or (bytes_of_words xs) (4 * k) 0 ≡ byte_of (get_or xs k 0) 0 =
    ap (λ (i : ℕ). get_or (bytes_of_words xs) i 0) (let e : 4 * k ≡ 4 * k + 0 = omega arith in e) ∙ at 0 (omega arith) in
    (λ j. first j + 0x100 * at 1 (omega arith) j + 0x10000 * at 2 (omega arith) j + 0x1000000 * at 3 (omega arith) j)
    ∙ four_bytes (get_or xs k 0) fits

-- WORDS OF A FRAME
pub first_four : (xs ys : List ℕ) (k : ℕ) → k < 4 → get_or (get_or xs 0 0 ∷ get_or xs 1 0 ∷ get_or xs 2 0 ∷ get_or xs 3 0 ∷ ys) k 0 ≡ get_or xs k 0
first_four xs ys zero h = refl
first_four xs ys (suc zero) h = refl
first_four xs ys (suc (suc zero)) h = refl
first_four xs ys (suc (suc (suc zero))) h = refl
first_four xs ys (suc (suc (suc (suc k)))) h = absurd (omega arith)

length-context : (r : Regs) → length r.qw ≡ 32 → length (context_words r) ≡ 18
length-context r q = length-append (take 16 r.qw) (r.fpscr ∷ r.vpr ∷ [])
    ∙ (let e : length (take 16 r.qw) ≡ 16 = length-take 16 r.qw ∙ omega arith in omega arith)

module _ (r : Regs) (w : Window) where
  unfolding-words : (t : Bool) → r.fpca ≡ t → frame_words r w ≡ basic_words r w ++ (if t then context_words r else [])
  unfolding frame_words
  unfolding-words t e = ap (λ (b : Bool). basic_words r w ++ (if b then context_words r else [])) e

  pub length-words : length r.qw ≡ 32 → 4 * length (frame_words r w) ≡ frame_size r.fpca
  length-words q = go r.fpca refl
    where
      go : (t : Bool) → r.fpca ≡ t → 4 * length (frame_words r w) ≡ frame_size t
      go true e =
          let a : length (frame_words r w) ≡ length (basic_words r w ++ context_words r) = ap length (unfolding-words true e) in
          let b : length (basic_words r w ++ context_words r) ≡ 8 + length (context_words r) = length-append (basic_words r w) (context_words r) in
          let c : length (context_words r) ≡ 18 = length-context r q in
          omega arith
      go false e =
          let a : length (frame_words r w) ≡ 8 = ap length (unfolding-words false e) in
          omega arith

  pub word-low : (k : ℕ) → k < 4 → get_or (frame_words r w) k 0 ≡ get_or r.r k 0
  unfolding frame_words
  word-low k h = first_four r.r (get_or r.r 12 0 ∷ r.lr ∷ r.pc ∷ xpsr r w ∷ ([] ++ (if r.fpca then context_words r else []))) k h

  pub word-12 : get_or (frame_words r w) 4 0 ≡ get_or r.r 12 0
  unfolding frame_words
  word-12 = refl

  pub word-lr : get_or (frame_words r w) 5 0 ≡ r.lr
  unfolding frame_words
  word-lr = refl

  pub word-pc : get_or (frame_words r w) 6 0 ≡ r.pc
  unfolding frame_words
  word-pc = refl

  pub word-psr : get_or (frame_words r w) 7 0 ≡ xpsr r w
  unfolding frame_words
  word-psr = refl

  -- the words of the context
  past_basic : (j : ℕ) → r.fpca ≡ true → get_or (frame_words r w) (8 + j) 0 ≡ get_or (context_words r) j 0
  past_basic j e =
      let s : (8 + j) - 8 ≡ j = omega arith in
      ap (λ (xs : List ℕ). get_or xs (8 + j) 0) (unfolding-words true e)
      ∙ get_or-append_right (basic_words r w) (context_words r) 8 (8 + j) 0 refl (omega arith) ∙ ap (λ (i : ℕ). get_or (context_words r) i 0) s

  pub word-vector : (k : ℕ) → r.fpca ≡ true → length r.qw ≡ 32 → 8 ≤ k → k < 24 → get_or (frame_words r w) k 0 ≡ get_or r.qw (k - 8) 0
  word-vector k e q l h =
      let s : 8 + (k - 8) ≡ k = omega arith in
      let n : length (take 16 r.qw) ≡ 16 = length-take 16 r.qw ∙ omega arith in
      ap (λ (i : ℕ). get_or (frame_words r w) i 0) (sym s) ∙ past_basic (k - 8) e
      ∙ get_or_append_left (take 16 r.qw) (r.fpscr ∷ r.vpr ∷ []) 0 (k - 8) (omega arith) ∙ get_or-take 16 r.qw (k - 8) 0 (omega arith)

  pub word-fpscr : r.fpca ≡ true → length r.qw ≡ 32 → get_or (frame_words r w) 24 0 ≡ r.fpscr
  word-fpscr e q = past_basic 16 e ∙ get_or-append_right (take 16 r.qw) (r.fpscr ∷ r.vpr ∷ []) 16 16 0 (length-take 16 r.qw ∙ omega arith) (omega arith)

  pub word-vpr : r.fpca ≡ true → length r.qw ≡ 32 → get_or (frame_words r w) 25 0 ≡ r.vpr
  word-vpr e q = past_basic 17 e ∙ get_or-append_right (take 16 r.qw) (r.fpscr ∷ r.vpr ∷ []) 16 17 0 (length-take 16 r.qw ∙ omega arith) (omega arith)
