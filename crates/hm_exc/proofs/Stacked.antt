-- The words of a frame read back from memory, and the registers that they give.
use Rattle.std.proofs.Common.{◌≡◌, ℕ, zero, suc, ◌+◌, ◌-◌, ◌*◌, ◌/◌, ◌%◌, ◌^◌, ◌<◌, ◌≤◌, Bool, true, false, List, [], ◌∷◌, ◌++◌, length, get_or, take, arith}
use Rattle.std.proofs.Common.{refl, sym, ◌∙◌, ap, subst}
use Rattle.std.specs.Prelude.{if◌then◌else◌, slice_index, ◌==◌, ◌&&◌}
use Rattle.std.proofs.Math.ListN.{replicate}
use Rattle.std.proofs.lemmas.List.{get_or-take, get_or_append_left, take_at}
use Rattle.hm_base.specs.Image.{word_at}
use Rattle.hm_exc.specs.Entry.{CanEnter, FitsEntry, activation, window_in}
use Rattle.hm_exc.specs.Frame.{basic_words, context_words, frame_base, frame_bytes, frame_size, frame_words, psr_window, xpsr}
use Rattle.hm_state.specs.State.{bit}
use Rattle.hm_exc.specs.declared.types.Activation.{Activation}
use Rattle.hm_exc.proofs.Psr.{bit_told, psr-below, psr-window}
use Rattle.hm_exc.proofs.Words.{get_or-bytes_of, length-bytes_of, length-words, word-bytes_of, word-psr}
use Rattle.hm_mem.specs.Devices.{byte_of}
use Rattle.hm_mem.specs.Seen.{lies_in_sram}
use Rattle.hm_regs.specs.Place.{InRange}
use Rattle.hm_regs.specs.declared.Regs.{Regs}
use Rattle.hm_window.specs.declared.rule.Window.{Window}

-- EACH WORD IS ONE
abbrev AllFit : List ℕ → Type 0
AllFit xs = (k : ℕ) → get_or xs k 0 < 2 ^ 32

AllFit-append : (xs ys : List ℕ) → AllFit xs → AllFit ys → AllFit (xs ++ ys)
AllFit-append [] ys f g k = g k
AllFit-append (x ∷ xs) ys f g zero = f 0
AllFit-append (x ∷ xs) ys f g (suc k) = AllFit-append xs ys (λ j. f (suc j)) g k

AllFit-nil : AllFit []
AllFit-nil k = omega arith

AllFit-cons : (x : ℕ) (xs : List ℕ) → x < 2 ^ 32 → AllFit xs → AllFit (x ∷ xs)
AllFit-cons x xs h f zero = h
AllFit-cons x xs h f (suc k) = f k

AllFit-take : (n : ℕ) (xs : List ℕ) → AllFit xs → AllFit (take n xs)
AllFit-take zero xs f k = omega arith
AllFit-take (suc n) [] f k = omega arith
AllFit-take (suc n) (x ∷ xs) f zero = f 0
AllFit-take (suc n) (x ∷ xs) f (suc k) = AllFit-take n xs (λ j. f (suc j)) k

AllFit-if : (t : Bool) (xs : List ℕ) → AllFit xs → AllFit (if t then xs else [])
AllFit-if true xs f = f
AllFit-if false xs f = AllFit-nil

module _ (r : Regs) (w : Window) (range : InRange r) (pc_fits : r.pc < 2 ^ 32) (psr_fits : xpsr r w < 2 ^ 32) where
  pub words-fit : (k : ℕ) → get_or (frame_words r w) k 0 < 2 ^ 32
  unfolding frame_words
  words-fit = AllFit-append (basic_words r w) (if r.fpca then context_words r else [])
      (AllFit-cons (get_or r.r 0 0) (get_or r.r 1 0 ∷ get_or r.r 2 0 ∷ get_or r.r 3 0 ∷ get_or r.r 12 0 ∷ r.lr ∷ r.pc ∷ xpsr r w ∷ []) (range.r_fits 0)
      (AllFit-cons (get_or r.r 1 0) (get_or r.r 2 0 ∷ get_or r.r 3 0 ∷ get_or r.r 12 0 ∷ r.lr ∷ r.pc ∷ xpsr r w ∷ []) (range.r_fits 1)
      (AllFit-cons (get_or r.r 2 0) (get_or r.r 3 0 ∷ get_or r.r 12 0 ∷ r.lr ∷ r.pc ∷ xpsr r w ∷ []) (range.r_fits 2)
      (AllFit-cons (get_or r.r 3 0) (get_or r.r 12 0 ∷ r.lr ∷ r.pc ∷ xpsr r w ∷ []) (range.r_fits 3)
      (AllFit-cons (get_or r.r 12 0) (r.lr ∷ r.pc ∷ xpsr r w ∷ []) (range.r_fits 12)
      (AllFit-cons r.lr (r.pc ∷ xpsr r w ∷ []) range.lr_fits
      (AllFit-cons r.pc (xpsr r w ∷ []) pc_fits
      (AllFit-cons (xpsr r w) [] psr_fits AllFit-nil))))))))
      (AllFit-if r.fpca (context_words r)
      (AllFit-append (take 16 r.qw) (r.fpscr ∷ r.vpr ∷ []) (AllFit-take 16 r.qw range.qw_fits)
      (AllFit-cons r.fpscr (r.vpr ∷ []) range.fpscr_fits (AllFit-cons r.vpr [] range.vpr_fits AllFit-nil))))

-- BYTES OF A FRAME
pub length-frame_bytes : (r : Regs) (w : Window) → length r.qw ≡ 32 → length (frame_bytes r w) ≡ frame_size r.fpca
unfolding frame_bytes
length-frame_bytes r w q = length-bytes_of (frame_words r w) ∙ length-words r w q

pub frame_byte-is : (r : Regs) (w : Window) (k : ℕ) → length r.qw ≡ 32 → k < frame_size r.fpca
    → get_or (frame_bytes r w) k 0 ≡ byte_of (get_or (frame_words r w) (k / 4) 0) (k % 4)
unfolding frame_bytes
frame_byte-is r w k q l = let e : 4 * length (frame_words r w) ≡ frame_size r.fpca = length-words r w q in get_or-bytes_of (frame_words r w) k (omega arith)

frame_word-back : (r : Regs) (w : Window) (k : ℕ) → length r.qw ≡ 32 → 4 * k < frame_size r.fpca → get_or (frame_words r w) k 0 < 2 ^ 32
    → word_at (slice_index (frame_bytes r w)) (4 * k) ≡ get_or (frame_words r w) k 0
unfolding frame_bytes
frame_word-back r w k q l fits =
    let e : 4 * length (frame_words r w) ≡ frame_size r.fpca = length-words r w q in word-bytes_of (frame_words r w) k (omega arith) fits

-- a word of four bytes that are alike
same_word : (f g : ℕ → ℕ) (a b : ℕ) → f a ≡ g b → f (a + 1) ≡ g (b + 1) → f (a + 2) ≡ g (b + 2) → f (a + 3) ≡ g (b + 3) → word_at f a ≡ word_at g b
same_word f g a b p q r s = λ j. p j + 0x100 * q j + 0x10000 * r j + 0x1000000 * s j

module _ (x : Activation) (h : FitsEntry x) (range : InRange x.regs) (pc_fits : x.regs.pc < 2 ^ 32) (it_fits : x.regs.it < 256) where
  size_is : frame_size x.long ≡ frame_size x.regs.fpca
  size_is = ap frame_size h.form

  -- its bytes are those of the frame
  framed : (j : ℕ) → j < frame_size x.long → get_or x.bytes j 0 ≡ get_or (frame_bytes x.regs (window_in x)) j 0
  framed j l = sym (get_or-take (frame_size x.long) x.bytes j 0 l) ∙ ap (λ (xs : List ℕ). get_or xs j 0) h.bytes

  pub psr_fits : xpsr x.regs (window_in x) < 2 ^ 32
  psr_fits = psr-below x.regs (window_in x) h.enters it_fits

  pub stacked-word : (byte : ℕ → ℕ) (k : ℕ) → ((j : ℕ) → j < frame_size x.long → byte (x.frame + j) ≡ get_or x.bytes j 0) → 4 * k < frame_size x.long
      → 4 * k + 3 < frame_size x.long
      → word_at byte (x.frame + 4 * k) ≡ get_or (frame_words x.regs (window_in x)) k 0
  stacked-word byte k f l m =
      let e : frame_size x.long ≡ frame_size x.regs.fpca = size_is in
      let one : (i : ℕ) → 4 * k + i < frame_size x.long → byte (x.frame + 4 * k + i) ≡ get_or (frame_bytes x.regs (window_in x)) (4 * k + i) 0 = (λ i b.
      ap byte (let s : x.frame + 4 * k + i ≡ x.frame + (4 * k + i) = omega arith in s) ∙ f (4 * k + i) b ∙ framed (4 * k + i) b) in
      same_word byte (slice_index (frame_bytes x.regs (window_in x))) (x.frame + 4 * k) (4 * k)
      (f (4 * k) l ∙ framed (4 * k) l) (one 1 (omega arith)) (one 2 (omega arith)) (one 3 (omega arith))
      ∙ frame_word-back x.regs (window_in x) k range.qw_count (omega arith) (words-fit x.regs (window_in x) range pc_fits psr_fits k)

-- a word of a frame lies whole in it
pub whole_word : (long : Bool) (k : ℕ) → 4 * k < frame_size long → 4 * k + 3 < frame_size long
whole_word true k h = omega arith
whole_word false k h = omega arith

pub size_most : (long : Bool) → frame_size long ≤ 104
size_most true = omega arith
size_most false = omega arith

-- from the eighth word on there is a context
pub has_context : (long : Bool) (k : ℕ) → 8 ≤ k → 4 * k < frame_size long → long ≡ true
has_context true k l h = refl
has_context false k l h = absurd (omega arith)

-- A FLAG of xPSR
pub flag_back : (result : Bool) (psr p n : ℕ) (b : Bool) → result ≡ (psr / 2 ^ n % 2 == 1) → psr ≡ p → p / 2 ^ n % 2 ≡ bit b → result ≡ b
flag_back result psr p n b h e g = h ∙ ap (λ (y : ℕ). y / 2 ^ n % 2 == 1) e ∙ bit_told b (p / 2 ^ n % 2) g

-- a frame that has room lies in SRAM
pub in_room : (x y : Activation) (p t : Bool) → x ≡ y → t ≡ (p && lies_in_sram (frame_size x.long) x.frame) → t ≡ true
    → lies_in_sram (frame_size y.long) y.frame ≡ true
in_room x y p t e h g = ap (λ (v : Activation). lies_in_sram (frame_size v.long) v.frame) (sym e) ∙ go p (lies_in_sram (frame_size x.long) x.frame) (sym h ∙ g)
  where
    go : (a b : Bool) → (a && b) ≡ true → b ≡ true
    go true b f = f
    go false b f = absurd (cc)

-- WHAT AN ENTRY PUTS AWAY
module _ (r : Regs) (w : Window) (e : ℕ) (q : length r.qw ≡ 32) (k : CanEnter r w) (it_fits : r.it < 256) (range : InRange r) (pc_fits : r.pc < 2 ^ 32) where
  size : length (frame_bytes r w) ≡ frame_size r.fpca
  size = length-frame_bytes r w q

  left_byte : (j : ℕ) → j < frame_size r.fpca → get_or (activation r w e).bytes j 0 ≡ get_or (frame_bytes r w) j 0
  left_byte j l = get_or_append_left (frame_bytes r w) (replicate (104 - frame_size r.fpca) 0) 0 j
      (let s : length (frame_bytes r w) ≡ frame_size r.fpca = size in omega arith)

  long_enough : (t : Bool) → 31 < frame_size t
  long_enough true = omega arith
  long_enough false = omega arith

  psr_in : word_at (slice_index (activation r w e).bytes) 28 ≡ xpsr r w
  psr_in =
      let n : 31 < frame_size r.fpca = long_enough r.fpca in
      same_word (slice_index (activation r w e).bytes) (slice_index (frame_bytes r w)) 28 28 (left_byte 28 (omega arith)) (left_byte 29 (omega arith))
      (left_byte 30 (omega arith)) (left_byte 31 (omega arith))
      ∙ frame_word-back r w 7 q (omega arith) (words-fit r w range pc_fits (psr-below r w k it_fits) 7) ∙ word-psr r w

  pub entered-window : window_in (activation r w e) ≡ w
  entered-window = ap psr_window psr_in ∙ psr-window r w k it_fits

  pub entered-fits : lies_in_sram (frame_size r.fpca) (frame_base r) ≡ true → FitsEntry (activation r w e)
  entered-fits h = record {
    in_sram = h;
    form = refl;
    enters = subst (λ (v : Window). CanEnter r v) (sym entered-window) k;
    frame = refl;
    value = refl;
    bytes = take_at (frame_bytes r w) (replicate (104 - frame_size r.fpca) 0) (frame_size r.fpca) size ∙ ap (frame_bytes r) (sym entered-window);
  }
