-- A vector register that merges 16 bytes where elements are left.
use Rattle.std.proofs.Common.{◌≡◌, ◌≢◌, ℕ, zero, suc, ◌+◌, ◌*◌, ◌<◌, ◌≤◌, Bool, true, false, cond, eqb, ltb, leb, get_or, length, List, [], ◌∷◌, ◌++◌, refl}
use Rattle.std.proofs.Common.{sym, ap, ◌∙◌, subst, arith, eq-eqb}
use Rattle.std.proofs.lemmas.Bool.Decides.{nat_tests}
use Rattle.std.proofs.lemmas.List.{nil_from_length}
use Rattle.hm_base.specs.declared.Place.TheVariants.{R, QWord, P0, Mask01, Mask23, Ltp}
use Rattle.hm_beat.specs.Rows.{predicate_at, register_at, word_place, write_register, write_words}
use Rattle.hm_beat.proofs.Chained.{Off, put_other}
use Rattle.hm_lane_fns.proofs.Lanewise.{bytes_of-word}
use Rattle.hm_lane.specs.declared.lanes.Size.TheVariants.{Byte as OneByte, Half, Word}
use Rattle.hm_lane.specs.Lanes as list
use Rattle.hm_lane.specs.Lanes.{bytes_of, halves, words}
use Rattle.hm_lane.specs.Predicate.{active_bytes}
use Rattle.hm_lane_fns.specs.Words.{filled}
use Rattle.hm_state.specs.Store.{put_all}
use Rattle.hm_state.specs.State.{At, Cell, State, Value, at, cells, same_cell, word}
use Rattle.hm_kernel_lang.specs.declared.text.ElementType.{ElementType}
use Rattle.hm_kernel_lang.specs.declared.text.ElementType.TheVariants.{U8, S8, U16, S16, U32, S32}
use Rattle.hm_kernel_lang.specs.Language.{lanes}
use Rattle.hm_kernel_lang.specs.Machine.{size_code}
use Rattle.hm_kernel.specs.Shows.{element_at, size_of_type}

-- LISTS OF BYTES
abbrev pub AllBytes : List ℕ → Type 0
AllBytes [] = Unit {0}
AllBytes (x ∷ xs) = (x < 256) × AllBytes xs

-- the first four of a list
pub record Front (v : List ℕ) (n : ℕ) : Type 0 where
  pub a : ℕ
  pub b : ℕ
  pub c : ℕ
  pub d : ℕ
  pub rest : List ℕ
  pub is : v ≡ a ∷ b ∷ c ∷ d ∷ rest
  pub count : length rest ≡ n

pub front : (v : List ℕ) (n : ℕ) → length v ≡ 4 + n → Front v n
front (a ∷ b ∷ c ∷ d ∷ v) n e = record { a = a; b = b; c = c; d = d; rest = v; is = refl; count = omega arith }
front v n e = absurd (omega arith)

-- the first word of a list of bytes
pub record FirstWord (v : List ℕ) (n : ℕ) : Type 0 where
  pub w : ℕ
  pub rest : List ℕ
  pub words_are : words v ≡ w ∷ words rest
  pub bytes_are : bytes_of w ++ rest ≡ v
  pub count : length rest ≡ n
  pub fits : AllBytes rest

first_of : (a b c d : ℕ) (v : List ℕ) (n : ℕ) → length v ≡ n → AllBytes (a ∷ b ∷ c ∷ d ∷ v) → FirstWord (a ∷ b ∷ c ∷ d ∷ v) n
first_of a b c d v n e h = record {
  w = a + 256 * b + 65536 * c + 16777216 * d;
  rest = v;
  words_are = refl;
  bytes_are = ap (λ (x : List ℕ). x ++ v) (sym (bytes_of-word a b c d h.0 h.1.0 h.1.1.0 h.1.1.1.0));
  count = e;
  fits = h.1.1.1.1;
}

pub first_word : (v : List ℕ) (n : ℕ) → length v ≡ 4 + n → AllBytes v → FirstWord v n
first_word v n e h =
    let f = front v n e in
    subst (λ (x : List ℕ). FirstWord x n) (sym f.is) (first_of f.a f.b f.c f.d f.rest n f.count (subst AllBytes f.is h))

-- four words of sixteen bytes
pub record FourWords (v : List ℕ) : Type 0 where
  pub w0 : ℕ
  pub w1 : ℕ
  pub w2 : ℕ
  pub w3 : ℕ
  pub words_are : words v ≡ w0 ∷ w1 ∷ w2 ∷ w3 ∷ []
  pub bytes_are : bytes_of w0 ++ bytes_of w1 ++ bytes_of w2 ++ bytes_of w3 ≡ v

pub four_words : (v : List ℕ) → length v ≡ 16 → AllBytes v → FourWords v
four_words v e h =
    let a = first_word v 12 e h in
    let b = first_word a.rest 8 a.count a.fits in
    let c = first_word b.rest 4 b.count b.fits in
    let d = first_word c.rest 0 c.count c.fits in
    let n = nil_from_length d.rest d.count in
    let last : bytes_of d.w ≡ c.rest = ap (λ (x : List ℕ). bytes_of d.w ++ x) (sym n) ∙ d.bytes_are in
    record {
      w0 = a.w;
      w1 = b.w;
      w2 = c.w;
      w3 = d.w;
      words_are = a.words_are ∙ ap (λ (x : List ℕ). a.w ∷ x)
          (b.words_are ∙ ap (λ (x : List ℕ). b.w ∷ x) (c.words_are ∙ ap (λ (x : List ℕ). c.w ∷ x) (d.words_are ∙ ap (λ (x : List ℕ). d.w ∷ words x) n)));
      bytes_are = ap (λ (x : List ℕ). bytes_of a.w ++ bytes_of b.w ++ bytes_of c.w ++ x) last
          ∙ ap (λ (x : List ℕ). bytes_of a.w ++ bytes_of b.w ++ x) c.bytes_are ∙ ap (λ (x : List ℕ). bytes_of a.w ++ x) b.bytes_are ∙ a.bytes_are;
    }

-- A REGISTER THAT IS WRITTEN
pub not_equal : (x y : ℕ) → x ≢ y → eqb x y ≡ false
not_equal x y h = grind (arith, nat_tests)

abbrev with_words : ℕ → ℕ → ℕ → ℕ → ℕ → State → State
with_words q w0 w1 w2 w3 s = put_all cells
    ((At (word_place q 0), word w0) ∷ (At (word_place q 1), word w1) ∷ (At (word_place q 2), word w2) ∷ (At (word_place q 3), word w3) ∷ []) s

abbrev picked : Bool → Bool → Bool → Bool → ℕ → ℕ → ℕ → ℕ → Value → ℕ
picked e3 e2 e1 e0 w0 w1 w2 w3 x = (cond e3 (word w3) (cond e2 (word w2) (cond e1 (word w1) (cond e0 (word w0) x)))).n

module _ (q w0 w1 w2 w3 : ℕ) (s : State) where
  at_0 : at (word_place q 0) (with_words q w0 w1 w2 w3 s) ≡ w0
  at_0 = λ j. picked (not_equal (4 * q + 3) (4 * q + 0) (λ e. omega arith) j) (not_equal (4 * q + 2) (4 * q + 0) (λ e. omega arith) j)
      (not_equal (4 * q + 1) (4 * q + 0) (λ e. omega arith) j) (eq-eqb (4 * q + 0) (4 * q + 0) refl j) w0 w1 w2 w3 (s.cell (At (word_place q 0)))

  at_1 : at (word_place q 1) (with_words q w0 w1 w2 w3 s) ≡ w1
  at_1 = λ j. picked (not_equal (4 * q + 3) (4 * q + 1) (λ e. omega arith) j) (not_equal (4 * q + 2) (4 * q + 1) (λ e. omega arith) j)
      (eq-eqb (4 * q + 1) (4 * q + 1) refl j) (eqb (4 * q + 0) (4 * q + 1)) w0 w1 w2 w3 (s.cell (At (word_place q 1)))

  at_2 : at (word_place q 2) (with_words q w0 w1 w2 w3 s) ≡ w2
  at_2 = λ j. picked (not_equal (4 * q + 3) (4 * q + 2) (λ e. omega arith) j) (eq-eqb (4 * q + 2) (4 * q + 2) refl j) (eqb (4 * q + 1) (4 * q + 2))
      (eqb (4 * q + 0) (4 * q + 2)) w0 w1 w2 w3 (s.cell (At (word_place q 2)))

  at_3 : at (word_place q 3) (with_words q w0 w1 w2 w3 s) ≡ w3
  at_3 = λ j. picked (eq-eqb (4 * q + 3) (4 * q + 3) refl j) (eqb (4 * q + 2) (4 * q + 3)) (eqb (4 * q + 1) (4 * q + 3)) (eqb (4 * q + 0) (4 * q + 3)) w0 w1 w2
      w3 (s.cell (At (word_place q 3)))

  at_other : (p b : ℕ) → p ≢ q → b < 4 → at (word_place p b) (with_words q w0 w1 w2 w3 s) ≡ at (word_place p b) s
  at_other p b d l = λ j. picked (not_equal (4 * q + 3) (4 * p + b) (λ e. d (omega arith)) j) (not_equal (4 * q + 2) (4 * p + b) (λ e. d (omega arith)) j)
      (not_equal (4 * q + 1) (4 * p + b) (λ e. d (omega arith)) j) (not_equal (4 * q + 0) (4 * p + b) (λ e. d (omega arith)) j) w0 w1 w2 w3
      (s.cell (At (word_place p b)))

  register_same : register_at q (with_words q w0 w1 w2 w3 s) ≡ bytes_of w0 ++ bytes_of w1 ++ bytes_of w2 ++ bytes_of w3
  register_same = λ j. bytes_of (at_0 j) ++ bytes_of (at_1 j) ++ bytes_of (at_2 j) ++ bytes_of (at_3 j)

  register_other : (p : ℕ) → p ≢ q → register_at p (with_words q w0 w1 w2 w3 s) ≡ register_at p s
  register_other p d = λ j. bytes_of (at_other p 0 d (omega arith) j) ++ bytes_of (at_other p 1 d (omega arith) j) ++ bytes_of (at_other p 2 d (omega arith) j)
      ++ bytes_of (at_other p 3 d (omega arith) j)

pub register_put : (q : ℕ) (v : List ℕ) (s : State) → length v ≡ 16 → AllBytes v → register_at q (put_all cells (write_register q v) s) ≡ v
register_put q v s e h =
    let f = four_words v e h in
    ap (λ (x : List ℕ). register_at q (put_all cells (write_words q 0 x) s)) f.words_are ∙ register_same q f.w0 f.w1 f.w2 f.w3 s ∙ f.bytes_are

pub register_kept : (q p : ℕ) (v : List ℕ) (s : State) → p ≢ q → length v ≡ 16 → AllBytes v
    → register_at p (put_all cells (write_register q v) s) ≡ register_at p s
register_kept q p v s d e h =
    let f = four_words v e h in
    ap (λ (x : List ℕ). register_at p (put_all cells (write_words q 0 x) s)) f.words_are ∙ register_other q f.w0 f.w1 f.w2 f.w3 s p d

-- all else stays
abbrev pub IsElse : Cell → Type 0
IsElse c = (k : ℕ) → same_cell (At (QWord k)) c ≡ false

words_off : (q b : ℕ) (ws : List ℕ) (c : Cell) → IsElse c → Off c (write_words q b ws)
words_off q b [] c h = tt
words_off q b (w ∷ ws) c h = (h (4 * q + b), words_off q (b + 1) ws c h)

pub else_kept : (q : ℕ) (v : List ℕ) (s : State) (c : Cell) → IsElse c → (put_all cells (write_register q v) s).cell c ≡ s.cell c
else_kept q v s c h = put_other (write_register q v) c s (words_off q 0 (words v) c h)

-- THE PREDICATE of a tail
abbrev pub tails : ℕ → ℕ → ℕ → List Bool
tails left j zero = []
tails left j (suc n) = ltb j left ∷ tails left (j + 1) n

pub get_tails : (left j n e : ℕ) → e < n → get_or (tails left j n) e false ≡ ltb (j + e) left
get_tails left j zero e h = absurd (omega arith)
get_tails left j (suc n) zero h = let e : j ≡ j + 0 = omega arith in ap (λ (x : ℕ). ltb x left) e
get_tails left j (suc n) (suc e) h = get_tails left (j + 1) n e (omega arith) ∙ (let p : j + 1 + e ≡ j + suc e = omega arith in ap (λ (x : ℕ). ltb x left) p)

pub length_tails : (left j n : ℕ) → length (tails left j n) ≡ n
length_tails left j zero = refl
length_tails left j (suc n) = ap suc (length_tails left (j + 1) n)

byte_left : (k left : ℕ) → k < 16 → cond (leb left 16) (ltb k (left * 1)) true ≡ ltb k left
byte_left k left h = grind (arith, nat_tests)

half_left : (k j left : ℕ) → j < 8 → 2 * j ≤ k → k < 2 * j + 2 → cond (leb left 8) (ltb k (left * 2)) true ≡ ltb j left
half_left k j left h i l = grind (arith, nat_tests)

word_left : (k j left : ℕ) → j < 4 → 4 * j ≤ k → k < 4 * j + 4 → cond (leb left 4) (ltb k (left * 4)) true ≡ ltb j left
word_left k j left h i l = grind (arith, nat_tests)

abbrev plain_bytes : ℕ → ℕ → (ℕ → ℕ) → List Bool
plain_bytes size left p = active_bytes 0 0 size left (p 0) ++ active_bytes 1 0 size left (p 1) ++ active_bytes 2 0 size left (p 2)
    ++ active_bytes 3 0 size left (p 3)

byte_predicate : (left : ℕ) (p : ℕ → ℕ) → plain_bytes 0 left p ≡ filled OneByte (tails left 0 16)
byte_predicate left p = λ j. byte_left 0 left (omega arith) j ∷ byte_left 1 left (omega arith) j ∷ byte_left 2 left (omega arith) j
    ∷ byte_left 3 left (omega arith) j ∷ byte_left 4 left (omega arith) j ∷ byte_left 5 left (omega arith) j ∷ byte_left 6 left (omega arith) j
    ∷ byte_left 7 left (omega arith) j ∷ byte_left 8 left (omega arith) j ∷ byte_left 9 left (omega arith) j ∷ byte_left 10 left (omega arith) j
    ∷ byte_left 11 left (omega arith) j ∷ byte_left 12 left (omega arith) j ∷ byte_left 13 left (omega arith) j ∷ byte_left 14 left (omega arith) j
    ∷ byte_left 15 left (omega arith) j ∷ []

half_predicate : (left : ℕ) (p : ℕ → ℕ) → plain_bytes 1 left p ≡ filled Half (tails left 0 8)
half_predicate left p = λ j. half_left 0 0 left (omega arith) (omega arith) (omega arith) j ∷ half_left 1 0 left (omega arith) (omega arith) (omega arith) j
    ∷ half_left 2 1 left (omega arith) (omega arith) (omega arith) j ∷ half_left 3 1 left (omega arith) (omega arith) (omega arith) j
    ∷ half_left 4 2 left (omega arith) (omega arith) (omega arith) j ∷ half_left 5 2 left (omega arith) (omega arith) (omega arith) j
    ∷ half_left 6 3 left (omega arith) (omega arith) (omega arith) j ∷ half_left 7 3 left (omega arith) (omega arith) (omega arith) j
    ∷ half_left 8 4 left (omega arith) (omega arith) (omega arith) j ∷ half_left 9 4 left (omega arith) (omega arith) (omega arith) j
    ∷ half_left 10 5 left (omega arith) (omega arith) (omega arith) j ∷ half_left 11 5 left (omega arith) (omega arith) (omega arith) j
    ∷ half_left 12 6 left (omega arith) (omega arith) (omega arith) j ∷ half_left 13 6 left (omega arith) (omega arith) (omega arith) j
    ∷ half_left 14 7 left (omega arith) (omega arith) (omega arith) j ∷ half_left 15 7 left (omega arith) (omega arith) (omega arith) j ∷ []

word_predicate : (left : ℕ) (p : ℕ → ℕ) → plain_bytes 2 left p ≡ filled Word (tails left 0 4)
word_predicate left p = λ j. word_left 0 0 left (omega arith) (omega arith) (omega arith) j ∷ word_left 1 0 left (omega arith) (omega arith) (omega arith) j
    ∷ word_left 2 0 left (omega arith) (omega arith) (omega arith) j ∷ word_left 3 0 left (omega arith) (omega arith) (omega arith) j
    ∷ word_left 4 1 left (omega arith) (omega arith) (omega arith) j ∷ word_left 5 1 left (omega arith) (omega arith) (omega arith) j
    ∷ word_left 6 1 left (omega arith) (omega arith) (omega arith) j ∷ word_left 7 1 left (omega arith) (omega arith) (omega arith) j
    ∷ word_left 8 2 left (omega arith) (omega arith) (omega arith) j ∷ word_left 9 2 left (omega arith) (omega arith) (omega arith) j
    ∷ word_left 10 2 left (omega arith) (omega arith) (omega arith) j ∷ word_left 11 2 left (omega arith) (omega arith) (omega arith) j
    ∷ word_left 12 3 left (omega arith) (omega arith) (omega arith) j ∷ word_left 13 3 left (omega arith) (omega arith) (omega arith) j
    ∷ word_left 14 3 left (omega arith) (omega arith) (omega arith) j ∷ word_left 15 3 left (omega arith) (omega arith) (omega arith) j ∷ []

tail_predicate : (t : ElementType) (left : ℕ) (p : ℕ → ℕ) → plain_bytes (size_code t) left p ≡ filled (size_of_type t) (tails left 0 (lanes t))
tail_predicate U8 left p = byte_predicate left p
tail_predicate S8 left p = byte_predicate left p
tail_predicate U16 left p = half_predicate left p
tail_predicate S16 left p = half_predicate left p
tail_predicate U32 left p = word_predicate left p
tail_predicate S32 left p = word_predicate left p

pub predicate_is : (t : ElementType) (left : ℕ) (s : State) → at Mask01 s ≡ 0 → at Mask23 s ≡ 0 → at Ltp s ≡ size_code t → at (R 14) s ≡ left
    → predicate_at s ≡ filled (size_of_type t) (tails left 0 (lanes t))
predicate_is t left s a b c d =
    (λ j. active_bytes 0 (a j) (c j) (d j) (at (P0 0) s) ++ active_bytes 1 (a j) (c j) (d j) (at (P0 1) s) ++ active_bytes 2 (b j) (c j) (d j) (at (P0 2) s)
    ++ active_bytes 3 (b j) (c j) (d j) (at (P0 3) s))
    ∙ tail_predicate t left (λ k. at (P0 k) s)

-- MERGED LANES
length_merged : (ps : List Bool) (xs ys : List ℕ) → length xs ≡ length ps → length ys ≡ length ps → length (list.merged ps xs ys) ≡ length ps
length_merged [] xs ys h k = refl
length_merged (p ∷ ps) (x ∷ xs) (y ∷ ys) h k = ap suc (length_merged ps xs ys (omega arith) (omega arith))
length_merged ps xs ys h k = absurd (omega arith)

bytes_merged : (ps : List Bool) (xs ys : List ℕ) → AllBytes xs → AllBytes ys → AllBytes (list.merged ps xs ys)
bytes_merged (true ∷ ps) (x ∷ xs) (y ∷ ys) h k = (k.0, bytes_merged ps xs ys h.1 k.1)
bytes_merged (false ∷ ps) (x ∷ xs) (y ∷ ys) h k = (h.0, bytes_merged ps xs ys h.1 k.1)
bytes_merged ps xs ys h k = tt

get_merged : (ps : List Bool) (xs ys : List ℕ) (e : ℕ) → e < length ps → length xs ≡ length ps → length ys ≡ length ps
    → get_or (list.merged ps xs ys) e 0 ≡ cond (get_or ps e false) (get_or ys e 0) (get_or xs e 0)
get_merged (p ∷ ps) (x ∷ xs) (y ∷ ys) zero l h k = refl
get_merged (p ∷ ps) (x ∷ xs) (y ∷ ys) (suc e) l h k = get_merged ps xs ys e (omega arith) (omega arith) (omega arith)
get_merged ps xs ys e l h k = absurd (omega arith)

word_step : (p : Bool) (ps : List Bool) (a b c d e f g h : ℕ) (xs ys : List ℕ)
    → words (list.merged (filled Word ps) xs ys) ≡ list.merged ps (words xs) (words ys)
    → words (list.merged (filled Word (p ∷ ps)) (a ∷ b ∷ c ∷ d ∷ xs) (e ∷ f ∷ g ∷ h ∷ ys))
    ≡ list.merged (p ∷ ps) (words (a ∷ b ∷ c ∷ d ∷ xs)) (words (e ∷ f ∷ g ∷ h ∷ ys))
word_step true ps a b c d e f g h xs ys i = ap (λ (l : List ℕ). (e + 256 * f + 65536 * g + 16777216 * h) ∷ l) i
word_step false ps a b c d e f g h xs ys i = ap (λ (l : List ℕ). (a + 256 * b + 65536 * c + 16777216 * d) ∷ l) i

merged_words : (ps : List Bool) (xs ys : List ℕ) → length xs ≡ 4 * length ps → length ys ≡ 4 * length ps
    → words (list.merged (filled Word ps) xs ys) ≡ list.merged ps (words xs) (words ys)
merged_words [] xs ys h k = refl
merged_words (p ∷ ps) xs ys h k =
    let f = front xs (4 * length ps) (omega arith) in
    let g = front ys (4 * length ps) (omega arith) in
    subst (λ (x : List ℕ). words (list.merged (filled Word (p ∷ ps)) x ys) ≡ list.merged (p ∷ ps) (words x) (words ys)) (sym f.is)
    (subst (λ (y : List ℕ). words (list.merged (filled Word (p ∷ ps)) (f.a ∷ f.b ∷ f.c ∷ f.d ∷ f.rest) y)
    ≡ list.merged (p ∷ ps) (words (f.a ∷ f.b ∷ f.c ∷ f.d ∷ f.rest)) (words y)) (sym g.is)
    (word_step p ps f.a f.b f.c f.d g.a g.b g.c g.d f.rest g.rest (merged_words ps f.rest g.rest f.count g.count)))

merged_halves : (ps : List Bool) (xs ys : List ℕ) → length xs ≡ 2 * length ps → length ys ≡ 2 * length ps
    → halves (list.merged (filled Half ps) xs ys) ≡ list.merged ps (halves xs) (halves ys)
merged_halves [] xs ys h k = refl
merged_halves (true ∷ ps) (a ∷ b ∷ xs) (c ∷ d ∷ ys) h k = ap (λ (l : List ℕ). (c + 256 * d) ∷ l) (merged_halves ps xs ys (omega arith) (omega arith))
merged_halves (false ∷ ps) (a ∷ b ∷ xs) (c ∷ d ∷ ys) h k = ap (λ (l : List ℕ). (a + 256 * b) ∷ l) (merged_halves ps xs ys (omega arith) (omega arith))
merged_halves ps xs ys h k = absurd (omega arith)

length_words : (n : ℕ) (xs : List ℕ) → length xs ≡ 4 * n → length (words xs) ≡ n
length_words zero [] h = refl
length_words zero (x ∷ xs) h = absurd (omega arith)
length_words (suc n) xs h =
    let f = front xs (4 * n) (omega arith) in
    ap (λ (x : List ℕ). length (words x)) f.is ∙ ap suc (length_words n f.rest f.count)

length_halves : (n : ℕ) (xs : List ℕ) → length xs ≡ 2 * n → length (halves xs) ≡ n
length_halves zero [] h = refl
length_halves (suc n) (x ∷ y ∷ xs) h = ap suc (length_halves n xs (omega arith))
length_halves n xs h = absurd (omega arith)

pub length_lanes : (t : ElementType) (xs : List ℕ) → length xs ≡ 16 → length (list.lanes (size_of_type t) xs) ≡ lanes t
length_lanes U8 xs h = h
length_lanes S8 xs h = h
length_lanes U16 xs h = length_halves 8 xs h
length_lanes S16 xs h = length_halves 8 xs h
length_lanes U32 xs h = length_words 4 xs h
length_lanes S32 xs h = length_words 4 xs h

merged_lanes : (t : ElementType) (ps : List Bool) (xs ys : List ℕ) → length ps ≡ lanes t → length xs ≡ 16 → length ys ≡ 16
    → list.lanes (size_of_type t) (list.merged (filled (size_of_type t) ps) xs ys)
    ≡ list.merged ps (list.lanes (size_of_type t) xs) (list.lanes (size_of_type t) ys)
merged_lanes U8 ps xs ys e h k = refl
merged_lanes S8 ps xs ys e h k = refl
merged_lanes U16 ps xs ys e h k = merged_halves ps xs ys (omega arith) (omega arith)
merged_lanes S16 ps xs ys e h k = merged_halves ps xs ys (omega arith) (omega arith)
merged_lanes U32 ps xs ys e h k = merged_words ps xs ys (omega arith) (omega arith)
merged_lanes S32 ps xs ys e h k = merged_words ps xs ys (omega arith) (omega arith)

bytes_word : (x : ℕ) (xs : List ℕ) → AllBytes xs → AllBytes (bytes_of x ++ xs)
bytes_word x xs h = (omega arith, (omega arith, (omega arith, (omega arith, h))))

pub bytes_register : (q : ℕ) (s : State) → AllBytes (register_at q s)
bytes_register q s =
    let w = λ (b : ℕ). bytes_of (at (word_place q b) s) in
    bytes_word (at (word_place q 0) s) (w 1 ++ (w 2 ++ (w 3 ++ [])))
    (bytes_word (at (word_place q 1) s) (w 2 ++ (w 3 ++ [])) (bytes_word (at (word_place q 2) s) (w 3 ++ []) (bytes_word (at (word_place q 3) s) [] tt)))

-- A REGISTER THAT MERGES new bytes: its elements that are left are new, and all else stays
module _ (t : ElementType) (left q : ℕ) (new : List ℕ) (s : State) (m01 : at Mask01 s ≡ 0) (m23 : at Mask23 s ≡ 0) (size : at Ltp s ≡ size_code t)
    (is_left : at (R 14) s ≡ left) (count : length new ≡ 16) (fits : AllBytes new) where
  abbrev pub merging : List ℕ
  merging = list.merged (predicate_at s) (register_at q s) new

  pub merging_count : length merging ≡ 16
  merging_count = length_merged (predicate_at s) (register_at q s) new refl count

  pub merging_fits : AllBytes merging
  merging_fits = bytes_merged (predicate_at s) (register_at q s) new (bytes_register q s) fits

  pub element_merged : (e : ℕ) → e < lanes t
      → element_at t q e (put_all cells (write_register q merging) s) ≡ cond (ltb e left) (get_or (list.lanes (size_of_type t) new) e 0) (element_at t q e s)
  element_merged e l =
      let z = size_of_type t in
      let ps = tails left 0 (lanes t) in
      let many = length_tails left 0 (lanes t) in
      let old = list.lanes z (register_at q s) in
      let given = list.lanes z new in
      let here : e < length ps = omega arith in
      ap (λ (x : List ℕ). get_or (list.lanes z x) e 0)
      (register_put q merging s merging_count merging_fits
      ∙ ap (λ (x : List Bool). list.merged x (register_at q s) new) (predicate_is t left s m01 m23 size is_left))
      ∙ ap (λ (x : List ℕ). get_or x e 0) (merged_lanes t ps (register_at q s) new many refl count)
      ∙ get_merged ps old given e here (length_lanes t (register_at q s) refl ∙ sym many) (length_lanes t new count ∙ sym many)
      ∙ ap (λ (x : Bool). cond x (get_or given e 0) (get_or old e 0))
      (get_tails left 0 (lanes t) e l ∙ (let z0 : 0 + e ≡ e = omega arith in ap (λ (x : ℕ). ltb x left) z0))
