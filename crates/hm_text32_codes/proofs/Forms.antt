-- The shapes of rows' texts: their mnemonics, what their operands are as numbers, and that they are printed and read back.
use Rattle.std.proofs.Common.{◌≡◌, ℕ, ◌^◌, ◌<◌, ◌≤◌, Bool, true, false, eqb, List, [], ◌∷◌, ◌++◌, refl, subst, ap, inl, inr, ◌∙◌, arith}
use Rattle.std.proofs.lemmas.List.{append-nil}
use Rattle.std.proofs.lemmas.Bool.{agree_below_at, cases_Bool, eqb-true}
use Rattle.std.specs.Prelude.{cond, codes, min, nat_eq}
use Rattle.hm_text_base.specs.Spans.{span}
use Rattle.hm_tokens.proofs.Again.{are_apart}
use Rattle.hm_tokens.proofs.Ranges.{has_no_ranges, normal_same}
use Rattle.hm_tokens.specs.Ranges.{normal}
use Rattle.hm_tokens.specs.Names.{condition_name, register_name, vector_name}
use Rattle.hm_tokens.specs.Tokens.{Tok, word, comma, point}
use Rattle.hm_text32_codes.specs.declared.operands.Operands.{Operands}
use Rattle.hm_text32_codes.specs.Asked.{given_all}
use Rattle.hm_text32_codes.specs.Operands.{operands_in, read_wide_operands, wide_word_value}
use Rattle.hm_text_rows.specs.Operands.{bits_of, braced, first_word, is_vector_name, size_of}
use Rattle.hm_text32_rows.specs.Mnemonics.{shift_mnemonic, wide}
use Rattle.hm_text_rows.specs.Mnemonics.{element_suffix}
use Rattle.hm_text_rows.specs.Shapes.{and_constant, and_operand, and_shift, constant, four, one, three, two}
use Rattle.hm_text_rows.proofs.Words.{◌▹◌, below_holds, below_is, cut, is_name, is_mnemonic, is_suffix, word_q, word_r}
use Rattle.hm_text_rows.proofs.Printed.{AreShort, IsPrinted, IsShort, is_printed_as, room, short_comma, short_hash, short_number, short_word}

-- the mnemonic of tokens
abbrev pub mnemonic_in : List Tok → List ℕ
mnemonic_in ts = (span point (first_word ts)).0

-- tokens with this mnemonic and these operands, which are printed and read back
pub record Reads (ts : List Tok) (s : List ℕ) (o : Operands) : Type 0 where
  pub mnemonic : mnemonic_in ts ≡ s
  pub gives : operands_in ts ≡ o
  pub prints : IsPrinted ts

-- whether the second and the third are numbers, whether there are operands, the size, whether the first is a vector register
abbrev pub given_with : Bool → Bool → Bool → ℕ → Bool → ℕ → ℕ → ℕ → ℕ → ℕ → Operands
given_with second third bare z vector a b c e g = given_all bare false z vector second third a b c e g 1 1 0

-- with no number for the second and third, with one for the third, for the second, and for both
abbrev pub words_as : Bool → ℕ → Bool → ℕ → ℕ → ℕ → ℕ → ℕ → Operands
words_as = given_with false false

abbrev pub numbered_as : Bool → ℕ → Bool → ℕ → ℕ → ℕ → ℕ → ℕ → Operands
numbered_as = given_with false true

abbrev pub second_numbered_as : Bool → ℕ → Bool → ℕ → ℕ → ℕ → ℕ → ℕ → Operands
second_numbered_as = given_with true false

abbrev pub both_numbered_as : Bool → ℕ → Bool → ℕ → ℕ → ℕ → ℕ → ℕ → Operands
both_numbered_as = given_with true true

-- SUFFIXES
pub record Suffix (suffix : List ℕ) (z : ℕ) : Type 0 where
  pub is : is_suffix suffix ≡ true
  pub size : size_of suffix ≡ z

pub no_suffix : Suffix [] 0
unfolding size_of
no_suffix = record { is = refl; size = refl }

pub suffix_wide : Suffix wide 0
unfolding size_of
suffix_wide = record { is = refl; size = refl }

pub suffix_words : Suffix (codes ".32") 2
unfolding size_of
suffix_words = record { is = refl; size = refl }

pub suffix_element : (z : ℕ) → z < 4 → Suffix (element_suffix z) z
unfolding size_of
suffix_element z lt = record {
  is = below_holds (λ j. is_suffix (element_suffix j)) 4 z refl lt;
  size = below_is (λ j. size_of (element_suffix j)) (λ j. j) 4 z refl lt;
}

-- WORDS
-- a word that is an operand: its number, and whether it is a vector register
pub record Operand (w : List ℕ) (n : ℕ) (b : Bool) : Type 0 where
  pub value : wide_word_value w ≡ n
  pub vector : is_vector_name w ≡ b
  pub is : is_name w ≡ true

pub short : {w : List ℕ} {n : ℕ} {b : Bool} → Operand w n b → IsShort (word w)
short {w} o = short_word w o.is

pub a_register : (n : ℕ) → n < 16 → Operand (register_name n) n false
unfolding wide_word_value is_vector_name
a_register n lt = record {
  value = below_is (λ k. wide_word_value (register_name k)) (λ k. k) 16 n refl lt;
  vector = agree_below_at (λ k. is_vector_name (register_name k)) (λ k. false) 16 n refl lt;
  is = word_r n lt;
}

pub a_vector : (d : ℕ) → d < 8 → Operand (vector_name d) d true
unfolding wide_word_value is_vector_name
a_vector d lt = record {
  value = below_is (λ k. wide_word_value (vector_name k)) (λ k. k) 8 d refl lt;
  vector = below_holds (λ k. is_vector_name (vector_name k)) 8 d refl lt;
  is = word_q d lt;
}

abbrev pub zero_name : ℕ → List ℕ
zero_name n = cond (nat_eq n 15) (codes "zr") (register_name n)

pub a_register_or_zero : (n : ℕ) → n < 16 → Operand (zero_name n) n false
unfolding wide_word_value is_vector_name
a_register_or_zero n lt = record {
  value = below_is (λ j. wide_word_value (zero_name j)) (λ j. j) 16 n refl lt;
  vector = agree_below_at (λ j. is_vector_name (zero_name j)) (λ j. false) 16 n refl lt;
  is = below_holds (λ j. is_name (zero_name j)) 16 n refl lt;
}

pub a_condition : (c : ℕ) → c < 14 → Operand (condition_name c) c false
unfolding wide_word_value is_vector_name
a_condition c lt = record {
  value = below_is (λ j. wide_word_value (condition_name j)) (λ j. j) 14 c refl lt;
  vector = agree_below_at (λ j. is_vector_name (condition_name j)) (λ j. false) 14 c refl lt;
  is = below_holds (λ j. is_name (condition_name j)) 14 c refl lt;
}

pub a_kind : (ty : ℕ) → ty < 4 → Operand (shift_mnemonic ty) ty false
unfolding wide_word_value is_vector_name
a_kind ty lt = record {
  value = below_is (λ j. wide_word_value (shift_mnemonic j)) (λ j. j) 4 ty refl lt;
  vector = agree_below_at (λ j. is_vector_name (shift_mnemonic j)) (λ j. false) 4 ty refl lt;
  is = below_holds (λ j. is_name (shift_mnemonic j)) 4 ty refl lt;
}

-- SHAPES
-- the mnemonic of tokens, the first of which is this with a suffix
pub the_mnemonic : (s f : List ℕ) (ts : List Tok) → is_mnemonic s ≡ true → is_suffix f ≡ true → mnemonic_in (word (s ++ f) ∷ ts) ≡ s
the_mnemonic s f ts mnemonic suffix = ap (λ (p : List ℕ × List ℕ). p.0) (cut s f mnemonic suffix)

-- tokens behind a mnemonic and a suffix: where they are short, and what they give
pub reads_as : (s f : List ℕ) (ts : List Tok) (o : Operands) → is_mnemonic s ≡ true → is_suffix f ≡ true → AreShort ts → are_apart ts ≡ true → room ts ≤ 78
    → normal (word (s ++ f) ∷ ts) ≡ word (s ++ f) ∷ ts → read_wide_operands f (word (s ++ f) ∷ ts) ≡ o → Reads (word (s ++ f) ∷ ts) s o
reads_as s f ts o mnemonic suffix short apart le same gives = record {
  mnemonic = the_mnemonic s f ts mnemonic suffix;
  gives = ap (λ (p : List ℕ × List ℕ). read_wide_operands p.1 (word (s ++ f) ∷ ts)) (cut s f mnemonic suffix) ∙ gives;
  prints = is_printed_as s f ts mnemonic suffix short apart le same;
}

-- and have no minus sign
pub reads : (s f : List ℕ) (ts : List Tok) (o : Operands) → is_mnemonic s ≡ true → is_suffix f ≡ true → AreShort ts → are_apart ts ≡ true → room ts ≤ 78
    → has_no_ranges ts ≡ true → read_wide_operands f (word (s ++ f) ∷ ts) ≡ o → Reads (word (s ++ f) ∷ ts) s o
reads s f ts o mnemonic suffix short apart le none gives =
    reads_as s f ts o mnemonic suffix short apart le (normal_same (word (s ++ f) ∷ ts) none) gives

pub min_small : (n : ℕ) → n < 2 ^ 32 → min n 0xffff_ffff ≡ n
min_small n lt = omega arith

pub reads_none : (s f : List ℕ) (z : ℕ) → is_mnemonic s ≡ true → Suffix f z → Reads (word (s ++ f) ∷ []) s (words_as true z false 0 0 0 0 0)
unfolding bits_of braced
reads_none s f z mnemonic g = reads s f _ _ mnemonic g.is tt refl (omega arith) refl (rw (g.size) refl)

pub reads_constant : (s f : List ℕ) (z x : ℕ) → is_mnemonic s ≡ true → Suffix f z → x < 2 ^ 32
    → Reads (word (s ++ f) ∷ constant x) s (words_as false z false x 0 0 0 0)
unfolding bits_of braced
reads_constant s f z x mnemonic g hx =
    reads s f _ _ mnemonic g.is (short_hash ▹ short_number x hx ▹ tt) refl (omega arith) refl (rw (g.size, min_small x hx) refl)

pub reads_two : (s f w x : List ℕ) (b c : Bool) (z m n : ℕ) → is_mnemonic s ≡ true → Suffix f z → Operand w m b → Operand x n c
    → Reads (two (s ++ f) (word w) (word x)) s (words_as false z b m n 0 0 0)
unfolding bits_of braced
reads_two s f w x b c z m n mnemonic g p o =
    reads s f _ _ mnemonic g.is (short p ▹ short_comma ▹ short o ▹ tt) refl (omega arith) refl (rw (g.size, p.vector, p.value, o.value) refl)

pub reads_three : (s f w x y : List ℕ) (b c e : Bool) (z m n l : ℕ) → is_mnemonic s ≡ true → Suffix f z → Operand w m b → Operand x n c → Operand y l e
    → Reads (three (s ++ f) (word w) (word x) (word y)) s (words_as false z b m n l 0 0)
unfolding bits_of braced
reads_three s f w x y b c e z m n l mnemonic g p o t =
    reads s f _ _ mnemonic g.is (short p ▹ short_comma ▹ short o ▹ short_comma ▹ short t ▹ tt) refl (omega arith) refl
    (rw (g.size, p.vector, p.value, o.value, t.value) refl)

pub reads_four : (s f w x y v : List ℕ) (b c e h : Bool) (z m n l k : ℕ) → is_mnemonic s ≡ true → Suffix f z → Operand w m b → Operand x n c → Operand y l e
    → Operand v k h
    → Reads (four (s ++ f) (word w) (word x) (word y) (word v)) s (words_as false z b m n l k 0)
unfolding bits_of braced
reads_four s f w x y v b c e h z m n l k mnemonic g p o t i =
    reads s f _ _ mnemonic g.is (short p ▹ short_comma ▹ short o ▹ short_comma ▹ short t ▹ short_comma ▹ short i ▹ tt) refl (omega arith) refl
    (rw (g.size, p.vector, p.value, o.value, t.value, i.value) refl)

pub reads_one_constant : (s f w : List ℕ) (b : Bool) (z m x : ℕ) → is_mnemonic s ≡ true → Suffix f z → Operand w m b → x < 2 ^ 32
    → Reads (and_constant (one (s ++ f) (word w)) x) s (second_numbered_as false z b m x 0 0 0)
unfolding bits_of braced
reads_one_constant s f w b z m x mnemonic g p hx =
    reads s f _ _ mnemonic g.is (short p ▹ short_comma ▹ short_hash ▹ short_number x hx ▹ tt) refl (omega arith) refl
    (rw (g.size, p.vector, p.value, min_small x hx) refl)

pub reads_two_constant : (s f w x : List ℕ) (b c : Bool) (z m n k : ℕ) → is_mnemonic s ≡ true → Suffix f z → Operand w m b → Operand x n c → k < 2 ^ 32
    → Reads (and_constant (two (s ++ f) (word w) (word x)) k) s (numbered_as false z b m n k 0 0)
unfolding bits_of braced
reads_two_constant s f w x b c z m n k mnemonic g p o hk =
    reads s f _ _ mnemonic g.is (short p ▹ short_comma ▹ short o ▹ short_comma ▹ short_hash ▹ short_number k hk ▹ tt) refl (omega arith) refl
    (rw (g.size, p.vector, p.value, o.value, min_small k hk) refl)

pub reads_one_constants : (s f w : List ℕ) (b : Bool) (z m x y : ℕ) → is_mnemonic s ≡ true → Suffix f z → Operand w m b → x < 2 ^ 32 → y < 2 ^ 32
    → Reads (and_constant (and_constant (one (s ++ f) (word w)) x) y) s (both_numbered_as false z b m x y 0 0)
unfolding bits_of braced
reads_one_constants s f w b z m x y mnemonic g p hx hy =
    reads s f _ _ mnemonic g.is (short p ▹ short_comma ▹ short_hash ▹ short_number x hx ▹ short_comma ▹ short_hash ▹ short_number y hy ▹ tt) refl
    (omega arith) refl (rw (g.size, p.vector, p.value, min_small x hx, min_small y hy) refl)

pub reads_two_constants : (s f w x : List ℕ) (b c : Bool) (z m n k l : ℕ) → is_mnemonic s ≡ true → Suffix f z → Operand w m b → Operand x n c → k < 2 ^ 32
    → l < 2 ^ 32
    → Reads (and_constant (and_constant (two (s ++ f) (word w) (word x)) k) l) s (numbered_as false z b m n k l 0)
unfolding bits_of braced
reads_two_constants s f w x b c z m n k l mnemonic g p o hk hl =
    reads s f _ _ mnemonic g.is
    (short p ▹ short_comma ▹ short o ▹ short_comma ▹ short_hash ▹ short_number k hk ▹ short_comma ▹ short_hash ▹ short_number l hl ▹ tt) refl (omega arith)
    refl (rw (g.size, p.vector, p.value, o.value, min_small k hk, min_small l hl) refl)

-- a shift by 0 is not written
abbrev pub kind_given : ℕ → ℕ → ℕ
kind_given v k = cond (nat_eq k 0) 0 v

reads_two_shifted : (s f w x kind : List ℕ) (b c h : Bool) (z m n v k : ℕ) → is_mnemonic s ≡ true → Suffix f z → Operand w m b → Operand x n c
    → Operand kind v h
    → k < 2 ^ 32
    → Reads (two (s ++ f) (word w) (word x) ++ comma ∷ word kind ∷ constant k) s (words_as false z b m n v k 0)
unfolding bits_of braced
reads_two_shifted s f w x kind b c h z m n v k mnemonic g p o t hk =
    reads s f _ _ mnemonic g.is (short p ▹ short_comma ▹ short o ▹ short_comma ▹ short t ▹ short_hash ▹ short_number k hk ▹ tt) refl (omega arith) refl
    (rw (g.size, p.vector, p.value, o.value, t.value, min_small k hk) refl)

pub reads_two_shift : (s f w x kind : List ℕ) (b c h : Bool) (z m n v k : ℕ) → is_mnemonic s ≡ true → Suffix f z → Operand w m b → Operand x n c
    → Operand kind v h
    → k < 2 ^ 32
    → Reads (and_shift (two (s ++ f) (word w) (word x)) kind k) s (words_as false z b m n (kind_given v k) k 0)
reads_two_shift s f w x kind b c h z m n v k mnemonic g p o t hk =
    elim (cases_Bool (eqb k 0)) [
      | inl e ↦ rw (eqb-true k 0 e) (reads_two s f w x b c z m n mnemonic g p o)
      | inr e ↦ rw e (reads_two_shifted s f w x kind b c h z m n v k mnemonic g p o t hk)
    ]

abbrev saturated : List ℕ → List ℕ → ℕ → List ℕ → List Tok
saturated name w l x = and_operand (and_constant (one name (word w)) l) (word x)

pub reads_saturate : (s f w x kind : List ℕ) (b c h : Bool) (z m n l v k : ℕ) → is_mnemonic s ≡ true → Suffix f z → Operand w m b → l < 2 ^ 32 → Operand x n c
    → Operand kind v h → k < 2 ^ 32
    → Reads (saturated (s ++ f) w l x ++ comma ∷ word kind ∷ constant k) s (second_numbered_as false z b m l n v k)
unfolding bits_of braced
reads_saturate s f w x kind b c h z m n l v k mnemonic g p hl o t hk =
    reads s f _ _ mnemonic g.is
    (short p ▹ short_comma ▹ short_hash ▹ short_number l hl ▹ short_comma ▹ short o ▹ short_comma ▹ short t ▹ short_hash ▹ short_number k hk ▹ tt) refl
    (omega arith) refl (rw (g.size, p.vector, p.value, o.value, t.value, min_small l hl, min_small k hk) refl)

-- with no suffix
pub bare : (s : List ℕ) (ts : List Tok) (o : Operands) → Reads (word (s ++ []) ∷ ts) s o → Reads (word s ∷ ts) s o
bare s ts o reads_ = subst (λ (name : List ℕ). Reads (word name ∷ ts) s o) (append-nil s) reads_

-- a register that is shifted
reads_three_shifted : (s f w x y kind : List ℕ) (b c e h : Bool) (z m n l v k : ℕ) → is_mnemonic s ≡ true → Suffix f z → Operand w m b → Operand x n c
    → Operand y l e → Operand kind v h → k < 2 ^ 32
    → Reads (three (s ++ f) (word w) (word x) (word y) ++ comma ∷ word kind ∷ constant k) s (words_as false z b m n l v k)
unfolding bits_of braced
reads_three_shifted s f w x y kind b c e h z m n l v k mnemonic g p o i t hk =
    reads s f _ _ mnemonic g.is (short p ▹ short_comma ▹ short o ▹ short_comma ▹ short i ▹ short_comma ▹ short t ▹ short_hash ▹ short_number k hk ▹ tt) refl
    (omega arith) refl (rw (g.size, p.vector, p.value, o.value, i.value, t.value, min_small k hk) refl)

pub reads_three_shift : (s f w x y kind : List ℕ) (b c e h : Bool) (z m n l v k : ℕ) → is_mnemonic s ≡ true → Suffix f z → Operand w m b → Operand x n c
    → Operand y l e → Operand kind v h → k < 2 ^ 32
    → Reads (and_shift (three (s ++ f) (word w) (word x) (word y)) kind k) s (words_as false z b m n l (kind_given v k) k)
reads_three_shift s f w x y kind b c e h z m n l v k mnemonic g p o i t hk =
    elim (cases_Bool (eqb k 0)) [
      | inl is ↦ rw (eqb-true k 0 is) (reads_three s f w x y b c e z m n l mnemonic g p o i)
      | inr is ↦ rw is (reads_three_shifted s f w x y kind b c e h z m n l v k mnemonic g p o i t hk)
    ]
