-- The shapes of rows' texts: what their operands are as numbers, and that they are printed and read back.
use Rattle.std.proofs.Common.{◌≡◌, ℕ, ◌<◌, true, List, [], ◌∷◌, ◌++◌, refl, arith}
use Rattle.std.specs.Prelude.{min}
use Rattle.hm_tokens.specs.Tokens.{Tok, word, number, mark, comma}
use Rattle.hm_text_rows.specs.Labels.{IsLabel}
use Rattle.hm_text_rows.specs.Operands.{bits_of, braced}
use Rattle.hm_text_rows.specs.Shapes.{and_constant, constant, one, three, two}
use Rattle.hm_text_rows.proofs.Printed.{IsPrinted, IsPrintedAt, IsShort, is_printed_bare, is_printed_bare_at, short_close, short_comma, short_hash}
use Rattle.hm_text_rows.proofs.Printed.{short_number, short_open, short_word}
use Rattle.hm_text_rows.proofs.Words.{◌▹◌, is_mnemonic}
use Rattle.hm_text16_codes.specs.declared.operands.Kind.TheVariants as kinds
use Rattle.hm_text16_codes.specs.declared.operands.Operands.{Operands}
use Rattle.hm_text16_codes.specs.Asked.{one_given, three_given, two_given}
use Rattle.hm_text16_codes.specs.Operands.{kind_of, read_narrow_operands, narrow_value}
use Rattle.hm_text16_rows.specs.Rows.{by_number, by_register}
use Rattle.hm_text16_codes.proofs.Words.{Operand, a_register}

-- tokens with these operands
pub record Reads (ts : List Tok) (o : Operands) : Type 0 where
  pub gives : read_narrow_operands ts ≡ o
  pub prints : IsPrinted ts

short_small : (n : ℕ) → n < 10000 → IsShort (number n)
short_small n lt = short_number n (omega (arith, lt))

min_small : (n : ℕ) → n < 10000 → min n 0xffff_ffff ≡ n
min_small n lt = omega arith

pub reads_none : (s : List ℕ) → is_mnemonic s ≡ true → Reads (word s ∷ []) (one_given 0)
unfolding bits_of braced
reads_none s mnemonic = record {
  gives = refl;
  prints = is_printed_bare s [] mnemonic tt refl (omega arith) refl;
}

pub reads_one : (s w : List ℕ) (m : ℕ) → is_mnemonic s ≡ true → Operand w m → Reads (one s (word w)) (one_given m)
unfolding bits_of braced
reads_one s w m mnemonic p = record {
  gives = rw (p.value) refl;
  prints = is_printed_bare s _ mnemonic (short_word w p.is, tt) refl (omega arith) refl;
}

pub reads_constant : (s : List ℕ) (k : ℕ) → is_mnemonic s ≡ true → k < 10000 → Reads (word s ∷ constant k) (one_given k)
unfolding bits_of braced
reads_constant s k mnemonic lt = record {
  gives = rw (min_small k lt) refl;
  prints = is_printed_bare s _ mnemonic (short_hash ▹ short_small k lt ▹ tt) refl (omega arith) refl;
}

pub reads_one_constant : (s w : List ℕ) (m k : ℕ) → is_mnemonic s ≡ true → Operand w m → k < 10000
    → Reads (and_constant (one s (word w)) k) (two_given m k kinds.Number)
unfolding bits_of braced
reads_one_constant s w m k mnemonic p lt = record {
  gives = rw (p.value, min_small k lt) refl;
  prints = is_printed_bare s _ mnemonic (short_word w p.is ▹ short_comma ▹ short_hash ▹ short_small k lt ▹ tt) refl (omega arith) refl;
}

pub reads_two : (s w x : List ℕ) (m n : ℕ) → is_mnemonic s ≡ true → Operand w m → Operand x n
    → Reads (two s (word w) (word x)) (two_given m n kinds.Word)
unfolding bits_of braced
reads_two s w x m n mnemonic p o = record {
  gives = rw (p.value, o.value) refl;
  prints = is_printed_bare s _ mnemonic (short_word w p.is ▹ short_comma ▹ short_word x o.is ▹ tt) refl (omega arith) refl;
}

pub reads_two_constant : (s w x : List ℕ) (m n k : ℕ) → is_mnemonic s ≡ true → Operand w m → Operand x n → k < 10000
    → Reads (and_constant (two s (word w) (word x)) k) (three_given m n k kinds.Number)
unfolding bits_of braced
reads_two_constant s w x m n k mnemonic p o lt = record {
  gives = rw (p.value, o.value, min_small k lt) refl;
  prints =
      is_printed_bare s _ mnemonic (short_word w p.is ▹ short_comma ▹ short_word x o.is ▹ short_comma ▹ short_hash ▹ short_small k lt ▹ tt)
      refl (omega arith) refl;
}

pub reads_three : (s w x y : List ℕ) (m n l : ℕ) → is_mnemonic s ≡ true → Operand w m → Operand x n → Operand y l
    → Reads (three s (word w) (word x) (word y)) (three_given m n l kinds.Word)
unfolding bits_of braced
reads_three s w x y m n l mnemonic p o q = record {
  gives = rw (p.value, o.value, q.value) refl;
  prints = is_printed_bare s _ mnemonic (short_word w p.is ▹ short_comma ▹ short_word x o.is ▹ short_comma ▹ short_word y q.is ▹ tt) refl (omega arith) refl;
}

pub reads_by_register : (s : List ℕ) (t n m : ℕ) → is_mnemonic s ≡ true → t < 16 → n < 16 → m < 16
    → Reads (by_register s t n m) (three_given t n m kinds.Word)
unfolding bits_of braced
reads_by_register s t n m mnemonic ht hn hm =
    let p = a_register t ht in
    let o = a_register n hn in
    let q = a_register m hm in
    record {
      gives = rw (p.value, o.value, q.value) refl;
      prints =
          is_printed_bare s _ mnemonic
          (short_word _ p.is ▹ short_comma ▹ short_open ▹ short_word _ o.is ▹ short_comma ▹ short_word _ q.is ▹ short_close ▹ tt)
          refl (omega arith) refl;
    }

pub reads_by_number : (s : List ℕ) (t n k : ℕ) → is_mnemonic s ≡ true → t < 16 → n < 16 → k < 10000
    → Reads (by_number s t n k) (three_given t n k kinds.Number)
unfolding bits_of braced
reads_by_number s t n k mnemonic ht hn lt =
    let p = a_register t ht in
    let o = a_register n hn in
    record {
      gives = rw (p.value, o.value, min_small k lt) refl;
      prints =
          is_printed_bare s _ mnemonic
          (short_word _ p.is ▹ short_comma ▹ short_open ▹ short_word _ o.is ▹ short_comma ▹ short_hash ▹ short_small k lt ▹ short_close ▹ tt)
          refl (omega arith) refl;
    }

-- ---- with a label behind

pub record ReadsAt (ts : List Tok) (o : Tok → Operands) : Type 0 where
  pub gives : (t : Tok) → IsLabel t → read_narrow_operands (ts ++ t ∷ []) ≡ o t
  pub prints : IsPrintedAt ts

label_gives : (s : List ℕ) (t : Tok) → IsLabel t → read_narrow_operands (word s ∷ t ∷ []) ≡ one_given (narrow_value t)
unfolding bits_of braced
label_gives s (word v) is = refl
label_gives s (number n) is = refl
label_gives s (mark c) is = absurd is

pub reads_label : (s : List ℕ) → is_mnemonic s ≡ true → ReadsAt (word s ∷ []) (λ t. one_given (narrow_value t))
reads_label s mnemonic = record {
  gives = label_gives s;
  prints = is_printed_bare_at s [] mnemonic tt refl refl (omega arith) refl;
}

register_label_gives : (s w : List ℕ) (m : ℕ) → Operand w m → (t : Tok) → IsLabel t
    → read_narrow_operands (word s ∷ word w ∷ comma ∷ t ∷ []) ≡ two_given m (narrow_value t) (kind_of t)
unfolding bits_of braced
register_label_gives s w m p (word v) is = rw (p.value) refl
register_label_gives s w m p (number n) is = rw (p.value) refl
register_label_gives s w m p (mark c) is = absurd is

pub reads_register_label : (s w : List ℕ) (m : ℕ) → is_mnemonic s ≡ true → Operand w m
    → ReadsAt (word s ∷ word w ∷ comma ∷ []) (λ t. two_given m (narrow_value t) (kind_of t))
reads_register_label s w m mnemonic p = record {
  gives = register_label_gives s w m p;
  prints = is_printed_bare_at s _ mnemonic (short_word w p.is ▹ short_comma ▹ tt) refl refl (omega arith) refl;
}
