-- The shapes of rows' texts: their mnemonics and what their operands are as numbers, and that they are printed and read back.
use Rattle.std.proofs.Common.{◌≡◌, ℕ, ◌+◌, ◌*◌, ◌<◌, Bool, true, false, cond, eqb, List, [], ◌∷◌, ◌++◌, refl, ap, subst, arith}
use Rattle.std.proofs.lemmas.Bool.{agree_below, agree_below_at}
use Rattle.std.proofs.lemmas.List.{append-nil}
use Rattle.std.specs.Prelude.{codes, min, nat_eq}
use Rattle.hm_isa.specs.declared.Vector.{Vector}
use Rattle.hm_isa.specs.declared.fields.Below.{Below}
use Rattle.hm_text_base.specs.Spans.{span}
use Rattle.hm_tokens.specs.Names.{register_name, vector_name}
use Rattle.hm_tokens.specs.Tokens.{Tok, word, number, comma, point}
use Rattle.hm_textv_codes.specs.declared.operands.Kind.{Kind}
use Rattle.hm_textv_codes.specs.declared.operands.Kind.TheVariants as kinds
use Rattle.hm_textv_codes.specs.declared.operands.Operands.{Operands}
use Rattle.hm_textv_codes.specs.Asked.{given, mnemonic_of, operands_of}
use Rattle.hm_textv_codes.specs.Operands.{kind_by, read_vector_operands, vector_word_value}
use Rattle.hm_text_rows.specs.Operands.{first_word, is_vector_name}
use Rattle.hm_text_rows.specs.Shapes.{and_constant, constant, four, three, two}
use Rattle.hm_text_rows.proofs.Words.{◌▹◌, below_holds, below_is, cut, is_name, is_mnemonic}
use Rattle.hm_text_rows.proofs.Printed.{IsReadBack, IsShort, is_read_back, short_comma, short_hash, short_number, short_word}
use Rattle.hm_textv_rows.specs.Mnemonics.{compare_condition}
use Rattle.hm_textv_rows.specs.Rows.{shifted, tokens_of}
use Rattle.hm_textv_codes.proofs.Endings.{Suffix}

-- the mnemonic of tokens, which is their first word up to its point, and their operands
abbrev pub read_text : List Tok → List ℕ × Operands
read_text ts = ((span point (first_word ts)).0, read_vector_operands (span point (first_word ts)).1 ts)

-- tokens with this mnemonic and these operands
pub record Reads (ts : List Tok) (s : List ℕ) (o : Operands) : Type 0 where
  pub gives : read_text ts ≡ (s, o)
  pub prints : IsReadBack ts

-- the text of a row is so with what it gives
abbrev pub RowLaw : Vector → Type 0
RowLaw v = Reads (tokens_of v) (mnemonic_of v) (operands_of v)

-- WORDS
-- a word that is an operand: its number, and whether it is a vector register
pub record Operand (w : List ℕ) (n : ℕ) (kind : Kind) : Type 0 where
  pub value : vector_word_value w ≡ n
  pub is_kind : kind_by (is_vector_name w) ≡ kind
  pub is : is_name w ≡ true

-- a word for each number, all of one kind
of_numbers : (f : ℕ → List ℕ) (is_vector : Bool) (n b : ℕ) → agree_below (λ k. eqb (vector_word_value (f k)) k) (λ k. true) n ≡ true
    → agree_below (λ k. is_vector_name (f k)) (λ k. is_vector) n ≡ true → agree_below (λ k. is_name (f k)) (λ k. true) n ≡ true → b < n
    → Operand (f b) b (kind_by is_vector)
of_numbers f is_vector n b value vector is lt = record {
  value = below_is (λ k. vector_word_value (f k)) (λ k. k) n b value lt;
  is_kind = ap kind_by (agree_below_at (λ k. is_vector_name (f k)) (λ k. is_vector) n b vector lt);
  is = below_holds (λ k. is_name (f k)) n b is lt;
}

pub vector_at : (d : ℕ) → d < 8 → Operand (vector_name d) d kinds.Vector
unfolding vector_word_value is_vector_name
vector_at d lt = of_numbers vector_name true 8 d refl refl refl lt

pub a_vector : (d : Below 8) → Operand (vector_name d.value) d.value kinds.Vector
a_vector d = vector_at d.value d.in_range

register_at : (n : ℕ) → n < 16 → Operand (register_name n) n kinds.Word
unfolding vector_word_value is_vector_name
register_at n lt = of_numbers register_name false 16 n refl refl refl lt

pub a_register : (n : Below 16) → Operand (register_name n.value) n.value kinds.Word
a_register n = register_at n.value n.in_range

pub low : (n : Below 8) → Operand (register_name n.value) n.value kinds.Word
low n = register_at n.value (let lt = n.in_range in omega arith)

pub even : (l : Below 8) → Operand (register_name (2 * l.value)) (2 * l.value) kinds.Word
even l = register_at (2 * l.value) (let lt = l.in_range in omega arith)

pub odd : (h : Below 6) → Operand (register_name (2 * h.value + 1)) (2 * h.value + 1) kinds.Word
odd h = register_at (2 * h.value + 1) (let lt = h.in_range in omega arith)

pub a_condition : (c : Below 8) → Operand (compare_condition c.value) c.value kinds.Word
unfolding vector_word_value is_vector_name
a_condition c = of_numbers compare_condition false 8 c.value refl refl refl c.in_range

abbrev zero_name : ℕ → List ℕ
zero_name n = cond (nat_eq n 15) (codes "zr") (register_name n)

pub register_or_zero : (n : Below 16) → Operand (zero_name n.value) n.value kinds.Word
unfolding vector_word_value is_vector_name
register_or_zero n = of_numbers zero_name false 16 n.value refl refl refl n.in_range

-- SHAPES
pub short_small : (n : ℕ) → n < 1000 → IsShort (number n)
short_small n lt = short_number n (omega (arith, lt))

pub min_small : (n : ℕ) → n < 1000 → min n 0xffff_ffff ≡ n
min_small n lt = omega arith

pub reads_none : {s : List ℕ} → is_mnemonic s ≡ true → Suffix [] true 0 0 → Reads (word (s ++ []) ∷ []) s (given true 0 0 kinds.Missing 0 0 0 0)
reads_none {s = s} mnemonic f = record {
  gives = rw (cut s [] mnemonic f.is, f.sign, f.size) refl;
  prints = is_read_back s [] [] mnemonic f.is tt refl (omega arith);
}

pub reads_one : {s f w : List ℕ} {bare : Bool} {u z m : ℕ} {j : Kind} → is_mnemonic s ≡ true → Suffix f bare u z → Operand w m j
    → Reads (word (s ++ f) ∷ word w ∷ []) s (given bare u z kinds.Missing m 0 0 0)
reads_one {s = s} {f = f} {w = w} mnemonic g p = record {
  gives = rw (cut s f mnemonic g.is, g.bare, g.sign, g.size, p.value) refl;
  prints = is_read_back s f _ mnemonic g.is (short_word w p.is, tt) refl (omega arith);
}

pub reads_two : {s f w x : List ℕ} {bare : Bool} {u z m n : ℕ} {j k : Kind} → is_mnemonic s ≡ true → Suffix f bare u z → Operand w m j → Operand x n k
    → Reads (two (s ++ f) (word w) (word x)) s (given bare u z kinds.Missing m n 0 0)
reads_two {s = s} {f = f} {w = w} {x = x} mnemonic g p o = record {
  gives = rw (cut s f mnemonic g.is, g.bare, g.sign, g.size, p.value, o.value) refl;
  prints = is_read_back s f _ mnemonic g.is (short_word w p.is ▹ short_comma ▹ short_word x o.is ▹ tt) refl (omega arith);
}

pub reads_two_constant : {s f w x : List ℕ} {bare : Bool} {u z m n i : ℕ} {j k : Kind} → is_mnemonic s ≡ true → Suffix f bare u z → Operand w m j
    → Operand x n k → i < 1000
    → Reads (and_constant (two (s ++ f) (word w) (word x)) i) s (given bare u z kinds.Number m n i 0)
reads_two_constant {s = s} {f = f} {w = w} {x = x} {i = i} mnemonic g p o lt = record {
  gives = rw (cut s f mnemonic g.is, g.bare, g.sign, g.size, p.value, o.value, min_small i lt) refl;
  prints =
      is_read_back s f _ mnemonic g.is (short_word w p.is ▹ short_comma ▹ short_word x o.is ▹ short_comma ▹ short_hash ▹ short_small i lt ▹ tt) refl
      (omega arith);
}

pub reads_three : {s f w x y : List ℕ} {bare : Bool} {u z m n l : ℕ} {j k kind : Kind} → is_mnemonic s ≡ true → Suffix f bare u z → Operand w m j
    → Operand x n k → Operand y l kind
    → Reads (three (s ++ f) (word w) (word x) (word y)) s (given bare u z kind m n l 0)
reads_three {s = s} {f = f} {w = w} {x = x} {y = y} mnemonic g p o t = record {
  gives = rw (cut s f mnemonic g.is, g.bare, g.sign, g.size, t.is_kind, p.value, o.value, t.value) refl;
  prints =
      is_read_back s f _ mnemonic g.is (short_word w p.is ▹ short_comma ▹ short_word x o.is ▹ short_comma ▹ short_word y t.is ▹ tt) refl (omega arith);
}

pub reads_three_constant : {s f w x y : List ℕ} {bare : Bool} {u z m n l i : ℕ} {j k kind : Kind} → is_mnemonic s ≡ true → Suffix f bare u z → Operand w m j
    → Operand x n k → Operand y l kind → i < 1000
    → Reads (and_constant (three (s ++ f) (word w) (word x) (word y)) i) s (given bare u z kind m n l i)
reads_three_constant {s = s} {f = f} {w = w} {x = x} {y = y} {i = i} mnemonic g p o t lt = record {
  gives = rw (cut s f mnemonic g.is, g.bare, g.sign, g.size, t.is_kind, p.value, o.value, t.value, min_small i lt) refl;
  prints =
      is_read_back s f _ mnemonic g.is
      (short_word w p.is ▹ short_comma ▹ short_word x o.is ▹ short_comma ▹ short_word y t.is ▹ short_comma ▹ short_hash ▹ short_small i lt ▹ tt) refl
      (omega arith);
}

pub reads_four : {s f w x y v : List ℕ} {bare : Bool} {u z m n l i : ℕ} {j k kind h : Kind} → is_mnemonic s ≡ true → Suffix f bare u z → Operand w m j
    → Operand x n k → Operand y l kind → Operand v i h
    → Reads (four (s ++ f) (word w) (word x) (word y) (word v)) s (given bare u z kind m n l i)
reads_four {s = s} {f = f} {w = w} {x = x} {y = y} {v = v} mnemonic g p o t i = record {
  gives = rw (cut s f mnemonic g.is, g.bare, g.sign, g.size, t.is_kind, p.value, o.value, t.value, i.value) refl;
  prints =
      is_read_back s f _ mnemonic g.is
      (short_word w p.is ▹ short_comma ▹ short_word x o.is ▹ short_comma ▹ short_word y t.is ▹ short_comma ▹ short_word v i.is ▹ tt) refl (omega arith);
}

pub reads_constant : {s f w : List ℕ} {bare : Bool} {u z m i : ℕ} {j : Kind} → is_mnemonic s ≡ true → Suffix f bare u z → Operand w m j → i < 1000
    → Reads (word (s ++ f) ∷ word w ∷ comma ∷ constant i) s (given bare u z kinds.Missing m i 0 0)
reads_constant {s = s} {f = f} {w = w} {i = i} mnemonic g p lt = record {
  gives = rw (cut s f mnemonic g.is, g.bare, g.sign, g.size, p.value, min_small i lt) refl;
  prints = is_read_back s f _ mnemonic g.is (short_word w p.is ▹ short_comma ▹ short_hash ▹ short_small i lt ▹ tt) refl (omega arith);
}

pub reads_shifted : {s f v : List ℕ} {bare : Bool} {u z d m i n : ℕ} {j k : Kind} → is_mnemonic s ≡ true → Suffix f bare u z → Operand (vector_name d) d j
    → Operand v m k → i < 1000 → n < 1000
    → Reads (shifted (s ++ f) v n d i) s (given bare u z k d i m n)
reads_shifted {s = s} {f = f} {v = v} {d = d} {i = i} {n = n} mnemonic g p o hi hn = record {
  gives = rw (cut s f mnemonic g.is, g.bare, g.sign, g.size, o.is_kind, p.value, min_small i hi, o.value, min_small n hn) refl;
  prints =
      is_read_back s f _ mnemonic g.is
      (short_word (vector_name d) p.is ▹ short_comma ▹ short_hash ▹ short_small i hi ▹ short_comma ▹ short_word v o.is ▹ short_hash
      ▹ short_small n hn ▹ tt)
      refl (omega arith);
}

-- with no suffix
pub bare : {s : List ℕ} {ts : List Tok} {o : Operands} → Reads (word (s ++ []) ∷ ts) s o → Reads (word s ∷ ts) s o
bare {s = s} {ts = ts} {o = o} reads = subst (λ (name : List ℕ). Reads (word name ∷ ts) s o) (append-nil s) reads
