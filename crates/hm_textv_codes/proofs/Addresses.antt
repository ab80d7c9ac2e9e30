-- The shapes of the texts of loads and stores: what their operands give, and that they are printed and read back.
use Rattle.std.proofs.Common.{◌≡◌, ℕ, zero, suc, ◌+◌, ◌<◌, true, false, cond, List, [], ◌∷◌, ◌++◌, refl, subst, arith}
use Rattle.std.specs.Prelude.{codes, nat_eq}
use Rattle.std.proofs.lemmas.List.{append-nil}
use Rattle.hm_tokens.specs.Names.{register_name, vector_name}
use Rattle.hm_tokens.specs.Tokens.{Tok, word, close_brace, close_bracket, comma, open_bracket}
use Rattle.hm_textv_codes.specs.declared.operands.Kind.{Kind}
use Rattle.hm_textv_codes.specs.declared.operands.Kind.TheVariants as kinds
use Rattle.hm_textv_codes.specs.Asked.{given_access}
use Rattle.hm_textv_codes.specs.Operands.{vector_word_value}
use Rattle.hm_text_rows.specs.Operands.{is_vector_name}
use Rattle.hm_text_rows.specs.Shapes.{back, indexed, offset, q, r}
use Rattle.hm_text_rows.proofs.Words.{◌▹◌, cut, is_name, is_mnemonic}
use Rattle.hm_text_rows.proofs.Printed.{AreShort, is_read_back, short_bang, short_close, short_close_brace, short_comma, short_hash, short_minus}
use Rattle.hm_text_rows.proofs.Printed.{short_open, short_open_brace, short_word}
use Rattle.hm_textv_rows.specs.Rows.{access, at_offsets, interleaved_tokens, scale}
use Rattle.hm_textv_codes.proofs.Endings.{Suffix}
use Rattle.hm_textv_codes.proofs.Forms.{Operand, Reads, min_small, short_small, vector_at}

-- `qd,[base`, and what stands behind it
short_at : (d : ℕ) (base : List ℕ) (ts : List Tok) → is_name (vector_name d) ≡ true → is_name base ≡ true → AreShort ts
    → AreShort (q d ∷ comma ∷ open_bracket ∷ word base ∷ ts)
short_at d base ts hd is are = short_word (vector_name d) hd ▹ short_comma ▹ short_open ▹ short_word base is ▹ are

-- `,#n` or `,#-n`, and what stands behind it
short_offset : (a n : ℕ) (ts : List Tok) → a < 2 → n < 1000 → AreShort ts → AreShort (offset a n ++ ts)
short_offset zero n ts ha hn are = short_comma ▹ short_hash ▹ short_minus ▹ short_small n hn ▹ are
short_offset (suc zero) n ts ha hn are = short_comma ▹ short_hash ▹ short_small n hn ▹ are
short_offset (suc (suc a)) n ts ha hn are = absurd (omega arith)

short_back : (w : ℕ) → w < 2 → AreShort (back w)
short_back zero hw = tt
short_back (suc zero) hw = (short_bang, tt)
short_back (suc (suc w)) hw = absurd (omega arith)

short_indexed : (p a w d n : ℕ) (base : List ℕ) → p < 2 → a < 2 → w < 2 → is_name (vector_name d) ≡ true → n < 1000 → is_name base ≡ true
    → AreShort (q d ∷ comma ∷ indexed p a w (word base) n)
short_indexed zero a w d n base hp ha hw hd hn is =
    short_at d base (close_bracket ∷ offset a n) hd is
    (short_close ▹ subst (λ (ts : List Tok). AreShort ts) (append-nil (offset a n)) (short_offset a n [] ha hn tt))
short_indexed (suc zero) a w d n base hp ha hw hd hn is =
    short_at d base (offset a n ++ close_bracket ∷ back w) hd is (short_offset a n (close_bracket ∷ back w) ha hn (short_close ▹ short_back w hw))
short_indexed (suc (suc p)) a w d n base hp ha hw hd hn is = absurd (omega arith)

-- `[base,#n]`, `[base,#n]!`, `[base],#n`, and these with a minus sign
pub reads_indexed : {s f base : List ℕ} {u z d m n : ℕ} {j k : Kind} (p a w : ℕ) → is_mnemonic s ≡ true → Suffix f false u z → Operand (vector_name d) d j
    → Operand base m k → n < 1000 → p < 2 → a < 2 → w < 2 → 0 < p + w
    → Reads (access (s ++ f) d (indexed p a w (word base) n)) s (given_access false u z kinds.Number k p a w d m n 0 0)
reads_indexed (suc (suc p)) a w mnemonic g b o hn hp ha hw some = absurd (omega arith)
reads_indexed p (suc (suc a)) w mnemonic g b o hn hp ha hw some = absurd (omega arith)
reads_indexed p a (suc (suc w)) mnemonic g b o hn hp ha hw some = absurd (omega arith)
reads_indexed zero a zero mnemonic g b o hn hp ha hw some = absurd (omega arith)
reads_indexed {s = s} {f = f} {base = base} {d = d} {n = n} p a w mnemonic g b o hn hp ha hw some = record {
  gives = rw (cut s f mnemonic g.is, g.bare, g.sign, g.size, o.is_kind, b.value, o.value, min_small n hn) refl;
  prints = is_read_back s f _ mnemonic g.is (short_indexed p a w d n base hp ha hw b.is hn o.is) refl (omega arith);
}

uxtw : Operand (codes "uxtw") 1 kinds.Word
unfolding vector_word_value is_vector_name
uxtw = record { value = refl; is_kind = refl; is = refl }

-- the scale of offsets, and the bracket behind it
short_scale : (o y : ℕ) → o < 2 → y < 1000 → AreShort (scale o y ++ close_bracket ∷ [])
short_scale zero y ho hy = (short_close, tt)
short_scale (suc zero) y ho hy = (short_comma ▹ short_word (codes "uxtw") uxtw.is ▹ short_hash ▹ short_small y hy ▹ short_close ▹ tt)
short_scale (suc (suc o)) y ho hy = absurd (omega arith)

short_offsets : (d n m o y : ℕ) → is_name (vector_name d) ≡ true → is_name (register_name n) ≡ true → is_name (vector_name m) ≡ true → o < 2 → y < 1000
    → AreShort (q d ∷ comma ∷ at_offsets (r n) m o y)
short_offsets d n m o y hd hn hm ho hy =
    short_at d (register_name n) (comma ∷ q m ∷ (scale o y ++ close_bracket ∷ [])) hd hn (short_comma ▹ short_word (vector_name m) hm ▹ short_scale o y ho hy)

-- `[base,qm]`, `[base,qm,uxtw #y]`
pub reads_at_offsets : {s f : List ℕ} {u z d n m y : ℕ} {i j k : Kind} (o : ℕ) → is_mnemonic s ≡ true → Suffix f false u z → Operand (vector_name d) d i
    → Operand (register_name n) n j → Operand (vector_name m) m k → o < 2 → y < 1000
    → Reads (access (s ++ f) d (at_offsets (r n) m o y)) s (given_access false u z k j 1 1 0 d n m o (cond (nat_eq o 0) 0 y))
reads_at_offsets {s = s} {f = f} {d = d} {n = n} {m = m} {y = y} zero mnemonic g b e t ho hy = record {
  gives = rw (cut s f mnemonic g.is, g.bare, g.sign, g.size, t.is_kind, e.is_kind, b.value, e.value, t.value) refl;
  prints = is_read_back s f _ mnemonic g.is (short_offsets d n m 0 y b.is e.is t.is ho hy) refl (omega arith);
}
reads_at_offsets {s = s} {f = f} {d = d} {n = n} {m = m} {y = y} (suc zero) mnemonic g b e t ho hy = record {
  gives = rw (cut s f mnemonic g.is, g.bare, g.sign, g.size, t.is_kind, e.is_kind, b.value, e.value, t.value, uxtw.value, min_small y hy) refl;
  prints = is_read_back s f _ mnemonic g.is (short_offsets d n m 1 y b.is e.is t.is ho hy) refl (omega arith);
}
reads_at_offsets (suc (suc o)) mnemonic g b e t ho hy = absurd (omega arith)

-- `[rn]` behind a list of registers, and `!` behind it
short_base : (n w : ℕ) → is_name (register_name n) ≡ true → w < 2 → AreShort (close_brace ∷ comma ∷ open_bracket ∷ r n ∷ close_bracket ∷ back w)
short_base n w hn hw =
    short_close_brace ▹ short_comma ▹ short_open ▹ short_word (register_name n) hn ▹ short_close ▹ short_back w hw

-- `{qd,qe},[rn]`, and `!` behind it
pub reads_pair : {s f : List ℕ} {z d n : ℕ} {k : Kind} (w : ℕ) → is_mnemonic s ≡ true → Suffix f false 0 z → d < 7 → Operand (register_name n) n k → w < 2
    → Reads (interleaved_tokens (s ++ f) 0 d (r n) w) s (given_access false 0 z k k 1 1 w d (d + 1) n 0 0)
reads_pair (suc (suc w)) mnemonic g hd o hw = absurd (omega arith)
reads_pair {s = s} {f = f} {d = d} {n = n} w mnemonic g hd o hw =
    let a = vector_at d (omega arith) in
    let b = vector_at (d + 1) (omega arith) in
    record {
      gives = rw (cut s f mnemonic g.is, g.bare, g.sign, g.size, o.is_kind, a.value, b.value, o.value) refl;
      prints =
          is_read_back s f _ mnemonic g.is
          (short_open_brace ▹ short_word (vector_name d) a.is ▹ short_comma ▹ short_word (vector_name (d + 1)) b.is ▹ short_base n w o.is hw) refl
          (omega arith);
    }

-- `{qd,qe,qf,qg},[rn]`, and `!` behind it
pub reads_quad : {s f : List ℕ} {z d n : ℕ} {k : Kind} (w : ℕ) → is_mnemonic s ≡ true → Suffix f false 0 z → d < 5 → Operand (register_name n) n k → w < 2
    → Reads (interleaved_tokens (s ++ f) 1 d (r n) w) s (given_access false 0 z kinds.Vector k 1 1 w d (d + 1) (d + 2) (d + 3) n)
reads_quad (suc (suc w)) mnemonic g hd o hw = absurd (omega arith)
reads_quad {s = s} {f = f} {d = d} {n = n} w mnemonic g hd o hw =
    let a = vector_at d (omega arith) in
    let b = vector_at (d + 1) (omega arith) in
    let c = vector_at (d + 2) (omega arith) in
    let e = vector_at (d + 3) (omega arith) in
    record {
      gives = rw (cut s f mnemonic g.is, g.bare, g.sign, g.size, c.is_kind, o.is_kind, a.value, b.value, c.value, e.value, o.value) refl;
      prints =
          is_read_back s f _ mnemonic g.is
          (short_open_brace ▹ short_word (vector_name d) a.is ▹ short_comma ▹ short_word (vector_name (d + 1)) b.is ▹ short_comma
          ▹ short_word (vector_name (d + 2)) c.is ▹ short_comma ▹ short_word (vector_name (d + 3)) e.is ▹ short_base n w o.is hw)
          refl (omega arith);
    }
