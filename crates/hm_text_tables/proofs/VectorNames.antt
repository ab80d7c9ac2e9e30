-- The mnemonic of a vector row begins with v, and is none of four others that do.
use Rattle.std.proofs.Common.{◌≡◌, ℕ, ◌<◌, Bool, true, false, eqb, List, [], ◌∷◌, refl, sym, subst, ap, inl, inr, ◌∙◌, arith}
use Rattle.std.specs.Prelude.{bytes_eq, codes, not, ◌&&◌, ◌||◌}
use Rattle.std.proofs.lemmas.Bool.{and_parts, cases_Bool, false≢true}
use Rattle.std.proofs.lemmas.Slice.Eq.{bytes_eq-Decides}
use Rattle.hm_isa.specs.declared.Vector.{Vector}
use Rattle.hm_isa.specs.declared.Vector.TheVariants as vector
use Rattle.hm_isa.specs.declared.vectors.V22.TheVariants as v22
use Rattle.hm_text_base.specs.Spans.{span}
use Rattle.hm_tokens.specs.Tokens.{Tok, word, number, mark, point}
use Rattle.hm_text_rows.proofs.Words.{◌▹◌}
use Rattle.hm_text_rows.specs.Operands.{first_word}
use Rattle.hm_textv_rows.specs.Mnemonics.{access_mnemonic, other_dot_mnemonic}
use Rattle.hm_textv_rows.specs.Rows.{HasTokens}
use Rattle.hm_textv_codes.specs.declared.operands.Operands.{Operands}
use Rattle.hm_textv_codes.specs.Asked.{AsksOther, mnemonic_of}
use Rattle.hm_textv_codes.specs.Names.{interleaved_mnemonic}
use Rattle.hm_textv_codes.proofs.Forms.{read_text}
use Rattle.hm_textv_codes.proofs.Rows.{text_law}
use Rattle.hm_textv_codes.proofs.Told.{access_at, interleaved_at}

abbrev pub begins_with_v : List ℕ → Bool
begins_with_v [] = false
begins_with_v (c ∷ w) = eqb c 118

-- the first words that begin with v and have no point, but are no vector row's
abbrev pub is_other : List ℕ → Bool
is_other w = bytes_eq w (codes "vpush") || (bytes_eq w (codes "vpop") || (bytes_eq w (codes "vmrs") || bytes_eq w (codes "vmsr")))

-- WHAT A VECTOR ROW IS CALLED
abbrev is_fine : List ℕ → Bool
is_fine s = begins_with_v s && not (is_other s)

access_fine : (l y : ℕ) → l < 2 → y < 3 → is_fine (access_mnemonic l y) ≡ true
access_fine l y hl hy = access_at (λ k j. is_fine (access_mnemonic k j) ≡ true) l y hl hy (refl ▹ refl ▹ refl ▹ tt) (refl ▹ refl ▹ refl ▹ tt)

row_fine : (v : Vector) → is_fine (mnemonic_of v) ≡ true
row_fine (vector.V24 i) = access_fine i.l.value i.z.value i.l.in_range i.z.in_range
row_fine (vector.V25 i) = access_fine i.l.value i.h.value i.l.in_range (let lt = i.h.in_range in omega arith)
row_fine (vector.V26 i) = access_fine i.l.value i.y.value i.l.in_range i.y.in_range
row_fine (vector.V27 i) = access_fine i.l.value 2 i.l.in_range (omega arith)
row_fine (vector.V28 i) =
    interleaved_at (λ f l p. is_fine (interleaved_mnemonic f l p) ≡ true) i
    (refl ▹ refl ▹ tt, refl ▹ refl ▹ tt, refl ▹ refl ▹ refl ▹ refl ▹ tt, refl ▹ refl ▹ refl ▹ refl ▹ tt)
row_fine v = grind arith

dot_fine : (a : ℕ) → is_fine (other_dot_mnemonic a) ≡ true
dot_fine a = grind arith

other_fine : (v : Vector) (s : List ℕ) (o : Operands) → AsksOther v s o → is_fine s ≡ true
other_fine (vector.V2 i) s o asks = ap is_fine asks.2
other_fine (vector.V22 (v22.Dot i)) s o asks = ap is_fine asks.0 ∙ dot_fine i.a.value
other_fine v s o asks = absurd asks

text_fine : (v : Vector) (ts : List Tok) → HasTokens v ts → (begins_with_v (read_text ts).0 ≡ true) × (not (is_other (read_text ts).0) ≡ true)
text_fine v ts has =
    and_parts (begins_with_v (read_text ts).0) (not (is_other (read_text ts).0))
    (elim (text_law v ts has).asks [
      | inl a ↦ ap is_fine a.0 ∙ row_fine v
      | inr a ↦ other_fine v (read_text ts).0 (read_text ts).1 a
    ])

-- AND ITS FIRST WORD
mnemonic_begins : (w : List ℕ) → begins_with_v (span point w).0 ≡ true → begins_with_v w ≡ true
unfolding span
mnemonic_begins [] e = e
mnemonic_begins (c ∷ w) e =
    elim (cases_Bool (eqb c point)) [
      | inl h ↦ absurd (false≢true (rw h at e))
      | inr h ↦ rw h at e
    ]

abbrev pub IsNamedV : List Tok → Type 0
IsNamedV [] = ⊥
IsNamedV (word name ∷ ts) = begins_with_v name ≡ true
IsNamedV (number n ∷ ts) = ⊥
IsNamedV (mark c ∷ ts) = ⊥

named_first : (ts : List Tok) → begins_with_v (first_word ts) ≡ true → IsNamedV ts
named_first [] e = false≢true e
named_first (word name ∷ ts) e = e
named_first (number n ∷ ts) e = false≢true e
named_first (mark c ∷ ts) e = false≢true e

pub vector_named : (v : Vector) (ts : List Tok) → HasTokens v ts → IsNamedV ts
vector_named v ts has = named_first ts (mnemonic_begins (first_word ts) (text_fine v ts has).0)

-- those four have no point
one_of : (a b : Bool) (P : Type 0) → (a || b) ≡ true → (a ≡ true → P) → (b ≡ true → P) → P
one_of true b P e f g = f refl
one_of false b P e f g = g e

whole_at : (w s : List ℕ) → is_other (span point s).0 ≡ true → bytes_eq w s ≡ true → is_other (span point w).0 ≡ true
whole_at w s is e = subst (λ (x : List ℕ). is_other (span point x).0 ≡ true) (sym ((bytes_eq-Decides w s).0 e)) is

whole : (w : List ℕ) → is_other w ≡ true → is_other (span point w).0 ≡ true
unfolding span
whole w e =
    let P : Type 0 = is_other (span point w).0 ≡ true in
    let name : List ℕ → Bool = λ s. bytes_eq w s in
    one_of (name (codes "vpush")) (name (codes "vpop") || (name (codes "vmrs") || name (codes "vmsr"))) P e (whole_at w (codes "vpush") refl)
    (λ e1. one_of (name (codes "vpop")) (name (codes "vmrs") || name (codes "vmsr")) P e1 (whole_at w (codes "vpop") refl)
    (λ e2. one_of (name (codes "vmrs")) (name (codes "vmsr")) P e2 (whole_at w (codes "vmrs") refl) (whole_at w (codes "vmsr") refl)))

not_true : (b : Bool) → not b ≡ true → b ≡ true → ⊥
not_true true e t = false≢true e
not_true false e t = false≢true t

pub not_other : (v : Vector) (w : List ℕ) (ts : List Tok) → HasTokens v (word w ∷ ts) → is_other w ≡ true → ⊥
not_other v w ts has e = not_true (is_other (span point w).0) (text_fine v (word w ∷ ts) has).1 (whole w e)
