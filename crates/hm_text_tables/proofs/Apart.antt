-- A text is of no vector row where it is another's.
use Rattle.std.proofs.Common.{◌≡◌, ℕ, true, false, List, [], ◌∷◌, sym, ap, subst, ◌∙◌}
use Rattle.std.proofs.lemmas.Bool.{false≢true}
use Rattle.hm_isa.specs.declared.Instr.{Instr}
use Rattle.hm_isa.specs.declared.Instr.TheVariants.{Scalar, Branch, Vector}
use Rattle.hm_isa.specs.declared.Vector.{Vector as VectorRow}
use Rattle.hm_isa.specs.declared.widths.ByWidth.{ByWidth}
use Rattle.hm_isa.specs.declared.widths.ByWidth.TheVariants as by
use Rattle.hm_isa.specs.declared.widths.NarrowRow.{NarrowRow}
use Rattle.hm_isa.specs.declared.widths.WideRow.{WideRow}
use Rattle.hm_isa.specs.Widths.{by_width}
use Rattle.hm_text_base.proofs.Steps.{some_is}
use Rattle.hm_tokens.specs.Lines.{IsLineOf}
use Rattle.hm_tokens.specs.Ranges.{is_inside, normal, singles}
use Rattle.hm_tokens.specs.Tokens.{Tok, word, number, mark}
use Rattle.hm_text_rows.specs.Operands.{first_word}
use Rattle.hm_text16_rows.specs.Rows.{tokens_of}
use Rattle.hm_textv_rows.specs.Rows as vectors
use Rattle.hm_text_tables.specs.Tables.{AreOfRow, IsTokenText, IsVectorText}
use Rattle.hm_text_tables.proofs.FormedVectors.{no_lane}
use Rattle.hm_text_tables.proofs.Lines.{has_lane, normal_first, normal_lane, same_line}
use Rattle.hm_text_tables.proofs.NarrowNames.{no_v}
use Rattle.hm_text_tables.proofs.VectorNames.{IsNamedV, begins_with_v, vector_named}
use Rattle.hm_text_tables.proofs.WideNames.{is_wide_line, vector_with_lane}
use Rattle.hm_text_tables.proofs.WideRows.{wide_named}

same_first : (text : List ℕ) (t u : Tok) (ts us : List Tok) → IsLineOf text (t ∷ ts) → IsLineOf text (u ∷ us) → t ≡ u
same_first text t u ts us l m = ap (λ (x : Tok × List ℕ). x.0) (some_is (t, l.0) (u, m.0) (sym l.1 ∙ m.1))

-- a row of one halfword has no mnemonic that begins with v
named_v : (r : NarrowRow) (u t : Tok) (name : List ℕ) (ts : List Tok) → tokens_of r u ≡ normal (t ∷ ts) → t ≡ word name → begins_with_v name ≡ true → ⊥
named_v r u t name ts has is v =
    let rest = singles 0 (is_inside false t) ts in
    let e : first_word (tokens_of r u) ≡ name = ap first_word (has ∙ normal_first t ts) ∙ ap (λ (x : Tok). first_word (x ∷ rest)) is in
    false≢true (sym (no_v r u) ∙ ap begins_with_v e ∙ v)

clash : (r : NarrowRow) (u : Tok) (text : List ℕ) (ts us : List Tok) → IsLineOf text ts → IsLineOf text us → IsNamedV us → tokens_of r u ≡ normal ts → ⊥
clash r u text [] us l m v has = absurd l
clash r u text (t ∷ ts) [] l m v has = absurd m
clash r u text (t ∷ ts) (word name ∷ us) l m v has = named_v r u t name ts has (same_first text t (word name) ts us l m) v
clash r u text (t ∷ ts) (number n ∷ us) l m v has = absurd v
clash r u text (t ∷ ts) (mark c ∷ us) l m v has = absurd v

-- a row of two has a mnemonic that no vector row has, but for one with a lane
clear_lane : (v : VectorRow) (ts : List Tok) → is_wide_line (normal ts) ≡ true → vectors.HasTokens v ts → has_lane ts ≡ true
clear_lane v [] e has = absurd (vector_named v [] has)
clear_lane v (word w ∷ ts) e has =
    let rest = singles 0 (is_inside false (word w)) ts in
    let named : is_wide_line (word w ∷ rest) ≡ true = subst (λ (y : List Tok). is_wide_line y ≡ true) (normal_first (word w) ts) e in
    normal_lane (word w) ts (vector_with_lane w rest ts v named has)
clear_lane v (number n ∷ ts) e has = absurd (vector_named v (number n ∷ ts) has)
clear_lane v (mark c ∷ ts) e has = absurd (vector_named v (mark c ∷ ts) has)

wide_and_vector : (text : List ℕ) (r : WideRow) (t : Tok) (ts : List Tok) (v : VectorRow) → IsLineOf text ts → AreOfRow (by.Wide r) t (normal ts)
    → vectors.IsTextOf text v → ⊥
wide_and_vector text r t ts v line are is =
    let named = subst (λ (x : List Tok). is_wide_line (normal x) ≡ true) (same_line ts is.0 text line is.1) (wide_named r t (normal ts) are) in
    false≢true (sym (no_lane v is.0 is.2) ∙ clear_lane v is.0 named is.2)

row_and_vector : (text : List ℕ) (w : ByWidth) (t : Tok) (ts : List Tok) (v : VectorRow) → IsLineOf text ts → AreOfRow w t (normal ts)
    → vectors.IsTextOf text v → ⊥
row_and_vector text (by.Narrow r) t ts v line are is = clash r t text ts is.0 line is.1 (vector_named v is.0 is.2) are
row_and_vector text (by.Wide r) t ts v line are is = wide_and_vector text r t ts v line are is
row_and_vector text (by.Vector x) t ts v line are is = absurd are

pub apart : (text : List ℕ) (i j : Instr) (t u : Tok) → IsTokenText text i t → IsVectorText text j → ⊥
apart text i (Scalar j) t u n is = is
apart text i (Branch j) t u n is = is
apart text i (Vector v) t u n is = row_and_vector text (by_width i) t n.tokens v n.line n.has.tokens is
