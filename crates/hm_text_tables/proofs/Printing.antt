-- What is printed of an instruction is its text.
use Rattle.std.proofs.Common.{◌≡◌, ℕ, Bool, true, false, cond, List, [], ◌∷◌, ◌++◌, Option, Some, None, refl, sym, subst, inl, inr}
use Rattle.hm_codes.proofs.Unique.{unique_code}
use Rattle.hm_isa.specs.declared.Instr.{Instr}
use Rattle.hm_isa.specs.declared.Instr.TheVariants.{Vector}
use Rattle.hm_isa.specs.declared.Vector.{Vector as VectorRow}
use Rattle.hm_isa.specs.declared.widths.ByWidth.{ByWidth}
use Rattle.hm_isa.specs.declared.widths.ByWidth.TheVariants as by
use Rattle.hm_isa.specs.declared.widths.NarrowRow.{NarrowRow}
use Rattle.hm_isa.specs.declared.widths.WideRow.{WideRow}
use Rattle.hm_isa.specs.Widths.{by_width}
use Rattle.hm_line.specs.declared.form.Form.TheVariants as forms
use Rattle.hm_line.specs.Texts.{IsOfForm}
use Rattle.hm_tokens.specs.Lines.{IsLineOf, printed}
use Rattle.hm_tokens.specs.Ranges.{normal}
use Rattle.hm_tokens.specs.Tokens.{Tok, number}
use Rattle.hm_text_rows.specs.Labels.{NamesTarget, printed_with}
use Rattle.hm_text_rows.proofs.Shown.{IsGiven, IsPrintedRow, again_of}
use Rattle.hm_text16_rows.specs.Rows as narrow_rows
use Rattle.hm_text16_codes.proofs.Rows as narrow_laws
use Rattle.hm_text32_rows.specs.Rows as wide_rows
use Rattle.hm_text32_codes.proofs.Rows as wide_laws
use Rattle.hm_textv_rows.specs.Rows as vectors
use Rattle.hm_textv_codes.proofs.Rows as vector_laws
use Rattle.hm_isa.specs.Code.{width_of}
use Rattle.hm_text_tables.specs.Tables.{AreOfRow, HasTokens, has_label_by, printed_by, target_by}
use Rattle.hm_text_tables.specs.Texts.{HasWidth, IsTextOf}
use Rattle.hm_text_tables.proofs.Formed.{Formed, formed_text}
use Rattle.hm_text_tables.proofs.FormedNarrow.{formed_narrow}
use Rattle.hm_text_tables.proofs.FormedVectors.{formed_vector}
use Rattle.hm_text_tables.proofs.Rows.{given_by}
use Rattle.hm_text_tables.proofs.WideRows.{formed_wide}

-- the form
printed_form : (b : Bool) (row : List Tok) (o : Option ℕ) → IsPrintedRow b row → IsGiven b o → ((a : ℕ) → Formed (cond b (row ++ number a ∷ []) row))
    → IsOfForm forms.Instruction (printed_with row o)
printed_form true row (Some a) p lt f = formed_text (row ++ number a ∷ []) (printed_with row (Some a)) (p.again a lt) (f a)
printed_form true row None p given f = absurd given
printed_form false row (Some a) p given f = absurd given
printed_form false row None p given f = formed_text row (printed_with row None) p.again (f 0)

text_form : (b : Bool) (row : List Tok) (o : Option ℕ) (text : List ℕ) → IsPrintedRow b row → IsGiven b o
    → ((a : ℕ) → Formed (cond b (row ++ number a ∷ []) row)) → text ≡ printed_with row o → IsOfForm forms.Instruction text
text_form b row o text p given f is = subst (λ (x : List ℕ). IsOfForm forms.Instruction x) (sym is) (printed_form b row o p given f)

-- a row that is no vector row, by what its table says of its tokens
row_printed : (i : Instr) (w : ByWidth) (row : List Tok) (pc : ℕ) (text : List ℕ) → by_width i ≡ w → IsPrintedRow (has_label_by w) row
    → ((a : ℕ) → Formed (cond (has_label_by w) (row ++ number a ∷ []) row))
    → ((t : Tok) (ts : List Tok) → cond (has_label_by w) (row ++ t ∷ []) row ≡ ts → AreOfRow w t ts) → text ≡ printed_with row (target_by w pc)
    → (labels : List ℕ → Option ℕ) → IsTextOf text pc labels i
row_printed i w row pc text by_table prints formed are is labels =
    let given = given_by w pc in
    let again = again_of (has_label_by w) row (target_by w pc) labels prints given in
    let has : HasTokens i again.label (normal again.tokens) = record {
      label = again.is_label;
      tokens = subst (λ (v : ByWidth). AreOfRow v again.label (normal again.tokens)) (sym by_table) (are again.label (normal again.tokens) again.has);
    } in
    record {
      label = again.label;
      row = record {
        form = text_form (has_label_by w) row (target_by w pc) text prints given formed is;
        has = inl (record { tokens = again.tokens; line = subst (λ (x : List ℕ). IsLineOf x again.tokens) (sym is) again.line; has = has });
      };
      names = subst (λ (v : ByWidth). NamesTarget labels again.label (target_by v pc)) (sym by_table) again.names;
    }

pub narrow_printed : (i : Instr) (r : NarrowRow) (pc : ℕ) (text : List ℕ) → by_width i ≡ by.Narrow r → text ≡ printed_by (by.Narrow r) pc
    → (labels : List ℕ → Option ℕ) → IsTextOf text pc labels i
narrow_printed i r pc text e is labels =
    row_printed i (by.Narrow r) (narrow_rows.row_tokens r) pc text e (narrow_laws.row_law r).prints (λ a. formed_narrow r a) (λ t ts are. are) is labels

pub wide_printed : (i : Instr) (r : WideRow) (pc : ℕ) (text : List ℕ) → by_width i ≡ by.Wide r → text ≡ printed_by (by.Wide r) pc
    → (labels : List ℕ → Option ℕ) → IsTextOf text pc labels i
wide_printed i r pc text e is labels =
    row_printed i (by.Wide r) (wide_rows.row_tokens r) pc text e (wide_laws.row_law r).prints (λ a. formed_wide r a) (λ t ts are. inl are) is labels

-- an instruction of this width is a vector row
vector_is : (i : Instr) (v : VectorRow) → by_width i ≡ by.Vector v → Vector v ≡ i
vector_is i v e = unique_code (Vector v) i (rw e refl)

pub vector_printed : (i : Instr) (v : VectorRow) (pc : ℕ) (text : List ℕ) → by_width i ≡ by.Vector v → text ≡ printed (vectors.tokens_of v)
    → vectors.IsTextOf text v → (labels : List ℕ → Option ℕ) → IsTextOf text pc labels i
vector_printed i v pc text e is read labels =
    let form = formed_text (vectors.tokens_of v) (printed (vectors.tokens_of v)) (vector_laws.row_law v).prints.again (formed_vector v) in
    let here : IsTextOf text pc labels (Vector v) = record {
      label = number 0;
      row = record { form = subst (λ (x : List ℕ). IsOfForm forms.Instruction x) (sym is) form; has = inr read };
      names = tt;
    } in
    subst (λ (x : Instr). IsTextOf text pc labels x) (vector_is i v e) here

pub width_is : (text : List ℕ) (pc : ℕ) (labels : List ℕ → Option ℕ) (i : Instr) → IsTextOf text pc labels i → HasWidth text (width_of i)
width_is text pc labels i is = record { instr = i; label = is.label; row = is.row; bytes = refl }

abbrev pub no_labels : List ℕ → Option ℕ
no_labels w = None
