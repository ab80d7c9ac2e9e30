-- A text says one thing: all rows with it have one width and one label, one of them stands at an address, and it is refused once or not.
use Rattle.std.proofs.Common.{◌≡◌, ◌⊎◌, ℕ, ◌*◌, ◌^◌, ◌<◌, Bool, true, false, cond, List, [], ◌∷◌, ◌++◌, length, Option, Some, None, refl, sym, ap, subst, inl}
use Rattle.std.proofs.Common.{inr, ◌∙◌, arith}
use Rattle.hm_codes.proofs.Unique.{unique_code}
use Rattle.hm_isa.specs.declared.Instr.{Instr}
use Rattle.hm_isa.specs.declared.Instr.TheVariants.{Scalar, Branch, Vector}
use Rattle.hm_isa.specs.declared.widths.ByWidth.{ByWidth}
use Rattle.hm_isa.specs.declared.widths.ByWidth.TheVariants as by
use Rattle.hm_isa.specs.Code.{halves_by_width, two_halves, width_of}
use Rattle.hm_isa.specs.Widths.{by_width}
use Rattle.hm_line.specs.declared.errors.AsmKind.{AsmKind}
use Rattle.hm_line.specs.declared.errors.AsmKind.TheVariants as kinds
use Rattle.hm_line.specs.declared.form.Form.TheVariants as forms
use Rattle.hm_line.specs.Forms.{Spaced}
use Rattle.hm_line.specs.Kinds.{kind}
use Rattle.hm_line.specs.Texts.{AreTokens, IsLast, column, is_spaced, next}
use Rattle.hm_line.proofs.Fronts.{not_both}
use Rattle.hm_line.proofs.Lasts.{last_behind, last_here}
use Rattle.hm_text_base.proofs.Steps.{some_is}
use Rattle.hm_tokens.specs.Ranges.{normal}
use Rattle.hm_tokens.specs.Tokens.{Tok, word, skip, token_at}
use Rattle.hm_text_rows.specs.Labels.{NamesTarget, Reaches}
use Rattle.hm_text_rows.proofs.Tails.{last_one}
use Rattle.hm_text_rows.proofs.Shown.{IsGiven}
use Rattle.hm_text16_rows.specs.Rows as narrow_rows
use Rattle.hm_text32_rows.specs.Rows as wide_rows
use Rattle.hm_textv_rows.specs.Rows as vector_rows
use Rattle.hm_textv_codes.proofs.Unique.{one_vector_code}
use Rattle.hm_text_tables.specs.Named.{NamesGiven}
use Rattle.hm_text_tables.specs.Refusals.{IsAtLabel, IsTextRefused}
use Rattle.hm_text_tables.specs.Tables.{AreOfRow, HasText, HasTokens, IsTokenText, IsVectorText, has_label, has_label_by, label_of, target}
use Rattle.hm_text_tables.specs.Texts.{HasWidth, IsRowText, IsTextOf}
use Rattle.hm_text_tables.proofs.Apart.{apart}
use Rattle.hm_text_tables.proofs.InTables.{seen_near, seen_of, seen_parts, vector_seen}
use Rattle.hm_text_tables.proofs.Rows.{at_nearest, given_target}
use Rattle.hm_text_tables.proofs.Lines.{same_line}
use Rattle.hm_text_tables.proofs.OneRow.{one_row}
use Rattle.hm_text_tables.proofs.Tails.{no_other}
use Rattle.hm_text_tables.proofs.Told.{HasLabel, IsOne, missing_only, named_is_row, named_not_refused, out_only, shape_first}

abbrev given : {A : Type 0} → A → Option A
given x = Some x

abbrev Labels : Type 0
Labels = List ℕ → Option ℕ

-- A ROW'S LABEL is the last token, where it has one
last_label : (b : Bool) (front : List Tok) (t u : Tok) → cond b (front ++ t ∷ []) front ≡ cond b (front ++ u ∷ []) front
    → cond b (given t) None ≡ cond b (given u) None
last_label true front t u e = ap given (last_one front front t u e).1
last_label false front t u e = refl

wide_label : (b : Bool) (front ts : List Tok) (other : Option (List Tok)) (t u : Tok) → (b ≡ true → other ≡ Some ts → ⊥)
    → (cond b (front ++ t ∷ []) front ≡ ts) ⊎ (other ≡ Some ts) → (cond b (front ++ u ∷ []) front ≡ ts) ⊎ (other ≡ Some ts)
    → cond b (given t) None ≡ cond b (given u) None
wide_label false front ts other t u not is more = refl
wide_label true front ts other t u not (inl is) (inl more) = ap given (last_one front front t u (is ∙ sym more)).1
wide_label true front ts other t u not (inl is) (inr more) = absurd (not refl more)
wide_label true front ts other t u not (inr is) more = absurd (not refl is)

label_by : (w : ByWidth) (ts : List Tok) (t u : Tok) → AreOfRow w t ts → AreOfRow w u ts
    → cond (has_label_by w) (given t) None ≡ cond (has_label_by w) (given u) None
label_by (by.Narrow r) ts t u is more = last_label (narrow_rows.has_label r) (narrow_rows.row_tokens r) t u (is ∙ sym more)
label_by (by.Wide r) ts t u is more =
    wide_label (wide_rows.has_label r) (wide_rows.row_tokens r) ts (wide_rows.other_tokens r) t u (no_other r ts) is more
label_by (by.Vector v) ts t u is more = absurd is

-- ROWS THAT ARE NO VECTOR ROWS
-- two of them with the same tokens have one width and one label
same_seen : (ts : List Tok) (i j : Instr) (t u : Tok) → HasTokens i t ts → HasTokens j u ts → (width_of i ≡ width_of j) × (label_of i t ≡ label_of j u)
same_seen ts i j t u has also =
    let n = at_nearest i t ts has in
    let near : HasTokens n.0 n.1.label ts = n.1.has in
    let seen = seen_near ts n.0 (width_of n.0) (label_of n.0 n.1.label) refl (λ k r. ap given (one_row ts 0 4 n.0 k (omega arith) n.1 r))
    (λ v more. label_by (by_width n.0) ts n.1.label v near.tokens more.tokens) in
    let first = seen_parts (width_of n.0) (label_of n.0 n.1.label) (seen_of i t) (seen i t has) in
    let second = seen_parts (width_of n.0) (label_of n.0 n.1.label) (seen_of j u) (seen j u also) in
    (sym first.0 ∙ second.0, sym first.1 ∙ second.1)

-- two texts have the same tokens
there : (text : List ℕ) (i j : Instr) (t u : Tok) (n : IsTokenText text i t) → IsTokenText text j u → HasTokens j u (normal n.tokens)
there text i j t u n m = subst (λ (x : List Tok). HasTokens j u (normal x)) (same_line m.tokens n.tokens text m.line n.line) m.has

-- VECTOR ROWS
vector_row : (text : List ℕ) (i j : Instr) → IsVectorText text i → IsVectorText text j → i ≡ j
vector_row text (Scalar r) j v u = absurd v
vector_row text (Branch r) j v u = absurd v
vector_row text (Vector r) (Scalar s) v u = absurd u
vector_row text (Vector r) (Branch s) v u = absurd u
vector_row text (Vector r) (Vector s) v u =
    let also : vector_rows.HasTokens s v.0 = subst (λ (x : List Tok). vector_rows.HasTokens s x) (same_line u.0 v.0 text u.1 v.1) u.2 in
    unique_code (Vector r) (Vector s) (ap two_halves (one_vector_code v.0 r s v.2 also))

-- ALL TABLES
-- one width, and one label
one_seen : (text : List ℕ) (i j : Instr) (t u : Tok) → HasText i t text → HasText j u text → (width_of i ≡ width_of j) × (label_of i t ≡ label_of j u)
one_seen text i j t u (inl n) (inl m) = same_seen (normal n.tokens) i j t u n.has (there text i j t u n m)
one_seen text i j t u (inl n) (inr v) = absurd (apart text i j t u n v)
one_seen text i j t u (inr v) (inl n) = absurd (apart text j i u t n v)
one_seen text i j t u (inr v) (inr x) =
    let first = seen_parts 4 None (seen_of i t) (vector_seen text i t v) in
    let second = seen_parts 4 None (seen_of j u) (vector_seen text j u x) in
    (sym first.0 ∙ second.0, sym first.1 ∙ second.1)

-- one row at a place
one_text : (text : List ℕ) (pc a : ℕ) (i j : Instr) (t u : Tok) → pc < 2 ^ 32 → HasText i t text → HasText j u text → Reaches (target i pc) a
    → Reaches (target j pc) a → i ≡ j
one_text text pc a i j t u hp (inl n) (inl m) r s =
    one_row (normal n.tokens) pc a i j hp (record { label = t; has = n.has; reaches = r })
    (record { label = u; has = there text i j t u n m; reaches = s })
one_text text pc a i j t u hp (inl n) (inr v) r s = absurd (apart text i j t u n v)
one_text text pc a i j t u hp (inr v) (inl n) r s = absurd (apart text j i u t n v)
one_text text pc a i j t u hp (inr v) (inr x) r s = vector_row text i j v x

-- WIDTHS
pub one_width : (text : List ℕ) (n m : ℕ) → HasWidth text n → HasWidth text m → n ≡ m
one_width text n m w v = w.bytes ∙ (one_seen text w.instr v.instr w.label v.label w.row.has v.row.has).0 ∙ sym v.bytes

some_bytes : (w : ByWidth) → 0 < 2 * length (halves_by_width w)
some_bytes w = grind arith

pub some_width : (text : List ℕ) (n : ℕ) → HasWidth text n → 0 < n
some_width text n w = subst (λ (x : ℕ). 0 < x) (sym w.bytes) (some_bytes (by_width w.instr))

-- INSTRUCTIONS
-- a row's text has its label, and no other
pub the_label : (text : List ℕ) (i : Instr) (t : Tok) → IsRowText text i t → HasLabel text (label_of i t)
the_label text i t row j u other = (one_seen text i j t u row.has other.has).1

-- what its label names
record Named (labels : Labels) (l : Option Tok) : Type 0 where
  address : ℕ
  names : NamesGiven labels l address

named_by : (labels : Labels) (t : Tok) (b : Bool) (o : Option ℕ) → IsGiven b o → NamesTarget labels t o → Named labels (cond b (given t) None)
named_by labels t true (Some a) g names = record { address = a; names = names }
named_by labels t true None g names = absurd g
named_by labels t false (Some a) g names = absurd g
named_by labels t false None g names = record { address = 0; names = tt }

named_in : (text : List ℕ) (pc : ℕ) (labels : Labels) (i : Instr) (is : IsTextOf text pc labels i) → Named labels (label_of i is.label)
named_in text pc labels i is = named_by labels is.label (has_label i) (target i pc) (given_target i pc) is.names

pub one_instruction : (text : List ℕ) (pc : ℕ) (labels : Labels) (i j : Instr) → pc < 2 ^ 32 → IsTextOf text pc labels i → IsTextOf text pc labels j → i ≡ j
one_instruction text pc labels i j hp is also =
    let label = the_label text i is.label is.row in
    let named = named_in text pc labels i is in
    let first = named_is_row text pc named.address labels (label_of i is.label) i label named.names is in
    let second = named_is_row text pc named.address labels (label_of i is.label) j label named.names also in
    one_text text pc named.address i j first.label second.label hp first.has second.has first.reaches second.reaches

pub not_refused : (text : List ℕ) (pc : ℕ) (labels : Labels) (i : Instr) (k : AsmKind) (c : ℕ) → IsTextOf text pc labels i → IsTextRefused k text pc labels c
    → ⊥
not_refused text pc labels i k c is refused =
    let named = named_in text pc labels i is in
    named_not_refused text pc named.address labels (label_of i is.label) i k c (the_label text i is.label is.row) named.names is refused

-- REFUSALS
-- a text has one last token
length_none : (here : List ℕ) → here ≡ [] → length here ≡ 0
length_none here e = ap length e

next_token : (text rest : List ℕ) (s : Spaced) → next text ≡ Some (s, rest) → (t : Tok) × (token_at (skip text) ≡ Some (t, rest))
next_token text rest s e = go (token_at (skip text)) refl
  where
    go : (o : Option (Tok × List ℕ)) → token_at (skip text) ≡ o → (t : Tok) × (token_at (skip text) ≡ Some (t, rest))
    go (Some x) f =
        let mine : next text ≡ Some ((is_spaced text, kind x.0), x.1) = rw f refl in
        let same : x.1 ≡ rest = ap (λ (p : Spaced × List ℕ). p.1) (some_is ((is_spaced text, kind x.0), x.1) (s, rest) (sym mine ∙ e)) in
        (x.0, f ∙ ap (λ (r : List ℕ). Some (x.0, r)) same)
    go None f =
        let mine : next text ≡ None = rw f refl in
        absurd (let no_ = sym mine ∙ e in cc)

pub some_or_none : (n : ℕ) → (n ≡ 0) ⊎ (0 < n)
some_or_none n = grind arith

one_last : (ts : List Spaced) (text here rest : List ℕ) (s : Spaced) → AreTokens text ts here → next here ≡ Some (s, rest) → skip rest ≡ [] → (h : List ℕ)
    → IsLast text h → skip here ≡ skip h
one_last [] text here rest s are is end h last =
    let token = next_token text rest s (subst (λ (x : List ℕ). next x ≡ Some (s, rest)) (sym are) is) in
    ap skip (sym are) ∙ last_here text (skip text) rest token.0 refl token.1 (length_none (skip rest) end) h last
one_last (v ∷ ts) text here rest s are is end h last =
    let token = next_token text are.0 v are.1 in
    elim (some_or_none (length (skip are.0))) [
      | inl e ↦
          sym (last_here text (skip text) are.0 token.0 refl token.1 e here (v ∷ ts, s, rest, are, is, end))
          ∙ last_here text (skip text) are.0 token.0 refl token.1 e h last
      | inr p ↦ one_last ts are.0 here rest s are.2 is end h (last_behind text (skip text) are.0 token.0 refl token.1 p h last)
    ]

pub one_at_last : (text : List ℕ) (c : ℕ) → IsAtLabel text c → IsOne (IsAtLabel text) c
one_at_last text c at d other = at.2 ∙ ap (λ (x : List ℕ). column text x) (one_last at.1.0 text at.0 at.1.2 at.1.1 at.1.3 at.1.4 at.1.5 other.0 other.1)
    ∙ sym other.2

pub one_refusal : (text : List ℕ) (pc : ℕ) (labels : Labels) (k j : AsmKind) (c d : ℕ) → IsTextRefused k text pc labels c → IsTextRefused j text pc labels d
    → (k ≡ j) × (c ≡ d)
one_refusal text pc labels kinds.Syntax j c d r s = shape_first text pc labels kinds.Syntax j c d r s
one_refusal text pc labels kinds.Row j c d r s = shape_first text pc labels kinds.Row j c d r s
one_refusal text pc labels kinds.Missing j c d r s =
    missing_only text pc labels (word r.name) c d j (λ i t row. sym r.labelled ∙ the_label text r.instr (word r.name) r.row i t row) r r.unknown
    (one_at_last text c r.column) s
one_refusal text pc labels kinds.Offset j c d r s =
    out_only text pc r.address labels (Some r.label) c d j (λ i t row. sym r.labelled ∙ the_label text r.instr r.label r.row i t row) r.names r
    (one_at_last text c r.column) s
one_refusal text pc labels k j c d r s = absurd r

-- where some row has the text its label is at fault
pub late_refusal : (text : List ℕ) (pc : ℕ) (labels : Labels) (n : ℕ) (k : AsmKind) (c : ℕ) → HasWidth text n → IsTextRefused k text pc labels c
    → (k ≡ kinds.Missing) ⊎ (k ≡ kinds.Offset)
late_refusal text pc labels n kinds.Syntax c w r = absurd (not_both forms.Instruction text c w.row.form r)
late_refusal text pc labels n kinds.Row c w r = absurd (r.none w.instr w.label w.row)
late_refusal text pc labels n kinds.Missing c w r = inl refl
late_refusal text pc labels n kinds.Offset c w r = inr refl
late_refusal text pc labels n k c w r = absurd r
