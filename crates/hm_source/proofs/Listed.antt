-- Lists of values, by the first of them.
use Rattle.std.proofs.Common.{◌≡◌, ℕ, List, [], ◌∷◌, refl, sym, ap, subst, ◌∙◌}
use Rattle.hm_tokens.specs.Lines.{AreTokensOf}
use Rattle.hm_tokens.specs.Tokens.{skip, comma}
use Rattle.hm_source.specs.declared.values.DatumSize.{DatumSize}
use Rattle.hm_source.specs.Directives.{Datum, datum_tokens, list_tokens, Fits}
use Rattle.hm_line.specs.Fronts.{AreFront}
use Rattle.hm_source.specs.Shown.{AreListed, EndsHere}
use Rattle.hm_source.proofs.Fronts.{all_is_front, ends_at, ends_before, front_and_rest, front_is_all, front_of_all, nothing_there, same_front}

-- one value, and nothing behind it
pub listed_last : (s : DatumSize) (text mid : List ℕ) (d : Datum) → AreFront text (datum_tokens d) mid → skip mid ≡ [] → Fits s d → AreListed s text d []
listed_last s text mid d f e fits = (front_is_all text mid (datum_tokens d) f e, (fits, tt))

-- a value, a comma, and a list
pub listed_more : (s : DatumSize) (text mid rest : List ℕ) (d e : Datum) (es : List Datum) → AreFront text (datum_tokens d) mid → AreFront mid (comma ∷ []) rest
    → Fits s d → AreListed s rest e es → AreListed s text d (e ∷ es)
listed_more s text mid rest d e es f c fits more = (
  front_and_rest text mid (datum_tokens d) (comma ∷ list_tokens e es) f
      (c.0, c.1, subst (λ (x : List ℕ). AreTokensOf x (list_tokens e es)) (sym c.2) more.0),
  (fits, more.1),
)

-- the first value, and where it ends
pub record First (s : DatumSize) (text : List ℕ) (d : Datum) : Type 0 where
  pub mid : List ℕ
  pub front : AreFront text (datum_tokens d) mid
  pub ends : EndsHere mid
  pub fits : Fits s d

pub listed_first : (s : DatumSize) (text : List ℕ) (d : Datum) (ds : List Datum) → AreListed s text d ds → First s text d
listed_first s text d [] l =
    let f = all_is_front text (datum_tokens d) l.0 in
    record { mid = f.0; front = f.1; ends = ends_at f.0 f.2; fits = l.1.0 }
listed_first s text d (e ∷ es) l =
    let f = front_of_all text (datum_tokens d) (comma ∷ list_tokens e es) l.0 in
    record { mid = f.0; front = f.1; ends = ends_before f.0 f.2.0 (f.2.0, f.2.1, refl); fits = l.1.0 }

-- every front of a list that is a value, and that no `+` follows, ends at one place
abbrev pub EndsAt : List ℕ → List ℕ → Type 0
EndsAt text mid = (d : Datum) (rest : List ℕ) → AreFront text (datum_tokens d) rest → EndsHere rest → mid ≡ rest

-- a comma behind the first value: others follow
pub record Others (s : DatumSize) (rest : List ℕ) (ds : List Datum) : Type 0 where
  pub e : Datum
  pub es : List Datum
  pub listed : AreListed s rest e es
  pub are : ds ≡ e ∷ es

pub listed_behind : (s : DatumSize) (text mid rest : List ℕ) (d : Datum) (ds : List Datum) → EndsAt text mid → AreFront mid (comma ∷ []) rest
    → AreListed s text d ds → Others s rest ds
listed_behind s text mid rest d [] only c l =
    let f = all_is_front text (datum_tokens d) l.0 in
    let same : mid ≡ f.0 = only d f.0 f.1 (ends_at f.0 f.2) in
    absurd (nothing_there mid rest comma (ap skip same ∙ f.2) c)
listed_behind s text mid rest d (e ∷ es) only c l =
    let f = front_of_all text (datum_tokens d) (comma ∷ list_tokens e es) l.0 in
    let separator : AreFront f.0 (comma ∷ []) f.2.0 = (f.2.0, f.2.1, refl) in
    let same : mid ≡ f.0 = only d f.0 f.1 (ends_before f.0 f.2.0 separator) in
    let there = same_front f.0 comma comma f.2.0 rest separator (subst (λ (x : List ℕ). AreFront x (comma ∷ []) rest) same c) in
    record { e = e; es = es; listed = (subst (λ (x : List ℕ). AreTokensOf x (list_tokens e es)) there.1 f.2.2, l.1.1); are = refl }

-- nothing behind the first value: no others follow
pub listed_alone : (s : DatumSize) (text mid : List ℕ) (d : Datum) (ds : List Datum) → EndsAt text mid → skip mid ≡ [] → AreListed s text d ds → ds ≡ []
listed_alone s text mid d [] only e l = refl
listed_alone s text mid d (x ∷ xs) only e l =
    let f = front_of_all text (datum_tokens d) (comma ∷ list_tokens x xs) l.0 in
    let separator : AreFront f.0 (comma ∷ []) f.2.0 = (f.2.0, f.2.1, refl) in
    let same : mid ≡ f.0 = only d f.0 f.1 (ends_before f.0 f.2.0 separator) in
    absurd (nothing_there f.0 f.2.0 comma (ap skip (sym same) ∙ e) separator)

-- neither nothing nor a comma behind it: it is no list
pub not_listed : (s : DatumSize) (text mid : List ℕ) (d : Datum) (ds : List Datum) → EndsAt text mid → (skip mid ≡ [] → ⊥)
    → ((rest : List ℕ) → AreFront mid (comma ∷ []) rest → ⊥) → AreListed s text d ds → ⊥
not_listed s text mid d [] only some none l =
    let f = all_is_front text (datum_tokens d) l.0 in
    let same : mid ≡ f.0 = only d f.0 f.1 (ends_at f.0 f.2) in
    some (ap skip same ∙ f.2)
not_listed s text mid d (x ∷ xs) only some none l =
    let f = front_of_all text (datum_tokens d) (comma ∷ list_tokens x xs) l.0 in
    let separator : AreFront f.0 (comma ∷ []) f.2.0 = (f.2.0, f.2.1, refl) in
    let same : mid ≡ f.0 = only d f.0 f.1 (ends_before f.0 f.2.0 separator) in
    none f.2.0 (subst (λ (x : List ℕ). AreFront x (comma ∷ []) f.2.0) (sym same) separator)
