-- The tokens at the front of a text: there is one list of them of each length, and fronts go one behind another.
use Rattle.std.proofs.Common.{◌≡◌, ℕ, List, [], ◌∷◌, ◌++◌, Option, Some, None, length, refl, sym, ap, subst, ◌∙◌, arith}
use Rattle.std.specs.Prelude.{IfNone}
use Rattle.hm_text_base.proofs.Steps.{some_is}
use Rattle.hm_tokens.specs.Lines.{AreTokensOf}
use Rattle.hm_tokens.specs.Tokens.{Tok, skip, token_at, comma, plus_mark}
use Rattle.hm_line.specs.Fronts.{AreFront}
use Rattle.hm_text_tables.proofs.Decided.{mark_is}
use Rattle.hm_source.specs.Shown.{EndsHere}

-- a token and a rest
abbrev Next : Type 0
Next = Tok × List ℕ

abbrev nothing : Option Next
nothing = None

no_token : (x : Next) → token_at [] ≡ Some x → ⊥
unfolding token_at
no_token x e = let f : nothing ≡ Some x = e in absurd cc

-- one token is read there, with one rest
pub same_next : (text : List ℕ) (t u : Tok) (r s : List ℕ) → token_at (skip text) ≡ Some (t, r) → token_at (skip text) ≡ Some (u, s) → (t ≡ u) × (r ≡ s)
same_next text t u r s e f =
    let both : ◌≡◌ {A = Next} (t, r) (u, s) = some_is (t, r) (u, s) (sym e ∙ f) in
    (ap (λ (x : Next). x.0) both, ap (λ (x : Next). x.1) both)

pub front_one : (text : List ℕ) (t u : Tok) (r s : List ℕ) → token_at (skip text) ≡ Some (t, r) → AreFront text (u ∷ []) s → (t ≡ u) × (r ≡ s)
front_one text t u r s e f =
    let same = same_next text t u r f.0 e f.1 in
    (same.0, same.1 ∙ f.2)

pub same_front : (text : List ℕ) (t u : Tok) (r s : List ℕ) → AreFront text (t ∷ []) r → AreFront text (u ∷ []) s → (t ≡ u) × (r ≡ s)
same_front text t u r s e f =
    let same = front_one text t u e.0 s e.1 f in
    (same.0, sym e.2 ∙ same.1)

-- all tokens of a text are one list
pub one_tokens : (text : List ℕ) (ts us : List Tok) → AreTokensOf text ts → AreTokensOf text us → ts ≡ us
one_tokens text [] [] a b = refl
one_tokens text [] (u ∷ us) a b = absurd (no_token (u, b.0) (ap token_at (sym a) ∙ b.1))
one_tokens text (t ∷ ts) [] a b = absurd (no_token (t, a.0) (ap token_at (sym b) ∙ a.1))
one_tokens text (t ∷ ts) (u ∷ us) a b =
    let same = same_next text t u a.0 b.0 a.1 b.1 in
    let rest : ts ≡ us = one_tokens b.0 ts us (subst (λ (x : List ℕ). AreTokensOf x ts) same.1 a.2) b.2 in
    ap (λ (x : Tok). x ∷ ts) same.0 ∙ ap (λ (x : List Tok). u ∷ x) rest

-- a front, and the tokens behind it
pub front_and_rest : (text mid : List ℕ) (ts us : List Tok) → AreFront text ts mid → AreTokensOf mid us → AreTokensOf text (ts ++ us)
front_and_rest text mid [] us a b = subst (λ (x : List ℕ). AreTokensOf x us) (sym a) b
front_and_rest text mid (t ∷ ts) us a b = (a.0, a.1, front_and_rest a.0 mid ts us a.2 b)

pub front_of_all : (text : List ℕ) (ts us : List Tok) → AreTokensOf text (ts ++ us) → (mid : List ℕ) × AreFront text ts mid × AreTokensOf mid us
front_of_all text [] us a = (text, refl, a)
front_of_all text (t ∷ ts) us a =
    let more = front_of_all a.0 ts us a.2 in
    (more.0, (a.0, a.1, more.1), more.2)

-- a front behind which nothing stands
pub front_is_all : (text mid : List ℕ) (ts : List Tok) → AreFront text ts mid → skip mid ≡ [] → AreTokensOf text ts
front_is_all text mid [] a e = ap skip a ∙ e
front_is_all text mid (t ∷ ts) a e = (a.0, a.1, front_is_all a.0 mid ts a.2 e)

pub all_is_front : (text : List ℕ) (ts : List Tok) → AreTokensOf text ts → (mid : List ℕ) × AreFront text ts mid × (skip mid ≡ [])
all_is_front text [] a = (text, refl, a)
all_is_front text (t ∷ ts) a =
    let more = all_is_front a.0 ts a.2 in
    (more.0, (a.0, a.1, more.1), more.2)

-- where nothing or a comma stands, no `+` does
pub ends_at : (mid : List ℕ) → skip mid ≡ [] → EndsHere mid
ends_at mid e after f = no_token (plus_mark, after) (ap token_at (sym e) ∙ f)

pub ends_before : (mid rest : List ℕ) → AreFront mid (comma ∷ []) rest → EndsHere mid
ends_before mid rest c after f =
    let same = front_one mid plus_mark comma after rest f c in
    absurd (omega (arith, mark_is 43 44 same.0))

-- nothing stands where a token does
pub nothing_there : (mid rest : List ℕ) (t : Tok) → skip mid ≡ [] → AreFront mid (t ∷ []) rest → ⊥
nothing_there mid rest t e f = no_token (t, f.0) (ap token_at (sym e) ∙ f.1)

pub if_none : {A : Type 0} (o : Option A) (P : Type 0) → P → IfNone o P
if_none (Some x) P p = tt
if_none None P p = p

pub not_empty : (here rest : List ℕ) → (length here ≡ 0 → ⊥) → here ≡ skip rest → skip rest ≡ [] → ⊥
not_empty here rest some is e = some (ap length (is ∙ e))
