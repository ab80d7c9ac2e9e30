-- The tokens that are read are those of the text.
use Rattle.std.proofs.Common.{◌≡◌, ℕ, zero, suc, ◌≤◌, true, false, cond, eqb, List, [], ◌∷◌, length, Option, Some, None, refl, sym, subst, ◌∙◌, inl, inr, arith}
use Rattle.std.specs.Prelude.{option_map, IfSome}
use Rattle.std.proofs.lemmas.Bool.{cases_Bool, eqb-true, ne_eqb}
use Rattle.hm_text_base.specs.Reading.{ReadsSome}
use Rattle.hm_text_base.proofs.Steps.{and_then_some, map_some, some_is, test_some}
use Rattle.hm_tokens.specs.Tokens.{Tok, token_at, skip}
use Rattle.hm_tokens.specs.Lines.{AreTokensOf, IsLineOf, is_gap}
use Rattle.hm_tokens.specs.Steps.{line_in, tokens_from}

abbrev given : {A : Type 0} → A → Option A
given x = Some x

is_nil : (xs : List ℕ) → eqb (length xs) 0 ≡ true → xs ≡ []
is_nil [] e = refl
is_nil (x ∷ xs) e = absurd (let n = eqb-true (length (x ∷ xs)) 0 e in omega (arith, n))

-- FOUND
no_tokens : (text : List ℕ) (ts : List Tok) → skip text ≡ [] → given [] ≡ given ts → AreTokensOf text ts
no_tokens text ts e is = subst (λ (x : List Tok). AreTokensOf text x) (some_is [] ts is) e

one_more : (text rest : List ℕ) (t : Tok) (us ts : List Tok) → token_at (skip text) ≡ Some (t, rest) → AreTokensOf rest us → t ∷ us ≡ ts → AreTokensOf text ts
one_more text rest t us ts e are is = subst (λ (x : List Tok). AreTokensOf text x) is (rest, e, are)

tokens_found : (most : ℕ) (text : List ℕ) (ts : List Tok) → tokens_from most (skip text) ≡ Some ts → AreTokensOf text ts
unfolding tokens_from
tokens_found zero text ts e =
    let a = test_some (eqb (length (skip text)) 0) (Some []) ts e in
    no_tokens text ts (is_nil (skip text) a.0) a.1
tokens_found (suc most) text ts e =
    elim (cases_Bool (eqb (length (skip text)) 0)) [
      | inl here ↦ no_tokens text ts (is_nil (skip text) here) (rw here at e)
      | inr there ↦
          let a = and_then_some (token_at (skip text)) (λ x. option_map (λ us. x.0 ∷ us) (tokens_from most (skip x.1))) ts (rw there at e) in
          let b = map_some (λ us. a.0.0 ∷ us) (tokens_from most (skip a.0.1)) ts a.2 in
          one_more text a.0.1 a.0.0 b.0 ts a.1 (tokens_found most a.0.1 b.0 b.1) b.2
    ]

first_apart : (text rest : List ℕ) (t : Tok) (us ts : List Tok) → token_at (skip text) ≡ Some (t, rest) → is_gap rest ≡ true → AreTokensOf rest us → t ∷ us ≡ ts
    → IsLineOf text ts
first_apart text rest t us ts e gap are is = subst (λ (x : List Tok). IsLineOf text x) is (rest, e, gap, are)

line_is : (text : List ℕ) (ts : List Tok) → line_in text ≡ Some ts → IsLineOf text ts
unfolding line_in
line_is text ts e =
    let a = and_then_some (token_at (skip text)) (λ x. cond (is_gap x.1) (option_map (λ us. x.0 ∷ us) (tokens_from 39 (skip x.1))) None) ts e in
    let g = test_some (is_gap a.0.1) (option_map (λ us. a.0.0 ∷ us) (tokens_from 39 (skip a.0.1))) ts a.2 in
    let b = map_some (λ us. a.0.0 ∷ us) (tokens_from 39 (skip a.0.1)) ts g.1 in
    first_apart text a.0.1 a.0.0 b.0 ts a.1 g.0 (tokens_found 39 a.0.1 b.0 b.1) b.2

-- AND ALL THAT ARE THERE
some_text : (text : List ℕ) (x : Tok × List ℕ) → token_at text ≡ Some x → eqb (length text) 0 ≡ false
unfolding token_at
some_text [] x e = absurd cc
some_text (b ∷ text) x e = ne_eqb (length (b ∷ text)) 0 (λ is. omega arith)

ended : (most : ℕ) → tokens_from most [] ≡ Some []
unfolding tokens_from
ended zero = refl
ended (suc most) = refl

tokens_only : (most : ℕ) (text : List ℕ) (ts : List Tok) → length ts ≤ most → AreTokensOf text ts → tokens_from most (skip text) ≡ Some ts
unfolding tokens_from
tokens_only most text [] le are = rw are (ended most)
tokens_only zero text (t ∷ ts) le are = absurd (omega arith)
tokens_only (suc most) text (t ∷ ts) le are =
    rw (some_text (skip text) (t, are.0) are.1, are.1, tokens_only most are.0 ts (omega arith) are.2) refl

line_only_one : (text : List ℕ) (ts : List Tok) → IsLineOf text ts → length ts ≤ 40 → line_in text ≡ Some ts
unfolding line_in
line_only_one text [] is le = absurd is
line_only_one text (t ∷ ts) is le = rw (is.1, is.2, tokens_only 39 is.0 ts (omega arith) is.3) refl

-- AS THE CODE ANSWERS
pub line_found : {A : Type 0} (view : A → List Tok) (text : List ℕ) (r : Option A) → ReadsSome view r (line_in text) → IfSome r (λ v. IsLineOf text (view v))
line_found view text (Some v) e = line_is text (view v) e
line_found view text None e = tt

pub line_only : {A : Type 0} (view : A → List Tok) (text : List ℕ) (r : Option A) → ReadsSome view r (line_in text) → (ts : List Tok) → IsLineOf text ts
    → length ts ≤ 40 → option_map view r ≡ Some ts
line_only view text (Some v) e ts is le = sym e ∙ line_only_one text ts is le
line_only view text None e ts is le = sym e ∙ line_only_one text ts is le
