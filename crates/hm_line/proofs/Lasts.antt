-- The last token of a text.
use Rattle.std.proofs.Common.{◌≡◌, ℕ, ◌<◌, List, [], ◌∷◌, length, Some, None, refl, sym, ap, subst, ◌∙◌, arith}
use Rattle.std.proofs.lemmas.List.{nil_from_length}
use Rattle.hm_text_base.proofs.Steps.{some_is}
use Rattle.hm_tokens.specs.Tokens.{Tok, skip, token_at}
use Rattle.hm_line.specs.Kinds.{kind}
use Rattle.hm_line.specs.Forms.{Spaced}
use Rattle.hm_line.specs.Texts.{IsLast, is_spaced, next}
use Rattle.hm_line.proofs.Fronts.{differs, nothing_next}

ended : (rest : List ℕ) → skip rest ≡ [] → next rest ≡ None
unfolding token_at
ended rest e = nothing_next rest (rw e refl)

none_last : (rest : List ℕ) → next rest ≡ None → (h : List ℕ) → IsLast rest h → ⊥
none_last rest none h ([], t, after, are, is, end) = differs (next rest) (t, after) none (subst (λ (x : List ℕ). next x ≡ Some (t, after)) (sym are) is)
none_last rest none h (u ∷ ts, t, after, are, is, end) = differs (next rest) (u, are.0) none are.1

-- what stands behind the next token
behind_next : (rest here after : List ℕ) (t : Tok) → here ≡ skip rest → token_at here ≡ Some (t, after) → (u : Spaced) (other : List ℕ)
    → next rest ≡ Some (u, other) → other ≡ after
behind_next rest here after t is e u other f =
    let mine : next rest ≡ Some ((is_spaced rest, kind t), after) = rw (ap token_at (sym is) ∙ e) refl in
    ap (λ (p : Spaced × List ℕ). p.1) (some_is (u, other) ((is_spaced rest, kind t), after) (sym f ∙ mine))

-- with no token here there is no last one
pub no_last : (rest here : List ℕ) → here ≡ skip rest → token_at here ≡ None → (h : List ℕ) → IsLast rest h → ⊥
no_last rest here is none h last = none_last rest (nothing_next rest (ap token_at (sym is) ∙ none)) h last

-- the next token is the last one, where nothing is left behind it
pub last_here : (rest here after : List ℕ) (t : Tok) → here ≡ skip rest → token_at here ≡ Some (t, after) → length (skip after) ≡ 0 → (h : List ℕ)
    → IsLast rest h → here ≡ skip h
last_here rest here after t is e end h ([], u, other, are, next_is, left) = is ∙ ap skip are
last_here rest here after t is e end h (v ∷ ts, u, other, are, next_is, left) =
    let same = behind_next rest here after t is e v are.0 are.1 in
    absurd (none_last are.0 (ended are.0 (ap skip same ∙ nil_from_length (skip after) end)) h (ts, u, other, are.2, next_is, left))

-- and else the last one stands behind it
pub last_behind : (rest here after : List ℕ) (t : Tok) → here ≡ skip rest → token_at here ≡ Some (t, after) → 0 < length (skip after) → (h : List ℕ)
    → IsLast rest h → IsLast after h
last_behind rest here after t is e some h ([], u, other, are, next_is, left) =
    let same = behind_next rest here after t is e u other (subst (λ (x : List ℕ). next x ≡ Some (u, other)) (sym are) next_is) in
    let none : length (skip after) ≡ 0 = ap (λ (x : List ℕ). length (skip x)) (sym same) ∙ ap length left in
    absurd (omega (arith, none, some))
last_behind rest here after t is e some h (v ∷ ts, u, other, are, next_is, left) =
    let same = behind_next rest here after t is e v are.0 are.1 in
    subst (λ (x : List ℕ). IsLast x h) same (ts, u, other, are.2, next_is, left)
