-- Commas that are passed, token by token.
use Rattle.std.proofs.Common.{◌≡◌, ℕ, zero, suc, ◌-◌, ◌<◌, Bool, true, false, cond, List, [], ◌∷◌, Some, None, refl, sym, ap, subst, ◌∙◌, arith}
use Rattle.hm_text_base.proofs.Steps.{some_is}
use Rattle.hm_tokens.specs.Tokens.{Tok, skip, token_at}
use Rattle.hm_line.specs.Columns.{ArePassed, IsOperand, is_between, is_inside}
use Rattle.hm_line.specs.Forms.{Spaced, kinds}
use Rattle.hm_line.specs.Kinds.{kind}
use Rattle.hm_line.specs.Texts.{AreTokens, is_spaced, next}
use Rattle.hm_line.proofs.Fronts.{differs, nothing_next}

-- from here on n commas are passed up to there
abbrev pub Passes : ℕ → Bool → List ℕ → List ℕ → Type 0
Passes n inside rest there = (ts : List Spaced) × AreTokens rest ts there × ArePassed n inside (kinds ts)

next_at : (rest after : List ℕ) (t : Tok) → token_at (skip rest) ≡ Some (t, after) → next rest ≡ Some ((is_spaced rest, kind t), after)
next_at rest after t e = rw e refl

left_is : (b : Bool) (j n : ℕ) → n ≡ cond b (suc j - 1) (suc j) → cond b j (suc j) ≡ n
left_is true j n e = omega (arith, e)
left_is false j n e = sym e

-- none are left
pub none_passed : (inside : Bool) (rest there : List ℕ) → Passes 0 inside rest there → rest ≡ there
none_passed inside rest there ([], are, p) = are
none_passed inside rest there (u ∷ ts, are, p) = absurd cc

pub here_passed : (inside : Bool) (rest : List ℕ) → Passes 0 inside rest rest
here_passed inside rest = ([], refl, refl)

-- no token is left
pub no_more_passed : (n : ℕ) (inside : Bool) (rest there : List ℕ) → 0 < n → token_at (skip rest) ≡ None → Passes n inside rest there → ⊥
no_more_passed zero inside rest there lt e p = absurd (omega arith)
no_more_passed (suc j) inside rest there lt e ([], are, p) = p
no_more_passed (suc j) inside rest there lt e (u ∷ ts, are, p) = differs (next rest) (u, are.0) (nothing_next rest e) are.1

-- a token, and what is left behind it
pub then_passed : (n left : ℕ) (inside : Bool) (rest after there : List ℕ) (t : Tok) → 0 < n → left ≡ cond (is_between inside (kind t)) (n - 1) n
    → token_at (skip rest) ≡ Some (t, after)
    → Passes n inside rest there → Passes left (is_inside inside (kind t)) after there
then_passed zero left inside rest after there t lt e f p = absurd (omega arith)
then_passed (suc j) left inside rest after there t lt e f ([], are, p) = absurd p
then_passed (suc j) left inside rest after there t lt e f (u ∷ ts, are, p) =
    let same = some_is (u, are.0) ((is_spaced rest, kind t), after) (sym are.1 ∙ next_at rest after t f) in
    let mine = subst (λ (x : Spaced). ArePassed (cond (is_between inside x.1) j (suc j)) (is_inside inside x.1) (kinds ts))
    (ap (λ (x : Spaced × List ℕ). x.0) same) p in (
      ts,
      subst (λ (x : List ℕ). AreTokens x ts there) (ap (λ (x : Spaced × List ℕ). x.1) same) are.2,
      subst (λ (m : ℕ). ArePassed m (is_inside inside (kind t)) (kinds ts)) (left_is (is_between inside (kind t)) j left e) mine,
    )

pub before_passed : (n left : ℕ) (inside : Bool) (rest after there : List ℕ) (t : Tok) → 0 < n → left ≡ cond (is_between inside (kind t)) (n - 1) n
    → token_at (skip rest) ≡ Some (t, after)
    → Passes left (is_inside inside (kind t)) after there → Passes n inside rest there
before_passed zero left inside rest after there t lt e f p = absurd (omega arith)
before_passed (suc j) left inside rest after there t lt e f p = (
  (is_spaced rest, kind t) ∷ p.0,
  (after, next_at rest after t f, p.1),
  subst (λ (m : ℕ). ArePassed m (is_inside inside (kind t)) (kinds p.0)) (sym (left_is (is_between inside (kind t)) j left e)) p.2,
)

-- the first word
pub operand_passes : (text behind there : List ℕ) (n : ℕ) (t : Tok) → token_at (skip text) ≡ Some (t, behind) → IsOperand text n there
    → Passes n false behind there
operand_passes text behind there n t e o =
    let same = some_is (o.0, o.2.0) ((is_spaced text, kind t), behind) (sym o.2.1 ∙ next_at text behind t e) in
    (o.1, subst (λ (x : List ℕ). AreTokens x o.1 there) (ap (λ (x : Spaced × List ℕ). x.1) same) o.2.2, o.3)

pub passes_operand : (text behind there : List ℕ) (n : ℕ) (t : Tok) → token_at (skip text) ≡ Some (t, behind) → Passes n false behind there
    → IsOperand text n there
passes_operand text behind there n t e p = ((is_spaced text, kind t), p.0, (behind, next_at text behind t e, p.1), p.2)
