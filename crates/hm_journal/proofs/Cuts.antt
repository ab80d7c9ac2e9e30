-- What stands behind the first line of a text, as code cuts it, and texts that are compared.
use Rattle.std.proofs.Common.{◌≡◌, ℕ, ◌-◌, ◌==◌, Bool, true, false, arith, ap, refl, sym, ◌∙◌, List, [], ◌∷◌, drop}
use Rattle.std.proofs.Common.{◌++◌, length, take}
use Rattle.std.specs.Bool.{Decides}
use Rattle.std.specs.Str.{bytes_eq}
use Rattle.std.proofs.lemmas.List.{append_cancel_left, take_rest}
use Rattle.std.proofs.lemmas.Slice.Eq.{bytes_eq-Decides}
use Rattle.hm_text_base.specs.Spans.{span}
use Rattle.hm_journal.specs.Formats.{behind_line}

-- the first end of a line is the first byte 10
pub behind_is : (bs : List ℕ) → behind_line bs ≡ drop 1 (span 10 bs).1
unfolding span
behind_is [] = refl
behind_is (b ∷ bs) = by_byte (b == 10) refl (behind_is bs)
  where
    by_byte : (t : Bool) → (b == 10) ≡ t → behind_line bs ≡ drop 1 (span 10 bs).1 → behind_line (b ∷ bs) ≡ drop 1 (span 10 (b ∷ bs)).1
    by_byte true is more = rw is refl
    by_byte false is more = rw is more

-- the same of what was cut there, with a first byte or with none
pub behind_all : (bs rest : List ℕ) → rest ≡ (span 10 bs).1 → length rest ≡ 0 → rest ≡ behind_line bs
behind_all bs [] is none = ap (drop 1) is ∙ sym (behind_is bs)
behind_all bs (b ∷ rest) is none = absurd (omega (arith, none))

pub behind_first : (bs rest : List ℕ) → rest ≡ (span 10 bs).1 → take (length rest - 1) (drop 1 rest) ≡ behind_line bs
behind_first bs rest is = take_rest rest 1 ∙ ap (drop 1) is ∙ sym (behind_is bs)

-- a test of two texts tells of what they are
pub tells : (b : Bool) (xs ys u v : List ℕ) → b ≡ bytes_eq u v → u ≡ xs → v ≡ ys → Decides b (xs ≡ ys)
tells b xs ys u v e p q =
    let d = bytes_eq-Decides u v in
    (λ t. sym p ∙ d.0 (sym e ∙ t) ∙ q, λ same. e ∙ d.1 (p ∙ same ∙ sym q))

-- two texts that begin alike are the same where their ends are
pub tells_end : (front end rest text whole : List ℕ) (b : Bool) → text ≡ front ++ end → whole ≡ front ++ rest
    → Decides b (end ≡ rest) → Decides b (text ≡ whole)
tells_end front end rest text whole b is all tells = (
  λ t. is ∙ ap (λ (r : List ℕ). front ++ r) (tells.0 t) ∙ sym all,
  λ same. tells.1 (append_cancel_left front end rest (sym is ∙ same ∙ all)),
)
