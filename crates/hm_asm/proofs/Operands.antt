-- Operands of a text, one behind another.
use Rattle.std.proofs.Common.{◌≡◌, ℕ, zero, suc, ◌+◌, ◌≤◌, Bool, true, false, cond, List, [], ◌∷◌, ◌++◌, length, map, Option, Some, None, refl, sym, ap, subst}
use Rattle.std.proofs.Common.{◌∙◌, arith}
use Rattle.std.proofs.lemmas.Bool.{false≢true}
use Rattle.hm_text_base.proofs.Steps.{some_is}
use Rattle.hm_tokens.specs.declared.token.Class.TheVariants as classes
use Rattle.hm_tokens.specs.declared.marks.Mark.TheVariants as marks
use Rattle.hm_tokens.specs.Tokens.{Tok, mark, skip, token_at, comma}
use Rattle.hm_line.specs.Columns.{ArePassed, IsOperand, is_between, is_inside}
use Rattle.hm_line.specs.Forms.{Spaced, kinds}
use Rattle.hm_line.specs.Kinds.{Kind, kind}
use Rattle.hm_line.specs.Kinds as kinds_of
use Rattle.hm_line.specs.Texts.{AreTokens, is_spaced, next}
use Rattle.hm_line.proofs.Fronts.{run_le, token_shorter}
use Rattle.hm_source.specs.Directives.{Datum, datum_tokens}
use Rattle.hm_line.specs.Fronts.{AreFront}

-- COMMAS
-- behind a comma between operands there are no brackets
outside : (inside : Bool) (k : Kind) → is_between inside k ≡ true → is_inside inside k ≡ false
outside true k e = absurd (false≢true e)
outside false kinds_of.word e = absurd (false≢true e)
outside false kinds_of.number e = absurd (false≢true e)
outside false (kinds_of.mark marks.Comma) e = refl
outside false (kinds_of.mark marks.Colon) e = absurd (false≢true e)
outside false (kinds_of.mark marks.Hash) e = absurd (false≢true e)
outside false (kinds_of.mark marks.OpenBracket) e = absurd (false≢true e)
outside false (kinds_of.mark marks.CloseBracket) e = absurd (false≢true e)
outside false (kinds_of.mark marks.OpenBrace) e = absurd (false≢true e)
outside false (kinds_of.mark marks.CloseBrace) e = absurd (false≢true e)
outside false (kinds_of.mark marks.Bang) e = absurd (false≢true e)
outside false (kinds_of.mark marks.Minus) e = absurd (false≢true e)
outside false (kinds_of.mark marks.Plus) e = absurd (false≢true e)

step_passed : (n m : ℕ) (b inside : Bool) (ks js : List Kind) → (b ≡ true → inside ≡ false)
    → ((i : ℕ) → ArePassed (suc i) inside ks → ArePassed (suc (i + m)) inside (ks ++ js))
    → ArePassed (cond b n (suc n)) inside ks → ArePassed m false js → ArePassed (cond b (n + m) (suc (n + m))) inside (ks ++ js)
step_passed zero m true inside ks js out more p q =
    let count : m ≡ 0 + m = omega arith in
    let mine : ArePassed m inside ([] ++ js) = subst (λ (x : Bool). ArePassed m x js) (sym (out refl)) q in
    subst (λ (i : ℕ). ArePassed i inside (ks ++ js)) count (subst (λ (x : List Kind). ArePassed m inside (x ++ js)) (sym p) mine)
step_passed (suc n) m true inside ks js out more p q =
    let count : suc (n + m) ≡ suc n + m = omega arith in subst (λ (i : ℕ). ArePassed i inside (ks ++ js)) count (more n p)
step_passed n m false inside ks js out more p q = more n p

passed_more : (n m : ℕ) (inside : Bool) (ks js : List Kind) → ArePassed (suc n) inside ks → ArePassed m false js → ArePassed (suc (n + m)) inside (ks ++ js)
passed_more n m inside [] js p q = absurd p
passed_more n m inside (k ∷ ks) js p q =
    step_passed n m (is_between inside k) (is_inside inside k) ks js (outside inside k) (λ i r. passed_more i m (is_inside inside k) ks js r q) p q

-- TOKENS
tokens_more : (text mid there : List ℕ) (ts us : List Spaced) → AreTokens text ts mid → AreTokens mid us there → AreTokens text (ts ++ us) there
tokens_more text mid there [] us are more = subst (λ (x : List ℕ). AreTokens x us there) (sym are) more
tokens_more text mid there (t ∷ ts) us (after, is, are) more = (after, is, tokens_more after mid there ts us are more)

kinds_more : (ts us : List Spaced) → kinds (ts ++ us) ≡ kinds ts ++ kinds us
kinds_more [] us = refl
kinds_more (t ∷ ts) us = ap (λ (x : List Kind). t.1 ∷ x) (kinds_more ts us)

-- tokens at the front, with their spaces
record Front (text : List ℕ) (ts : List Tok) (rest : List ℕ) : Type 0 where
  spaced : List Spaced
  are : AreTokens text spaced rest
  kinds_are : kinds spaced ≡ map kind ts

front_of : (text : List ℕ) (ts : List Tok) (rest : List ℕ) → AreFront text ts rest → Front text ts rest
front_of text [] rest e = record { spaced = []; are = e; kinds_are = refl }
front_of text (t ∷ ts) rest (after, is, more) =
    let tail = front_of after ts rest more in
    let here : next text ≡ Some ((is_spaced text, kind t), after) = rw is refl in
    record { spaced = (is_spaced text, kind t) ∷ tail.spaced; are = (after, here, tail.are); kinds_are = ap (λ (x : List Kind). kind t ∷ x) tail.kinds_are }

front_more : (text mid there : List ℕ) (ts us : List Tok) → AreFront text ts mid → AreFront mid us there → AreFront text (ts ++ us) there
front_more text mid there [] us e more = subst (λ (x : List ℕ). AreFront x us there) (sym e) more
front_more text mid there (t ∷ ts) us (after, is, front) more = (after, is, front_more after mid there ts us front more)

-- a value has no comma
one_comma : (d : Datum) → ArePassed 1 false (map kind (datum_tokens d ++ comma ∷ []))
one_comma d = grind arith

operand_more : (text here there : List ℕ) (n : ℕ) (js : List Spaced) → IsOperand text n here → AreTokens here js there → ArePassed 1 false (kinds js)
    → IsOperand text (n + 1) there
operand_more text here there zero js (t, [], are, p) more one = (t, js, tokens_more text here there (t ∷ []) js are more, one)
operand_more text here there zero js (t, u ∷ ts, are, p) more one = absurd cc
operand_more text here there (suc n) js (t, ts, are, p) more one =
    let count : suc (n + 1) ≡ suc n + 1 = omega arith in (
      t,
      ts ++ js,
      tokens_more text here there (t ∷ ts) js are more,
      subst (λ (i : ℕ). ArePassed i false (kinds (ts ++ js))) count
          (subst (λ (x : List Kind). ArePassed (suc (n + 1)) false x) (sym (kinds_more ts js)) (passed_more n 1 false (kinds ts) (kinds js) p one)),
    )

-- the operand behind a value and its comma
pub next_operand : (text here mid there : List ℕ) (n : ℕ) (d : Datum) → IsOperand text n here → AreFront here (datum_tokens d) mid
    → AreFront mid (comma ∷ []) there → IsOperand text (n + 1) there
next_operand text here mid there n d is front separator =
    let all = front_of here (datum_tokens d ++ comma ∷ []) there (front_more here mid there (datum_tokens d) (comma ∷ []) front separator) in
    operand_more text here there n all.spaced is all.are (subst (λ (x : List Kind). ArePassed 1 false x) (sym all.kinds_are) (one_comma d))

-- the first operand stands behind the first token
pub first_operand : (text rest : List ℕ) (t : Tok) → AreFront text (t ∷ []) rest → IsOperand text 0 rest
first_operand text rest t (after, is, e) =
    let here : next text ≡ Some ((is_spaced text, kind t), after) = rw is refl in ((is_spaced text, kind t), [], (after, here, e), refl)

-- what is left of a text is no longer than the text
next_le : (text after : List ℕ) (s : Spaced) → next text ≡ Some (s, after) → length after ≤ length text
next_le text after s e = go (token_at (skip text)) refl
  where
    nothing : Option (Tok × List ℕ)
    nothing = None

    go : (o : Option (Tok × List ℕ)) → token_at (skip text) ≡ o → length after ≤ length text
    go (Some x) f =
        let mine : next text ≡ Some ((is_spaced text, kind x.0), x.1) = rw f refl in
        let same : x.1 ≡ after = ap (λ (p : Spaced × List ℕ). p.1) (some_is ((is_spaced text, kind x.0), x.1) (s, after) (sym mine ∙ e)) in
        omega (arith, token_shorter (skip text) x f, run_le classes.Space text, ap length same)
    go None f =
        let mine : next text ≡ None = rw f refl in
        absurd (let g = sym mine ∙ e in cc)

tokens_le : (text rest : List ℕ) (ts : List Spaced) → AreTokens text ts rest → length rest ≤ length text
tokens_le text rest [] e = let f = ap length e in omega (arith, f)
tokens_le text rest (t ∷ ts) (after, is, are) = omega (arith, next_le text after t is, tokens_le after rest ts are)

pub operand_le : (text rest : List ℕ) (n : ℕ) → IsOperand text n rest → length rest ≤ length text
operand_le text rest n (t, ts, are, p) = tokens_le text rest (t ∷ ts) are
