-- A text has one line of tokens, and ranges leave lanes as they are.
use Rattle.std.proofs.Common.{◌≡◌, ℕ, zero, suc, ◌+◌, ◌-◌, Bool, true, false, cond, List, [], ◌∷◌, ◌++◌, Option, Some, None, refl, sym, ap, subst, ◌∙◌}
use Rattle.std.specs.Prelude.{◌&&◌, ◌||◌}
use Rattle.std.proofs.lemmas.Bool.{and_parts, false≢true, or_right}
use Rattle.hm_text_base.proofs.Steps.{some_is}
use Rattle.hm_tokens.specs.declared.marks.Mark.TheVariants as marks
use Rattle.hm_tokens.specs.Lines.{AreTokensOf, IsLineOf}
use Rattle.hm_tokens.specs.Ranges.{is_inside, is_rising, last_register, normal, range_tokens, register_of, rising, singles}
use Rattle.hm_tokens.specs.Tokens.{Tok, word, number, mark, is_the_mark, run, skip, token_at}

-- ONE LINE
nothing_there : (t : Tok) (rest : List ℕ) → token_at [] ≡ Some (t, rest) → ⊥
unfolding token_at run
nothing_there t rest e = absurd cc

none_at : (text rest : List ℕ) (t : Tok) → skip text ≡ [] → token_at (skip text) ≡ Some (t, rest) → ⊥
none_at text rest t e is = nothing_there t rest (subst (λ (x : List ℕ). token_at x ≡ Some (t, rest)) e is)

cons_same : (t u : Tok) (ts us : List Tok) → t ≡ u → ts ≡ us → t ∷ ts ≡ u ∷ us
cons_same t u ts us p q = λ j. p j ∷ q j

-- a token and what stands behind it
abbrev Front : Type 0
Front = Tok × List ℕ

same_tokens : (ts us : List Tok) (text : List ℕ) → AreTokensOf text ts → AreTokensOf text us → ts ≡ us
same_tokens [] [] text a b = refl
same_tokens [] (u ∷ us) text a b = absurd (none_at text b.0 u a b.1)
same_tokens (t ∷ ts) [] text a b = absurd (none_at text a.0 t b a.1)
same_tokens (t ∷ ts) (u ∷ us) text a b =
    let e = some_is (t, a.0) (u, b.0) (sym a.1 ∙ b.1) in
    cons_same t u ts us (ap (λ (x : Front). x.0) e) (same_tokens ts us b.0 (subst (λ (x : List ℕ). AreTokensOf x ts) (ap (λ (x : Front). x.1) e) a.2) b.2)

pub same_line : (ts us : List Tok) (text : List ℕ) → IsLineOf text ts → IsLineOf text us → ts ≡ us
same_line [] us text a b = absurd a
same_line (t ∷ ts) [] text a b = absurd b
same_line (t ∷ ts) (u ∷ us) text a b =
    let e = some_is (t, a.0) (u, b.0) (sym a.1 ∙ b.1) in
    cons_same t u ts us (ap (λ (x : Front). x.0) e) (same_tokens ts us b.0 (subst (λ (x : List ℕ). AreTokensOf x ts) (ap (λ (x : Front). x.1) e) a.3) b.3)

-- LANES: a bracket with a number behind it
abbrev pub is_number_first : List Tok → Bool
is_number_first [] = false
is_number_first (word w ∷ ts) = false
is_number_first (number n ∷ ts) = true
is_number_first (mark c ∷ ts) = false

abbrev pub has_lane : List Tok → Bool
has_lane [] = false
has_lane (t ∷ ts) = (is_the_mark marks.OpenBracket t && is_number_first ts) || has_lane ts

or_cases : (a b c : Bool) → (a || b) ≡ true → (a ≡ true → c ≡ true) → (b ≡ true → c ≡ true) → c ≡ true
or_cases true b c e f g = f refl
or_cases false b c e f g = g e

rising_lane : (n k : ℕ) (ts : List Tok) → has_lane (rising k n ++ ts) ≡ has_lane ts
unfolding rising
rising_lane zero k ts = refl
rising_lane (suc n) k ts = rising_lane n (k + 1) ts

range_lane : (first last : Option ℕ) (ts : List Tok) → has_lane (range_tokens first last ++ ts) ≡ has_lane ts
range_lane (Some k) (Some j) ts = rising_lane (j - k) k ts
range_lane (Some k) None ts = refl
range_lane None last ts = refl

-- a number that comes first is not part of a range
rising_number : (n k : ℕ) (ts : List Tok) → is_number_first (rising k n ++ ts) ≡ false
unfolding rising
rising_number zero k ts = refl
rising_number (suc n) k ts = refl

range_number : (first last : Option ℕ) (ts : List Tok) → is_rising first last ≡ true → is_number_first (range_tokens first last ++ ts) ≡ false
range_number (Some k) (Some j) ts e = rising_number (j - k) k ts
range_number (Some k) None ts e = absurd (false≢true e)
range_number None last ts e = absurd (false≢true e)

number_of : (t : Tok) (ts us : List Tok) → is_number_first (t ∷ ts) ≡ true → is_number_first (t ∷ us) ≡ true
number_of (word w) ts us e = absurd (false≢true e)
number_of (number n) ts us e = refl
number_of (mark c) ts us e = absurd (false≢true e)

-- a number that comes first in what has no ranges comes first in what may have them
chosen_number : (b : Bool) (range behind single ts : List Tok) (t : Tok) → (b ≡ true → is_number_first (range ++ behind) ≡ false)
    → is_number_first (cond b (range ++ behind) (t ∷ single)) ≡ true → is_number_first (t ∷ ts) ≡ true
chosen_number true range behind single ts t none e = absurd (false≢true (sym (none refl) ∙ e))
chosen_number false range behind single ts t none e = number_of t single ts e

number_first : (ts : List Tok) (inside : Bool) → is_number_first (singles 0 inside ts) ≡ true → is_number_first ts ≡ true
unfolding singles
number_first [] inside e = absurd (false≢true e)
number_first (t ∷ ts) inside e =
    chosen_number (inside && is_rising (register_of t) (last_register ts)) (range_tokens (register_of t) (last_register ts)) (singles 2 inside ts)
    (singles 0 (is_inside inside t) ts) ts t
    (λ b. range_number (register_of t) (last_register ts) (singles 2 inside ts) (and_parts inside (is_rising (register_of t) (last_register ts)) b).1) e

-- and so does a lane
chosen_lane : (b : Bool) (range behind single ts : List Tok) (t : Tok) → has_lane (range ++ behind) ≡ has_lane behind
    → (has_lane behind ≡ true → has_lane ts ≡ true) → (is_number_first single ≡ true → is_number_first ts ≡ true)
    → (has_lane single ≡ true → has_lane ts ≡ true) → has_lane (cond b (range ++ behind) (t ∷ single)) ≡ true → has_lane (t ∷ ts) ≡ true
chosen_lane true range behind single ts t same more number_ lane e =
    or_right (is_the_mark marks.OpenBracket t && is_number_first ts) (has_lane ts) (more (sym same ∙ e))
chosen_lane false range behind single ts t same more number_ lane e =
    or_cases (is_the_mark marks.OpenBracket t && is_number_first single) (has_lane single) (has_lane (t ∷ ts)) e
    (λ f. front (and_parts (is_the_mark marks.OpenBracket t) (is_number_first single) f))
    (λ f. or_right (is_the_mark marks.OpenBracket t && is_number_first ts) (has_lane ts) (lane f))
  where
    both : (a b c : Bool) → a ≡ true → b ≡ true → ((a && b) || c) ≡ true
    both a b c p q = rw (p, q) refl

    front : (is_the_mark marks.OpenBracket t ≡ true) × (is_number_first single ≡ true) → has_lane (t ∷ ts) ≡ true
    front p = both (is_the_mark marks.OpenBracket t) (is_number_first ts) (has_lane ts) p.0 (number_ p.1)

singles_lane : (ts : List Tok) (over : ℕ) (inside : Bool) → has_lane (singles over inside ts) ≡ true → has_lane ts ≡ true
unfolding singles
singles_lane [] over inside e = e
singles_lane (t ∷ ts) (suc over) inside e = or_right (is_the_mark marks.OpenBracket t && is_number_first ts) (has_lane ts) (singles_lane ts over inside e)
singles_lane (t ∷ ts) zero inside e =
    chosen_lane (inside && is_rising (register_of t) (last_register ts)) (range_tokens (register_of t) (last_register ts)) (singles 2 inside ts)
    (singles 0 (is_inside inside t) ts) ts t
    (range_lane (register_of t) (last_register ts) (singles 2 inside ts)) (singles_lane ts 2 inside) (number_first ts (is_inside inside t))
    (singles_lane ts 0 (is_inside inside t)) e

pub normal_lane : (t : Tok) (ts : List Tok) → has_lane (singles 0 (is_inside false t) ts) ≡ true → has_lane ts ≡ true
normal_lane t ts e = singles_lane ts 0 (is_inside false t) e

-- the first token stands as it is
pub normal_first : (t : Tok) (ts : List Tok) → normal (t ∷ ts) ≡ t ∷ singles 0 (is_inside false t) ts
unfolding singles
normal_first t ts = refl
