-- A text has one list of values, and asks for one thing.
use Rattle.std.proofs.Common.{◌≡◌, true, false, List, [], ◌∷◌, ◌++◌, refl, sym, ◌∙◌, arith}
use Rattle.std.proofs.lemmas.List.{append-nil}
use Rattle.hm_tokens.specs.Tokens.{Tok, number, comma, plus_mark}
use Rattle.hm_source.specs.Directives.{Datum, literal, named, beyond, datum_tokens, list_tokens}
use Rattle.hm_text_tables.proofs.Decided.{mark_is}

-- no `+` goes on with what stands before
abbrev EndsTokens : List Tok → Type 0
EndsTokens ts = (us : List Tok) → ts ≡ plus_mark ∷ us → ⊥

head_is : (t u : Tok) (ts us : List Tok) → t ∷ ts ≡ u ∷ us → t ≡ u
head_is t u ts us e = cc

no_tokens : EndsTokens []
no_tokens us e = absurd cc

comma_ends : (ts : List Tok) → EndsTokens (comma ∷ ts)
comma_ends ts us e = absurd (omega (arith, mark_is 44 43 (head_is comma plus_mark ts us e)))

-- one value stands in front of tokens
one_front : (d e : Datum) (ts us : List Tok) → EndsTokens ts → EndsTokens us → datum_tokens d ++ ts ≡ datum_tokens e ++ us → (d ≡ e) × (ts ≡ us)
one_front (literal false n) (literal false m) ts us x y f = (cc, cc)
one_front (literal false n) (literal true m) ts us x y f = absurd cc
one_front (literal false n) (named v) ts us x y f = absurd cc
one_front (literal false n) (beyond v m) ts us x y f = absurd cc
one_front (literal true n) (literal false m) ts us x y f = absurd cc
one_front (literal true n) (literal true m) ts us x y f = (cc, cc)
one_front (literal true n) (named v) ts us x y f = absurd cc
one_front (literal true n) (beyond v m) ts us x y f = absurd cc
one_front (named w) (literal false m) ts us x y f = absurd cc
one_front (named w) (literal true m) ts us x y f = absurd cc
one_front (named w) (named v) ts us x y f = (cc, cc)
one_front (named w) (beyond v m) ts us x y f = absurd (x (number m ∷ us) cc)
one_front (beyond w n) (literal false m) ts us x y f = absurd cc
one_front (beyond w n) (literal true m) ts us x y f = absurd cc
one_front (beyond w n) (named v) ts us x y f = absurd (y (number n ∷ ts) cc)
one_front (beyond w n) (beyond v m) ts us x y f = (cc, cc)

pub tail_is : (t u : Tok) (ts us : List Tok) → t ∷ ts ≡ u ∷ us → ts ≡ us
tail_is t u ts us e = cc

-- a list is told by its tokens
pub one_list : (d e : Datum) (ds es : List Datum) → list_tokens d ds ≡ list_tokens e es → (d ≡ e) × (ds ≡ es)
one_list d e [] [] f =
    let same = one_front d e [] [] no_tokens no_tokens (append-nil (datum_tokens d) ∙ f ∙ sym (append-nil (datum_tokens e))) in
    (same.0, refl)
one_list d e [] (y ∷ ys) f =
    let same = one_front d e [] (comma ∷ list_tokens y ys) no_tokens (comma_ends (list_tokens y ys)) (append-nil (datum_tokens d) ∙ f) in
    absurd (none comma (list_tokens y ys) same.1)
  where
    none : (t : Tok) (ts : List Tok) → [] ≡ t ∷ ts → ⊥
    none t ts g = absurd cc
one_list d e (x ∷ xs) [] f =
    let same = one_front d e (comma ∷ list_tokens x xs) [] (comma_ends (list_tokens x xs)) no_tokens (f ∙ sym (append-nil (datum_tokens e))) in
    absurd (none comma (list_tokens x xs) same.1)
  where
    none : (t : Tok) (ts : List Tok) → t ∷ ts ≡ [] → ⊥
    none t ts g = absurd cc
one_list d e (x ∷ xs) (y ∷ ys) f =
    let same = one_front d e (comma ∷ list_tokens x xs) (comma ∷ list_tokens y ys) (comma_ends (list_tokens x xs)) (comma_ends (list_tokens y ys)) f in
    let more = one_list x y xs ys (tail_is comma comma (list_tokens x xs) (list_tokens y ys) same.1) in
    (same.0, cc (more.0, more.1))
