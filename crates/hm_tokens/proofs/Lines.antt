-- Reading tokens one after the other.
use Rattle.std.proofs.Common.{◌≡◌, ℕ, zero, suc, ◌+◌, ◌-◌, ◌<◌, ◌≤◌, List, [], ◌∷◌, ◌++◌, length, Option, Some, None, refl, sym, ap, ◌∙◌, append_assoc, arith}
use Rattle.std.specs.Prelude.{option_map}
use Rattle.std.proofs.lemmas.Bool.{ne_eqb, eq-eqb}
use Rattle.std.proofs.lemmas.List.{append-nil}
use Rattle.std.proofs.Common.{map}
use Rattle.hm_tokens.specs.declared.token.Token.{Token}
use Rattle.hm_tokens.specs.Tokens.{Tok, tok, token_at, skip}
use Rattle.hm_tokens.specs.Steps.{tokens_from}

abbrev pub with_front : List Tok → Option (List Tok) → Option (List Tok)
with_front front o = option_map (λ ts. front ++ ts) o

regroup : (front : List Tok) (t : Tok) (o : Option (List Tok)) → with_front front (option_map (λ ts. t ∷ ts) o) ≡ with_front (front ++ t ∷ []) o
regroup front t None = refl
regroup front t (Some ts) = ap (λ (x : List Tok). Some x) (sym (append_assoc front (t ∷ []) ts))

pub more : (front : List Tok) (n : ℕ) (text : List ℕ) (t : Tok) (rest : List ℕ) (whole : Option (List Tok)) → 0 < length text → n < 40
    → token_at text ≡ Some (t, rest)
    → with_front front (tokens_from (40 - n) text) ≡ whole → with_front (front ++ t ∷ []) (tokens_from (40 - (n + 1)) (skip rest)) ≡ whole
unfolding tokens_from
more front n text t rest whole some lt e so_far =
    let k : 40 - n ≡ suc (40 - (n + 1)) = omega arith in
    let s = ne_eqb (length text) 0 (λ is. omega arith) in
    let one : with_front front (tokens_from (40 - n) text) ≡ with_front (front ++ t ∷ []) (tokens_from (40 - (n + 1)) (skip rest)) =
    rw (k, s, e) (regroup front t (tokens_from (40 - (n + 1)) (skip rest))) in
    sym one ∙ so_far

pub none : (front : List Tok) (n : ℕ) (text : List ℕ) (whole : Option (List Tok)) → 0 < length text → n < 40 → token_at text ≡ None
    → with_front front (tokens_from (40 - n) text) ≡ whole → whole ≡ None
unfolding tokens_from
none front n text whole some lt e so_far =
    let k : 40 - n ≡ suc (40 - (n + 1)) = omega arith in
    let s = ne_eqb (length text) 0 (λ is. omega arith) in
    let one : with_front front (tokens_from (40 - n) text) ≡ None = rw (k, s, e) refl in
    sym so_far ∙ one

pub full : (front : List Tok) (n : ℕ) (text : List ℕ) (whole : Option (List Tok)) → 0 < length text → 40 ≤ n
    → with_front front (tokens_from (40 - n) text) ≡ whole → whole ≡ None
unfolding tokens_from
full front n text whole some le so_far =
    let k : 40 - n ≡ 0 = omega arith in
    let s = ne_eqb (length text) 0 (λ is. omega arith) in
    let one : with_front front (tokens_from (40 - n) text) ≡ None = rw (k, s) refl in
    sym so_far ∙ one

ended : (k : ℕ) (text : List ℕ) → length text ≡ 0 → tokens_from k text ≡ Some []
unfolding tokens_from
ended zero text e = rw (eq-eqb (length text) 0 e) refl
ended (suc k) text e = rw (eq-eqb (length text) 0 e) refl

pub is_done : (front : List Tok) (k : ℕ) (text : List ℕ) (whole : Option (List Tok)) → length text ≡ 0 → with_front front (tokens_from k text) ≡ whole
    → whole ≡ Some front
is_done front k text whole e so_far =
    let one : with_front front (tokens_from k text) ≡ Some front = rw (ended k text e) (ap (λ (x : List Tok). Some x) (append-nil front)) in
    sym so_far ∙ one

pub begins : (first : Token) (items : List Token) (o : Option (List Tok)) → items ≡ first ∷ []
    → with_front (map tok items) o ≡ option_map (λ ts. tok first ∷ ts) o
begins first items o e = rw e refl
