-- A text with an address for its last operand has the tokens that it was printed from, and the address for a number.
use Rattle.std.proofs.Common.{◌≡◌, ℕ, ◌+◌, ◌*◌, ◌/◌, ◌%◌, ◌^◌, ◌<◌, ◌≤◌, min, Bool, true, false, eqb, List, [], ◌∷◌, ◌++◌, length, drop, Some, refl, ap}
use Rattle.std.proofs.Common.{subst, ◌∙◌, append_assoc, arith}
use Rattle.std.specs.Prelude.{◌||◌}
use Rattle.std.specs.List.{list_all}
use Rattle.std.proofs.Math.Bool.{or-true}
use Rattle.std.proofs.lemmas.Bool.{and_parts}
use Rattle.std.proofs.lemmas.Bool.Decides.{nat_tests}
use Rattle.std.proofs.lemmas.List.{append-nil, length-append}
use Rattle.hm_text_base.specs.Numbers.{digit_in, hex_in}
use Rattle.hm_text_base.specs.Texts.{hex8, hex_digit}
use Rattle.hm_text_base.proofs.Steps.{and_then_some, some_is, test_some}
use Rattle.hm_text_base.proofs.NumberLaws.{hex8_again}
use Rattle.hm_tokens.specs.declared.token.Class.TheVariants as classes
use Rattle.hm_tokens.specs.Tokens.{Tok, word, number, mark, is_in, run, digit, value, skip, spell, token_at, comma}
use Rattle.hm_tokens.specs.Lines.{AreTokensOf, IsLineOf, address, gap, is_word, printed_at, spelled, spelled_behind}
use Rattle.hm_tokens.proofs.Again.{AreTokens, IsToken, MayFollow, Parts, apart, are_apart, follows, from_mark, is_mark_token, no_space, run_front}
use Rattle.hm_tokens.proofs.Again.{skip_gap, space_follows, token_front}

-- ---- the number

digit_is : (c d : ℕ) → digit_in c ≡ Some d → (digit c ≡ d) × (is_in classes.Hex c ≡ true)
digit_is c d e = grind (arith, nat_tests)

hex_grows : (cs : List ℕ) (n m : ℕ) → hex_in n cs ≡ Some m → n ≤ m
unfolding hex_in
hex_grows [] n m e = let is = some_is n m e in omega (arith, is)
hex_grows (c ∷ cs) n m e =
    let a = and_then_some (digit_in c) (λ d. hex_in (n * 16 + d) cs) m e in
    let rest = hex_grows cs (n * 16 + a.0) m a.2 in
    omega (arith, rest)

hex_value : (cs : List ℕ) (n m : ℕ) → hex_in n cs ≡ Some m → m < 2 ^ 32 → value 16 n cs ≡ m
unfolding hex_in value
hex_value [] n m e lt = some_is n m e
hex_value (c ∷ cs) n m e lt =
    let a = and_then_some (digit_in c) (λ d. hex_in (n * 16 + d) cs) m e in
    let d = digit_is c a.0 a.1 in
    let grows = hex_grows cs (n * 16 + a.0) m a.2 in
    let small : min (n * 16 + digit c) 4294967296 ≡ n * 16 + a.0 = rw d.0 (omega arith) in
    rw small (hex_value cs (n * 16 + a.0) m a.2 lt)

hex_digits : (cs : List ℕ) (n m : ℕ) → hex_in n cs ≡ Some m → list_all (is_in classes.Hex) cs ≡ true
unfolding hex_in
hex_digits [] n m e = refl
hex_digits (c ∷ cs) n m e =
    let a = and_then_some (digit_in c) (λ d. hex_in (n * 16 + d) cs) m e in
    rw ((digit_is c a.0 a.1).1, hex_digits cs (n * 16 + a.0) m a.2) refl

hex_of : (a : ℕ) → a < 2 ^ 32 → hex_in 0 (hex8 a) ≡ Some a
hex_of a lt = (test_some true (hex_in 0 (hex8 a)) a (hex8_again a lt)).1

first_digit : (c : ℕ) (cs : List ℕ) → list_all (is_in classes.Hex) (c ∷ cs) ≡ true → is_in classes.Hex c ≡ true
first_digit c cs all = (and_parts (is_in classes.Hex c) (list_all (is_in classes.Hex) cs) all).0

hex_run : (cs : List ℕ) → list_all (is_in classes.Hex) cs ≡ true → run classes.Hex cs ≡ (cs, [])
hex_run cs all = subst (λ (x : List ℕ). run classes.Hex x ≡ (cs, [])) (append-nil cs) (run_front classes.Hex cs [] all tt)

address_front : (a : ℕ) → a < 2 ^ 32 → token_at (address a) ≡ Some (number a, [])
unfolding token_at
address_front a lt =
    let e = hex_of a lt in
    let all = hex_digits (hex8 a) 0 a e in
    let one = first_digit (hex_digit (a / 2 ^ 28 % 16)) (drop 1 (hex8 a)) all in
    rw (one, hex_run (hex8 a) all, hex_value (hex8 a) 0 a e lt) refl

-- ---- the text

address_tokens : (a : ℕ) → a < 2 ^ 32 → AreTokensOf (address a) (number a ∷ [])
unfolding run
address_tokens a lt = ([], address_front a lt, refl)

-- no word or number stands last
abbrev pub ends_in_mark : List Tok → Bool
ends_in_mark [] = true
ends_in_mark (t ∷ []) = is_mark_token t
ends_in_mark (t ∷ u ∷ ts) = ends_in_mark (u ∷ ts)

rest_ends : (u : Tok) (ts : List Tok) → ends_in_mark (u ∷ ts) ≡ true → ends_in_mark ts ≡ true
rest_ends u [] e = refl
rest_ends u (t ∷ ts) e = e

parts_more : (x tail : List ℕ) → Parts x → 0 < length x → Parts (x ++ tail)
parts_more [] tail parts some = absurd (omega arith)
parts_more (b ∷ x) tail parts some = parts

some_spelled : (b : Bool) (t : Tok) (ts : List Tok) → is_mark_token t ≡ true → 0 < length (spelled_behind b (t ∷ ts))
some_spelled b (word w) ts e = absurd cc
some_spelled b (number n) ts e = absurd cc
some_spelled b (mark c) ts e = omega (arith, length-append (gap b (mark c)) (c ∷ spelled_behind false ts))

marked : (t u : Tok) → is_mark_token t ≡ false → (is_mark_token t || is_mark_token u) ≡ true → is_mark_token u ≡ true
marked t u e f = rw e at f

follows_more : (t : Tok) (ts : List Tok) (tail : List ℕ) → is_mark_token t ≡ false → ends_in_mark (t ∷ ts) ≡ true → apart t ts ≡ true
    → Parts (spelled_behind (is_word t) ts) → Parts (spelled_behind (is_word t) ts ++ tail)
follows_more t [] tail plain ends e parts = absurd cc
follows_more t (u ∷ ts) tail plain ends e parts =
    let p = and_parts (is_mark_token t || is_mark_token u) (apart u ts) e in
    parts_more (spelled_behind (is_word t) (u ∷ ts)) tail parts (some_spelled (is_word t) u ts (marked t u plain p.0))

follows_at : (t : Tok) (ts : List Tok) (tail : List ℕ) → ends_in_mark (t ∷ ts) ≡ true → apart t ts ≡ true → AreTokens ts
    → MayFollow t (spelled_behind (is_word t) ts ++ tail)
follows_at (mark c) ts tail ends e are = tt
follows_at (word w) ts tail ends e are = follows_more (word w) ts tail refl ends e (follows (word w) ts e are)
follows_at (number n) ts tail ends e are = follows_more (number n) ts tail refl ends e (follows (number n) ts e are)

tokens_at : (ts : List Tok) → AreTokens ts → (t : Tok) → apart t ts ≡ true → ends_in_mark ts ≡ true → (b : Bool) (a : ℕ) → a < 2 ^ 32
    → AreTokensOf (spelled_behind b ts ++ address a) (ts ++ number a ∷ [])
tokens_at [] are t e ends b a lt = address_tokens a lt
tokens_at (u ∷ ts) are t e ends b a lt =
    let p = and_parts (is_mark_token t || is_mark_token u) (apart u ts) e in
    let rest = spelled_behind (is_word u) ts ++ address a in
    let whole : (gap b u ++ (spell u ++ spelled_behind (is_word u) ts)) ++ address a ≡ gap b u ++ (spell u ++ rest) =
    append_assoc (gap b u) (spell u ++ spelled_behind (is_word u) ts) (address a)
    ∙ ap (λ (x : List ℕ). gap b u ++ x) (append_assoc (spell u) (spelled_behind (is_word u) ts) (address a)) in
    let front : token_at (skip ((gap b u ++ (spell u ++ spelled_behind (is_word u) ts)) ++ address a)) ≡ Some (u, rest) =
    ap (λ (x : List ℕ). token_at (skip x)) whole ∙ ap token_at (skip_gap b u (spell u ++ rest) ∙ no_space u rest are.0)
    ∙ token_front u rest are.0 (follows_at u ts (address a) ends p.1 are.1) in
    (rest, front, tokens_at ts are.1 u p.1 (rest_ends u ts ends) (is_word u) a lt)

skip_one : (text : List ℕ) (ts : List Tok) → AreTokensOf text ts → AreTokensOf (32 ∷ text) ts
unfolding run
skip_one text [] are = are
skip_one text (u ∷ us) are = are

apart_line : (text : List ℕ) (t : Tok) (rest : List ℕ) (ts : List Tok) → text ≡ spell t ++ 32 ∷ rest → IsToken t → AreTokensOf rest ts → IsLineOf text (t ∷ ts)
apart_line text t rest ts e is are =
    let front : token_at (skip text) ≡ Some (t, 32 ∷ rest) =
    ap (λ (x : List ℕ). token_at (skip x)) e ∙ ap token_at (no_space t (32 ∷ rest) is) ∙ token_front t (32 ∷ rest) is (space_follows t rest) in
    (32 ∷ rest, front, or-true (eqb (length (32 ∷ rest)) 0), skip_one rest ts are)

pub printed_at_again : (ts : List Tok) (t : Tok) (a : ℕ) → AreTokens ts → IsToken t → are_apart ts ≡ true → ends_in_mark ts ≡ true → a < 2 ^ 32
    → IsLineOf (printed_at (t ∷ ts) a) (t ∷ (ts ++ number a ∷ []))
printed_at_again [] t a are is e ends lt = apart_line _ t (address a) (number a ∷ []) refl is (address_tokens a lt)
printed_at_again (u ∷ ts) t a are is e ends lt =
    apart_line _ t (spelled (u ∷ ts) ++ address a) ((u ∷ ts) ++ number a ∷ []) (append_assoc (spell t) (32 ∷ spelled (u ∷ ts)) (address a)) is
    (tokens_at (u ∷ ts) are comma (from_mark (u ∷ ts) e) ends false a lt)
