-- A text that is printed has the tokens that it was printed from.
use Rattle.std.proofs.Common.{◌≡◌, ℕ, ◌+◌, ◌-◌, ◌*◌, ◌^◌, ◌<◌, ◌≤◌, min, Bool, true, false, eqb, ltb, List, [], ◌∷◌, ◌++◌, length, Some, refl, sym, ap, inl}
use Rattle.std.proofs.Common.{inr, ◌∙◌, arith}
use Rattle.std.specs.Prelude.{decimal, ◌&&◌, ◌||◌}
use Rattle.std.specs.List.{list_all}
use Rattle.std.specs.Str.{all_ascii_digits}
use Rattle.std.proofs.Math.Bool.{or-true}
use Rattle.std.proofs.lemmas.Bool.{cases_Bool, ne_eqb, and_parts, and_right}
use Rattle.std.proofs.lemmas.Bool.Decides.{nat_tests}
use Rattle.std.proofs.lemmas.List.{append-nil}
use Rattle.std.proofs.lemmas.Fmt.{digits_decimal, digits_value-decimal, decimal_nonempty}
use Rattle.std.specs.Char.{is_ascii_digit}
use Rattle.hm_text_base.proofs.NumberLaws.{numeral_model, read_on}
use Rattle.hm_tokens.specs.declared.token.Class.{Class}
use Rattle.hm_tokens.specs.declared.token.Class.TheVariants as classes
use Rattle.hm_tokens.specs.Tokens.{Tok, word, number, mark, digit_byte, hex_sign, is_in, is_digit, run, digit, value, skip, is_hex, spell, token_at, comma}
use Rattle.hm_tokens.specs.Marks.{is_mark}
use Rattle.hm_tokens.specs.Lines.{AreTokensOf, IsLineOf, gap, is_hash, is_word, printed, spelled, spelled_behind}

-- the first byte, where there is one, is in no word
abbrev pub Parts : List ℕ → Type 0
Parts [] = Unit {0}
Parts (b ∷ rest) = is_in classes.Word b ≡ false

abbrev pub Stops : Class → List ℕ → Type 0
Stops class [] = Unit {0}
Stops class (b ∷ rest) = is_in class b ≡ false

pub run_front : (class : Class) (w rest : List ℕ) → list_all (is_in class) w ≡ true → Stops class rest → run class (w ++ rest) ≡ (w, rest)
unfolding run
run_front class [] [] all stops = refl
run_front class [] (b ∷ rest) all stops = rw stops refl
run_front class (c ∷ w) rest all stops =
    let p = and_parts (is_in class c) (list_all (is_in class) w) all in
    rw (p.0, run_front class w rest p.1 stops) refl

hex_not : (c : ℕ) (rest : List ℕ) → eqb c (digit_byte 0) ≡ false → is_hex (c ∷ rest) ≡ false
hex_not c rest e = rw e (and_right (ltb 2 (length (c ∷ rest))) false refl)

-- ---- what can be printed

abbrev pub IsToken : Tok → Type 0
IsToken (word []) = ⊥
IsToken (word (c ∷ w)) = (is_digit c ≡ false) × (list_all (is_in classes.Word) (c ∷ w) ≡ true)
IsToken (number n) = n < 2 ^ 32
IsToken (mark c) = (eqb c (digit_byte 0) ≡ false) × (is_digit c ≡ false) × (is_in classes.Word c ≡ false) × (is_mark c ≡ true)

-- what may stand behind a token
abbrev pub MayFollow : Tok → List ℕ → Type 0
MayFollow (word w) rest = Parts rest
MayFollow (number n) rest = Parts rest
MayFollow (mark c) rest = Unit {0}

not_zero : (c : ℕ) → is_digit c ≡ false → eqb c (digit_byte 0) ≡ false
not_zero c e = grind (arith, nat_tests)

stops : (rest : List ℕ) → Parts rest → Stops classes.Word rest
stops [] p = tt
stops (b ∷ rest) p = p

word_front : (c : ℕ) (w rest : List ℕ) → is_digit c ≡ false → list_all (is_in classes.Word) (c ∷ w) ≡ true → Parts rest
    → token_at ((c ∷ w) ++ rest) ≡ Some (word (c ∷ w), rest)
unfolding token_at
word_front c w rest nd all parts =
    let p = and_parts (is_in classes.Word c) (list_all (is_in classes.Word) w) all in
    let some : eqb (length (c ∷ (w ++ rest))) 0 ≡ false = ne_eqb _ _ (λ is. omega arith) in
    let h = hex_not c (w ++ rest) (not_zero c nd) in
    rw (some, h, p.0, nd, run_front classes.Word (c ∷ w) rest all (stops rest parts)) refl

mark_front : (c : ℕ) (rest : List ℕ) → IsToken (mark c) → token_at (c ∷ rest) ≡ Some (mark c, rest)
unfolding token_at
mark_front c rest m =
    let some : eqb (length (c ∷ rest)) 0 ≡ false = ne_eqb _ _ (λ is. omega arith) in
    let h = hex_not c rest m.0 in
    rw (some, h, m.2, m.1, m.3) refl

-- ---- numbers

read_grows : (n : ℕ) (ds : List ℕ) → n ≤ read_on n ds
read_grows n [] = omega arith
read_grows n (c ∷ cs) = omega (arith, read_grows (n * 10 + (c - 48)) cs)

value_small : (n : ℕ) (ds : List ℕ) → all_ascii_digits ds ≡ true → read_on n ds < 2 ^ 32 → value 10 n ds ≡ read_on n ds
unfolding value
value_small n [] all lt = refl
value_small n (c ∷ cs) all lt =
    let p = and_parts (is_ascii_digit c) (all_ascii_digits cs) all in
    let d : digit c ≡ c - 48 = grind (arith, nat_tests, p.0) in
    let g = read_grows (n * 10 + (c - 48)) cs in
    let m : min (n * 10 + digit c) 4294967296 ≡ n * 10 + (c - 48) = rw d (omega arith) in
    rw m (value_small (n * 10 + (c - 48)) cs p.1 lt)

digits_in_class : (ds : List ℕ) → all_ascii_digits ds ≡ true → list_all (is_in classes.Decimal) ds ≡ true
digits_in_class [] all = refl
digits_in_class (c ∷ cs) all =
    let p = and_parts (is_ascii_digit c) (all_ascii_digits cs) all in
    let d : is_digit c ≡ true = grind (arith, nat_tests, p.0) in
    rw (d, digits_in_class cs p.1) refl

stops_digits : (rest : List ℕ) → Parts rest → Stops classes.Decimal rest
stops_digits [] p = tt
stops_digits (b ∷ rest) p = grind (arith, nat_tests, p)

hex_not_x : (c b : ℕ) (rest : List ℕ) → eqb b hex_sign ≡ false → is_hex (c ∷ b ∷ rest) ≡ false
hex_not_x c b rest e = rw e (and_right (ltb 2 (length (c ∷ b ∷ rest))) (eqb c (digit_byte 0) && false) (and_right (eqb c (digit_byte 0)) false refl))

no_x : (ds rest : List ℕ) → all_ascii_digits ds ≡ true → Parts rest → 0 < length ds → is_hex (ds ++ rest) ≡ false
no_x [] rest all p some = absurd (omega arith)
no_x (c ∷ []) [] all p some = refl
no_x (c ∷ []) (b ∷ rest) all p some = hex_not_x c b rest (grind (arith, nat_tests, p))
no_x (c ∷ e ∷ ds) rest all p some =
    let q = and_parts (is_ascii_digit c) (all_ascii_digits (e ∷ ds)) all in
    let r = and_parts (is_ascii_digit e) (all_ascii_digits ds) q.1 in
    hex_not_x c e (ds ++ rest) (grind (arith, nat_tests, r.0))

digits_front : (ds rest : List ℕ) → all_ascii_digits ds ≡ true → Parts rest → 0 < length ds → token_at (ds ++ rest) ≡ Some (number (value 10 0 ds), rest)
unfolding token_at
digits_front [] rest all p some = absurd (omega arith)
digits_front (c ∷ ds) rest all p some =
    let q = and_parts (is_ascii_digit c) (all_ascii_digits ds) all in
    let d : is_digit c ≡ true = grind (arith, nat_tests, q.0) in
    let len : eqb (length (c ∷ (ds ++ rest))) 0 ≡ false = ne_eqb _ _ (λ is. omega arith) in
    rw (len, no_x (c ∷ ds) rest all p some, d, run_front classes.Decimal (c ∷ ds) rest (digits_in_class (c ∷ ds) all) (stops_digits rest p)) refl

number_front : (n : ℕ) (rest : List ℕ) → n < 2 ^ 32 → Parts rest → token_at (decimal n ++ rest) ≡ Some (number n, rest)
number_front n rest lt p =
    let wide : n < 2 ^ 64 = omega arith in
    let all = digits_decimal numeral_model n wide in
    let is = digits_value-decimal numeral_model n wide in
    let v : value 10 0 (decimal n) ≡ n = value_small 0 (decimal n) all (rw is lt) ∙ is in
    digits_front (decimal n) rest all p (decimal_nonempty n wide) ∙ ap (λ (x : ℕ). Some (number x, rest)) v

pub token_front : (t : Tok) (rest : List ℕ) → IsToken t → MayFollow t rest → token_at (spell t ++ rest) ≡ Some (t, rest)
token_front (word []) rest is may = absurd is
token_front (word (c ∷ w)) rest is may = word_front c w rest is.0 is.1 may
token_front (number n) rest is may = number_front n rest is may
token_front (mark c) rest is may = mark_front c rest is

-- ---- a whole text

-- one of two neighbours is a mark
abbrev pub is_mark_token : Tok → Bool
is_mark_token (word w) = false
is_mark_token (number n) = false
is_mark_token (mark c) = true

abbrev pub apart : Tok → List Tok → Bool
apart t [] = true
apart t (u ∷ ts) = (is_mark_token t || is_mark_token u) && apart u ts

abbrev pub AreTokens : List Tok → Type 0
AreTokens [] = Unit {0}
AreTokens (t ∷ ts) = IsToken t × AreTokens ts

mark_follows : (c : ℕ) (rest : List ℕ) → is_in classes.Word c ≡ false → Parts (gap true (mark c) ++ c ∷ rest)
mark_follows c rest e =
    elim (cases_Bool (eqb c 35)) [
      | inl h ↦ rw h refl
      | inr h ↦ rw h e
    ]

pub follows : (t : Tok) (ts : List Tok) → apart t ts ≡ true → AreTokens ts → MayFollow t (spelled_behind (is_word t) ts)
follows (mark c) ts e are = tt
follows (word w) [] e are = tt
follows (number n) [] e are = tt
follows (word w) (mark c ∷ ts) e are = mark_follows c (spelled_behind false ts) are.0.2
follows (number n) (mark c ∷ ts) e are = are.0.2
follows (word w) (word v ∷ ts) e are = absurd cc
follows (word w) (number v ∷ ts) e are = absurd cc
follows (number w) (word v ∷ ts) e are = absurd cc
follows (number w) (number v ∷ ts) e are = absurd cc

pub space_follows : (t : Tok) (rest : List ℕ) → MayFollow t (32 ∷ rest)
space_follows (word w) rest = refl
space_follows (number n) rest = refl
space_follows (mark c) rest = tt

digits_begin : (ds : List ℕ) → all_ascii_digits ds ≡ true → 0 < length ds → (c : ℕ) × (w : List ℕ) × (ds ≡ c ∷ w) × (eqb c 32 ≡ false)
digits_begin [] all some = absurd (omega arith)
digits_begin (c ∷ ds) all some =
    let q = and_parts (is_ascii_digit c) (all_ascii_digits ds) all in
    (c, ds, refl, grind (arith, nat_tests, q.0))

begins : (t : Tok) → IsToken t → (c : ℕ) × (w : List ℕ) × (spell t ≡ c ∷ w) × (eqb c 32 ≡ false)
begins (word []) is = absurd is
begins (word (c ∷ w)) is =
    let q = and_parts (is_in classes.Word c) (list_all (is_in classes.Word) w) is.1 in
    (c, w, refl, grind (arith, nat_tests, q.0))
begins (number n) is =
    let wide : n < 2 ^ 64 = omega arith in
    digits_begin (decimal n) (digits_decimal numeral_model n wide) (decimal_nonempty n wide)
begins (mark c) is = (c, [], refl, grind (arith, nat_tests, is.3))

space_not : (text : List ℕ) (c : ℕ) (w rest : List ℕ) → text ≡ c ∷ w → eqb c 32 ≡ false → skip (text ++ rest) ≡ text ++ rest
unfolding run
space_not text c w rest e other =
    let one : run classes.Space (c ∷ (w ++ rest)) ≡ ([], c ∷ (w ++ rest)) = rw other refl in
    rw e (ap (λ (p : List ℕ × List ℕ). p.1) one)

-- no token begins with a space
pub no_space : (t : Tok) (rest : List ℕ) → IsToken t → skip (spell t ++ rest) ≡ spell t ++ rest
no_space t rest is = let b = begins t is in space_not (spell t) b.0 b.1 rest b.2 b.3

pub skip_gap : (b : Bool) (t : Tok) (rest : List ℕ) → skip (gap b t ++ rest) ≡ skip rest
unfolding run
skip_gap b t rest =
    elim (cases_Bool (b && is_hash t)) [
      | inl h ↦ rw h refl
      | inr h ↦ rw h refl
    ]

tokens_again : (ts : List Tok) → AreTokens ts → (t : Tok) → apart t ts ≡ true → (b : Bool) → AreTokensOf (spelled_behind b ts) ts
unfolding run
tokens_again [] are t e b = refl
tokens_again (u ∷ ts) are t e b =
    let p = and_parts (is_mark_token t || is_mark_token u) (apart u ts) e in
    let rest = spelled_behind (is_word u) ts in
    let front : token_at (skip (gap b u ++ (spell u ++ rest))) ≡ Some (u, rest) =
    ap token_at (skip_gap b u (spell u ++ rest) ∙ no_space u rest are.0) ∙ token_front u rest are.0 (follows u ts p.1 are.1) in
    (rest, front, tokens_again ts are.1 u p.1 (is_word u))

space_skipped : (ts : List Tok) (us : List Tok) → AreTokensOf (spelled ts) us → AreTokensOf (32 ∷ spelled ts) us
unfolding run
space_skipped ts [] are = are
space_skipped ts (u ∷ us) are = are

-- no two neighbours behind the first word are without a mark
abbrev pub are_apart : List Tok → Bool
are_apart [] = true
are_apart (t ∷ ts) = apart t ts

pub from_mark : (ts : List Tok) → are_apart ts ≡ true → apart comma ts ≡ true
from_mark [] e = refl
from_mark (t ∷ ts) e = e

ends_after : (t : Tok) → MayFollow t []
ends_after (word w) = tt
ends_after (number n) = tt
ends_after (mark c) = tt

bare : (t : Tok) → IsToken t → token_at (skip (spell t)) ≡ Some (t, [])
bare t is =
    let n : spell t ++ [] ≡ spell t = append-nil (spell t) in
    let s : skip (spell t) ≡ spell t = ap skip (sym n) ∙ no_space t [] is ∙ n in
    rw s (ap token_at (sym n) ∙ token_front t [] is (ends_after t))

pub printed_again : (ts : List Tok) → AreTokens ts → (t : Tok) → IsToken t → are_apart ts ≡ true → IsLineOf (printed (t ∷ ts)) (t ∷ ts)
unfolding run
printed_again [] are t is e = ([], bare t is, refl, refl)
printed_again (u ∷ ts) are t is e =
    let gap : token_at (skip (spell t ++ 32 ∷ spelled (u ∷ ts))) ≡ Some (t, 32 ∷ spelled (u ∷ ts)) =
    rw (no_space t (32 ∷ spelled (u ∷ ts)) is) (token_front t (32 ∷ spelled (u ∷ ts)) is (space_follows t (spelled (u ∷ ts)))) in (
      32 ∷ spelled (u ∷ ts),
      gap,
      or-true (eqb (length (32 ∷ spelled (u ∷ ts))) 0),
      space_skipped (u ∷ ts) (u ∷ ts) (tokens_again (u ∷ ts) are comma (from_mark (u ∷ ts) e) false),
    )
