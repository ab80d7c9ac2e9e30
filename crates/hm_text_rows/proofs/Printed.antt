-- A text whose tokens are short: it is printed in 96 bytes, and read back.
use Rattle.std.proofs.Common.{◌≡◌, ℕ, ◌+◌, ◌*◌, ◌^◌, ◌<◌, ◌≤◌, Bool, true, false, List, [], ◌∷◌, ◌++◌, length, refl, subst, inl, inr, arith}
use Rattle.std.specs.Prelude.{decimal, ◌&&◌}
use Rattle.std.proofs.lemmas.Bool.{cases_Bool}
use Rattle.std.proofs.lemmas.List.{append-nil, length-append}
use Rattle.std.proofs.lemmas.Fmt.{length-decimal-le}
use Rattle.hm_tokens.specs.Lines.{IsLineOf, address, gap, is_hash, is_word, printed, printed_at, spelled, spelled_behind}
use Rattle.hm_tokens.specs.Ranges.{normal}
use Rattle.hm_tokens.specs.Tokens.{Tok, word, number, mark, spell, close_brace, close_bracket, comma, bang, hash_mark, minus_mark, open_brace, open_bracket}
use Rattle.hm_tokens.proofs.Addresses.{ends_in_mark, printed_at_again}
use Rattle.hm_tokens.proofs.Again.{AreTokens, IsToken, are_apart, printed_again}
use Rattle.hm_tokens.proofs.Ranges.{has_no_ranges, normal_same}
use Rattle.hm_text_rows.proofs.Words.{is_name, is_mnemonic, is_suffix, first_word_short, first_word_token, word_short, word_token}

-- how long a token is at most
abbrev pub most : Tok → ℕ
most (word w) = 9
most (number n) = 10
most (mark c) = 1

-- what may stand behind a first word
pub record IsShort (t : Tok) : Type 0 where
  pub is : IsToken t
  pub short : length (spell t) ≤ most t

-- and how long all are at most, each with a space
abbrev pub room : List Tok → ℕ
room [] = 0
room (t ∷ ts) = most t + 1 + room ts

abbrev pub AreShort : List Tok → Type 0
AreShort [] = Unit {0}
AreShort (t ∷ ts) = IsShort t × AreShort ts

pub short_word : (w : List ℕ) → is_name w ≡ true → IsShort (word w)
short_word w is = record { is = word_token w is; short = word_short w is }

pub short_number : (n : ℕ) → n < 2 ^ 32 → IsShort (number n)
short_number n lt =
    let ten : length (decimal n) ≤ 10 = length-decimal-le 10 n (omega arith) (omega arith) (omega arith) in
    record { is = lt; short = omega (arith, ten) }

pub short_mark : (c : ℕ) → IsToken (mark c) → IsShort (mark c)
short_mark c is = record { is = is; short = omega arith }

pub short_comma : IsShort comma
short_comma = short_mark 44 (refl, refl, refl, refl)

pub short_hash : IsShort hash_mark
short_hash = short_mark 35 (refl, refl, refl, refl)

pub short_minus : IsShort minus_mark
short_minus = short_mark 45 (refl, refl, refl, refl)

pub short_bang : IsShort bang
short_bang = short_mark 33 (refl, refl, refl, refl)

pub short_open : IsShort open_bracket
short_open = short_mark 91 (refl, refl, refl, refl)

pub short_close : IsShort close_bracket
short_close = short_mark 93 (refl, refl, refl, refl)

pub short_open_brace : IsShort open_brace
short_open_brace = short_mark 123 (refl, refl, refl, refl)

pub short_close_brace : IsShort close_brace
short_close_brace = short_mark 125 (refl, refl, refl, refl)

tokens_of_short : (ts : List Tok) → AreShort ts → AreTokens ts
tokens_of_short [] are = tt
tokens_of_short (t ∷ ts) are = (are.0.is, tokens_of_short ts are.1)

gap_short : (b : Bool) (t : Tok) → length (gap b t) ≤ 1
gap_short b t =
    elim (cases_Bool (b && is_hash t)) [
      | inl e ↦ rw e (omega arith)
      | inr e ↦ rw e (omega arith)
    ]

spelled_short : (ts : List Tok) (b : Bool) → AreShort ts → length (spelled_behind b ts) ≤ room ts
spelled_short [] b are = omega arith
spelled_short (t ∷ ts) b are =
    let rest = spelled_short ts (is_word t) are.1 in
    let one = are.0.short in
    let space = gap_short b t in
    omega (arith, rest, one, space, length-append (gap b t) (spell t ++ spelled_behind (is_word t) ts), length-append (spell t) (spelled_behind (is_word t) ts))

some_room : (t : Tok) → 1 ≤ most t
some_room (word w) = omega arith
some_room (number n) = omega arith
some_room (mark c) = omega arith

few_in_room : (ts : List Tok) → 2 * length ts ≤ room ts
few_in_room [] = omega arith
few_in_room (t ∷ ts) = omega (arith, some_room t, few_in_room ts)

-- a text is printed in 96 bytes, and read back
pub record IsReadBack (ts : List Tok) : Type 0 where
  pub again : IsLineOf (printed ts) ts
  pub room : length (printed ts) ≤ 96
  pub few : length ts ≤ 40

-- and it has no range of registers
pub record IsPrinted (ts : List Tok) : Type 0 where
  pub again : IsLineOf (printed ts) ts
  pub room : length (printed ts) ≤ 96
  pub ranges : normal ts ≡ ts
  pub few : length ts ≤ 40

room_of : (name : List ℕ) (ts : List Tok) → length name ≤ 13 → AreShort ts → room ts ≤ 78 → length (printed (word name ∷ ts)) ≤ 92
room_of name [] short are le = omega arith
room_of name (t ∷ ts) short are le =
    let all = spelled_short (t ∷ ts) false are in
    omega (arith, all, length-append name (32 ∷ spelled (t ∷ ts)))

pub is_read_back : (s suffix : List ℕ) (ts : List Tok) → is_mnemonic s ≡ true → is_suffix suffix ≡ true → AreShort ts → are_apart ts ≡ true → room ts ≤ 78
    → IsReadBack (word (s ++ suffix) ∷ ts)
is_read_back s suffix ts mnemonic behind are apart le = record {
  again = printed_again ts (tokens_of_short ts are) (word (s ++ suffix)) (first_word_token s suffix mnemonic behind) apart;
  room = let r = room_of (s ++ suffix) ts (first_word_short s suffix mnemonic behind) are le in omega (arith, r);
  few = omega (arith, few_in_room ts, le);
}

-- tokens that may have a `-`, but have no range of registers
pub is_printed_as : (s suffix : List ℕ) (ts : List Tok) → is_mnemonic s ≡ true → is_suffix suffix ≡ true → AreShort ts → are_apart ts ≡ true → room ts ≤ 78
    → normal (word (s ++ suffix) ∷ ts) ≡ word (s ++ suffix) ∷ ts → IsPrinted (word (s ++ suffix) ∷ ts)
is_printed_as s suffix ts mnemonic behind are apart le same =
    let back = is_read_back s suffix ts mnemonic behind are apart le in
    record { again = back.again; room = back.room; ranges = same; few = back.few }

pub is_printed : (s suffix : List ℕ) (ts : List Tok) → is_mnemonic s ≡ true → is_suffix suffix ≡ true → AreShort ts → are_apart ts ≡ true → room ts ≤ 78
    → has_no_ranges ts ≡ true → IsPrinted (word (s ++ suffix) ∷ ts)
is_printed s suffix ts mnemonic behind are apart le none = is_printed_as s suffix ts mnemonic behind are apart le (normal_same (word (s ++ suffix) ∷ ts) none)

-- a text that is known to fit
pub is_printed_in : (s suffix : List ℕ) (ts : List Tok) → is_mnemonic s ≡ true → is_suffix suffix ≡ true → AreTokens ts → are_apart ts ≡ true
    → length (printed (word (s ++ suffix) ∷ ts)) ≤ 96 → has_no_ranges ts ≡ true → length ts ≤ 39
    → IsPrinted (word (s ++ suffix) ∷ ts)
is_printed_in s suffix ts mnemonic behind are apart fits none few = record {
  again = printed_again ts are (word (s ++ suffix)) (first_word_token s suffix mnemonic behind) apart;
  room = fits;
  ranges = normal_same (word (s ++ suffix) ∷ ts) none;
  few = omega (arith, few);
}

-- and of what stands before a label
pub record IsPrintedAt (ts : List Tok) : Type 0 where
  pub again : (a : ℕ) → a < 2 ^ 32 → IsLineOf (printed_at ts a) (ts ++ number a ∷ [])
  pub room : (a : ℕ) → length (printed_at ts a) ≤ 96
  pub ranges : has_no_ranges ts ≡ true
  pub few : length ts ≤ 39

room_at : (name : List ℕ) (ts : List Tok) (a : ℕ) → length name ≤ 13 → AreShort ts → room ts ≤ 68 → length (printed_at (word name ∷ ts) a) ≤ 96
room_at name [] a short are le = omega (arith, length-append name (32 ∷ address a))
room_at name (t ∷ ts) a short are le =
    let all = spelled_short (t ∷ ts) false are in
    omega (arith, all, length-append name (32 ∷ spelled (t ∷ ts)), length-append (printed (word name ∷ t ∷ ts)) (address a))

pub is_printed_at : (s suffix : List ℕ) (ts : List Tok) → is_mnemonic s ≡ true → is_suffix suffix ≡ true → AreShort ts → are_apart ts ≡ true
    → ends_in_mark ts ≡ true → room ts ≤ 68 → has_no_ranges ts ≡ true → IsPrintedAt (word (s ++ suffix) ∷ ts)
is_printed_at s suffix ts mnemonic behind are apart ends le none = record {
  again = λ a lt. printed_at_again ts (word (s ++ suffix)) a (tokens_of_short ts are) (first_word_token s suffix mnemonic behind) apart ends lt;
  room = λ a. room_at (s ++ suffix) ts a (first_word_short s suffix mnemonic behind) are le;
  ranges = none;
  few = omega (arith, few_in_room ts, le);
}

-- A FIRST WORD THAT IS ITS MNEMONIC ALONE
pub without_suffix : (s : List ℕ) (ts : List Tok) → IsPrinted (word (s ++ []) ∷ ts) → IsPrinted (word s ∷ ts)
without_suffix s ts printed_ = subst (λ (name : List ℕ). IsPrinted (word name ∷ ts)) (append-nil s) printed_

pub is_printed_bare : (s : List ℕ) (ts : List Tok) → is_mnemonic s ≡ true → AreShort ts → are_apart ts ≡ true → room ts ≤ 78 → has_no_ranges ts ≡ true
    → IsPrinted (word s ∷ ts)
is_printed_bare s ts mnemonic are apart le none = without_suffix s ts (is_printed s [] ts mnemonic refl are apart le none)

pub is_printed_bare_at : (s : List ℕ) (ts : List Tok) → is_mnemonic s ≡ true → AreShort ts → are_apart ts ≡ true → ends_in_mark ts ≡ true → room ts ≤ 68
    → has_no_ranges ts ≡ true → IsPrintedAt (word s ∷ ts)
is_printed_bare_at s ts mnemonic are apart ends le none =
    subst (λ (name : List ℕ). IsPrintedAt (word name ∷ ts)) (append-nil s) (is_printed_at s [] ts mnemonic refl are apart ends le none)
