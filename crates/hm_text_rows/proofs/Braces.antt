-- Lists of registers in braces: what is read of them, and that they are printed and read back.
use Rattle.std.proofs.Common.{◌≡◌, ℕ, zero, suc, ◌+◌, ◌*◌, ◌/◌, ◌%◌, ◌^◌, ◌<◌, ◌≤◌, true, false, cond, List, [], ◌∷◌, ◌++◌, length, refl, inl, inr, ap, ◌∙◌}
use Rattle.std.proofs.Common.{arith}
use Rattle.std.specs.Prelude.{min, nat_eq}
use Rattle.std.proofs.lemmas.Bool.{cases_Bool, eqb-true}
use Rattle.std.proofs.lemmas.Bool.Decides.{nat_tests}
use Rattle.std.proofs.lemmas.List.{length-append}
use Rattle.std.proofs.Math.Nat.{mul-add}
use Rattle.hm_tokens.specs.Lines.{printed, spelled, spelled_behind}
use Rattle.hm_tokens.specs.Names.{register_name}
use Rattle.hm_tokens.specs.Tokens.{Tok, word, mark, close_brace, comma, open_brace}
use Rattle.hm_tokens.proofs.Again.{apart, are_apart}
use Rattle.hm_text_rows.specs.Operands.{bit_in, bits_of, braced}
use Rattle.hm_text_rows.specs.Shapes.{back, braces, listed, r, registers_from}
use Rattle.hm_text_rows.proofs.Printed.{IsPrinted, is_printed_in, short_bang, short_comma, short_open_brace}
use Rattle.hm_text_rows.proofs.Registers.{AllBelow16, listed_apart, listed_length, listed_ranges, listed_spelled, listed_tokens, name_length, registers_below}
use Rattle.hm_text_rows.proofs.Words.{below_is, is_mnemonic, is_suffix, first_word_short, word_r, word_token}

-- THE BITS OF A LIST
abbrev total : List ℕ → ℕ
total [] = 0
total (k ∷ ks) = 2 ^ k + total ks

-- register k, whose bit is the lowest of q, and those behind it
step : (k p q h : ℕ) (ks : List ℕ) → 2 ^ k ≡ p → q / 2 ≡ h → total ks ≡ 2 * (p * h) → total (cond (nat_eq (q % 2) 1) (k ∷ ks) ks) ≡ p * q
step k p q h ks power half rest =
    elim (cases_Bool (nat_eq (q % 2) 1)) [
      | inl e ↦
          let odd : q ≡ h + h + 1 = let one = eqb-true (q % 2) 1 e in omega (arith, half, one) in
          let parts : p * (h + h + 1) ≡ p * h + p * h + p * 1 = mul-add p (h + h) 1 ∙ ap (λ (x : ℕ). x + p * 1) (mul-add p h h) in
          rw (e, odd) (omega (arith, power, rest, parts))
      | inr e ↦
          let even : q ≡ h + h = let zero_ : q % 2 < 1 = grind (arith, nat_tests, e) in omega (arith, half, zero_) in
          let parts : p * (h + h) ≡ p * h + p * h = mul-add p h h in
          rw (e, even) (omega (arith, rest, parts))
    ]

module _ (list : ℕ) (small : list < 65536) where
  abbrev Below : ℕ → ℕ → Type 0
  Below n k = total (registers_from n k list) ≡ 2 ^ k * (list / 2 ^ k)

  from_16 : Below 0 16
  from_16 = omega arith

  from_15 : Below 1 15
  from_15 = step 15 32768 (list / 32768) (list / 65536) (registers_from 0 16 list) refl (omega arith) (let rest = from_16 in omega (arith, rest))

  from_14 : Below 2 14
  from_14 = step 14 16384 (list / 16384) (list / 32768) (registers_from 1 15 list) refl (omega arith) (let rest = from_15 in omega (arith, rest))

  from_13 : Below 3 13
  from_13 = step 13 8192 (list / 8192) (list / 16384) (registers_from 2 14 list) refl (omega arith) (let rest = from_14 in omega (arith, rest))

  from_12 : Below 4 12
  from_12 = step 12 4096 (list / 4096) (list / 8192) (registers_from 3 13 list) refl (omega arith) (let rest = from_13 in omega (arith, rest))

  from_11 : Below 5 11
  from_11 = step 11 2048 (list / 2048) (list / 4096) (registers_from 4 12 list) refl (omega arith) (let rest = from_12 in omega (arith, rest))

  from_10 : Below 6 10
  from_10 = step 10 1024 (list / 1024) (list / 2048) (registers_from 5 11 list) refl (omega arith) (let rest = from_11 in omega (arith, rest))

  from_9 : Below 7 9
  from_9 = step 9 512 (list / 512) (list / 1024) (registers_from 6 10 list) refl (omega arith) (let rest = from_10 in omega (arith, rest))

  from_8 : Below 8 8
  from_8 = step 8 256 (list / 256) (list / 512) (registers_from 7 9 list) refl (omega arith) (let rest = from_9 in omega (arith, rest))

  from_7 : Below 9 7
  from_7 = step 7 128 (list / 128) (list / 256) (registers_from 8 8 list) refl (omega arith) (let rest = from_8 in omega (arith, rest))

  from_6 : Below 10 6
  from_6 = step 6 64 (list / 64) (list / 128) (registers_from 9 7 list) refl (omega arith) (let rest = from_7 in omega (arith, rest))

  from_5 : Below 11 5
  from_5 = step 5 32 (list / 32) (list / 64) (registers_from 10 6 list) refl (omega arith) (let rest = from_6 in omega (arith, rest))

  from_4 : Below 12 4
  from_4 = step 4 16 (list / 16) (list / 32) (registers_from 11 5 list) refl (omega arith) (let rest = from_5 in omega (arith, rest))

  from_3 : Below 13 3
  from_3 = step 3 8 (list / 8) (list / 16) (registers_from 12 4 list) refl (omega arith) (let rest = from_4 in omega (arith, rest))

  from_2 : Below 14 2
  from_2 = step 2 4 (list / 4) (list / 8) (registers_from 13 3 list) refl (omega arith) (let rest = from_3 in omega (arith, rest))

  from_1 : Below 15 1
  from_1 = step 1 2 (list / 2) (list / 4) (registers_from 14 2 list) refl (omega arith) (let rest = from_2 in omega (arith, rest))

  from_0 : Below 16 0
  from_0 = step 0 1 (list / 1) (list / 2) (registers_from 15 1 list) refl (omega arith) (let rest = from_1 in omega (arith, rest))

all_bits : (list : ℕ) → list < 65536 → total (registers_from 16 0 list) ≡ list
all_bits list small = let e = from_0 list small in omega (arith, e)

one_bit : (k : ℕ) → k < 16 → bit_in (register_name k) ≡ 2 ^ k
unfolding bit_in
one_bit k lt = below_is (λ j. bit_in (register_name j)) (λ j. 2 ^ j) 16 k refl lt

min_low : (x : ℕ) → x ≤ 0xffff → min x 0xffff ≡ x
min_low x le = omega arith

listed_bits : (m : ℕ) (ks : List ℕ) → AllBelow16 ks → total ks ≤ 0xffff → bits_of (listed (mark m) ks ++ close_brace ∷ []) ≡ total ks
unfolding bits_of
listed_bits m [] all le = refl
listed_bits m (k ∷ ks) all le =
    let rest = listed_bits 44 ks all.1 (omega arith) in
    rw (one_bit k all.0, rest, min_low (2 ^ k + total ks) le) (omega (arith, le))

braced_bits : (ks : List ℕ) → AllBelow16 ks → total ks ≤ 0xffff → bits_of (braced (listed open_brace ks ++ close_brace ∷ [])) ≡ total ks
unfolding bits_of braced
braced_bits [] all le = refl
braced_bits (k ∷ ks) all le =
    let rest = listed_bits 44 ks all.1 (omega arith) in
    rw (one_bit k all.0, rest) (min_low (2 ^ k + total ks) le)

pub braces_bits : (list : ℕ) → list < 65536 → bits_of (braced (braces list)) ≡ list
braces_bits list small =
    let all = all_bits list small in
    braced_bits (registers_from 16 0 list) (registers_below 16 0 list (omega arith)) (omega (arith, all)) ∙ all

-- A LIST BEHIND ITS BASE
-- whatever stands behind a base, and `!` where this is written back
abbrev pub behind_base : ℕ → ℕ → List Tok → List Tok
behind_base w n us = r n ∷ (back w ++ comma ∷ []) ++ us

abbrev pub base_and_list : ℕ → ℕ → ℕ → List Tok
base_and_list w n list = behind_base w n (braces list)

pub braced_of : (w n : ℕ) (us : List Tok) → w < 2 → braced (behind_base w n us) ≡ braced us
unfolding braced
braced_of zero n us lt = refl
braced_of (suc zero) n us lt = refl
braced_of (suc (suc w)) n us lt = absurd (omega arith)

-- PRINTED
abbrev Fits : List ℕ → ℕ → ℕ → ℕ → Type 0
Fits name w n list = IsPrinted (word name ∷ base_and_list w n list)

pub printed_list : (s f : List ℕ) (w n list : ℕ) → is_mnemonic s ≡ true → is_suffix f ≡ true → w < 2 → n < 16 → length (registers_from 16 0 list) ≤ 14
    → Fits (s ++ f) w n list
printed_list s f zero n list mnemonic suffix hw hn few =
    let ks = registers_from 16 0 list in
    let all = registers_below 16 0 list (omega arith) in
    let name = first_word_short s f mnemonic suffix in
    let base = name_length n hn in
    let rest = listed_spelled false 123 ks refl all in
    let count = listed_length 123 ks in
    is_printed_in s f (base_and_list 0 n list) mnemonic suffix
    (word_token (register_name n) (word_r n hn), (short_comma.is, listed_tokens 123 ks (short_open_brace.is, tt) all))
    (listed_apart comma 123 ks)
    (omega (
      arith,
      name,
      base,
      rest,
      few,
      length-append (s ++ f) (32 ∷ spelled_behind false (base_and_list 0 n list)),
      length-append (register_name n) (44 ∷ spelled_behind false (braces list)),
    ))
    (listed_ranges 123 ks refl) (omega (arith, count, few))
printed_list s f (suc zero) n list mnemonic suffix hw hn few =
    let ks = registers_from 16 0 list in
    let all = registers_below 16 0 list (omega arith) in
    let name = first_word_short s f mnemonic suffix in
    let base = name_length n hn in
    let rest = listed_spelled false 123 ks refl all in
    let count = listed_length 123 ks in
    is_printed_in s f (base_and_list 1 n list) mnemonic suffix
    (word_token (register_name n) (word_r n hn), (short_bang.is, (short_comma.is, listed_tokens 123 ks (short_open_brace.is, tt) all)))
    (listed_apart comma 123 ks)
    (omega (
      arith,
      name,
      base,
      rest,
      few,
      length-append (s ++ f) (32 ∷ spelled_behind false (base_and_list 1 n list)),
      length-append (register_name n) (33 ∷ 44 ∷ spelled_behind false (braces list)),
    ))
    (listed_ranges 123 ks refl) (omega (arith, count, few))
printed_list s f (suc (suc w)) n list mnemonic suffix hw hn few = absurd (omega arith)

-- with no base before it
apart_are : (ts : List Tok) → apart comma ts ≡ true → are_apart ts ≡ true
apart_are [] e = refl
apart_are (t ∷ ts) e = e

printed_length : (name : List ℕ) (ts : List Tok) → length (printed (word name ∷ ts)) ≤ length name + 1 + length (spelled ts)
printed_length name [] = omega arith
printed_length name (t ∷ ts) = omega (arith, length-append name (32 ∷ spelled (t ∷ ts)))

printed_alone : (s f : List ℕ) (ks : List ℕ) → is_mnemonic s ≡ true → is_suffix f ≡ true → AllBelow16 ks → length ks ≤ 14
    → IsPrinted (word (s ++ f) ∷ (listed open_brace ks ++ close_brace ∷ []))
printed_alone s f ks mnemonic suffix all few =
    let ts = listed open_brace ks ++ close_brace ∷ [] in
    let name = first_word_short s f mnemonic suffix in
    let rest = listed_spelled false 123 ks refl all in
    let count = listed_length 123 ks in
    let whole = printed_length (s ++ f) ts in
    is_printed_in s f ts mnemonic suffix (listed_tokens 123 ks (short_open_brace.is, tt) all) (apart_are ts (listed_apart comma 123 ks))
    (omega (arith, name, rest, few, whole)) (listed_ranges 123 ks refl) (omega (arith, count, few))

pub printed_braces : (s f : List ℕ) (list : ℕ) → is_mnemonic s ≡ true → is_suffix f ≡ true → length (registers_from 16 0 list) ≤ 14
    → IsPrinted (word (s ++ f) ∷ braces list)
printed_braces s f list mnemonic suffix few = printed_alone s f (registers_from 16 0 list) mnemonic suffix (registers_below 16 0 list (omega arith)) few
