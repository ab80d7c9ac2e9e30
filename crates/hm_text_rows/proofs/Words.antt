-- Mnemonics: a mnemonic, and what stands behind the point; names.
use Rattle.std.proofs.Common.{◌≡◌, ℕ, zero, suc, ◌<◌, ◌≤◌, Bool, true, false, eqb, ltb, List, [], ◌∷◌, ◌++◌, length, Option, Some, None}
use Rattle.std.proofs.Common.{refl, sym, subst, ap, inl, inr, arith}
use Rattle.std.specs.Prelude.{◌&&◌, not, unwrap_or}
use Rattle.std.specs.List.{list_all}
use Rattle.std.proofs.lemmas.Bool.{agree_below, agree_below_at, cases_Bool, eqb-true, eqb-false, and_parts, not-true}
use Rattle.std.proofs.lemmas.Bool.Decides.{nat_tests}
use Rattle.std.proofs.lemmas.List.{length-append}
use Rattle.hm_text_base.specs.Spans.{span}
use Rattle.hm_tokens.specs.declared.token.Class.TheVariants as classes
use Rattle.hm_tokens.specs.Names.{register_name, vector_name}
use Rattle.hm_tokens.specs.Tokens.{word, is_digit, is_in, point}
use Rattle.hm_tokens.proofs.Again.{IsToken}

-- a fact of numbers, computed at each below n
pub below_is : (f g : ℕ → ℕ) (n b : ℕ) → agree_below (λ k. eqb (f k) (g k)) (λ k. true) n ≡ true → b < n → f b ≡ g b
below_is f g n b e lt = eqb-true (f b) (g b) (agree_below_at (λ k. eqb (f k) (g k)) (λ k. true) n b e lt)

-- and a test
pub below_holds : (f : ℕ → Bool) (n b : ℕ) → agree_below f (λ k. true) n ≡ true → b < n → f b ≡ true
below_holds f n b e lt = agree_below_at f (λ k. true) n b e lt

-- and any other fact, given at each
abbrev pub AllBelow : (ℕ → Type 0) → ℕ → Type 0
AllBelow P zero = Unit {0}
AllBelow P (suc n) = P n × AllBelow P n

pub at_below : (P : ℕ → Type 0) (n b : ℕ) → AllBelow P n → b < n → P b
at_below P zero b all lt = absurd (omega arith)
at_below P (suc n) b all lt =
    elim (cases_Bool (eqb b n)) [
      | inl e ↦ subst P (sym (eqb-true b n e)) all.0
      | inr e ↦ let ne = eqb-false b n e in at_below P n b all.1 (omega arith)
    ]

-- a proof, and those after it
infixr 20 ◌▹◌
abbrev pub ◌▹◌ : {P Q : Type 0} → P → Q → P × Q
proof ▹ others = (proof, others)

-- WHAT MAY BE MISSING
-- a number that is told as more than 0 is there
pub there : (o : Option ℕ) (n : ℕ) → unwrap_or o 0 ≡ n → 0 < n → o ≡ Some n
there (Some m) n e some = ap (λ (k : ℕ). Some k) e
there None n e some = absurd (omega (arith, e, some))

-- WORDS
abbrev pub is_part : ℕ → Bool
is_part c = is_in classes.Word c && not (eqb c point)

-- begins with no digit, has no point, and is short
abbrev pub is_mnemonic : List ℕ → Bool
is_mnemonic [] = false
is_mnemonic (c ∷ cs) = not (is_digit c) && (list_all is_part (c ∷ cs) && ltb (length cs) 9)

-- nothing, or begins with a point
abbrev pub is_suffix : List ℕ → Bool
is_suffix [] = true
is_suffix (c ∷ cs) = eqb c point && (list_all (is_in classes.Word) (c ∷ cs) && ltb (length cs) 4)

-- any word of up to 9 bytes
abbrev pub is_name : List ℕ → Bool
is_name [] = false
is_name (c ∷ cs) = not (is_digit c) && (list_all (is_in classes.Word) (c ∷ cs) && ltb (length cs) 9)

pub span_suffix : (suffix : List ℕ) → is_suffix suffix ≡ true → span point suffix ≡ ([], suffix)
unfolding span
span_suffix [] e = refl
span_suffix (c ∷ cs) e = let p = and_parts (eqb c point) (list_all (is_in classes.Word) (c ∷ cs) && ltb (length cs) 4) e in rw (p.0) refl

span_parts_suffix : (s suffix : List ℕ) → list_all is_part s ≡ true → is_suffix suffix ≡ true → span point (s ++ suffix) ≡ (s, suffix)
unfolding span
span_parts_suffix [] suffix all e = span_suffix suffix e
span_parts_suffix (c ∷ s) suffix all e =
    let p = and_parts (is_part c) (list_all is_part s) all in
    let n = and_parts (is_in classes.Word c) (not (eqb c point)) p.0 in
    rw (not-true (eqb c point) n.1, span_parts_suffix s suffix p.1 e) refl

-- the first word is cut behind its mnemonic
pub cut : (s suffix : List ℕ) → is_mnemonic s ≡ true → is_suffix suffix ≡ true → span point (s ++ suffix) ≡ (s, suffix)
cut [] suffix is e = absurd cc
cut (c ∷ s) suffix is e =
    let p = and_parts (not (is_digit c)) (list_all is_part (c ∷ s) && ltb (length s) 9) is in
    let q = and_parts (list_all is_part (c ∷ s)) (ltb (length s) 9) p.1 in
    span_parts_suffix (c ∷ s) suffix q.0 e

all_words : (s suffix : List ℕ) → list_all is_part s ≡ true → list_all (is_in classes.Word) suffix ≡ true → list_all (is_in classes.Word) (s ++ suffix) ≡ true
all_words [] suffix all e = e
all_words (c ∷ s) suffix all e =
    let p = and_parts (is_part c) (list_all is_part s) all in
    let n = and_parts (is_in classes.Word c) (not (eqb c point)) p.0 in
    rw (n.0, all_words s suffix p.1 e) refl

suffix_words : (suffix : List ℕ) → is_suffix suffix ≡ true → list_all (is_in classes.Word) suffix ≡ true
suffix_words [] e = refl
suffix_words (c ∷ cs) e =
    let p = and_parts (eqb c point) (list_all (is_in classes.Word) (c ∷ cs) && ltb (length cs) 4) e in
    (and_parts (list_all (is_in classes.Word) (c ∷ cs)) (ltb (length cs) 4) p.1).0

suffix_short : (suffix : List ℕ) → is_suffix suffix ≡ true → length suffix ≤ 4
suffix_short [] e = omega arith
suffix_short (c ∷ cs) e =
    let p = and_parts (eqb c point) (list_all (is_in classes.Word) (c ∷ cs) && ltb (length cs) 4) e in
    let q = and_parts (list_all (is_in classes.Word) (c ∷ cs)) (ltb (length cs) 4) p.1 in
    let short : length cs < 4 = grind (arith, nat_tests, q.1) in
    omega (arith, short)

pub first_word_token : (s suffix : List ℕ) → is_mnemonic s ≡ true → is_suffix suffix ≡ true → IsToken (word (s ++ suffix))
first_word_token [] suffix is e = absurd cc
first_word_token (c ∷ s) suffix is e =
    let p = and_parts (not (is_digit c)) (list_all is_part (c ∷ s) && ltb (length s) 9) is in
    let q = and_parts (list_all is_part (c ∷ s)) (ltb (length s) 9) p.1 in
    (not-true (is_digit c) p.0, all_words (c ∷ s) suffix q.0 (suffix_words suffix e))

pub first_word_short : (s suffix : List ℕ) → is_mnemonic s ≡ true → is_suffix suffix ≡ true → length (s ++ suffix) ≤ 13
first_word_short [] suffix is e = absurd cc
first_word_short (c ∷ s) suffix is e =
    let p = and_parts (not (is_digit c)) (list_all is_part (c ∷ s) && ltb (length s) 9) is in
    let q = and_parts (list_all is_part (c ∷ s)) (ltb (length s) 9) p.1 in
    let short : length s < 9 = grind (arith, nat_tests, q.1) in
    omega (arith, short, suffix_short suffix e, length-append (c ∷ s) suffix)

pub word_token : (w : List ℕ) → is_name w ≡ true → IsToken (word w)
word_token [] is = absurd cc
word_token (c ∷ w) is =
    let p = and_parts (not (is_digit c)) (list_all (is_in classes.Word) (c ∷ w) && ltb (length w) 9) is in
    (not-true (is_digit c) p.0, (and_parts (list_all (is_in classes.Word) (c ∷ w)) (ltb (length w) 9) p.1).0)

pub word_short : (w : List ℕ) → is_name w ≡ true → length w ≤ 9
word_short [] is = absurd cc
word_short (c ∷ w) is =
    let p = and_parts (not (is_digit c)) (list_all (is_in classes.Word) (c ∷ w) && ltb (length w) 9) is in
    let q = and_parts (list_all (is_in classes.Word) (c ∷ w)) (ltb (length w) 9) p.1 in
    let short : length w < 9 = grind (arith, nat_tests, q.1) in
    omega (arith, short)

pub word_q : (d : ℕ) → d < 8 → is_name (vector_name d) ≡ true
word_q d lt = below_holds (λ k. is_name (vector_name k)) 8 d refl lt

pub word_r : (n : ℕ) → n < 16 → is_name (register_name n) ≡ true
word_r n lt = below_holds (λ k. is_name (register_name k)) 16 n refl lt
