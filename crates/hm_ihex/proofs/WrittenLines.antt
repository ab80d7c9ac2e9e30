-- Records as they are written.
use Rattle.std.proofs.Common.{◌≡◌, ℕ, ◌+◌, ◌-◌, ◌/◌, ◌%◌, ◌<◌, ◌≤◌, List, [], ◌∷◌, ◌++◌, append_assoc, drop, length, get_or, refl, sym, ap, ◌∙◌, arith}
use Rattle.std.proofs.lemmas.List.{drop_more, drop_all}
use Rattle.hm_ihex.specs.Records.{sum_of}
use Rattle.hm_text_base.specs.Spans.{line}
use Rattle.hm_ihex.specs.Written.{check_of, digit, digits_of, record_text}

pub digits_more : (bytes : List ℕ) (k : ℕ) → k < length bytes
    → digits_of (drop k bytes) ≡ digit (get_or bytes k 0 / 16) ∷ digit (get_or bytes k 0 % 16) ∷ digits_of (drop (k + 1) bytes)
digits_more bytes k lt = ap digits_of (drop_more bytes k 0 lt)

pub digits_all : (bytes : List ℕ) (k : ℕ) → length bytes ≤ k → digits_of (drop k bytes) ≡ []
digits_all bytes k le = ap digits_of (drop_all k bytes le)

pub digits_append : (xs ys : List ℕ) → digits_of (xs ++ ys) ≡ digits_of xs ++ digits_of ys
digits_append [] ys = refl
digits_append (x ∷ xs) ys = ap (λ (ds : List ℕ). digit (x / 16) ∷ digit (x % 16) ∷ ds) (digits_append xs ys)

pub sum_append : (xs ys : List ℕ) → sum_of (xs ++ ys) ≡ sum_of xs + sum_of ys
unfolding sum_of
sum_append [] ys = omega arith
sum_append (x ∷ xs) ys = omega (arith, sum_append xs ys)

pub check_is : (head bytes : List ℕ) (a b : ℕ) → a ≡ sum_of head % 256 → b ≡ sum_of bytes % 256 → (256 - (a + b) % 256) % 256 ≡ check_of (head ++ bytes)
check_is head bytes a b first second =
    let whole = sum_append head bytes in
    let same : (a + b) % 256 ≡ sum_of (head ++ bytes) % 256 = omega arith in
    ap (λ (s : ℕ). (256 - s) % 256) same

in_row : (o x h b c n : List ℕ) → ((((o ++ x) ++ h) ++ b) ++ c) ++ n ≡ o ++ (x ++ (((h ++ b) ++ c) ++ n))
in_row o x h b c n =
    append_assoc (((o ++ x) ++ h) ++ b) c n ∙ append_assoc ((o ++ x) ++ h) b (c ++ n) ∙ append_assoc (o ++ x) h (b ++ (c ++ n))
    ∙ append_assoc o x (h ++ (b ++ (c ++ n)))
    ∙ ap (λ (r : List ℕ). o ++ (x ++ r)) (sym (append_assoc (h ++ b) c n ∙ append_assoc h b (c ++ n)))

-- a record in its parts
pub record_line : (o p q r s t head bytes : List ℕ) (k : ℕ) → p ≡ o ++ 58 ∷ [] → q ≡ p ++ digits_of head → r ≡ q ++ digits_of bytes
    → s ≡ r ++ digits_of (k ∷ []) → t ≡ s ++ 10 ∷ [] → k ≡ check_of (head ++ bytes)
    → t ≡ o ++ line (record_text (head ++ bytes))
record_line o p q r s t head bytes k a b c d e f =
    let kept : digits_of ((head ++ bytes) ++ k ∷ []) ≡ (digits_of head ++ digits_of bytes) ++ digits_of (k ∷ []) = digits_append (head ++ bytes) (k ∷ [])
    ∙ ap (λ (x : List ℕ). x ++ digits_of (k ∷ [])) (digits_append head bytes) in
    e ∙ ap (λ (x : List ℕ). x ++ 10 ∷ [])
    (d ∙ ap (λ (x : List ℕ). x ++ digits_of (k ∷ [])) (c ∙ ap (λ (x : List ℕ). x ++ digits_of bytes) (b ∙ ap (λ (x : List ℕ). x ++ digits_of head) a)))
    ∙ in_row o (58 ∷ []) (digits_of head) (digits_of bytes) (digits_of (k ∷ [])) (10 ∷ [])
    ∙ ap (λ (x : List ℕ). o ++ ((58 ∷ []) ++ (x ++ 10 ∷ []))) (sym kept)
    ∙ ap (λ (j : ℕ). o ++ line (58 ∷ digits_of ((head ++ bytes) ++ j ∷ []))) f
