-- Tokens without `-` have no ranges.
use Rattle.std.proofs.Common.{◌≡◌, ℕ, zero, suc, ◌+◌, ◌-◌, ◌<◌, ◌≤◌, Bool, cond, true, false, List, [], ◌∷◌, ◌++◌, length, refl, sym, subst, ap, ◌∙◌}
use Rattle.std.proofs.Common.{append_assoc, arith}
use Rattle.std.specs.Prelude.{IfSome, Option, Some, None, ◌&&◌, not}
use Rattle.std.specs.List.{list_all}
use Rattle.std.proofs.lemmas.Bool.{and_parts, false≢true, not-true}
use Rattle.std.proofs.lemmas.Bool.Decides.{nat_tests}
use Rattle.std.proofs.lemmas.List.{length-append}
use Rattle.hm_tokens.specs.declared.marks.Mark.TheVariants as marks
use Rattle.hm_tokens.specs.Names.{register_name}
use Rattle.hm_tokens.specs.Tokens.{Tok, word, comma, is_the_mark}
use Rattle.hm_tokens.specs.Ranges.{is_inside, is_rising, last_register, normal, range_tokens, register_of, rising, singles}

abbrev pub has_no_ranges : List Tok → Bool
has_no_ranges ts = list_all (λ t. not (is_the_mark marks.Minus t)) ts

no_last : (ts : List Tok) → has_no_ranges ts ≡ true → last_register ts ≡ None
no_last [] e = refl
no_last (t ∷ []) e = refl
no_last (t ∷ u ∷ ts) e =
    let p = and_parts (not (is_the_mark marks.Minus t)) (has_no_ranges (u ∷ ts)) e in
    rw (not-true (is_the_mark marks.Minus t) p.0) refl

no_rising : (first : Option ℕ) → is_rising first None ≡ false
no_rising (Some k) = refl
no_rising None = refl

and_false : (b : Bool) → (b && false) ≡ false
and_false true = refl
and_false false = refl

pub singles_same : (ts : List Tok) (inside : Bool) → has_no_ranges ts ≡ true → singles 0 inside ts ≡ ts
unfolding singles
singles_same [] inside e = refl
singles_same (t ∷ ts) inside e =
    let p = and_parts (not (is_the_mark marks.Minus t)) (has_no_ranges ts) e in
    rw (no_last ts p.1, no_rising (register_of t), and_false inside, singles_same ts (is_inside inside t) p.1) refl

pub normal_same : (ts : List Tok) → has_no_ranges ts ≡ true → normal ts ≡ ts
normal_same ts e = singles_same ts false e

-- one register more in front of a range
more_rising : (k n : ℕ) → 0 < n → rising k n ≡ word (register_name k) ∷ comma ∷ rising (k + 1) (n - 1)
unfolding rising
more_rising k zero lt = absurd (omega arith)
more_rising k (suc n) lt = let e : suc n - 1 ≡ n = omega arith in rw e refl

pub rising_more : (old a b c : List Tok) (k n : ℕ) → 0 < n → a ≡ old ++ word (register_name k) ∷ [] → b ≡ a ++ comma ∷ [] → c ≡ b ++ rising (k + 1) (n - 1)
    → c ≡ old ++ rising k n
rising_more old a b c k n lt ea eb ec =
    let tail = rising (k + 1) (n - 1) in
    let one : b ++ tail ≡ a ++ (comma ∷ tail) = ap (λ (x : List Tok). x ++ tail) eb ∙ append_assoc a (comma ∷ []) tail in
    let two : a ++ (comma ∷ tail) ≡ old ++ (word (register_name k) ∷ comma ∷ tail) = ap (λ (x : List Tok). x ++ (comma ∷ tail)) ea
    ∙ append_assoc old (word (register_name k) ∷ []) (comma ∷ tail) in
    ec ∙ one ∙ two ∙ ap (λ (x : List Tok). old ++ x) (sym (more_rising k n lt))

pub rising_length : (k n : ℕ) → 0 < n → length (rising k n) ≡ 2 + length (rising (k + 1) (n - 1))
rising_length k n lt = let e = ap length (more_rising k n lt) in omega (arith, e)

pub rising_pushed : {A : Type 0} (r : Option A) (old a b c : List Tok) (w : List ℕ) (k n : ℕ) → 0 < n → w ≡ register_name k → a ≡ old ++ word w ∷ []
    → b ≡ a ++ comma ∷ []
    → IfSome r (λ x. c ≡ b ++ rising (k + 1) (n - 1)) → IfSome r (λ x. c ≡ old ++ rising k n)
rising_pushed (Some x) old a b c w k n lt name ea eb ec = rising_more old a b c k n lt (subst (λ (v : List ℕ). a ≡ old ++ word v ∷ []) name ea) eb ec
rising_pushed None old a b c w k n lt name ea eb ec = tt

pub rising_longer : {A : Type 0} (r : Option A) (old a b c k n : ℕ) → 0 < n → a ≡ old + 1 → b ≡ a + 1 → IfSome r (λ x. c ≡ b + length (rising (k + 1) (n - 1)))
    → IfSome r (λ x. c ≡ old + length (rising k n))
rising_longer (Some x) old a b c k n lt ea eb ec = let e = rising_length k n lt in omega (arith, e, ea, eb, ec)
rising_longer None old a b c k n lt ea eb ec = tt

-- single registers are no fewer tokens
rising_some : (k n : ℕ) → 1 ≤ length (rising k n)
unfolding rising
rising_some k zero = omega arith
rising_some k (suc n) = omega arith

range_some : (first last : Option ℕ) → is_rising first last ≡ true → 3 ≤ length (range_tokens first last)
range_some (Some k) (Some j) e =
    let lt : k < j = grind (arith, nat_tests, e) in
    let whole = rising_length k (j - k) (omega arith) in
    let rest = rising_some (k + 1) (j - k - 1) in
    omega (arith, whole, rest)
range_some (Some k) None e = absurd (false≢true e)
range_some None last e = absurd (false≢true e)

no_fewer : (b : Bool) (range behind single : List Tok) (t : Tok) (n : ℕ) → (b ≡ true → 3 ≤ length range) → n ≤ length behind + 2 → n ≤ length single
    → suc n ≤ length (cond b (range ++ behind) (t ∷ single))
no_fewer true range behind single t n some le others = let three = some refl in omega (arith, three, le, length-append range behind)
no_fewer false range behind single t n some le others = omega (arith, others)

pub singles_no_fewer : (ts : List Tok) (over : ℕ) (inside : Bool) → length ts ≤ length (singles over inside ts) + over
unfolding singles
singles_no_fewer [] over inside = omega arith
singles_no_fewer (t ∷ ts) zero inside =
    let single = singles_no_fewer ts 0 (is_inside inside t) in
    let whole : suc (length ts) ≤ length (singles zero inside (t ∷ ts)) =
    no_fewer (inside && is_rising (register_of t) (last_register ts)) (range_tokens (register_of t) (last_register ts)) (singles 2 inside ts)
    (singles 0 (is_inside inside t) ts) t (length ts)
    (λ e. range_some (register_of t) (last_register ts) (and_parts inside (is_rising (register_of t) (last_register ts)) e).1)
    (singles_no_fewer ts 2 inside) (omega (arith, single)) in
    omega (arith, whole)
singles_no_fewer (t ∷ ts) (suc over) inside = let le = singles_no_fewer ts over inside in omega (arith, le)

pub normal_no_fewer : (ts : List Tok) → length ts ≤ length (normal ts)
normal_no_fewer ts = let le = singles_no_fewer ts 0 false in omega (arith, le)
