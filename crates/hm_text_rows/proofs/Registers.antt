-- Registers in braces.
use Rattle.std.proofs.Common.{◌≡◌, ℕ, zero, suc, ◌+◌, ◌-◌, ◌*◌, ◌<◌, ◌≤◌, Bool, true, false, cond, eqb, List, [], ◌∷◌, ◌++◌, length, refl, sym, ap, ◌∙◌}
use Rattle.std.proofs.Common.{append_assoc, arith}
use Rattle.std.specs.Prelude.{nat_le, ◌&&◌}
use Rattle.std.proofs.Math.Bool.{or-true}
use Rattle.std.proofs.lemmas.Bool.Decides.{nat_tests}
use Rattle.std.proofs.lemmas.List.{length-append}
use Rattle.hm_isa.specs.Rules.{listed_in}
use Rattle.hm_tokens.specs.Lines.{spelled_behind}
use Rattle.hm_tokens.specs.Names.{register_name}
use Rattle.hm_tokens.specs.Tokens.{Tok, mark, close_brace, comma, open_brace}
use Rattle.hm_tokens.proofs.Again.{AreTokens, apart, is_mark_token}
use Rattle.hm_tokens.proofs.Ranges.{has_no_ranges}
use Rattle.hm_text_rows.specs.Shapes.{listed, r, registers_from}
use Rattle.hm_text_rows.proofs.Words.{below_holds, word_r, word_token}
use Rattle.hm_text_rows.proofs.Printed.{short_close_brace, short_comma}

abbrev pub AllBelow16 : List ℕ → Type 0
AllBelow16 [] = Unit {0}
AllBelow16 (k ∷ ks) = (k < 16) × AllBelow16 ks

one_more : (b : Bool) (k : ℕ) (ks : List ℕ) → k < 16 → AllBelow16 ks → AllBelow16 (cond b (k ∷ ks) ks)
one_more true k ks lt all = (lt, all)
one_more false k ks lt all = all

pub registers_below : (n k regs : ℕ) → k + n ≤ 16 → AllBelow16 (registers_from n k regs)
registers_below zero k regs le = tt
registers_below (suc n) k regs le = one_more (listed_in regs k) k (registers_from n (k + 1) regs) (omega arith) (registers_below n (k + 1) regs (omega arith))

-- at most so many, of which the last are told apart
at_most_one : (b : Bool) (k : ℕ) (ks : List ℕ) → length (cond b (k ∷ ks) ks) ≤ 1 + length ks
at_most_one true k ks = omega arith
at_most_one false k ks = omega arith

no_more : (a : ℕ) → a ≤ 0 + a
no_more a = omega arith

front_from : (m n k j q regs : ℕ) → j ≡ n + m → q ≡ k + m → length (registers_from j k regs) ≤ m + length (registers_from n q regs)
front_from zero n k j q regs e f =
    let a : j ≡ n = omega (arith, e) in
    let b : q ≡ k = omega (arith, f) in
    rw (a, b) (no_more (length (registers_from n k regs)))
front_from (suc m) n k j q regs e f =
    let a : j ≡ suc (n + m) = omega (arith, e) in
    let b : q ≡ k + 1 + m = omega (arith, f) in
    let one = at_most_one (listed_in regs k) k (registers_from (n + m) (k + 1) regs) in
    let rest = front_from m n (k + 1) (n + m) q regs refl b in
    rw a (omega (arith, one, rest))

pub front_count : (m n k regs : ℕ) → length (registers_from (n + m) k regs) ≤ m + length (registers_from n (k + m) regs)
front_count m n k regs = front_from m n k (n + m) (k + m) regs refl refl

-- their text
pub listed_tokens : (m : ℕ) (ks : List ℕ) → AreTokens (mark m ∷ []) → AllBelow16 ks → AreTokens (listed (mark m) ks ++ close_brace ∷ [])
listed_tokens m [] is all = (short_close_brace.is, tt)
listed_tokens m (k ∷ ks) is all = (is.0, (word_token (register_name k) (word_r k all.0), listed_tokens 44 ks (short_comma.is, tt) all.1))

pub listed_apart : (t : Tok) (m : ℕ) (ks : List ℕ) → apart t (listed (mark m) ks ++ close_brace ∷ []) ≡ true
listed_apart t m [] = rw (or-true (is_mark_token t)) refl
listed_apart t m (k ∷ ks) = rw (or-true (is_mark_token t), listed_apart (r k) 44 ks) refl

pub listed_ranges : (m : ℕ) (ks : List ℕ) → eqb m 45 ≡ false → has_no_ranges (listed (mark m) ks ++ close_brace ∷ []) ≡ true
listed_ranges m [] e = refl
listed_ranges m (k ∷ ks) e = rw (e, listed_ranges 44 ks refl) refl

pub listed_length : (m : ℕ) (ks : List ℕ) → length (listed (mark m) ks ++ close_brace ∷ []) ≡ 2 * length ks + 1
listed_length m [] = refl
listed_length m (k ∷ ks) = omega (arith, listed_length 44 ks)

and_false : (b : Bool) → (b && false) ≡ false
and_false true = refl
and_false false = refl

pub name_length : (k : ℕ) → k < 16 → length (register_name k) ≤ 3
name_length k lt =
    let all : nat_le (length (register_name k)) 3 ≡ true = below_holds (λ j. nat_le (length (register_name j)) 3) 16 k refl lt in
    grind (arith, nat_tests, all)

pub listed_spelled : (b : Bool) (m : ℕ) (ks : List ℕ) → eqb m 35 ≡ false → AllBelow16 ks
    → length (spelled_behind b (listed (mark m) ks ++ close_brace ∷ [])) ≤ 4 * length ks + 1
listed_spelled b m [] e all = rw (and_false b) (omega arith)
listed_spelled b m (k ∷ ks) e all =
    let rest = listed_spelled true 44 ks refl all.1 in
    let name = name_length k all.0 in
    rw (e, and_false b) (omega (arith, rest, name, length-append (register_name k) (spelled_behind true (listed comma ks ++ close_brace ∷ []))))

-- ---- room for them

pub listed_count : (m : ℕ) (ks : List ℕ) → length (listed (mark m) ks) ≡ 2 * length ks
listed_count m [] = refl
listed_count m (k ∷ ks) = omega (arith, listed_count 44 ks)

pub room_left : (n regs : ℕ) → n ≤ 8 → length (registers_from 16 0 regs) ≤ 14 → n + length (listed open_brace (registers_from 16 0 regs)) ≤ 38
room_left n regs le few =
    let count = listed_count 123 (registers_from 16 0 regs) in
    omega (arith, le, count, few)

-- ---- one register after the other, of which some are left

module _ (m k n regs : ℕ) (some : 0 < n) where
  -- those behind register k
  abbrev pub behind_it : List ℕ
  behind_it = registers_from (n - 1) (k + 1) regs

  from_here : registers_from n k regs ≡ cond (listed_in regs k) (k ∷ behind_it) behind_it
  from_here =
      let one : n ≡ suc (n - 1) = omega arith in
      ap (λ (j : ℕ). registers_from j k regs) one

  pub left_out : listed_in regs k ≡ false → registers_from n k regs ≡ behind_it
  left_out e = from_here ∙ ap (λ (b : Bool). cond b (k ∷ behind_it) behind_it) e

  pub taken : listed_in regs k ≡ true → registers_from n k regs ≡ k ∷ behind_it
  taken e = from_here ∙ ap (λ (b : Bool). cond b (k ∷ behind_it) behind_it) e

  pub taken_count : listed_in regs k ≡ true → length (listed (mark m) (registers_from n k regs)) ≡ length (listed comma behind_it) + 2
  taken_count e =
      let all : length (listed (mark m) (registers_from n k regs)) ≡ suc (suc (length (listed comma behind_it))) =
      ap (λ (ks : List ℕ). length (listed (mark m) ks)) (taken e) in
      omega (arith, all)

pub taken_more : (front one two all : List Tok) (m k n regs : ℕ) → 0 < n → listed_in regs k ≡ true → one ≡ front ++ mark m ∷ [] → two ≡ one ++ r k ∷ []
    → all ≡ two ++ listed comma (registers_from (n - 1) (k + 1) regs) → all ≡ front ++ listed (mark m) (registers_from n k regs)
taken_more front one two all m k n regs some e eo et ea =
    let rest = listed comma (registers_from (n - 1) (k + 1) regs) in
    ea ∙ ap (λ (x : List Tok). x ++ rest) et ∙ append_assoc one (r k ∷ []) rest ∙ ap (λ (x : List Tok). x ++ r k ∷ rest) eo
    ∙ append_assoc front (mark m ∷ []) (r k ∷ rest)
    ∙ ap (λ (ks : List ℕ). front ++ listed (mark m) ks) (sym (taken m k n regs some e))
