-- What is printed of a row, with the address that its label names where it has one, is read back.
use Rattle.std.proofs.Common.{◌≡◌, ℕ, ◌^◌, ◌<◌, ◌≤◌, Bool, true, false, cond, List, [], ◌∷◌, ◌++◌, length, length-append, Option, Some, None, sym, refl, arith}
use Rattle.std.specs.Prelude.{not}
use Rattle.std.proofs.lemmas.Bool.{and_parts}
use Rattle.hm_tokens.specs.declared.marks.Mark.TheVariants as marks
use Rattle.hm_tokens.specs.Lines.{IsLineOf}
use Rattle.hm_tokens.specs.Ranges.{normal}
use Rattle.hm_tokens.specs.Tokens.{Tok, number, is_the_mark}
use Rattle.hm_tokens.proofs.Ranges.{has_no_ranges, normal_same}
use Rattle.hm_text_rows.specs.Labels.{IsLabel, NamesTarget, printed_with}
use Rattle.hm_text_rows.proofs.Printed.{IsPrinted, IsPrintedAt}

-- a row has a target where it has a label
abbrev pub IsGiven : Bool → Option ℕ → Type 0
IsGiven true (Some a) = a < 2 ^ 32
IsGiven true None = ⊥
IsGiven false (Some a) = ⊥
IsGiven false None = Unit {0}

-- what is proved of what is printed of a row
abbrev pub IsPrintedRow : Bool → List Tok → Type 0
IsPrintedRow true ts = IsPrintedAt ts
IsPrintedRow false ts = IsPrinted ts

-- the tokens that are read of a text that is printed
pub record Again (b : Bool) (row : List Tok) (o : Option ℕ) (text : List ℕ) (labels : List ℕ → Option ℕ) : Type 0 where
  pub tokens : List Tok
  pub label : Tok
  pub is_label : IsLabel label
  pub line : IsLineOf text tokens
  pub has : cond b (row ++ label ∷ []) row ≡ normal tokens
  pub names : NamesTarget labels label o

more_ranges : (ts : List Tok) (a : ℕ) → has_no_ranges ts ≡ true → has_no_ranges (ts ++ number a ∷ []) ≡ true
more_ranges [] a e = refl
more_ranges (t ∷ ts) a e =
    let p = and_parts (not (is_the_mark marks.Minus t)) (has_no_ranges ts) e in
    rw (p.0, more_ranges ts a p.1) refl

pub again_of : (b : Bool) (row : List Tok) (o : Option ℕ) (labels : List ℕ → Option ℕ) → IsPrintedRow b row → IsGiven b o
    → Again b row o (printed_with row o) labels
again_of true row (Some a) labels p lt = record {
  tokens = row ++ number a ∷ [];
  label = number a;
  is_label = lt;
  line = p.again a lt;
  has = sym (normal_same (row ++ number a ∷ []) (more_ranges row a p.ranges));
  names = refl;
}
again_of true row None labels p given = absurd given
again_of false row (Some a) labels p given = absurd given
again_of false row None labels p given = record {
  tokens = row;
  label = number 0;
  is_label = omega arith;
  line = p.again;
  has = sym p.ranges;
  names = tt;
}

pub room_of : (b : Bool) (row : List Tok) (o : Option ℕ) → IsPrintedRow b row → IsGiven b o → length (printed_with row o) ≤ 96
room_of true row (Some a) p lt = p.room a
room_of true row None p given = absurd given
room_of false row (Some a) p given = absurd given
room_of false row None p given = p.room

pub few_of : (b : Bool) (row : List Tok) (t : Tok) → IsPrintedRow b row → length (cond b (row ++ t ∷ []) row) ≤ 40
few_of true row t p = let f = p.few in omega (arith, f, length-append row (t ∷ []))
few_of false row t p = p.few
