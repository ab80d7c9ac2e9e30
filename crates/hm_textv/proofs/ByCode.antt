-- Reading by a code: the row of the code that a text is given is the only one that can have the text.
use Rattle.std.specs.Prelude.{◌↔◌}
use Rattle.std.proofs.Common.{◌≡◌, Option, Some, sym, subst}
use Rattle.hm_text_base.proofs.Steps.{some_is}

abbrev one : {A : Type 0} → A → Option A
one x = Some x

-- rows with P, as tokens, all have C, as the code that these are given; and a decoder gives this row for the code
pub the_row : {A : Type 0} (P C : A → Type 0) (j : A) → ((i : A) → P i → C i) → ((i : A) → (one j ≡ one i) ↔ C i) → (i : A) → P i → one j ≡ one i
the_row P C j coded exact i is = (exact i).1 (coded i is)

-- where that row has no P, no row has
pub no_row_else : {A : Type 0} (P C : A → Type 0) (j : A) → ((i : A) → P i → C i) → ((i : A) → (one j ≡ one i) ↔ C i) → (P j → ⊥) → (i : A) → P i → ⊥
no_row_else P C j coded exact not i is = not (subst P (sym (some_is j i (the_row P C j coded exact i is))) is)
