-- A word in pieces is the pieces one after another.
use Rattle.std.proofs.Common.{◌≡◌, ℕ, Bool, true, List, ◌++◌, length, drop, Option, Some, None, refl, sym, ap, ◌∙◌}
use Rattle.std.specs.Prelude.{nat_eq, IsTrue}
use Rattle.std.specs.List.{starts_with}
use Rattle.std.proofs.Math.Seq.{drop-append_seam}
use Rattle.std.proofs.lemmas.Bool.{false≢true}
use Rattle.std.proofs.lemmas.Bool.Decides.{Decides-eqb}
use Rattle.std.proofs.lemmas.Slice.Eq.{bytes_eq-Decides, starts_is}
use Rattle.hm_text_base.proofs.Steps.{some_is, test_some}
use Rattle.hm_tokens.specs.Texts.{behind, is_last, is_pieces, is_rest}
use Rattle.hm_tokens.specs.Tokens.{word}

behind_found : (piece name rest : List ℕ) → behind piece name ≡ Some rest → name ≡ piece ++ rest
behind_found piece name rest e =
    let a = test_some (starts_with nat_eq name piece) (Some (drop (length piece) name)) rest e in
    (starts_is Decides-eqb name piece (starts_with nat_eq name piece) refl).0 a.0 ∙ ap (λ x. piece ++ x) (some_is (drop (length piece) name) rest a.1)

behind_again : (piece rest : List ℕ) → behind piece (piece ++ rest) ≡ Some rest
behind_again piece rest =
    let s : starts_with nat_eq (piece ++ rest) piece ≡ true =
    (starts_is Decides-eqb (piece ++ rest) piece (starts_with nat_eq (piece ++ rest) piece) refl).1 rest refl in
    rw (s, drop-append_seam piece rest) refl

last_found : (c : List ℕ) (o : Option (List ℕ)) → is_last c o ≡ true → o ≡ Some c
last_found c (Some rest) e = ap (λ (x : List ℕ). Some x) ((bytes_eq-Decides rest c).0 e)
last_found c None e = absurd (false≢true e)

rest_found : (b c : List ℕ) (o : Option (List ℕ)) → is_rest b c o ≡ true → o ≡ Some (b ++ c)
rest_found b c (Some rest) e = ap (λ (x : List ℕ). Some x) (behind_found b rest c (last_found c (behind b rest) e))
rest_found b c None e = absurd (false≢true e)

last_again : (c : List ℕ) → is_last c (Some c) ≡ true
last_again c = (bytes_eq-Decides c c).1 refl

pub pieces_is : (a b c name : List ℕ) (r : Bool) → r ≡ is_pieces a b c name
    → (IsTrue r → word name ≡ word (a ++ (b ++ c))) × (word name ≡ word (a ++ (b ++ c)) → IsTrue r)
pieces_is a b c name r is = (
  λ e. ap word (behind_found a name (b ++ c) (rest_found b c (behind a name) (sym is ∙ e))),
  λ e. is ∙ ap (is_pieces a b c) (the_word e) ∙ ap (is_rest b c) (behind_again a (b ++ c)) ∙ ap (is_last c) (behind_again b c) ∙ last_again c,
)
  where
    the_word : {x y : List ℕ} → word x ≡ word y → x ≡ y
    the_word e = cc
