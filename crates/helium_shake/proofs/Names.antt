-- The names of files are text.
use Rattle.std.proofs.Common.{◌≡◌, ℕ, ◌∙◌, ◌++◌, List, [], ap, append_assoc, arith, codes}
use Rattle.std.proofs.lemmas.Str.{IsUtf8-append, IsUtf8-from_ascii}
use Rattle.std.proofs.lemmas.Str.Ascii.{IsAscii-cons, IsAscii-nil}
use Rattle.std.specs.Str.{IsUtf8}
use Rattle.hm_shake.proofs.Names.{name_is_ascii}
use Rattle.hm_shake.specs.Kinds.{kind_name}
use Rattle.hm_shake_runs.specs.declared.kinds.Kind.{Kind}
use Rattle.helium_shake.specs.Texts.{file_name}

pub name_is_text : (schedule : List ℕ) (k : Kind) → IsUtf8 schedule → IsUtf8 (file_name schedule k)
name_is_text schedule k is =
    IsUtf8-append (schedule ++ codes ".") (kind_name k)
    (IsUtf8-append schedule (codes ".") is (IsUtf8-from_ascii (codes ".") (IsAscii-cons 46 [] (omega arith) IsAscii-nil)))
    (IsUtf8-from_ascii (kind_name k) (name_is_ascii k))

-- six parts that are added one behind another
pub six_added : (out a b d e f g x y z u v w : List ℕ) → x ≡ out ++ a → y ≡ x ++ b → z ≡ y ++ d → u ≡ z ++ e → v ≡ u ++ f → w ≡ v ++ g
    → w ≡ out ++ (((((a ++ b) ++ d) ++ e) ++ f) ++ g)
six_added out a b d e f g x y z u v w p q r s t last =
    let all : (((((out ++ a) ++ b) ++ d) ++ e) ++ f) ++ g ≡ out ++ (((((a ++ b) ++ d) ++ e) ++ f) ++ g) = simp append_assoc in
    last
    ∙ ap (λ (n : List ℕ). n ++ g)
    (t ∙ ap (λ (n : List ℕ). n ++ f) (s ∙ ap (λ (n : List ℕ). n ++ e) (r ∙ ap (λ (n : List ℕ). n ++ d) (q ∙ ap (λ (n : List ℕ). n ++ b) p))))
    ∙ all
