-- A line whose label is no bad one is refused as its form is.
use Rattle.std.proofs.Common.{◌≡◌, ℕ, Bool, true, false, List, Some, None, Result, Err, sym, ap, subst, ◌∙◌}
use Rattle.std.specs.Prelude.{not}
use Rattle.std.proofs.lemmas.Bool.{false≢true}
use Rattle.hm_line.specs.declared.form.Form.TheVariants as forms
use Rattle.hm_tokens.specs.Names.{is_label_name}
use Rattle.hm_line.specs.Sources.{before_comment, has_bad_label, is_bad, label_of, IsLineRefused}
use Rattle.hm_line.specs.Texts.{IsRefused}

pub fine_label : (line text : List ℕ) (x : List ℕ × List ℕ) (b : Bool) → text ≡ before_comment line → label_of text ≡ Some x → b ≡ is_label_name x.0 → b ≡ true
    → has_bad_label (before_comment line) ≡ false
fine_label line text x b e is named t = subst (λ (u : List ℕ). has_bad_label u ≡ false) e (ap is_bad is ∙ ap not (sym named ∙ t))

pub no_label : (line text : List ℕ) → text ≡ before_comment line → label_of text ≡ None → has_bad_label (before_comment line) ≡ false
no_label line text e none = subst (λ (u : List ℕ). has_bad_label u ≡ false) e (ap is_bad none)

pub line_refusals : {A : Type 0} (line text : List ℕ) (r : Result A ℕ) → text ≡ before_comment line → has_bad_label (before_comment line) ≡ false
    → ((c : ℕ) → (IsRefused forms.Line text c → r ≡ Err c) × (r ≡ Err c → IsRefused forms.Line text c)) → (c : ℕ)
    → (IsLineRefused line c → r ≡ Err c) × (r ≡ Err c → IsLineRefused line c)
line_refusals line text r e fine h c =
    let k = subst (λ (u : List ℕ). (d : ℕ) → (IsRefused forms.Line u d → r ≡ Err d) × (r ≡ Err d → IsRefused forms.Line u d)) e h c in
    ((λ x. k.0 (x.1 fine)), (λ is. ((λ bad. absurd (false≢true (sym fine ∙ bad))), (λ _. k.1 is))))
