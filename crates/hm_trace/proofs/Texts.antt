-- Texts that are added one behind another.
use Rattle.std.proofs.Common.{◌≡◌, ℕ, suc, ◌+◌, ◌-◌, ◌<◌, ◌≤◌, ap, arith, sym, ◌∙◌, List, ◌++◌, append-nil, append_assoc}
use Rattle.hm_trace.specs.Changes.{texts_from}

-- the text of one more number, and of the others
texts_more : (text : ℕ → List ℕ) (count k : ℕ) → k < count → texts_from text k (count - k) ≡ text k ++ texts_from text (k + 1) (count - (k + 1))
unfolding texts_from
texts_more text count k below =
    let one : count - k ≡ suc (count - (k + 1)) = omega arith in
    ap (texts_from text k) one

pub texts_on : (text : ℕ → List ℕ) (count k : ℕ) (out new all : List ℕ) → k < count → new ≡ out ++ text k → out ++ texts_from text k (count - k) ≡ all
    → new ++ texts_from text (k + 1) (count - (k + 1)) ≡ all
texts_on text count k out new all below is left =
    ap (λ (t : List ℕ). t ++ texts_from text (k + 1) (count - (k + 1))) is
    ∙ append_assoc out (text k) (texts_from text (k + 1) (count - (k + 1)))
    ∙ ap (λ (t : List ℕ). out ++ t) (sym (texts_more text count k below))
    ∙ left

-- no number is left
pub texts_done : (text : ℕ → List ℕ) (count k : ℕ) (out all : List ℕ) → count ≤ k → out ++ texts_from text k (count - k) ≡ all → out ≡ all
unfolding texts_from
texts_done text count k out all past left =
    let none : count - k ≡ 0 = omega arith in
    sym (append-nil out) ∙ ap (λ (t : List ℕ). out ++ t) (sym (ap (texts_from text k) none)) ∙ left
