-- Kinds in order are each told once, and so are the names of their files.
use Rattle.std.proofs.Common.{◌≡◌, ◌≢◌, ◌∙◌, ℕ, List, [], ◌∷◌, arith, inl, inr, subst, sym}
use Rattle.std.specs.List.{All}
use Rattle.std.proofs.lemmas.List.Elements.{All-cons, All-head, All-nil, All-tail, All-weaker}
use Rattle.hm_shake.proofs.Telling.{names_apart}
use Rattle.hm_shake.specs.Counts.{AreInOrder, IsLater}
use Rattle.hm_shake.specs.Findings.{AreFiled, AreNamedApart}
use Rattle.hm_shake.specs.Numbers.{HasNumbers}
use Rattle.hm_shake.specs.declared.filing.Written.{Written}
use Rattle.hm_shake_runs.specs.declared.found.Found.{Found}
use Rattle.hm_shake_runs.specs.declared.kinds.Ended.{Ended}
use Rattle.hm_shake_runs.specs.declared.kinds.Kind.{Kind}

-- no kind is among those behind it
abbrev AreApart : List Found → Type 0
AreApart [] = Unit {0}
AreApart (x ∷ xs) = All (λ y. y.kind ≢ x.kind) xs × AreApart xs

order_apart : (ends : ℕ → Ended) (n : ℕ) (xs : List Found) → AreInOrder ends n xs → AreApart xs
order_apart ends n [] h = tt
order_apart ends n (x ∷ xs) h =
    let run = h.0.0 in
    (All-weaker (IsLater ends run) (λ y. y.kind ≢ x.kind) (λ y later same. later run (omega arith) (h.0.2 ∙ sym same)) xs h.0.3, order_apart ends n xs h.1)

module _ (Is : Found → Written → Type 0) (plain : Kind) (same : (x : Found) (w : Written) → Is x w → w.kind ≡ x.kind) where
  -- what holds of all kinds holds of those of their files
  filed_all : (P : Kind → Type 0) (xs : List Found) (ws : List Written) → AreFiled Is plain xs ws → All (λ (x : Found). P x.kind) xs
      → All (λ (w : Written). P w.kind) ws
  filed_all P [] ws filed all = subst (λ (vs : List Written). All (λ (w : Written). P w.kind) vs) (sym filed) (All-nil (λ (w : Written). P w.kind))
  filed_all P (x ∷ xs) ws (inl (other, w, more, is, one, rest)) all =
      subst (λ (vs : List Written). All (λ (v : Written). P v.kind) vs) (sym is)
      (All-cons (λ (v : Written). P v.kind) w more (subst P (sym (same x w one)) (All-head (λ (y : Found). P y.kind) x xs all))
      (filed_all P xs more rest (All-tail (λ (y : Found). P y.kind) x xs all)))
  filed_all P (x ∷ xs) ws (inr (plainly, rest)) all = filed_all P xs ws rest (All-tail (λ (y : Found). P y.kind) x xs all)

  files_apart : (xs : List Found) (ws : List Written) → AreFiled Is plain xs ws → AreApart xs → All (λ (w : Written). HasNumbers w.kind) ws → AreNamedApart ws
  files_apart [] ws filed apart fit = subst AreNamedApart (sym filed) tt
  files_apart (x ∷ xs) ws (inl (other, w, more, is, one, rest)) apart fit =
      let fits = subst (λ (vs : List Written). All (λ (v : Written). HasNumbers v.kind) vs) is fit in
      let first = All-head (λ (v : Written). HasNumbers v.kind) w more fits in
      let behind = All-tail (λ (v : Written). HasNumbers v.kind) w more fits in
      let others = filed_all (λ (k : Kind). k ≢ x.kind) xs more rest apart.0 in
      let here : AreNamedApart (w ∷ more) =
      ((λ k d lt named. others k d lt (names_apart _ _ (behind k d lt) first named ∙ same x w one)), files_apart xs more rest apart.1 behind) in
      subst AreNamedApart (sym is) here
  files_apart (x ∷ xs) ws (inr (plainly, rest)) apart fit = files_apart xs ws rest apart.1 fit

-- so of kinds in order the files have names that differ
pub files_named : (ends : ℕ → Ended) (n : ℕ) (Is : Found → Written → Type 0) (plain : Kind) (xs : List Found) (ws : List Written)
    → ((x : Found) (w : Written) → Is x w → w.kind ≡ x.kind) → AreInOrder ends n xs → AreFiled Is plain xs ws
    → All (λ (w : Written). HasNumbers w.kind) ws → AreNamedApart ws
files_named ends n Is plain xs ws same order filed fit = files_apart Is plain same xs ws filed (order_apart ends n xs order) fit
