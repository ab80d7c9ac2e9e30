-- Files of kinds, one more.
use Rattle.std.proofs.Common.{◌≡◌, ◌≢◌, ℕ, zero, suc, ◌+◌, ◌<◌, ◌≤◌, ◌∙◌, List, [], ◌∷◌, ◌++◌, append_assoc, ap, arith, drop, inl, inr, length}
use Rattle.std.proofs.Common.{refl, slice_index_or, subst, sym}
use Rattle.std.proofs.lemmas.List.{append-nil, drop_all}
use Rattle.hm_shake.specs.Findings.{AreFiled}
use Rattle.hm_shake.specs.declared.filing.Written.{Written}
use Rattle.hm_shake_runs.specs.declared.found.Found.{Found}
use Rattle.hm_shake_runs.specs.declared.kinds.Kind.{Kind}

drop_at : (xs : List Found) (i : ℕ) (d : Found) → i < length xs → drop i xs ≡ slice_index_or xs i d ∷ drop (suc i) xs
drop_at [] i d h = absurd (omega arith)
drop_at (x ∷ xs) zero d h = refl
drop_at (x ∷ xs) (suc i) d h = drop_at xs i d (omega arith)

drop_next : (xs : List Found) (i : ℕ) (d : Found) → i < length xs → drop i xs ≡ slice_index_or xs i d ∷ drop (i + 1) xs
drop_next xs i d h =
    let one_more : suc i ≡ i + 1 = omega arith in
    drop_at xs i d h ∙ ap (λ (n : ℕ). slice_index_or xs i d ∷ drop n xs) one_more

module _ (Is : Found → Written → Type 0) (plain : Kind) (kinds : List Found) where
  -- what holds of the files so far: with files of the kinds that are left behind them they are files of all
  abbrev AreSoFar : ℕ → List Written → Type 0
  AreSoFar i files = (rest : List Written) → AreFiled Is plain (drop i kinds) rest → AreFiled Is plain kinds (files ++ rest)

  pub file_added : (i : ℕ) (d : Found) (old new : List Written) (file : Written) → i < length kinds → (slice_index_or kinds i d).kind ≢ plain
      → Is (slice_index_or kinds i d) file → new ≡ old ++ file ∷ [] → AreSoFar i old → AreSoFar (i + 1) new
  file_added i d old new file lt has filed is before rest more =
      let here : AreFiled Is plain (drop i kinds) (file ∷ rest) =
      subst (λ (ks : List Found). AreFiled Is plain ks (file ∷ rest)) (sym (drop_next kinds i d lt)) (inl (has, file, rest, refl, filed, more)) in
      let all : new ++ rest ≡ old ++ file ∷ rest = ap (λ (ws : List Written). ws ++ rest) is ∙ append_assoc old (file ∷ []) rest in
      subst (λ (ws : List Written). AreFiled Is plain kinds ws) (sym all) (before (file ∷ rest) here)

  pub no_file : (i : ℕ) (d : Found) (old new : List Written) → i < length kinds → (slice_index_or kinds i d).kind ≡ plain → new ≡ old
      → AreSoFar i old → AreSoFar (i + 1) new
  no_file i d old new lt same is before rest filed =
      let here : AreFiled Is plain (drop i kinds) rest =
      subst (λ (ks : List Found). AreFiled Is plain ks rest) (sym (drop_next kinds i d lt)) (inr (same, filed)) in
      subst (λ (ws : List Written). AreFiled Is plain kinds (ws ++ rest)) (sym is) (before rest here)

  pub all_filed : (i : ℕ) (files : List Written) → length kinds ≤ i → AreSoFar i files → AreFiled Is plain kinds files
  all_filed i files end so_far =
      let none : AreFiled Is plain (drop i kinds) [] = subst (λ (ks : List Found). AreFiled Is plain ks []) (sym (drop_all i kinds end)) refl in
      subst (λ (ws : List Written). AreFiled Is plain kinds ws) (append-nil files) (so_far [] none)
