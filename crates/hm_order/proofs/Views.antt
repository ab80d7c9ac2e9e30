-- States as they are seen, and single actions on them.
use Rattle.std.proofs.Common.{◌≡◌, Ok, false, ◌||◌, sym, ◌∙◌, ap, subst}
use Rattle.hm_order.specs.Beats.{View, Action, ActionLaws, AgreeOn, Same, Live, SameBeat, Alike}
use Rattle.hm_order.proofs.Results.{alike_map, decide}

module _ {S C V : Type 0} (view : View S C V) where
  pub same_live : (s t : S) → Same view s t → Live view s t
  same_live s t h = record { cells = λ c _. h.cells c; sticky = h.sticky }

  pub live_trans : (s t u : S) → Live view s t → Live view t u → Live view s u
  live_trans s t u h k = record {
    cells = λ c alive. h.cells c alive ∙ k.cells c (subst (λ v. view.dead c v ≡ false) (h.cells c alive) alive);
    sticky = h.sticky ∙ k.sticky;
  }

  pub same_trans : (s t u : S) → Same view s t → Same view t u → Same view s u
  same_trans s t u h k = record { cells = λ c. h.cells c ∙ k.cells c; sticky = h.sticky ∙ k.sticky }

  pub same_sym : (s t : S) → Same view s t → Same view t s
  same_sym s t h = record { cells = λ c. sym (h.cells c); sticky = sym h.sticky }

module _ {S C V E : Type 0} (view : View S C V) (x : Action S C E) (laws : ActionLaws view x) where
  flags : (s t u v : S) → view.sticky s ≡ view.sticky t → x.marks s ≡ x.marks t → x.run s ≡ Ok u → x.run t ≡ Ok v → view.sticky u ≡ view.sticky v
  flags s t u v same marks e f = laws.flag s u e ∙ ap (λ b. b || x.marks s) same ∙ ap (λ b. view.sticky t || b) marks ∙ sym (laws.flag t v f)

  -- the same action leaves states that are the same, the same
  pub ends_same : (s t u v : S) → Same view s t → SameBeat view x s t → x.run s ≡ Ok u → x.run t ≡ Ok v → AgreeOn view (x.sets s) u v → Same view u v
  ends_same s t u v same b e f agree = record {
    cells = λ c. decide (x.sets s c) (λ set. agree c set)
        (λ unset. laws.frame s u e c unset ∙ same.cells c ∙ sym (laws.frame t v f c (sym (b.touch.sets c) ∙ unset)));
    sticky = flags s t u v same.sticky (b.marks u e) e f;
  }

  pub ends_live : (s t u v : S) → Live view s t → SameBeat view x s t → x.run s ≡ Ok u → x.run t ≡ Ok v → AgreeOn view (x.sets s) u v → Live view u v
  ends_live s t u v live b e f agree = record {
    cells = λ c alive. decide (x.sets s c) (λ set. agree c set)
        (λ unset. let stays = laws.frame s u e c unset in
        stays ∙ live.cells c (subst (λ a. view.dead c a ≡ false) stays alive) ∙ sym (laws.frame t v f c (sym (b.touch.sets c) ∙ unset)));
    sticky = flags s t u v live.sticky (b.marks u e) e f;
  }

  -- it does the same in states that are the same
  pub run_same : (s t : S) → Same view s t → Alike (Same view) (x.run s) (x.run t)
  run_same s t same =
      let b = laws.depends s t (λ c _. same.cells c) in
      alike_map (AgreeOn view (x.sets s)) (Same view) (x.run s) (x.run t) (λ u v e f agree. ends_same s t u v same b e f agree) b.result
