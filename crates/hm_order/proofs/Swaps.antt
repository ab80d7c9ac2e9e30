-- Two actions that do not meet, in either order.
use Rattle.std.proofs.Common.{◌≡◌, Ok, Err, Bool, true, false, ◌||◌, sym, ◌∙◌, ap, subst}
use Rattle.hm_order.specs.Beats.{View, Action, ActionLaws, Apart, AgreeOn, Same, SameBeat}
use Rattle.hm_order.proofs.Results.{ok_same, alike_ok, alike_back, alike_err, decide, or_swap, true_not_false}

module _ {S C V E : Type 0} (view : View S C V) where
  -- an action leaves what it does not set
  untouched : (x : Action S C E) (s t : S) (p : C → Bool) → ActionLaws view x → x.run s ≡ Ok t → ((c : C) → x.sets s c ≡ true → p c ≡ false)
      → AgreeOn view p s t
  untouched x s t p laws e off c h = decide (x.sets s c) (λ set. true_not_false (p c) h (off c set)) (λ unset. sym (laws.frame s t e c unset))

module _ {S C V E : Type 0} (view : View S C V) (x y : Action S C E) (laws_x : ActionLaws view x) (laws_y : ActionLaws view y) where
  -- what y does after x, by what it does before
  pub after : (s t : S) → Apart x y s → x.run s ≡ Ok t → SameBeat view y s t
  after s t apart e = laws_y.depends s t (untouched view x s t (y.uses s) laws_x e apart.used)

  -- what x does after y
  pub before : (s u : S) → Apart x y s → y.run s ≡ Ok u → SameBeat view x s u
  before s u apart e = laws_x.depends s u (untouched view y s u (x.uses s) laws_y e apart.uses)

  -- x stops alike before and after y
  pub stops_after : (s u : S) (f : E) → Apart x y s → y.run s ≡ Ok u → x.run s ≡ Err f → x.run u ≡ Err f
  stops_after s u f apart done e = alike_err (AgreeOn view (x.sets s)) (x.run s) (x.run u) f (before s u apart done).result e

  -- what the two leave, in both orders
  meets_nowhere : (s t u v w : S) → Apart x y s → x.run s ≡ Ok t → y.run s ≡ Ok u
      → SameBeat view x s u → x.run u ≡ Ok w → AgreeOn view (x.sets s) t w
      → SameBeat view y s t → y.run t ≡ Ok v → AgreeOn view (y.sets s) u v → Same view w v
  meets_nowhere s t u v w apart first second same_x last_x agree_x same_y last_y agree_y = record {
    cells = λ c. decide (x.sets s c)
        (λ by_x. decide (y.sets s c)
        (λ by_y. true_not_false (x.sets s c) by_x (apart.sets c by_y))
        (λ not_y. sym (agree_x c by_x) ∙ sym (laws_y.frame t v last_y c (sym (same_y.touch.sets c) ∙ not_y))))
        (λ not_x. decide (y.sets s c)
        (λ by_y. laws_x.frame u w last_x c (sym (same_x.touch.sets c) ∙ not_x) ∙ agree_y c by_y)
        (λ not_y. laws_x.frame u w last_x c (sym (same_x.touch.sets c) ∙ not_x) ∙ laws_y.frame s u second c not_y
        ∙ sym (laws_x.frame s t first c not_x) ∙ sym (laws_y.frame t v last_y c (sym (same_y.touch.sets c) ∙ not_y))));
    sticky = laws_x.flag u w last_x ∙ ap (λ b. b || x.marks u) (laws_y.flag s u second)
        ∙ ap (λ b. (view.sticky s || y.marks s) || b) (sym (same_x.marks t first))
        ∙ or_swap (view.sticky s) (y.marks s) (x.marks s)
        ∙ ap (λ b. (view.sticky s || x.marks s) || b) (same_y.marks u second) ∙ ap (λ b. b || y.marks t) (sym (laws_x.flag s t first))
        ∙ sym (laws_y.flag t v last_y);
  }

  -- Where both can go first, each can go second, and they leave the same.
  pub exchanged : (s t u : S) → Apart x y s → x.run s ≡ Ok t → y.run s ≡ Ok u → (v : S) × (w : S) × (y.run t ≡ Ok v) × (x.run u ≡ Ok w) × Same view w v
  exchanged s t u apart first second =
      let of_x = before s u apart second in
      let of_y = after s t apart first in
      let end_x = alike_ok (AgreeOn view (x.sets s)) (x.run s) (x.run u) t of_x.result first in
      let end_y = alike_ok (AgreeOn view (y.sets s)) (y.run s) (y.run t) u of_y.result second in
      (end_y.0, end_x.0, end_y.1, end_x.1, meets_nowhere s t u end_y.0 end_x.0 apart first second of_x end_x.1 end_x.2 of_y end_y.1 end_y.2)

  -- Where x and then y do not stop, y and then x do not, and leave the same.
  pub swapped : (s t v : S) → Apart x y s → x.run s ≡ Ok t → y.run t ≡ Ok v → (u : S) × (w : S) × (y.run s ≡ Ok u) × (x.run u ≡ Ok w) × Same view w v
  swapped s t v apart first last =
      let second = alike_back (AgreeOn view (y.sets s)) (y.run s) (y.run t) v (after s t apart first).result last in
      let ends = exchanged s t second.0 apart first second.1 in
      (second.0, ends.1, second.1, ends.3, subst (λ z. Same view ends.1 z) (ok_same (sym ends.2 ∙ last)) ends.4)
