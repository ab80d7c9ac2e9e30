-- Results that stop alike.
use Rattle.std.proofs.Common.{◌≡◌, Result, Ok, Err, Bool, true, false, ◌||◌, ◌⊎◌, inl, inr, refl, sym, ◌∙◌, ap, subst}
use Rattle.hm_order.specs.Beats.{then, Alike, AlikeAs, StopsBy}

pub ok_same : {A E : Type 0} {x y : A} → ◌≡◌ {A = Result A E} (Ok x) (Ok y) → x ≡ y
ok_same e = cc

pub err_same : {A E : Type 0} {x y : E} → ◌≡◌ {A = Result A E} (Err x) (Err y) → x ≡ y
err_same e = cc

pub ok_err : {A E : Type 0} {x : A} {y : E} → ◌≡◌ {A = Result A E} (Ok x) (Err y) → ⊥
ok_err e = cc

-- a test is true or false
pub decide : {P : Type 0} (b : Bool) → (b ≡ true → P) → (b ≡ false → P) → P
decide true f g = f refl
decide false f g = g refl

pub end_or_stop : {A E P : Type 0} (r : Result A E) → ((x : A) → r ≡ Ok x → P) → ((e : E) → r ≡ Err e → P) → P
end_or_stop (Ok x) f g = f x refl
end_or_stop (Err e) f g = g e refl

pub or_swap : (a b c : Bool) → ((a || b) || c) ≡ ((a || c) || b)
or_swap true b c = refl
or_swap false true true = refl
or_swap false true false = refl
or_swap false false true = refl
or_swap false false false = refl

pub true_not_false : {P : Type 0} (b : Bool) → b ≡ true → b ≡ false → P
true_not_false b e f = cc

module _ {A B E : Type 0} (R : A → B → Type 0) where
  -- the one ends, so the other does, in a related state
  pub alike_ok : (r : Result A E) (q : Result B E) (x : A) → Alike R r q → r ≡ Ok x → (y : B) × (q ≡ Ok y) × R x y
  alike_ok (Ok a) (Ok b) x h e = (b, refl, subst (λ z. R z b) (ok_same e) h)
  alike_ok (Ok a) (Err f) x h e = absurd h
  alike_ok (Err f) (Ok b) x h e = absurd h
  alike_ok (Err f) (Err g) x h e = absurd (ok_err (sym e))

  -- the other ends, so the one does
  pub alike_back : (r : Result A E) (q : Result B E) (y : B) → Alike R r q → q ≡ Ok y → (x : A) × (r ≡ Ok x)
  alike_back (Ok a) q y h e = (a, refl)
  alike_back (Err f) (Ok b) y h e = absurd h
  alike_back (Err f) (Err g) y h e = absurd (ok_err (sym e))

  -- the one stops, so the other does, for the same reason
  pub alike_err : (r : Result A E) (q : Result B E) (x : E) → Alike R r q → r ≡ Err x → q ≡ Err x
  alike_err (Ok a) q x h e = absurd (ok_err e)
  alike_err (Err f) (Ok b) x h e = absurd h
  alike_err (Err f) (Err g) x h e = cc

  pub alike_map : (R' : A → B → Type 0) (r : Result A E) (q : Result B E) → ((x : A) (y : B) → r ≡ Ok x → q ≡ Ok y → R x y → R' x y) → Alike R r q
      → Alike R' r q
  alike_map R' (Ok a) (Ok b) f h = f a b refl refl h
  alike_map R' (Ok a) (Err g) f h = h
  alike_map R' (Err g) (Ok b) f h = h
  alike_map R' (Err g) (Err g') f h = h

  pub alike_then : {A' B' : Type 0} (R' : A' → B' → Type 0) (r : Result A E) (q : Result B E) (f : A → Result A' E) (g : B → Result B' E)
      → Alike R r q → ((x : A) (y : B) → r ≡ Ok x → q ≡ Ok y → R x y → Alike R' (f x) (g y)) → Alike R' (then r f) (then q g)
  alike_then R' (Ok a) (Ok b) f g h k = k a b refl refl h
  alike_then R' (Ok a) (Err e) f g h k = absurd h
  alike_then R' (Err e) (Ok b) f g h k = absurd h
  alike_then R' (Err e) (Err e') f g h k = h

  -- the same of results of which the first may have stopped by a dead cell
  pub tells_then : {A' B' : Type 0} (R' : A' → B' → Type 0) (p : E → Bool) (r : Result A E) (q : Result B E) (f : A → Result A' E) (g : B → Result B' E)
      → StopsBy p r ⊎ Alike R r q → ((x : A) (y : B) → r ≡ Ok x → q ≡ Ok y → R x y → StopsBy p (f x) ⊎ Alike R' (f x) (g y))
      → StopsBy p (then r f) ⊎ Alike R' (then r f) (then q g)
  tells_then R' p (Ok a) (Ok b) f g (inl h) k = absurd h
  tells_then R' p (Ok a) (Ok b) f g (inr h) k = k a b refl refl h
  tells_then R' p (Ok a) (Err e) f g (inl h) k = absurd h
  tells_then R' p (Ok a) (Err e) f g (inr h) k = absurd h
  tells_then R' p (Err e) q f g (inl h) k = inl h
  tells_then R' p (Err e) (Ok b) f g (inr h) k = absurd h
  tells_then R' p (Err e) (Err e') f g (inr h) k = inr h

module _ {A B E W : Type 0} (f : W → E) (R : A → B → Type 0) where
  -- the one ends, so the other does, in a related state
  pub alike_as_ok : (r : Result A E) (q : Result B W) (x : A) → AlikeAs f R r q → r ≡ Ok x → (y : B) × (q ≡ Ok y) × R x y
  alike_as_ok (Ok a) (Ok b) x h e = (b, refl, subst (λ z. R z b) (ok_same e) h)
  alike_as_ok (Ok a) (Err w) x h e = absurd h
  alike_as_ok (Err g) (Ok b) x h e = absurd h
  alike_as_ok (Err g) (Err w) x h e = absurd (ok_err (sym e))

  -- the one stops, so the other does, as f says
  pub alike_as_err : (r : Result A E) (q : Result B W) (x : E) → AlikeAs f R r q → r ≡ Err x → (w : W) × (f w ≡ x) × (q ≡ Err w)
  alike_as_err (Ok a) q x h e = absurd (ok_err e)
  alike_as_err (Err g) (Ok b) x h e = absurd h
  alike_as_err (Err g) (Err w) x h e = (w, sym h ∙ err_same e, refl)

pub then_ok : {A B E : Type 0} (r : Result A E) (f : A → Result B E) (y : B) → then r f ≡ Ok y → (x : A) × (r ≡ Ok x) × (f x ≡ Ok y)
then_ok (Ok x) f y e = (x, refl, e)
then_ok (Err g) f y e = absurd (ok_err (sym e))

-- a stop of the first or of what follows it
pub then_err : {A B E P : Type 0} (r : Result A E) (f : A → Result B E) (e : E) → then r f ≡ Err e → (r ≡ Err e → P) → ((x : A) → r ≡ Ok x → f x ≡ Err e → P)
    → P
then_err (Ok x) f e h one two = two x refl h
then_err (Err g) f e h one two = one (ap Err (err_same h))

pub then_ok_at : {A B E : Type 0} (r : Result A E) (f : A → Result B E) (x : A) → r ≡ Ok x → then r f ≡ f x
then_ok_at r f x e = ap (λ q. then q f) e

pub then_err_at : {A B E : Type 0} (r : Result A E) (f : A → Result B E) (x : E) → r ≡ Err x → then r f ≡ Err x
then_err_at r f x e = ap (λ q. then q f) e

pub not_stopped : {A E : Type 0} (p : E → Bool) (r : Result A E) (x : A) → StopsBy p r → r ≡ Ok x → ⊥
not_stopped p (Ok a) x h e = h
not_stopped p (Err f) x h e = ok_err (sym e)
