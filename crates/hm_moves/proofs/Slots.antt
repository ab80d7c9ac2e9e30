-- Places that are filled one after another, each from what stands there.
use Rattle.std.proofs.Common.{◌≡◌, ℕ, ◌<◌, Bool, true, false, cond, eqb, [], ◌∷◌, refl, ◌∙◌, ap, arith, eq-eqb}
use Rattle.hm_base.specs.Place.{same_place}
use Rattle.hm_base.specs.declared.Place.{Place}
use Rattle.hm_state.specs.Store.{put, put_all}
use Rattle.hm_state.specs.State.{At, Cell, State, Value, at, cells, same_cell, word}
use Rattle.hm_beat.proofs.Whole.{past}

-- places take numbers
abbrev pub fill1 : Place → (ℕ → ℕ) → State → State
fill1 p f u = put_all cells ((At p, word (f (at p u))) ∷ []) u

abbrev pub fill2 : (p q : Place) (f g : ℕ → ℕ) → State → State
fill2 p q f g u = put_all cells ((At p, word (f (at p u))) ∷ (At q, word (g (at q u))) ∷ []) u

abbrev pub fill4 : (p q r t : Place) (f g h k : ℕ → ℕ) → State → State
fill4 p q r t f g h k u = put_all cells ((At p, word (f (at p u))) ∷ (At q, word (g (at q u))) ∷ (At r, word (h (at r u))) ∷ (At t, word (k (at t u))) ∷ []) u

-- the last number counts
last2 : (a b : Bool) (v w x y o : Value) → cond b y (cond a x (cond b w (cond a v o))) ≡ cond b y (cond a x o)
last2 a true v w x y o = refl
last2 true false v w x y o = refl
last2 false false v w x y o = refl

last4 : (a b c d : Bool) (v w x y v' w' x' y' o : Value)
    → cond d y' (cond c x' (cond b w' (cond a v' (cond d y (cond c x (cond b w (cond a v o))))))) ≡ cond d y' (cond c x' (cond b w' (cond a v' o)))
last4 a b c true v w x y v' w' x' y' o = refl
last4 a b true false v w x y v' w' x' y' o = refl
last4 a true false false v w x y v' w' x' y' o = refl
last4 true false false false v w x y v' w' x' y' o = refl
last4 false false false false v w x y v' w' x' y' o = refl

put2_twice : (c d : Cell) (v w x y : Value) (s : State)
    → put_all cells ((c, x) ∷ (d, y) ∷ []) (put_all cells ((c, v) ∷ (d, w) ∷ []) s) ≡ put_all cells ((c, x) ∷ (d, y) ∷ []) s
put2_twice c d v w x y s = λ j. record { cell = λ e. last2 (same_cell c e) (same_cell d e) v w x y (s.cell e) j; sticky = s.sticky; pc = s.pc; rest = s.rest }

put4_twice : (c d e f : Cell) (v w x y v' w' x' y' : Value) (s : State)
    → put_all cells ((c, v') ∷ (d, w') ∷ (e, x') ∷ (f, y') ∷ []) (put_all cells ((c, v) ∷ (d, w) ∷ (e, x) ∷ (f, y) ∷ []) s)
    ≡ put_all cells ((c, v') ∷ (d, w') ∷ (e, x') ∷ (f, y') ∷ []) s
put4_twice c d e f v w x y v' w' x' y' s = λ j.
    record {
      cell = λ o. last4 (same_cell c o) (same_cell d o) (same_cell e o) (same_cell f o) v w x y v' w' x' y' (s.cell o) j;
      sticky = s.sticky;
      pc = s.pc;
      rest = s.rest;
    }

-- one place after another
one_by_one : (p q : Place) → same_place p q ≡ false → (f g : ℕ → ℕ) (u : State) → fill1 q g (fill1 p f u) ≡ fill2 p q f g u
one_by_one p q off f g u = λ j. put_all cells ((At p, word (f (at p u))) ∷ (At q, word (g (cond (off j) (word (f (at p u))) (u.cell (At q))).n)) ∷ []) u

-- four places that differ
module _ (l : ℕ → Place) (apart : (a b : ℕ) → a < 4 → b < 4 → same_place (l a) (l b) ≡ eqb a b) where
  here : (a : ℕ) → a < 4 → same_place (l a) (l a) ≡ true
  here a low = apart a a low low ∙ eq-eqb a a refl

  -- two are filled twice
  fill2_twice : (a b : ℕ) → a < 4 → b < 4 → eqb a b ≡ false → eqb b a ≡ false → (f g f' g' : ℕ → ℕ) (u : State)
      → fill2 (l a) (l b) f' g' (fill2 (l a) (l b) f g u) ≡ fill2 (l a) (l b) (λ x. f' (f x)) (λ x. g' (g x)) u
  fill2_twice a b low high off off' f g f' g' u =
      let v = word (f (at (l a) u)) in
      let w = word (g (at (l b) u)) in
      let held : cond (same_place (l b) (l a)) w (cond (same_place (l a) (l a)) v (u.cell (At (l a)))) ≡ v
      = λ j. cond ((apart b a high low ∙ off') j) w (cond (here a low j) v (u.cell (At (l a)))) in
      let held' : cond (same_place (l b) (l b)) w (cond (same_place (l a) (l b)) v (u.cell (At (l b)))) ≡ w
      = λ j. cond (here b high j) w (cond ((apart a b low high ∙ off) j) v (u.cell (At (l b)))) in
      (λ j. put_all cells ((At (l a), word (f' (held j).n)) ∷ (At (l b), word (g' (held' j).n)) ∷ []) (fill2 (l a) (l b) f g u))
      ∙ put2_twice (At (l a)) (At (l b)) v w (word (f' (f (at (l a) u)))) (word (g' (g (at (l b) u)))) u

  -- two, and then the two others
  two_by_two : (f g h k : ℕ → ℕ) (u : State) → fill2 (l 2) (l 3) h k (fill2 (l 0) (l 1) f g u) ≡ fill4 (l 0) (l 1) (l 2) (l 3) f g h k u
  two_by_two f g h k u =
      let v = word (f (at (l 0) u)) in
      let w = word (g (at (l 1) u)) in
      let held : (b : ℕ) → 1 < b → b < 4
      → cond (same_place (l 1) (l b)) w (cond (same_place (l 0) (l b)) v (u.cell (At (l b)))) ≡ cond (eqb 1 b) w (cond (eqb 0 b) v (u.cell (At (l b))))
      = λ b low high j. cond (apart 1 b (omega arith) high j) w (cond (apart 0 b (omega arith) high j) v (u.cell (At (l b)))) in
      let third = held 2 (omega arith) (omega arith) in
      let fourth = held 3 (omega arith) (omega arith) in
      λ j. put_all cells ((At (l 0), v) ∷ (At (l 1), w) ∷ (At (l 2), word (h (third j).n)) ∷ (At (l 3), word (k (fourth j).n)) ∷ []) u

  -- what stands in place b of four that were filled
  held4 : (v w x y : Value) (u : State) (b : ℕ) → b < 4
      → (put_all cells ((At (l 0), v) ∷ (At (l 1), w) ∷ (At (l 2), x) ∷ (At (l 3), y) ∷ []) u).cell (At (l b))
      ≡ cond (eqb 3 b) y (cond (eqb 2 b) x (cond (eqb 1 b) w (cond (eqb 0 b) v (u.cell (At (l b))))))
  held4 v w x y u b high = λ j.
      cond (apart 3 b (omega arith) high j) y
      (cond (apart 2 b (omega arith) high j) x (cond (apart 1 b (omega arith) high j) w (cond (apart 0 b (omega arith) high j) v (u.cell (At (l b))))))

  -- each is filled twice
  fill4_twice : (f g h k f' g' h' k' : ℕ → ℕ) (u : State) → fill4 (l 0) (l 1) (l 2) (l 3) f' g' h' k' (fill4 (l 0) (l 1) (l 2) (l 3) f g h k u)
      ≡ fill4 (l 0) (l 1) (l 2) (l 3) (λ x. f' (f x)) (λ x. g' (g x)) (λ x. h' (h x)) (λ x. k' (k x)) u
  fill4_twice f g h k f' g' h' k' u =
      let v = word (f (at (l 0) u)) in
      let w = word (g (at (l 1) u)) in
      let x = word (h (at (l 2) u)) in
      let y = word (k (at (l 3) u)) in
      let held = held4 v w x y u in
      (λ j. put_all cells ((At (l 0), word (f' (held 0 (omega arith) j).n)) ∷ (At (l 1), word (g' (held 1 (omega arith) j).n))
      ∷ (At (l 2), word (h' (held 2 (omega arith) j).n)) ∷ (At (l 3), word (k' (held 3 (omega arith) j).n)) ∷ []) (fill4 (l 0) (l 1) (l 2) (l 3) f g h k u))
      ∙ put4_twice (At (l 0)) (At (l 1)) (At (l 2)) (At (l 3)) v w x y (word (f' (f (at (l 0) u)))) (word (g' (g (at (l 1) u)))) (word (h' (h (at (l 2) u))))
      (word (k' (k (at (l 3) u)))) u

  -- each is filled four times
  pub fill4_four : (f : ℕ → ℕ → ℕ → ℕ) (u : State)
      → (let fill : ℕ → State → State = λ b. fill4 (l 0) (l 1) (l 2) (l 3) (f b 0) (f b 1) (f b 2) (f b 3) in fill 3 (fill 2 (fill 1 (fill 0 u))))
      ≡ (let all : ℕ → ℕ → ℕ = λ c x. f 3 c (f 2 c (f 1 c (f 0 c x))) in fill4 (l 0) (l 1) (l 2) (l 3) (all 0) (all 1) (all 2) (all 3) u)
  fill4_four f u =
      let fill : ℕ → State → State = λ b. fill4 (l 0) (l 1) (l 2) (l 3) (f b 0) (f b 1) (f b 2) (f b 3) in
      let two : ℕ → ℕ → ℕ = λ c x. f 1 c (f 0 c x) in
      let three : ℕ → ℕ → ℕ = λ c x. f 2 c (two c x) in
      ap (λ v. fill 3 (fill 2 v)) (fill4_twice (f 0 0) (f 0 1) (f 0 2) (f 0 3) (f 1 0) (f 1 1) (f 1 2) (f 1 3) u)
      ∙ ap (fill 3) (fill4_twice (two 0) (two 1) (two 2) (two 3) (f 2 0) (f 2 1) (f 2 2) (f 2 3) u)
      ∙ fill4_twice (three 0) (three 1) (three 2) (three 3) (f 3 0) (f 3 1) (f 3 2) (f 3 3) u

  -- one by one
  pub four_ones : (f g h k : ℕ → ℕ) (u : State) → fill1 (l 3) k (fill1 (l 2) h (fill1 (l 1) g (fill1 (l 0) f u))) ≡ fill4 (l 0) (l 1) (l 2) (l 3) f g h k u
  four_ones f g h k u =
      ap (λ v. fill1 (l 3) k (fill1 (l 2) h v)) (one_by_one (l 0) (l 1) (apart 0 1 (omega arith) (omega arith)) f g u)
      ∙ one_by_one (l 2) (l 3) (apart 2 3 (omega arith) (omega arith)) h k (fill2 (l 0) (l 1) f g u)
      ∙ two_by_two f g h k u

  -- two twice, and then the two others twice
  pub twos_twice : (f g h k f' g' h' k' : ℕ → ℕ) (u : State)
      → fill2 (l 2) (l 3) h' k' (fill2 (l 2) (l 3) h k (fill2 (l 0) (l 1) f' g' (fill2 (l 0) (l 1) f g u)))
      ≡ fill4 (l 0) (l 1) (l 2) (l 3) (λ x. f' (f x)) (λ x. g' (g x)) (λ x. h' (h x)) (λ x. k' (k x)) u
  twos_twice f g h k f' g' h' k' u =
      ap (λ v. fill2 (l 2) (l 3) h' k' (fill2 (l 2) (l 3) h k v)) (fill2_twice 0 1 (omega arith) (omega arith) refl refl f g f' g' u)
      ∙ fill2_twice 2 3 (omega arith) (omega arith) refl refl h k h' k' (fill2 (l 0) (l 1) (λ x. f' (f x)) (λ x. g' (g x)) u)
      ∙ two_by_two (λ x. f' (f x)) (λ x. g' (g x)) (λ x. h' (h x)) (λ x. k' (k x)) u

  -- two, the two others, and both again
  pub twos_in_turn : (f g h k f' g' h' k' : ℕ → ℕ) (u : State)
      → fill2 (l 2) (l 3) h' k' (fill2 (l 0) (l 1) f' g' (fill2 (l 2) (l 3) h k (fill2 (l 0) (l 1) f g u)))
      ≡ fill4 (l 0) (l 1) (l 2) (l 3) (λ x. f' (f x)) (λ x. g' (g x)) (λ x. h' (h x)) (λ x. k' (k x)) u
  twos_in_turn f g h k f' g' h' k' u =
      ap (λ v. fill2 (l 2) (l 3) h' k' (fill2 (l 0) (l 1) f' g' v)) (two_by_two f g h k u)
      ∙ two_by_two f' g' h' k' (fill4 (l 0) (l 1) (l 2) (l 3) f g h k u)
      ∙ fill4_twice f g h k f' g' h' k' u

  -- the two in the middle change places
  pub turned_middle : (v w x y : Value) (u : State) → put_all cells ((At (l 0), v) ∷ (At (l 1), w) ∷ (At (l 2), x) ∷ (At (l 3), y) ∷ []) u
      ≡ put_all cells ((At (l 0), v) ∷ (At (l 2), x) ∷ (At (l 1), w) ∷ (At (l 3), y) ∷ []) u
  turned_middle v w x y u = ap (put cells (At (l 3)) y)
      (past ((At (l 2), x) ∷ []) (At (l 1)) w (put cells (At (l 0)) v u) (apart 2 1 (omega arith) (omega arith), tt))
