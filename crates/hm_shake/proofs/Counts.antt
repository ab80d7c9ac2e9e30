-- What holds of the kinds that were counted: one run more.
use Rattle.std.proofs.Common.{◌≡◌, ◌≢◌, ℕ, zero, suc, ◌+◌, ◌<◌, ◌≤◌, Bool, true, false, cond, List, [], ◌∷◌, arith, ap, refl, sym, ◌∙◌, subst, nat_lt, inl, inr}
use Rattle.std.proofs.lemmas.Bool.{cases_lt}
use Rattle.std.proofs.lemmas.Bool.Decides.{nat_tests}
use Rattle.std.specs.List.{All}
use Rattle.std.proofs.lemmas.List.Elements.{All-cons, All-head, All-nil, All-same, All-tail, All-weaker}
use Rattle.hm_shake.specs.Counts.{AreCounted, AreInOrder, CameBefore, CameIn, CameTo, HasKind, HowMany, IsCounted, IsLater}
use Rattle.hm_shake_runs.specs.Found.{IsNoted, counted, first_found}
use Rattle.hm_shake_runs.specs.declared.found.Found.{Found}
use Rattle.hm_shake_runs.specs.declared.kinds.Ended.{Ended}
use Rattle.hm_shake_runs.specs.declared.kinds.Kind.{Kind}

-- of numbers of which none has a property there are none that have it
none_many : (P : ℕ → Type 0) (n : ℕ) → ((k : ℕ) → k < n → P k → ⊥) → HowMany P n 0
none_many P zero none = refl
none_many P (suc n) none = inr (none n (omega arith), none_many P n (λ k lt. none k (omega arith)))

-- a kind that is another than the first is behind it
behind_other : {k : Kind} (x : Found) (xs : List Found) → HasKind k (x ∷ xs) → x.kind ≢ k → HasKind k xs
behind_other x xs (inl e) other = absurd (other e)
behind_other x xs (inr h) other = h

module _ (ends : ℕ → Ended) where
  -- it still came in that run
  still_in : (n : ℕ) (x : Found) → CameIn ends n x → CameIn ends (suc n) x
  still_in n x is = record { one = let one = is.one in omega arith; ended = is.ended }

  -- what is told of a kind stays so where one run more came to another
  another : (n : ℕ) (x : Found) → (ends n).kind ≢ x.kind → IsCounted ends n x → IsCounted ends (suc n) x
  another n x other is = record {
    count = inr (other, is.count);
    came = still_in n x is.came;
    fewest = λ run lt came. elim (cases_lt run n) [
      | inl l ↦ is.fewest run l came
      | inr l ↦ let same : run ≡ n = omega arith in absurd (other (subst (λ (k : ℕ). (ends k).kind ≡ x.kind) same came))
    ];
    first = is.first;
  }

  -- the run before, or the one more, by whether that has fewer ticks
  one_more : (n : ℕ) (x : Found) → x.kind ≡ (ends n).kind → IsCounted ends n x → (b : Bool) → nat_lt (ends n).ticks x.ticks ≡ b
      → IsCounted ends (suc n) (cond b (record x { count = x.count + 1; run = n; ticks = (ends n).ticks }) (record x { count = x.count + 1 }))
  one_more n x kind is true less = record {
    count = inl (sym kind, x.count, refl, is.count);
    came = record { one = omega arith; ended = λ j. record { kind = sym kind j; ticks = (ends n).ticks } };
    fewest = λ run lt came. elim (cases_lt run n) [
      | inl l ↦ let before = is.fewest run l came in grind (arith, nat_tests)
      | inr l ↦ let same : run ≡ n = omega arith in subst (λ (k : ℕ). (ends n).ticks ≤ (ends k).ticks) (sym same) (omega arith)
    ];
    first = λ run lt came. let before = is.fewest run lt came in grind (arith, nat_tests);
  }
  one_more n x kind is false less = record {
    count = inl (sym kind, x.count, refl, is.count);
    came = let there = still_in n x is.came in record { one = there.one; ended = there.ended };
    fewest = λ run lt came. elim (cases_lt run n) [
      | inl l ↦ is.fewest run l came
      | inr l ↦ let same : run ≡ n = omega arith in subst (λ (k : ℕ). x.ticks ≤ (ends k).ticks) (sym same) (grind (arith, nat_tests))
    ];
    first = is.first;
  }

  -- the first run that came to a kind
  first_one : (n : ℕ) → ((run : ℕ) → run < n → CameTo ends (ends n).kind run → ⊥) → IsCounted ends (suc n) (first_found (ends n) n)
  first_one n none = record {
    count = inl (refl, 0, refl, none_many (CameTo ends (ends n).kind) n none);
    came = record { one = omega arith; ended = refl };
    fewest = λ run lt came. elim (cases_lt run n) [
      | inl l ↦ absurd (none run l came)
      | inr l ↦ let same : run ≡ n = omega arith in subst (λ (k : ℕ). (ends n).ticks ≤ (ends k).ticks) (sym same) (omega arith)
    ];
    first = λ run lt came. absurd (none run lt came);
  }

  -- kinds that are all another's
  others : (n : ℕ) (k : Kind) (xs : List Found) → (ends n).kind ≡ k → All (IsCounted ends n) xs → All (λ y. y.kind ≢ k) xs → All (IsCounted ends (suc n)) xs
  others n k [] same all apart = All-nil (IsCounted ends (suc n))
  others n k (x ∷ xs) same all apart =
      let other : (ends n).kind ≢ x.kind = λ e. All-head (λ (y : Found). y.kind ≢ k) x xs apart (sym e ∙ same) in
      All-cons (IsCounted ends (suc n)) x xs (another n x other (All-head (IsCounted ends n) x xs all))
      (others n k xs same (All-tail (IsCounted ends n) x xs all) (All-tail (λ (y : Found). y.kind ≢ k) x xs apart))

  -- those that came later than a kind are others
  apart : (n : ℕ) (x : Found) (ys : List Found) → CameBefore ends n x ys → All (λ y. y.kind ≢ x.kind) ys
  apart n x ys before = All-weaker (IsLater ends before.0) (λ y. y.kind ≢ x.kind)
      (λ y later same. later before.0 (omega arith) (before.2 ∙ sym same)) ys before.3

  -- EACH KIND, with one run more
  noted_each : (n : ℕ) (xs ys : List Found) → ((run : ℕ) → run < n → CameTo ends (ends n).kind run → HasKind (ends n).kind xs)
      → AreInOrder ends n xs → All (IsCounted ends n) xs → IsNoted (ends n) n xs ys → All (IsCounted ends (suc n)) ys
  noted_each n [] ys has order all noted =
      All-same (IsCounted ends (suc n)) ys (first_found (ends n) n ∷ []) noted
      (All-cons (IsCounted ends (suc n)) (first_found (ends n) n) [] (first_one n has) (All-nil (IsCounted ends (suc n))))
  noted_each n (x ∷ xs) [] has order all noted = absurd noted
  noted_each n (x ∷ xs) (y ∷ ys) has order all noted = elim noted [
    | inl here ↦
        All-cons (IsCounted ends (suc n)) y ys
        (subst (IsCounted ends (suc n)) (sym here.1) (one_more n x here.0 (All-head (IsCounted ends n) x xs all) (nat_lt (ends n).ticks x.ticks) refl))
        (All-same (IsCounted ends (suc n)) ys xs here.2 (others n x.kind xs (sym here.0) (All-tail (IsCounted ends n) x xs all) (apart n x xs order.0)))
    | inr on ↦
        All-cons (IsCounted ends (suc n)) y ys
        (subst (IsCounted ends (suc n)) (sym on.1) (another n x (λ e. on.0 (sym e)) (All-head (IsCounted ends n) x xs all)))
        (noted_each n xs ys (λ run lt came. behind_other x xs (has run lt came) on.0) order.1 (All-tail (IsCounted ends n) x xs all) on.2)
  ]

  -- the kind of what is counted
  counted_kind : (x : Found) (e : Ended) (n : ℕ) → (counted x e n).kind ≡ x.kind
  counted_kind x e n = go (nat_lt e.ticks x.ticks)
    where
      go : (b : Bool) → (cond b (record x { count = x.count + 1; run = n; ticks = e.ticks }) (record x { count = x.count + 1 })).kind ≡ x.kind
      go b = grind arith

  -- KINDS stay among them
  noted_has : (n : ℕ) (e : Ended) (k : Kind) (xs ys : List Found) → IsNoted e n xs ys → HasKind k xs → HasKind k ys
  noted_has n e k [] ys noted has = absurd has
  noted_has n e k (x ∷ xs) [] noted has = absurd noted
  noted_has n e k (x ∷ xs) (y ∷ ys) (inl here) (inl is) = inl (ap (λ (z : Found). z.kind) here.1 ∙ counted_kind x e n ∙ is)
  noted_has n e k (x ∷ xs) (y ∷ ys) (inl here) (inr has) = inr (subst (HasKind k) (sym here.2) has)
  noted_has n e k (x ∷ xs) (y ∷ ys) (inr on) (inl is) = inl (ap (λ (z : Found). z.kind) on.1 ∙ is)
  noted_has n e k (x ∷ xs) (y ∷ ys) (inr on) (inr has) = inr (noted_has n e k xs ys on.2 has)

  -- and the kind that came is
  noted_own : (n : ℕ) (e : Ended) (xs ys : List Found) → IsNoted e n xs ys → HasKind e.kind ys
  noted_own n e [] ys noted = subst (HasKind e.kind) (sym noted) (inl refl)
  noted_own n e (x ∷ xs) [] noted = absurd noted
  noted_own n e (x ∷ xs) (y ∷ ys) (inl here) = inl (ap (λ (z : Found). z.kind) here.1 ∙ counted_kind x e n ∙ here.0)
  noted_own n e (x ∷ xs) (y ∷ ys) (inr on) = inr (noted_own n e xs ys on.2)

  -- IN ORDER
  -- a kind of another name is as late
  later_so : (run : ℕ) (x y : Found) → y.kind ≡ x.kind → IsLater ends run x → IsLater ends run y
  later_so run x y same later k le came = later k le (came ∙ same)

  -- kinds that came later than a run still do, where a later run is counted
  noted_later : (n run : ℕ) (xs ys : List Found) → run < n → ((k : ℕ) → k < n → CameTo ends (ends n).kind k → HasKind (ends n).kind xs)
      → All (IsLater ends run) xs → IsNoted (ends n) n xs ys → All (IsLater ends run) ys
  noted_later n run [] ys lt has all noted =
      All-same (IsLater ends run) ys (first_found (ends n) n ∷ []) noted
      (All-cons (IsLater ends run) (first_found (ends n) n) [] (λ k le came. has k (omega arith) came) (All-nil (IsLater ends run)))
  noted_later n run (x ∷ xs) [] lt has all noted = absurd noted
  noted_later n run (x ∷ xs) (y ∷ ys) lt has all (inl here) =
      All-cons (IsLater ends run) y ys
      (later_so run x y (ap (λ (z : Found). z.kind) here.1 ∙ counted_kind x (ends n) n) (All-head (IsLater ends run) x xs all))
      (All-same (IsLater ends run) ys xs here.2 (All-tail (IsLater ends run) x xs all))
  noted_later n run (x ∷ xs) (y ∷ ys) lt has all (inr on) =
      All-cons (IsLater ends run) y ys (later_so run x y (ap (λ (z : Found). z.kind) on.1) (All-head (IsLater ends run) x xs all))
      (noted_later n run xs ys lt (λ k kn came. behind_other x xs (has k kn came) on.0) (All-tail (IsLater ends run) x xs all) on.2)

  -- the same of the first of some kinds, and of the order
  before_so : (n m : ℕ) (x y : Found) (xs : List Found) → n ≤ m → y.kind ≡ x.kind → CameBefore ends n x xs → CameBefore ends m y xs
  before_so n m x y xs le same before = (before.0, let lt = before.1 in omega arith, before.2 ∙ sym same, before.3)

  order_more : (n : ℕ) (xs : List Found) → AreInOrder ends n xs → AreInOrder ends (suc n) xs
  order_more n [] order = tt
  order_more n (x ∷ xs) order = (before_so n (suc n) x x xs (omega arith) refl order.0, order_more n xs order.1)

  noted_order : (n : ℕ) (xs ys : List Found) → ((k : ℕ) → k < n → CameTo ends (ends n).kind k → HasKind (ends n).kind xs)
      → AreInOrder ends n xs → IsNoted (ends n) n xs ys → AreInOrder ends (suc n) ys
  noted_order n [] ys has order noted = subst (AreInOrder ends (suc n)) (sym noted) ((n, omega arith, refl, All-nil (IsLater ends n)), tt)
  noted_order n (x ∷ xs) [] has order noted = absurd noted
  noted_order n (x ∷ xs) (y ∷ ys) has order (inl here) =
      let same : y.kind ≡ x.kind = ap (λ (z : Found). z.kind) here.1 ∙ counted_kind x (ends n) n in (
        before_so n (suc n) x y ys (omega arith) same (subst (CameBefore ends n x) (sym here.2) order.0),
        subst (AreInOrder ends (suc n)) (sym here.2) (order_more n xs order.1),
      )
  noted_order n (x ∷ xs) (y ∷ ys) has order (inr on) =
      let same : y.kind ≡ x.kind = ap (λ (z : Found). z.kind) on.1 in
      let before = order.0 in
      let rest : (k : ℕ) → k < n → CameTo ends (ends n).kind k → HasKind (ends n).kind xs = λ k lt came. behind_other x xs (has k lt came) on.0 in
      let late = noted_later n before.0 xs ys before.1 rest before.3 on.2 in
      ((before.0, let lt = before.1 in omega arith, before.2 ∙ sym same, late), noted_order n xs ys rest order.1 on.2)

  -- ONE RUN MORE
  pub next_counted : (n : ℕ) (xs ys : List Found) → AreCounted ends n xs → IsNoted (ends n) n xs ys → AreCounted ends (n + 1) ys
  next_counted n xs ys is noted =
      let more : suc n ≡ n + 1 = omega arith in
      subst (λ (k : ℕ). AreCounted ends k ys) more (record {
        each = noted_each n xs ys (λ run lt came. subst (λ (k : Kind). HasKind k xs) came (is.all run lt)) is.order is.each noted;
        order = noted_order n xs ys (λ run lt came. subst (λ (k : Kind). HasKind k xs) came (is.all run lt)) is.order noted;
        all = λ run lt. elim (cases_lt run n) [
          | inl l ↦ noted_has n (ends n) (ends run).kind xs ys noted (is.all run l)
          | inr l ↦ let same : run ≡ n = omega arith in subst (λ (k : ℕ). HasKind (ends k).kind ys) (sym same) (noted_own n (ends n) xs ys noted)
        ];
      })
