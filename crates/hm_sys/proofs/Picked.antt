-- The most urgent exception, found from the lowest number up.
use Rattle.std.proofs.Common.{◌≡◌, ℕ, zero, suc, ◌+◌, ◌-◌, ◌/◌, ◌%◌, ◌^◌, ◌<◌, ◌≤◌, get_or, ◌⊎◌, Bool, true, false, cond, arith, refl, sym, ◌∙◌, ap, subst, inl}
use Rattle.std.proofs.Common.{inr}
use Rattle.std.specs.Prelude.{IfSome, Option, Some, None, ◌&&◌, ◌||◌, ◌==◌, nat_lt, min, bit_and, if◌then◌else◌}
use Rattle.std.proofs.lemmas.Bool.{cases_lt}
use Rattle.std.proofs.lemmas.Bool.Decides.{nat_tests}
use Rattle.std.proofs.lemmas.Nat.Bits.{bit_at_and, bit_at-zero}
use Rattle.std.specs.Int.{bit_at}
use Rattle.hm_mem.specs.declared.Dev.{Dev}
use Rattle.hm_sys.specs.Best.{IsBest, IsFirst, end_of}
use Rattle.hm_sys.specs.Exceptions.{IsException, IsPicked, end_number, is_eligible, is_enabled, is_external, is_pending, is_set, is_waiting, or_later}
use Rattle.hm_sys.specs.Exceptions.{picked_below, priority_of}

no : (b : Bool) → b ≡ true → b ≡ false → ⊥
no true e f = cc
no false e f = cc

tested : (w : Bool) (p c : ℕ) → (w && nat_lt p c) ≡ true → (w ≡ true) × (p < c)
tested true p c h = grind (arith, nat_tests)
tested false p c h = cc

passed : (w : Bool) (p c : ℕ) → w ≡ true → p < c → (w && nat_lt p c) ≡ true
passed true p c e h = grind (arith, nat_tests)
passed false p c e h = cc

-- what is not below one limit and is below another
missed : (w : Bool) (p b c : ℕ) → (w && nat_lt p b) ≡ false → (w && nat_lt p c) ≡ true → b ≤ p
missed true p b c h g = grind (arith, nat_tests)
missed false p b c h g = cc

-- numbers of exceptions
in_range : (t w : Bool) (e : ℕ) (x : Bool) → (if e == 15 then t else is_external e && x && w) ≡ true → IsException e
in_range t w e x h = grind (arith, nat_tests)

pub waits : (d : Dev) (c e : ℕ) → is_eligible d c e ≡ true → IsException e
waits d c e h = in_range d.tick_pending (is_enabled d (e - 16)) e (is_pending d (e - 16)) ((tested (is_waiting d e) (priority_of d e) c h).0)

last_or_before : (f e : ℕ) → f < e + 1 → (f < e) ⊎ (f ≡ e)
last_or_before f e h = elim (nat_lt f e) as (λ t. nat_lt f e ≡ t
    → (f < e) ⊎ (f ≡ e)) [ true ↦ (λ t. inl (grind (arith, nat_tests))) | false ↦ (λ t. inr (grind (arith, nat_tests))) ] refl

-- of one priority and one number none is more urgent
equal_first : (p q f e : ℕ) → p ≡ q → f ≡ e → (nat_lt p q || (p == q && nat_lt f e)) ≡ false
equal_first p q f e a b = grind (arith, nat_tests)

-- what is not more urgent than one is not more urgent than one below it
lower_first : (p q r f g e : ℕ) → (nat_lt p q || (p == q && nat_lt f g)) ≡ false → r < q → (nat_lt p r || (p == r && nat_lt f e)) ≡ false
lower_first p q r f g e h l = grind (arith, nat_tests)

higher_later : (p q f g : ℕ) → q ≤ p → g < f → (nat_lt p q || (p == q && nat_lt f g)) ≡ false
higher_later p q f g h l = grind (arith, nat_tests)

either : (b : Bool) → (b ≡ true) ⊎ (b ≡ false)
either true = inl refl
either false = inr refl

module _ (d : Dev) (c e : ℕ) where
  same_eligible : (f : ℕ) → f ≡ e → is_eligible d c f ≡ is_eligible d c e
  same_eligible f h = ap (is_eligible d c) h

  -- none so far
  pub none_first : IsBest d c e None → is_eligible d c e ≡ true → IsBest d c (e + 1) (Some e)
  none_first h g = record {
    below = omega arith;
    eligible = g;
    first = λ f l t. elim (last_or_before f e l) [
      | inl b ↦ absurd (no (is_eligible d c f) t (h f b))
      | inr s ↦ equal_first (priority_of d f) (priority_of d e) f e (ap (priority_of d) s) s
    ];
  }

  pub none_still : IsBest d c e None → is_eligible d c e ≡ false → IsBest d c (e + 1) None
  none_still h g = λ f l. elim (last_or_before f e l) [ inl b ↦ h f b | inr s ↦ same_eligible f s ∙ g ]

  -- one so far
  module _ (b : ℕ) (h : IsFirst d c e b) where
    pub more_urgent_first : is_eligible d (priority_of d b) e ≡ true → IsBest d c (e + 1) (Some e)
    more_urgent_first g =
        let t = tested (is_waiting d e) (priority_of d e) (priority_of d b) g in
        let u = tested (is_waiting d b) (priority_of d b) c h.eligible in
        let less : priority_of d e < priority_of d b = t.1 in
        let below : priority_of d b < c = u.1 in
        record {
          below = omega arith;
          eligible = passed (is_waiting d e) (priority_of d e) c t.0 (omega arith);
          first = λ f l s. elim (last_or_before f e l) [
            | inl before ↦ lower_first (priority_of d f) (priority_of d b) (priority_of d e) f b e (h.first f before s) less
            | inr same ↦ equal_first (priority_of d f) (priority_of d e) f e (ap (priority_of d) same) same
          ];
        }

    pub still_first : is_eligible d (priority_of d b) e ≡ false → IsBest d c (e + 1) (Some b)
    still_first g = record {
      below = let l : b < e = h.below in omega arith;
      eligible = h.eligible;
      first = λ f l s. elim (last_or_before f e l) [
        | inl before ↦ h.first f before s
        | inr same ↦
            let m : priority_of d b ≤ priority_of d e = missed (is_waiting d e) (priority_of d e) (priority_of d b) c g (sym (same_eligible f same) ∙ s) in
            let p : priority_of d f ≡ priority_of d e = ap (priority_of d) same in
            let l : b < e = h.below in
            higher_later (priority_of d f) (priority_of d b) f b (omega arith) (omega arith)
      ];
    }

-- A WORD OF INTERRUPTS none of which is both pending and enabled
none_of : (p q : ℕ) (i : ℕ) → bit_and p q ≡ 0 → ((p / 2 ^ i % 2 == 1) && (q / 2 ^ i % 2 == 1)) ≡ false
none_of p q i h =
    let m : min (bit_at p i) (bit_at q i) ≡ 0 = sym (bit_at_and p q i) ∙ ap (λ (x : ℕ). bit_at x i) h ∙ bit_at-zero i in
    grind (arith, nat_tests)

not_waiting : (t x w : Bool) (e c p : ℕ) → 16 ≤ e → (x && w) ≡ false → ((if e == 15 then t else is_external e && x && w) && nat_lt p c) ≡ false
not_waiting t x w e c p h n = grind (arith, nat_tests)

idle : (d : Dev) (c k f : ℕ) → bit_and (get_or d.pending k 0) (get_or d.enabled k 0) ≡ 0 → (f - 16) / 32 ≡ k → 16 ≤ f → is_eligible d c f ≡ false
idle d c k f h w l =
    not_waiting d.tick_pending (is_pending d (f - 16)) (is_enabled d (f - 16)) f c (priority_of d f) l
    (ap (λ (j : ℕ). is_set (f - 16) d.pending && is_set (f - 16) d.enabled) w
    ∙ none_of (get_or d.pending ((f - 16) / 32) 0) (get_or d.enabled ((f - 16) / 32) 0) ((f - 16) % 32)
    (ap (λ (j : ℕ). bit_and (get_or d.pending j 0) (get_or d.enabled j 0)) w ∙ h))

-- where none of those between two ends is eligible, the best below the one is the best below the other
none_between : (d : Dev) (c e n : ℕ) (r : Option ℕ) → e ≤ n → ((f : ℕ) → e ≤ f → f < n → is_eligible d c f ≡ false) → IsBest d c e r → IsBest d c n r
none_between d c e n None l none h = λ f m. elim (cases_lt f e) [ inl b ↦ h f b | inr s ↦ none f s m ]
none_between d c e n (Some b) l none h = record {
  below = let m : b < e = h.below in omega arith;
  eligible = h.eligible;
  first = λ f m s. elim (cases_lt f e) [ inl before ↦ h.first f before s | inr past ↦ absurd (no (is_eligible d c f) s (none f past m)) ];
}

pub word_passed : (d : Dev) (c k : ℕ) (r : Option ℕ) → k < 8 → bit_and (get_or d.pending k 0) (get_or d.enabled k 0) ≡ 0 → IsBest d c (end_of k) r
    → IsBest d c (end_of (k + 1)) r
word_passed d c k r l h best =
    none_between d c (end_of k) (end_of (k + 1)) r (omega arith)
    (λ f from below. idle d c k f h (omega arith) (omega arith)) best

-- the whole: no exception has a number from the end on
pub none_at_all : (d : Dev) (c : ℕ) → IsBest d c end_number None → (f : ℕ) → is_eligible d c f ≡ false
none_at_all d c h f = elim (either (is_eligible d c f)) [ inl t ↦ let w : IsException f = waits d c f t in h f (omega arith) | inr s ↦ s ]

pub whole_picked : (d : Dev) (c e : ℕ) → IsFirst d c end_number e → IsPicked d c e
whole_picked d c e h = record { eligible = h.eligible; first = λ f t. let w : IsException f = waits d c f t in h.first f (omega arith) t }

pub picked-found : (d : Dev) (c : ℕ) (r : Option ℕ) → IsBest d c end_number r → IfSome r (λ e. IsPicked d c e)
picked-found d c (Some e) h = whole_picked d c e h
picked-found d c None h = tt

-- two exceptions than each of which the other is not more urgent are one
one : (p q e f : ℕ) → (nat_lt p q || (p == q && nat_lt e f)) ≡ false → (nat_lt q p || (q == p && nat_lt f e)) ≡ false → e ≡ f
one p q e f a b = grind (arith, nat_tests)

pub picked-one : (d : Dev) (c e f : ℕ) → IsPicked d c e → IsPicked d c f → e ≡ f
picked-one d c e f p q = one (priority_of d e) (priority_of d f) e f (q.first e p.eligible) (p.first f q.eligible)

pub picked-some : (d : Dev) (c e : ℕ) (r : Option ℕ) → IsBest d c end_number r → IsPicked d c e → r ≡ Some e
picked-some d c e (Some f) h p = ap Some (picked-one d c f e (whole_picked d c f h) p)
picked-some d c e None h p = absurd (no (is_eligible d c e) p.eligible (none_at_all d c h e))

-- what is best among so many is one
pub best-one : (d : Dev) (c : ℕ) (r q : Option ℕ) → IsBest d c end_number r → IsBest d c end_number q → r ≡ q
best-one d c (Some e) (Some f) h k = picked-some d c f (Some e) h (whole_picked d c f k)
best-one d c (Some e) None h k = sym (picked-some d c e None k (whole_picked d c e h))
best-one d c None (Some f) h k = picked-some d c f None h (whole_picked d c f k)
best-one d c None None h k = refl

-- AND WHAT IS PICKED IS THE BEST
module _ (d : Dev) (c : ℕ) where
  later_none : (e : ℕ) (b : Bool) → is_eligible d c e ≡ b → IsBest d c e None → IsBest d c (e + 1) (cond b (Some e) None)
  later_none e true t h = none_first d c e h t
  later_none e false t h = none_still d c e h t

  later_some : (e f : ℕ) (b : Bool) → is_eligible d (priority_of d f) e ≡ b → IsFirst d c e f → IsBest d c (e + 1) (cond b (Some e) (Some f))
  later_some e f true t h = more_urgent_first d c e f h t
  later_some e f false t h = still_first d c e f h t

  later_best : (e : ℕ) (o : Option ℕ) → IsBest d c e o → IsBest d c (e + 1) (or_later d c o e)
  later_best e None h = later_none e (is_eligible d c e) refl h
  later_best e (Some f) h = later_some e f (is_eligible d (priority_of d f) e) refl h

  pub best_below : (end : ℕ) → IsBest d c end (picked_below d c end)
  unfolding picked_below
  best_below zero = λ f l. absurd (omega arith)
  best_below (suc e) =
      let next : e + 1 ≡ suc e = omega arith in
      subst (λ (end : ℕ). IsBest d c end (or_later d c (picked_below d c e) e)) next (later_best e (picked_below d c e) (best_below e))
