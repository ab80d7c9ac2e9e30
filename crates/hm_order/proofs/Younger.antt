-- A step of the younger instruction: its beat goes past those that the older has left.
use Rattle.std.proofs.Common.{◌≡◌, ℕ, suc, ◌+◌, ◌-◌, ◌<◌, ◌≤◌, Result, Ok, Err, Option, Some, None, true, ◌⊎◌, inl, inr, refl, sym, ◌∙◌, ap, subst, arith}
use Rattle.std.proofs.Common.{⊎_elim}
use Rattle.hm_order.specs.Beats.{Apart, Live, beats}
use Rattle.hm_order.specs.Machine.{Core, CoreLaws, Config, Lawful, did, fault_end, younger_of}
use Rattle.hm_order.specs.Position.{ahead, Reaches, Second, Between, Inside, Holds, Agrees}
use Rattle.hm_order.proofs.Results.{alike_ok, then_ok_at, not_stopped}
use Rattle.hm_order.proofs.Views.{same_live, live_trans}
use Rattle.hm_order.proofs.Beats.{beats_split, beats_ready, beat_live}
use Rattle.hm_order.proofs.Past.{AllApart, Past, past}
use Rattle.hm_order.proofs.Positions.{begun_later}

some_same : {A : Type 0} {x y : A} → Some x ≡ Some y → x ≡ y
some_same e = cc

module _ {S I C V E W B : Type 0} (M : Core S I C V E W B) where
  -- one more beat of the younger
  further : (o : Option I) (j : I) (b : ℕ) (z v w : S) → o ≡ Some j → ahead M o b z ≡ Ok v → (M.rows.act j b).run v ≡ Ok w → ahead M o (suc b) z ≡ Ok w
  further o j b z v w e run more = subst (λ q. ahead M q (suc b) z ≡ Ok w) (sym e)
      (ap (λ n. beats M.rows j 0 n z) count ∙ beats_split M.rows j 0 b 1 z
      ∙ then_ok_at (beats M.rows j 0 b z) (beats M.rows j (0 + b) 1) v (subst (λ q. ahead M q b z ≡ Ok v) e run)
      ∙ ap (λ k. beats M.rows j k 1 v) place ∙ then_ok_at ((M.rows.act j b).run v) (beats M.rows j (suc b) 0) w more)
    where
      count : suc b ≡ b + 1
      count = omega arith

      place : 0 + b ≡ b
      place = omega arith

  -- the beats that are left of the older
  all_apart : (i j : I) (a b : ℕ) (s : S) → a < 4 → ((k : ℕ) → a ≤ k → k < 4 → Apart (M.rows.act i k) (M.rows.act j b) s) → AllApart M.rows i a (4 - a) j b s
  all_apart i j a b s below apart p low high = apart p low (omega arith)

module _ {S I C V E W B : Type 0} (M : Core S I C V E W B) (laws : CoreLaws M) where
  -- what the beats that are left of the older reach, after one more beat of the younger
  reaches_past : (i j : I) (a b : ℕ) (y s t : S) (o : Option I) → o ≡ Some j → M.rows.ready i s ≡ true → M.rows.ready j s ≡ true → (M.rows.act j b).run s ≡ Ok t
      → (r : Result S E) → beats M.rows i a (4 - a) s ≡ r → Past M.rows i a (4 - a) j b s t
      → Reaches M r (M.whole i y) o b → Reaches M (beats M.rows i a (4 - a) t) (M.whole i y) o (suc b)
  reaches_past i j a b y s t o second ready_i ready_j e (Err f) left moved h = subst (λ r. Reaches M r (M.whole i y) o (suc b)) (sym (moved.stops f left)) h
  reaches_past i j a b y s t o second ready_i ready_j e (Ok u) left moved h =
      let m = moved.ends u left in
      subst (λ r. Reaches M r (M.whole i y) o (suc b)) (sym m.3) (⊎_elim
      (λ stop. absurd (not_stopped M.rows.tainted ((M.rows.act j b).run u) m.0 stop m.2))
      (λ alike.
      let end = alike_ok (Live M.rows.view) ((M.rows.act j b).run u) ((M.rows.act j b).run h.1) m.0 alike m.2 in
      (h.0, end.0, h.2, further M o j b h.0 h.1 end.0 second h.3 end.1, live_trans M.rows.view m.1 m.0 end.0 (same_live M.rows.view m.1 m.0 m.4) end.2))
      (beat_live M.rows laws.rows j b u h.1 (beats_ready M.rows laws.rows i j a (4 - a) s u left ∙ ready_j) h.4))

  module _ (first : S) (c : Config S) (h : Holds M first c) where
    -- a lawful beat of the younger that is done
    goes : (i j : I) (t : S) → M.code (M.rows.view.pc h.order) ≡ Some i → M.code (M.rows.view.pc h.order + 4) ≡ Some j → 2 ≤ c.a → c.b < 2
        → M.rows.ready j c.state ≡ true
        → ((k : ℕ) → c.a ≤ k → k < 4 → Apart (M.rows.act i k) (M.rows.act j c.b) c.state) → (M.rows.act j c.b).run c.state ≡ Ok t
        → Between M c h.order ⊎ Inside M c h.order
        → Inside M (record { a = c.a; b = suc c.b; n = c.n; steps = c.steps; state = t }) h.order
    goes i j t here there late few ready apart e (inl p) = let none = p.a in absurd (omega arith)
    goes i j t here there late few ready apart e (inr p) = record {
      row = p.row;
      here = p.here;
      begun = p.begun;
      below = p.below;
      few = omega arith;
      ready = laws.rows.valid j p.row c.b c.state t e ∙ p.ready;
      second = subst (λ o. Second M o (suc c.b) t) (sym there) (λ _. laws.rows.valid j j c.b c.state t e ∙ ready);
      ends = reaches_past p.row j c.a c.b h.order c.state t (M.code (M.rows.view.pc h.order + 4)) there p.ready ready e
          (beats M.rows p.row c.a (4 - c.a) c.state) refl
          (past M.rows laws.rows p.row c.a (4 - c.a) j c.b c.state t p.ready
          (all_apart M p.row j c.a c.b c.state p.below
          (subst (λ x. (k : ℕ) → c.a ≤ k → k < 4 → Apart (M.rows.act x k) (M.rows.act j c.b) c.state) (some_same (sym here ∙ p.here)) apart)) e) p.ends;
    }

    -- a lawful beat of the younger
    beat_agrees : (j : I) (l : Lawful M (M.code (M.rows.view.pc c.state)) (M.code (M.rows.view.pc c.state + 4)) c) → l.younger ≡ j
        → (r : Result S E) → (M.rows.act j c.b).run c.state ≡ r → Agrees M first (did M c r)
    beat_agrees j l same (Ok t) e = record {
      order = h.order;
      runs = h.runs;
      clean = h.clean;
      pc = (laws.rows.action j c.b).stays c.state t e ∙ h.pc;
      count = h.count;
      place = inr (goes l.older j t (ap M.code (sym h.pc) ∙ l.here) (ap (λ p. M.code (p + 4)) (sym h.pc) ∙ l.there ∙ ap Some same) l.late l.few
          (subst (λ x. M.rows.ready x c.state ≡ true) same l.ready)
          (subst (λ x. (k : ℕ) → c.a ≤ k → k < 4 → Apart (M.rows.act l.older k) (M.rows.act x c.b) c.state) same l.apart) e h.place);
    }
    beat_agrees j l same (Err e) is = faulted (M.fault_rule e) refl
      where
        faulted : (q : Option B) → M.fault_rule e ≡ q → Agrees M first (Err (fault_end M q c e))
        faulted (Some b) none = tt
        faulted None none = record {
          before = c;
          holds = h;
          left = sym (begun_later M c (let late = l.late in omega arith));
          explains = inl (laws.faults e none);
        }

    -- under the rule that the step breaks, if there is one
    pub under : (q : Option B) (o : Option I) → M.rule (M.code (M.rows.view.pc c.state)) (M.code (M.rows.view.pc c.state + 4)) c ≡ q
        → M.code (M.rows.view.pc c.state + 4) ≡ o → Agrees M first (younger_of M q o c)
    under (Some b) o e there = tt
    under None (Some j) e there =
        let l = laws.lawful (M.code (M.rows.view.pc c.state)) (M.code (M.rows.view.pc c.state + 4)) c e in
        beat_agrees j l (some_same (sym l.there ∙ there)) ((M.rows.act j c.b).run c.state) refl
    under None None e there = h
