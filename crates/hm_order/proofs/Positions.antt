-- The machine at its positions.
use Rattle.std.proofs.Common.{◌≡◌, ℕ, suc, ◌+◌, ◌-◌, ◌*◌, ◌<◌, ◌≤◌, Result, Ok, Err, Option, Some, None, Bool, true, false, cond, ◌==◌, ◌⊎◌, inl, inr, refl}
use Rattle.std.proofs.Common.{sym, ◌∙◌, ap, subst, arith, eq-zero-or-pos, eqb-true}
use Rattle.std.proofs.lemmas.Bool.{eqb-false}
use Rattle.std.proofs.lemmas.Bool.Decides.{nat_tests}
use Rattle.hm_order.specs.Beats.{Same, Live, Alike, AlikeAs, StopsBy, beats}
use Rattle.hm_order.specs.Machine.{Clean, Core, CoreLaws, Config, begun, seq, next, next_of, settle}
use Rattle.hm_order.specs.Position.{ahead, Reaches, Second, Between, Inside, Holds}
use Rattle.hm_order.proofs.Results.{ok_same, then_ok_at, decide}
use Rattle.hm_order.proofs.Views.{same_live, live_trans}
use Rattle.hm_order.proofs.Beats.{beats_split, beats_ready, beats_live}

-- the test for beat 0 fails past it
past_zero : (a : ℕ) → 0 < a → (a == 0) ≡ false
past_zero a more = grind (arith, nat_tests)

module _ {S I C V E W B : Type 0} (M : Core S I C V E W B) where
  -- past beat 0 no context is made, so what was there stays
  pub begun_later : (c : Config S) → 0 < c.a → begun M c ≡ c
  begun_later c more = ap (λ (b : Bool). record c { state = cond b (M.made c.state) c.state }) (past_zero c.a more)

module _ {S I C V E W B : Type 0} (M : Core S I C V E W B) (laws : CoreLaws M) where
  -- what agrees with q, which ends as w does, reaches w
  pub reaches : (r q : Result S E) (w : Result S W) (o : Option I) → StopsBy M.rows.tainted r ⊎ Alike (Live M.rows.view) r q
      → AlikeAs M.stop_of (Same M.rows.view) q w
      → Reaches M r w o 0
  reaches (Ok u) q w o (inl h) k = absurd h
  reaches (Ok u) (Ok v) (Ok z) None (inr h) k = (z, z, refl, refl, live_trans M.rows.view u v z h (same_live M.rows.view v z k))
  reaches (Ok u) (Ok v) (Ok z) (Some j) (inr h) k = (z, z, refl, refl, live_trans M.rows.view u v z h (same_live M.rows.view v z k))
  reaches (Ok u) (Ok v) (Err e) o (inr h) k = absurd k
  reaches (Ok u) (Err e) w o (inr h) k = absurd h
  reaches (Err e) q w o (inl h) k = inl h
  reaches (Err e) (Ok v) w o (inr h) k = absurd h
  reaches (Err e) (Err f) (Ok z) o (inr h) k = absurd k
  reaches (Err e) (Err f) (Err g) o (inr h) k = inr (g, sym (h ∙ k), refl)

  -- the younger that has begun, seen from where the older ends
  record Begun (y z t v : S) (b : ℕ) : Type 0 where
    row : I
    here : M.code (M.rows.view.pc z) ≡ Some row
    ready : M.rows.ready row t ≡ true
    ahead : beats M.rows row 0 b z ≡ Ok v

  has_begun : (o : Option I) (b : ℕ) (y z t v : S) → 0 < b → o ≡ M.code (M.rows.view.pc z) → Second M o b t → ahead M o b z ≡ Ok v → Begun y z t v b
  has_begun (Some j) b y z t v more e second run = record { row = j; here = sym e; ready = second more; ahead = run }
  has_begun None b y z t v more e second run = absurd (omega arith)

  at_first : (o : Option I) (z v : S) → ahead M o 0 z ≡ Ok v → z ≡ v
  at_first (Some j) z v e = ok_same e
  at_first None z v e = ok_same e

  -- the beats of the younger that are left when the older is done
  left_of : (j : I) (b : ℕ) (z v : S) → b < 4 → beats M.rows j 0 b z ≡ Ok v → beats M.rows j 0 4 z ≡ beats M.rows j b (4 - b) v
  left_of j b z v few run =
      ap (λ n. beats M.rows j 0 n z) four ∙ beats_split M.rows j 0 b (4 - b) z ∙ then_ok_at (beats M.rows j 0 b z) (beats M.rows j (0 + b) (4 - b)) v run
      ∙ ap (λ k. beats M.rows j k (4 - b) v) place
    where
      four : 4 ≡ b + (4 - b)
      four = omega arith

      place : 0 + b ≡ b
      place = omega arith

  pub none_yet : (o : Option I) (s : S) → Second M o 0 s
  none_yet (Some j) s = λ more. absurd (omega arith)
  none_yet None s = refl

  -- the younger goes on as the older
  goes_on : (y z t u v : S) (b n k : ℕ) → 0 < b → b < 3 → Clean M z → Same M.rows.view u t → Live M.rows.view t v → Begun y z t v b
      → Inside M (record { a = b; b = 0; n = n; steps = k; state = u }) z
  goes_on y z t u v b n k more few clean same live g = record {
    row = g.row;
    here = g.here;
    begun = more;
    below = omega arith;
    few = omega arith;
    ready = ready_u;
    second = none_yet (M.code (M.rows.view.pc z + 4)) u;
    ends = reaches (beats M.rows g.row b (4 - b) u) (beats M.rows g.row b (4 - b) v) (M.whole g.row z) (M.code (M.rows.view.pc z + 4))
        (beats_live M.rows laws.rows g.row b (4 - b) u v ready_u live_u)
        (subst (λ r. AlikeAs M.stop_of (Same M.rows.view) r (M.whole g.row z))
        (then_ok_at (M.start g.row z) (beats M.rows g.row 0 4) z (laws.started g.row z ready_z) ∙ left_of g.row b z v (omega arith) g.ahead)
        (laws.whole g.row z clean));
  }
    where
      live_u : Live M.rows.view u v
      live_u = live_trans M.rows.view u t v (same_live M.rows.view u t same) live

      ready_u : M.rows.ready g.row u ≡ true
      ready_u = laws.rows.ready_live g.row u t (same_live M.rows.view u t same) ∙ g.ready

      ready_z : M.rows.ready g.row z ≡ true
      ready_z = sym (beats_ready M.rows laws.rows g.row g.row 0 b z v g.ahead) ∙ sym (laws.rows.ready_live g.row t v live) ∙ g.ready

  -- the older row has its four beats
  retired : (first y z t v : S) (i : I) (b n k : ℕ) → k ≤ 4 * n + 4 → seq M n first ≡ Ok y → Clean M y → M.code (M.rows.view.pc y) ≡ Some i
      → M.rows.view.pc t ≡ M.rows.view.pc y → b < 3 → Second M (M.code (M.rows.view.pc y + 4)) b t
      → M.whole i y ≡ Ok z → ahead M (M.code (M.rows.view.pc y + 4)) b z ≡ Ok v → Live M.rows.view t v
      → Holds M first (record { a = b; b = 0; n = suc n; steps = k; state = M.jump (M.rows.view.pc t + 4) t })
  retired first y z t v i b n k count runs clean here pc few second whole run live = record {
    order = z;
    runs = then_ok_at (seq M n first) (next M) y runs ∙ ended;
    clean = clean_z;
    pc = laws.jump_pc (M.rows.view.pc t + 4) t ∙ ap (λ p. p + 4) pc ∙ sym onward;
    count = omega arith;
    place = place (eq-zero-or-pos b);
  }
    where
      ended : next M y ≡ Ok z
      ended = ap (λ o. next_of M o y) here ∙ whole

      onward : M.rows.view.pc z ≡ M.rows.view.pc y + 4
      onward = laws.whole_pc i y z whole

      clean_z : Clean M z
      clean_z = laws.clean y z clean ended

      u : S
      u = M.jump (M.rows.view.pc t + 4) t

      same : Same M.rows.view u t
      same = laws.jump_same (M.rows.view.pc t + 4) t

      place : (b ≡ 0) ⊎ (0 < b) → Between M (record { a = b; b = 0; n = suc n; steps = k; state = u }) z
          ⊎ Inside M (record { a = b; b = 0; n = suc n; steps = k; state = u }) z
      place (inl none) = inl (record {
        a = none;
        b = refl;
        live = live_trans M.rows.view u t z (same_live M.rows.view u t same)
            (subst (λ x. Live M.rows.view t x)
            (sym (at_first (M.code (M.rows.view.pc y + 4)) z v (subst (λ k. ahead M (M.code (M.rows.view.pc y + 4)) k z ≡ Ok v) none run))) live);
      })
      place (inr more) = inr (goes_on y z t u v b (suc n) k more few clean_z same live
          (has_begun (M.code (M.rows.view.pc y + 4)) b y z t v more (ap M.code (sym onward)) second run))

  -- A beat of the older row is done, the a-th.
  pub advanced : (first y t : S) (i : I) (a b n k : ℕ) → k ≤ 4 * n + a → seq M n first ≡ Ok y → Clean M y → M.code (M.rows.view.pc y) ≡ Some i
      → M.rows.view.pc t ≡ M.rows.view.pc y → M.rows.ready i t ≡ true → 0 < a → a ≤ 4 → b < 3 → Second M (M.code (M.rows.view.pc y + 4)) b t
      → Reaches M (beats M.rows i a (4 - a) t) (M.whole i y) (M.code (M.rows.view.pc y + 4)) b
      → Holds M first (settle M a b n k t)
  advanced first y t i a b n k count runs clean here pc ready more most few second ends = decide (a == 4)
      (λ is. subst (λ x. Holds M first
      (cond x (record { a = b; b = 0; n = suc n; steps = k; state = M.jump (M.rows.view.pc t + 4) t })
      (record { a = a; b = b; n = n; steps = k; state = t }))) (sym is)
      (last (subst (λ m. k ≤ 4 * n + m) (eqb-true a 4 is) count)
      (subst (λ m. Reaches M (beats M.rows i m (4 - m) t) (M.whole i y) (M.code (M.rows.view.pc y + 4)) b) (eqb-true a 4 is) ends)))
      (λ isnt. subst (λ x. Holds M first
      (cond x (record { a = b; b = 0; n = suc n; steps = k; state = M.jump (M.rows.view.pc t + 4) t })
      (record { a = a; b = b; n = n; steps = k; state = t }))) (sym isnt)
      (record {
        order = y;
        runs = runs;
        clean = clean;
        pc = pc;
        count = count;
        place = inr (record {
          row = i;
          here = here;
          begun = more;
          below = below (eqb-false a 4 isnt);
          few = few;
          ready = ready;
          second = second;
          ends = ends;
        });
      }))
    where
      below : ¬ (a ≡ 4) → a < 4
      below differs = omega arith

      last : k ≤ 4 * n + 4 → Reaches M (Ok t) (M.whole i y) (M.code (M.rows.view.pc y + 4)) b
          → Holds M first (record { a = b; b = 0; n = suc n; steps = k; state = M.jump (M.rows.view.pc t + 4) t })
      last most r = retired first y r.0 t r.1 i b n k most runs clean here pc few second r.2 r.3 r.4
