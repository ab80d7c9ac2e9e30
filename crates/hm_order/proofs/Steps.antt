-- Each step of the machine keeps what holds at its positions.
use Rattle.std.proofs.Common.{ℕ, ◌+◌, ◌-◌, Option, Result, Ok, Err, ◌⊎◌, inl, inr, refl, sym, ◌∙◌, ap, subst, arith, ⊎_elim}
use Rattle.hm_order.specs.Beats.{Live, Alike, StopsBy, beats}
use Rattle.hm_order.specs.Machine.{Clean, Core, CoreLaws, Config, Restores, older_of, older, younger, interrupted, at_start}
use Rattle.hm_order.specs.Position.{Reaches, Between, Inside, Holds, Agrees}
use Rattle.hm_order.proofs.Views.{live_trans}
use Rattle.hm_order.proofs.Beats.{beats_live}
use Rattle.hm_order.proofs.Older.{second_kept, between, inside}
use Rattle.hm_order.proofs.Younger.{under}

module _ {S I C V E W B : Type 0} (M : Core S I C V E W B) where
  -- from the start
  pub starts : (first : S) → Clean M first → Holds M first (at_start first)
  starts first clean = record {
    order = first;
    runs = refl;
    clean = clean;
    pc = refl;
    count = omega arith;
    place = inl (record { a = refl; b = refl; live = record { cells = λ c _. refl; sticky = refl } });
  }

  reaches_more : (r q : Result S E) (w : Result S W) (o : Option I) (b : ℕ) → StopsBy M.rows.tainted r ⊎ Alike (Live M.rows.view) r q → Reaches M q w o b
      → Reaches M r w o b
  reaches_more (Ok u) q w o b (inl h) k = absurd h
  reaches_more (Ok u) (Ok v) w o b (inr h) k = (k.0, k.1, k.2, k.3, live_trans M.rows.view u v k.1 h k.4)
  reaches_more (Ok u) (Err e) w o b (inr h) k = absurd h
  reaches_more (Err e) q w o b (inl h) k = inl h
  reaches_more (Err e) (Ok v) w o b (inr h) k = absurd h
  reaches_more (Err e) (Err f) w o b (inr h) k = subst (λ g. Reaches M (Err g) w o b) (sym h) k

module _ {S I C V E W B : Type 0} (M : Core S I C V E W B) (laws : CoreLaws M) where
  pub older_agrees : (first : S) (c : Config S) → Holds M first c → Agrees M first (older M c)
  older_agrees first c h = ⊎_elim
      (λ p. subst (λ k. Agrees M first (older_of M (M.code k) c)) (sym h.pc)
      (between M laws first h.order c (M.code (M.rows.view.pc h.order)) h h.runs h.clean h.pc refl p))
      (λ p. subst (λ o. Agrees M first (older_of M o c)) (sym (ap M.code h.pc ∙ p.here)) (inside M laws first h.order c h h.runs h.clean h.pc p))
      h.place

  pub younger_agrees : (first : S) (c : Config S) → Holds M first c → Agrees M first (younger M c)
  younger_agrees first c h = under M laws first c h (M.rule (M.code (M.rows.view.pc c.state)) (M.code (M.rows.view.pc c.state + 4)) c)
      (M.code (M.rows.view.pc c.state + 4)) refl refl

  pub interrupt_holds : (first : S) (c : Config S) (t : S) → Restores M c.state t → Holds M first c → Holds M first (interrupted M c t)
  interrupt_holds first c t d h = record { order = h.order; runs = h.runs; clean = h.clean; pc = d.1 ∙ h.pc; count = h.count; place = place h.place }
    where
      place : Between M c h.order ⊎ Inside M c h.order → Between M (interrupted M c t) h.order ⊎ Inside M (interrupted M c t) h.order
      place (inl p) = inl (record { a = p.a; b = p.b; live = live_trans M.rows.view t c.state h.order d.0 p.live })
      place (inr p) = inr (record {
        row = p.row;
        here = p.here;
        begun = p.begun;
        below = p.below;
        few = p.few;
        ready = laws.rows.ready_live p.row t c.state d.0 ∙ p.ready;
        second = second_kept M (M.code (M.rows.view.pc h.order + 4)) c.b c.state t (λ j. laws.rows.ready_live j t c.state d.0) p.second;
        ends = reaches_more M (beats M.rows p.row c.a (4 - c.a) t) (beats M.rows p.row c.a (4 - c.a) c.state) (M.whole p.row h.order)
            (M.code (M.rows.view.pc h.order + 4)) c.b
            (beats_live M.rows laws.rows p.row c.a (4 - c.a) t c.state (laws.rows.ready_live p.row t c.state d.0 ∙ p.ready) d.0) p.ends;
      })
