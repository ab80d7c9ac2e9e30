-- A step of the older instruction, from between two instructions and from inside one.
use Rattle.std.proofs.Common.{◌≡◌, ℕ, zero, suc, ◌+◌, ◌-◌, ◌*◌, ◌<◌, ◌≤◌, Result, Ok, Err, Option, Some, None, true, ◌⊎◌, inl, inr, refl, sym, ◌∙◌, ap, subst}
use Rattle.std.proofs.Common.{arith, ⊎_elim}
use Rattle.hm_order.specs.Beats.{Same, Live, Alike, AlikeAs, StopsBy, then, beats}
use Rattle.hm_order.specs.Machine.{Clean, Core, CoreLaws, Config, seq, next, next_of, settle, begin, done, older_of}
use Rattle.hm_order.specs.Position.{Reaches, Second, Between, Inside, Holds, Explains, Agrees}
use Rattle.hm_order.proofs.Results.{alike_ok, alike_err, alike_as_ok, alike_as_err, then_ok, then_err, then_ok_at, then_err_at, not_stopped}
use Rattle.hm_order.proofs.Beats.{beats_live}
use Rattle.hm_order.proofs.Positions.{reaches, none_yet, advanced}

module _ {S I C V E W B : Type 0} (M : Core S I C V E W B) where
  done_agrees : (first : S) (c : Config S) (r : Result S E) (f : S → Config S) → Holds M first c
      → ((t : S) → r ≡ Ok t → Holds M first (f t)) → ((e : E) → r ≡ Err e → Explains M first c.n e) → Agrees M first (done M c r f)
  done_agrees first c (Ok t) f h ok err = ok t refl
  done_agrees first c (Err e) f h ok err = record { before = c; holds = h; left = refl; explains = err e refl }

  stops : (first y : S) (n : ℕ) (i : I) (e : E) → seq M n first ≡ Ok y → M.code (M.rows.view.pc y) ≡ Some i
      → (M.rows.tainted e ≡ true) ⊎ ((w : W) × (M.stop_of w ≡ e) × (M.whole i y ≡ Err w)) → Explains M first n e
  stops first y n i e runs here (inl h) = inl h
  stops first y n i e runs here (inr h) = inr (h.0, h.1, record { state = y; runs = runs; stop = ap (λ o. next_of M o y) here ∙ h.2 })

  pub second_kept : (o : Option I) (b : ℕ) (s t : S) → ((j : I) → M.rows.ready j t ≡ M.rows.ready j s) → Second M o b s → Second M o b t
  second_kept (Some j) b s t same h = λ more. same j ∙ h more
  second_kept None b s t same h = h

  begins : (i : I) (a : ℕ) (s : S) → 0 < a → begin M i a s ≡ Ok s
  begins i zero s more = absurd (omega arith)
  begins i (suc a) s more = refl

module _ {S I C V E W B : Type 0} (M : Core S I C V E W B) (laws : CoreLaws M) where
  first_beat : (first y : S) (c : Config S) (i : I) → Holds M first c → seq M c.n first ≡ Ok y → Clean M y → M.rows.view.pc c.state ≡ M.rows.view.pc y
      → M.code (M.rows.view.pc y) ≡ Some i → Live M.rows.view c.state y → c.a ≡ 0
      → Agrees M first (done M c (then (M.start i c.state) ((M.rows.act i 0).run)) (settle M 1 0 c.n (suc c.steps)))
  first_beat first y c i h runs clean pc here live none =
      done_agrees M first c (then (M.start i c.state) ((M.rows.act i 0).run)) (settle M 1 0 c.n (suc c.steps)) h ok err
    where
      o : Option I
      o = M.code (M.rows.view.pc y + 4)

      one_more : suc c.steps ≤ 4 * c.n + 1
      one_more = let count = h.count in omega arith

      alike : Alike (Live M.rows.view) (M.start i c.state) (M.start i y)
      alike = laws.start_live i c.state y live pc

      four : (s : S) → M.start i c.state ≡ Ok s → Reaches M (beats M.rows i 0 4 s) (M.whole i y) o 0
      four s e =
          let begun = alike_ok (Live M.rows.view) (M.start i c.state) (M.start i y) s alike e in
          reaches M laws (beats M.rows i 0 4 s) (beats M.rows i 0 4 begun.0) (M.whole i y) o
          (beats_live M.rows laws.rows i 0 4 s begun.0 (laws.start_ready i c.state s e) begun.2)
          (subst (λ r. AlikeAs M.stop_of (Same M.rows.view) r (M.whole i y)) (then_ok_at (M.start i y) (beats M.rows i 0 4) begun.0 begun.1)
          (laws.whole i y clean))

      ok : (t : S) → then (M.start i c.state) ((M.rows.act i 0).run) ≡ Ok t → Holds M first (settle M 1 0 c.n (suc c.steps) t)
      ok t e =
          let begun = then_ok (M.start i c.state) ((M.rows.act i 0).run) t e in
          advanced M laws first y t i 1 0 c.n (suc c.steps) one_more runs clean here
          ((laws.rows.action i 0).stays begun.0 t begun.2 ∙ laws.start_pc i c.state begun.0 begun.1 ∙ pc)
          (laws.rows.valid i i 0 begun.0 t begun.2 ∙ laws.start_ready i c.state begun.0 begun.1)
          (omega arith) (omega arith) (omega arith) (none_yet M laws o t)
          (subst (λ r. Reaches M r (M.whole i y) o 0) (then_ok_at ((M.rows.act i 0).run begun.0) (beats M.rows i 1 3) t begun.2) (four begun.0 begun.1))

      err : (e : E) → then (M.start i c.state) ((M.rows.act i 0).run) ≡ Err e → Explains M first c.n e
      err e h = then_err (M.start i c.state) ((M.rows.act i 0).run) e h
          (λ none. stops M first y c.n i e runs here
          (inr (alike_as_err M.stop_of (Same M.rows.view) (then (M.start i y) (beats M.rows i 0 4)) (M.whole i y) e (laws.whole i y clean)
          (then_err_at (M.start i y) (beats M.rows i 0 4) e (alike_err (Live M.rows.view) (M.start i c.state) (M.start i y) e alike none)))))
          (λ s begun none. stops M first y c.n i e runs here
          (subst (λ r. Reaches M r (M.whole i y) o 0) (then_err_at ((M.rows.act i 0).run s) (beats M.rows i 1 3) e none) (four s begun)))

  later_beat : (first y : S) (c : Config S) → Holds M first c → seq M c.n first ≡ Ok y → Clean M y → M.rows.view.pc c.state ≡ M.rows.view.pc y
      → (p : Inside M c y) → Agrees M first (done M c ((M.rows.act p.row c.a).run c.state) (settle M (suc c.a) c.b c.n (suc c.steps)))
  later_beat first y c h runs clean pc p = done_agrees M first c ((M.rows.act i c.a).run c.state) (settle M (suc c.a) c.b c.n (suc c.steps)) h ok err
    where
      i : I
      i = p.row

      o : Option I
      o = M.code (M.rows.view.pc y + 4)

      one : 4 - c.a ≡ suc (4 - suc c.a)
      one = let low = p.below in omega arith

      ends : Reaches M (then ((M.rows.act i c.a).run c.state) (beats M.rows i (suc c.a) (4 - suc c.a))) (M.whole i y) o c.b
      ends = subst (λ n. Reaches M (beats M.rows i c.a n c.state) (M.whole i y) o c.b) one p.ends

      ok : (t : S) → (M.rows.act i c.a).run c.state ≡ Ok t → Holds M first (settle M (suc c.a) c.b c.n (suc c.steps) t)
      ok t e = advanced M laws first y t i (suc c.a) c.b c.n (suc c.steps) (let count = h.count in omega arith) runs clean p.here
          ((laws.rows.action i c.a).stays c.state t e ∙ pc) (laws.rows.valid i i c.a c.state t e ∙ p.ready)
          (omega arith) p.below p.few (second_kept M o c.b c.state t (λ j. laws.rows.valid i j c.a c.state t e) p.second)
          (subst (λ r. Reaches M r (M.whole i y) o c.b) (then_ok_at ((M.rows.act i c.a).run c.state) (beats M.rows i (suc c.a) (4 - suc c.a)) t e) ends)

      err : (e : E) → (M.rows.act i c.a).run c.state ≡ Err e → Explains M first c.n e
      err e h = stops M first y c.n i e runs p.here
          (subst (λ r. Reaches M r (M.whole i y) o c.b) (then_err_at ((M.rows.act i c.a).run c.state) (beats M.rows i (suc c.a) (4 - suc c.a)) e h) ends)

  -- an instruction that is no vector row
  other_agrees : (first y : S) (c : Config S) → Holds M first c → seq M c.n first ≡ Ok y → Clean M y → M.rows.view.pc c.state ≡ M.rows.view.pc y
      → M.code (M.rows.view.pc y) ≡ None → Live M.rows.view c.state y → c.a ≡ 0 → Agrees M first (older_of M None c)
  other_agrees first y c h runs clean pc here live none =
      done_agrees M first c (M.other c.state) (λ t. record { a = 0; b = 0; n = suc c.n; steps = suc c.steps; state = t }) h ok err
    where
      Ends : S → S → Type 0
      Ends u v = Live M.rows.view u v × (M.rows.view.pc u ≡ M.rows.view.pc v)

      tells : StopsBy M.rows.tainted (M.other c.state) ⊎ AlikeAs M.stop_of Ends (M.other c.state) (M.alone y)
      tells = laws.other_live c.state y live pc here clean

      follows : next M y ≡ M.alone y
      follows = ap (λ o. next_of M o y) here

      to : (t z : S) → M.alone y ≡ Ok z → Live M.rows.view t z → M.rows.view.pc t ≡ M.rows.view.pc z
          → Holds M first (record { a = 0; b = 0; n = suc c.n; steps = suc c.steps; state = t })
      to t z e alive at = record {
        order = z;
        runs = then_ok_at (seq M c.n first) (next M) y runs ∙ follows ∙ e;
        clean = laws.clean y z clean (follows ∙ e);
        pc = at;
        count = let count = h.count in omega arith;
        place = inl (record { a = refl; b = refl; live = alive });
      }

      ok : (t : S) → M.other c.state ≡ Ok t → Holds M first (record { a = 0; b = 0; n = suc c.n; steps = suc c.steps; state = t })
      ok t e = ⊎_elim (λ stop. absurd (not_stopped M.rows.tainted (M.other c.state) t stop e))
          (λ alike. let end = alike_as_ok M.stop_of Ends (M.other c.state) (M.alone y) t alike e in to t end.0 end.1 end.2.0 end.2.1) tells

      err : (e : E) → M.other c.state ≡ Err e → Explains M first c.n e
      err e h = ⊎_elim (λ stop. inl (subst (λ r. StopsBy M.rows.tainted r) h stop))
          (λ alike. let end = alike_as_err M.stop_of Ends (M.other c.state) (M.alone y) e alike h in
          inr (end.0, end.1, record { state = y; runs = runs; stop = follows ∙ end.2 })) tells

  pub between : (first y : S) (c : Config S) (o : Option I) → Holds M first c → seq M c.n first ≡ Ok y → Clean M y → M.rows.view.pc c.state ≡ M.rows.view.pc y
      → M.code (M.rows.view.pc y) ≡ o → Between M c y → Agrees M first (older_of M o c)
  between first y c (Some i) h runs clean pc here p =
      subst (λ a. Agrees M first (done M c (then (begin M i a c.state) ((M.rows.act i a).run)) (settle M (suc a) c.b c.n (suc c.steps)))) (sym p.a)
      (subst (λ b. Agrees M first (done M c (then (M.start i c.state) ((M.rows.act i 0).run)) (settle M 1 b c.n (suc c.steps)))) (sym p.b)
      (first_beat first y c i h runs clean pc here p.live p.a))
  between first y c None h runs clean pc here p = other_agrees first y c h runs clean pc here p.live p.a

  pub inside : (first y : S) (c : Config S) → Holds M first c → seq M c.n first ≡ Ok y → Clean M y → M.rows.view.pc c.state ≡ M.rows.view.pc y
      → (p : Inside M c y) → Agrees M first (older_of M (Some p.row) c)
  inside first y c h runs clean pc p =
      subst (λ r. Agrees M first (done M c (then r ((M.rows.act p.row c.a).run)) (settle M (suc c.a) c.b c.n (suc c.steps))))
      (sym (begins M p.row c.a c.state p.begun))
      (later_beat first y c h runs clean pc p)
