-- What follows where the machine stops, and where it goes on.
use Rattle.std.proofs.Common.{◌≡◌, ℕ, zero, suc, ◌+◌, ◌-◌, ◌*◌, ◌<◌, ◌≤◌, Ok, Err, Bool, true, false, cond, ◌==◌, refl, sym, ap, ◌∙◌, subst, arith, ⊎_elim}
use Rattle.std.proofs.Common.{add-suc, add-zero}
use Rattle.std.proofs.Math.Decide.{dec_le}
use Rattle.hm_order.specs.Machine.{Core, CoreLaws, Config, StopsInOrder, InOrder, seq, next}
use Rattle.hm_order.specs.Position.{Holds, Explains, StopsAt, SamePosition}
use Rattle.hm_order.proofs.Results.{ok_err, then_ok_at, then_err_at, true_not_false}

module _ {S I C V E W B : Type 0} (M : Core S I C V E W B) where
  -- a stop that is not at a tainted cell is that of the instructions in order
  pub stops_in_order : (first : S) (n : ℕ) (e : E) → M.rows.tainted e ≡ false → Explains M first n e → (w : W) × (M.stop_of w ≡ e) × StopsInOrder M first n w
  stops_in_order first n e live = ⊎_elim (λ dead. true_not_false (M.rows.tainted e) dead live) (λ h. h)

  -- between two instructions the state is that in order
  pub stops_at : (first : S) (c : Config S) → Holds M first c → c.a ≡ 0 → InOrder M first c.n c.state
  stops_at first c h none = record {
    state = h.order;
    runs = h.runs;
    live = ⊎_elim (λ p. p.live) (λ p. let more = p.begun in absurd (omega arith)) h.place;
    pc = h.pc;
  }

  -- a stop leaves the number of instructions that are done
  pub stop_n : (first : S) (d : Config S) (e : E) (h : StopsAt M first d e) → d.n ≡ h.before.n
  stop_n first d e h = ap (λ (c : Config S). c.n) h.left

  -- the stop is explained by the number of instructions done that is left
  pub explained : (first : S) (d : Config S) (e : E) → StopsAt M first d e → Explains M first d.n e
  explained first d e h = subst (λ (n : ℕ). Explains M first n e) (sym (stop_n first d e h)) h.explains

  at_zero : (first : S) (d : Config S) (e : E) (h : StopsAt M first d e) → d.a ≡ 0 → h.before.a ≡ 0
  at_zero first d e h none = sym (ap (λ (c : Config S). c.a) h.left) ∙ none

  -- between two instructions the state before it is the one in order
  pub in_order_before : (first : S) (d : Config S) (e : E) (h : StopsAt M first d e) → d.a ≡ 0 → InOrder M first d.n h.before.state
  in_order_before first d e h none =
      subst (λ (n : ℕ). InOrder M first n h.before.state) (sym (stop_n first d e h)) (stops_at first h.before h.holds (at_zero first d e h none))

  -- what is left there has the context that was made
  pub made_there : (first : S) (d : Config S) (e : E) (h : StopsAt M first d e) → d.a ≡ 0 → d.state ≡ M.made h.before.state
  made_there first d e h none =
      ap (λ (c : Config S). c.state) h.left ∙ ap (λ (a : ℕ). cond (a == 0) (M.made h.before.state) h.before.state) (at_zero first d e h none)

  -- where none is made, the state that is left is the one in order
  pub unmade : (first : S) (d : Config S) (e : E) (h : StopsAt M first d e) → d.a ≡ 0 → M.made h.before.state ≡ h.before.state → InOrder M first d.n d.state
  unmade first d e h none same =
      subst (InOrder M first d.n) (sym (made_there first d e h none ∙ same)) (in_order_before first d e h none)

  -- the context leaves the program counter
  pc_at : (laws : CoreLaws M) (b : Bool) (s : S) → M.rows.view.pc (cond b (M.made s) s) ≡ M.rows.view.pc s
  pc_at laws true s = laws.made_pc s
  pc_at laws false s = refl

  -- what is left is at the position before, and at its program counter
  pub stop_position : CoreLaws M → (first : S) (d : Config S) (e : E) (h : StopsAt M first d e) → SamePosition M d h.before
  stop_position laws first d e h = record {
    a = ap (λ (c : Config S). c.a) h.left;
    b = ap (λ (c : Config S). c.b) h.left;
    n = stop_n first d e h;
    steps = ap (λ (c : Config S). c.steps) h.left;
    pc = ap (λ (c : Config S). M.rows.view.pc c.state) h.left ∙ pc_at laws (h.before.a == 0) h.before.state;
  }

  -- after a stop there is no further instruction
  no_more : (first : S) (n m : ℕ) (w : W) → StopsInOrder M first n w → seq M (suc n + m) first ≡ Err w
  no_more first n zero w h = rw add-zero (then_ok_at (seq M n first) (next M) h.state h.runs ∙ h.stop)
  no_more first n (suc m) w h = rw (add-suc (suc n) m) (then_err_at (seq M (suc n + m) first) (next M) w (no_more first n m w h))

  done_before : (first : S) (n : ℕ) (w : W) (k : ℕ) (y : S) → StopsInOrder M first n w → seq M k first ≡ Ok y → k ≤ n
  done_before first n w k y h runs = elim (dec_le k n) [
    | yes p ↦ p
    | no q ↦ absurd (ok_err (sym runs ∙ subst (λ x. seq M x first ≡ Err w) (onward q) (no_more first n (k - suc n) w h)))
  ]
    where
      onward : ¬ (k ≤ n) → suc n + (k - suc n) ≡ k
      onward q = omega arith

  -- the machine has not had the steps that the instructions in order have until they stop
  pub few_steps : (first : S) (c : Config S) (n : ℕ) (w : W) → Holds M first c → StopsInOrder M first n w → c.steps < 4 * suc n
  few_steps first c n w h stops =
      let before = done_before first n w c.n h.order stops h.runs in
      let count = h.count in
      let most : c.a < 4 = ⊎_elim (λ p. let none = p.a in omega arith) (λ p. p.below) h.place in
      omega arith
