-- What holds at every position of the machine.
use Rattle.std.specs.Prelude.{◌≡◌, ℕ, ◌+◌, ◌-◌, ◌*◌, ◌<◌, ◌≤◌, true, ◌⊎◌, Option, Some, None, Result, Ok, Err}
use Rattle.hm_order.specs.Beats.{Live, beats}
use Rattle.hm_order.specs.Machine.{Clean, Core, Config, End, Stopped, Broken, StopsInOrder, seq, begun}

module _ {S I C V E W B : Type 0} (M : Core S I C V E W B) where
  -- the first b beats of the younger
  abbrev pub ahead : Option I → ℕ → S → Result S E
  ahead (Some j) b z = beats M.rows j 0 b z
  ahead None b z = Ok z

  -- The beats that are left of the older row end where its whole and then the younger beats end, or
  -- stop as the whole does, or stop at a tainted cell.
  abbrev pub Reaches : Result S E → Result S W → Option I → ℕ → Type 0
  Reaches (Ok u) q o b = (z : S) × (v : S) × (q ≡ Ok z) × (ahead o b z ≡ Ok v) × Live M.rows.view u v
  Reaches (Err e) q o b = (M.rows.tainted e ≡ true) ⊎ ((w : W) × (M.stop_of w ≡ e) × (q ≡ Err w))

  -- a younger row that has begun is there, and may run
  abbrev pub Second : Option I → ℕ → S → Type 0
  Second (Some j) b s = 0 < b → M.rows.ready j s ≡ true
  Second None b s = b ≡ 0

  -- between two instructions
  pub record Between (c : Config S) (y : S) : Type 0 where
    pub a : c.a ≡ 0
    pub b : c.b ≡ 0
    pub live : Live M.rows.view c.state y

  -- inside the row at the program counter
  pub record Inside (c : Config S) (y : S) : Type 0 where
    pub row : I
    pub here : M.code (M.rows.view.pc y) ≡ Some row
    pub begun : 0 < c.a
    pub below : c.a < 4
    pub few : c.b < 3
    pub ready : M.rows.ready row c.state ≡ true
    pub second : Second (M.code (M.rows.view.pc y + 4)) c.b c.state
    pub ends : Reaches (beats M.rows row c.a (4 - c.a) c.state) (M.whole row y) (M.code (M.rows.view.pc y + 4)) c.b

  -- The n instructions that are done, done in order from the first state, end in y, and the machine is at y or inside the next row.
  pub record Holds (first : S) (c : Config S) : Type 0 where
    pub order : S
    pub runs : seq M c.n first ≡ Ok order
    pub clean : Clean M order
    pub pc : M.rows.view.pc c.state ≡ M.rows.view.pc order
    pub count : c.steps ≤ 4 * c.n + c.a
    pub place : Between c order ⊎ Inside c order

  -- a stop at a tainted cell, or one that the next instruction after n in order has too
  abbrev pub Explains : S → ℕ → E → Type 0
  Explains first n e = (M.rows.tainted e ≡ true) ⊎ ((w : W) × (M.stop_of w ≡ e) × StopsInOrder M first n w)

  -- A step that stops so, and leaves d: what holds at every position held before it, and d is the position before it with
  -- the context that was made, which past beat 0 is none.
  pub record StopsAt (first : S) (d : Config S) (e : E) : Type 0 where
    pub before : Config S
    pub holds : Holds first before
    pub left : d ≡ begun M before
    pub explains : Explains first before.n e

  -- the same position in another state, with the same program counter
  pub record SamePosition (c d : Config S) : Type 0 where
    pub a : c.a ≡ d.a
    pub b : c.b ≡ d.b
    pub n : c.n ≡ d.n
    pub steps : c.steps ≡ d.steps
    pub pc : M.rows.view.pc c.state ≡ M.rows.view.pc d.state

  -- What a step may come to. Where it goes on, what holds at every position holds. Where it stops, it held before, and
  -- it does at a tainted cell or for the reason for which the next instruction stops in order.
  abbrev pub Agrees : S → Result (Config S) (End S E B) → Type 0
  Agrees first (Ok c) = Holds first c
  Agrees first (Err (Stopped d e)) = StopsAt first d e
  Agrees first (Err (Broken c b)) = Unit {0}
