-- Rows on registers alone leave the exception number, the IT byte and the stack of a handler.
use Rattle.std.proofs.Common.{◌≡◌, ◌≢◌, ℕ, ◌+◌, List, [], ◌∷◌, Bool, true, false, cond, refl, sym, ◌∙◌, eqb-true}
use Rattle.std.specs.Prelude.{nat_eq}
use Rattle.std.proofs.Math.Bool.{beq}
use Rattle.hm_isa.specs.declared.narrow.ByteName.{ByteName}
use Rattle.hm_isa.specs.declared.narrow.ByteName.TheVariants as byte
use Rattle.hm_isa.specs.declared.narrow.LogicName.{LogicName}
use Rattle.hm_isa.specs.declared.narrow.LogicName.TheVariants as logic
use Rattle.hm_isa.specs.declared.data.DataName.{DataName}
use Rattle.hm_isa.specs.declared.data.DataName.TheVariants as data_
use Rattle.hm_isa.specs.declared.arith.T11.{T11}
use Rattle.hm_isa.specs.declared.arith.T11.TheVariants as t11_
use Rattle.hm_isa.specs.declared.system.WrittenName.{WrittenName}
use Rattle.hm_isa.specs.declared.system.WrittenName.TheVariants as written
use Rattle.hm_isa.specs.declared.system.T18.{T18}
use Rattle.hm_isa.specs.declared.system.T18.TheVariants as t18_
use Rattle.hm_isa.specs.declared.system.SystemMoveName.{SystemMoveName}
use Rattle.hm_isa.specs.declared.system.SystemMoveName.TheVariants as move
use Rattle.hm_isa.specs.declared.system.LaneMoveName.{LaneMoveName}
use Rattle.hm_isa.specs.declared.system.LaneMoveName.TheVariants as lane
use Rattle.hm_lane.specs.Predicate.{with_context}
use Rattle.hm_regs.specs.Stacks.{uses_process}
use Rattle.hm_regs.specs.declared.Regs.{Regs}
use Rattle.hm_thumb.specs.ArithRows.{t11}
use Rattle.hm_isa.specs.Words.{bit_is_set}
use Rattle.hm_thumb.specs.DataRows.{data_row, put_data_sum, put_if, put_logical}
use Rattle.hm_thumb.specs.MemoryRows.{put_all, put_words}
use Rattle.hm_thumb.specs.RegisterRows.{byte_row, logic_row, put}
use Rattle.hm_thumb.specs.SystemRows.{exchanged, lane_move, selected, system_move, t18, with_special}
use Rattle.hm_isa.specs.declared.words.Shifted.{Shifted}
use Rattle.hm_thumb.specs.declared.arithmetic.Sum.{Sum}
use Rattle.hm_run_laws.proofs.Choices.{either}

-- from the registers r to q
abbrev pub Same : Regs → Regs → Type 0
Same r q = (q.ipsr ≡ r.ipsr) × (q.it ≡ r.it) × (r.ipsr ≢ 0 → q.spsel ≡ r.spsel)

module _ (r : Regs) where
  pub context-same : (q : Regs) → Same r q → Same r (with_context q)
  context-same q h = either (Same r) q.fpca _ _ h h

  pub byte-same : (name : ByteName) (d x y : ℕ) (q : Regs) → Same r q → Same r (byte_row name d x y q)
  byte-same byte.Cmp d x y q h = h
  byte-same name d x y q h = either (Same r) _ _ _ h h

  pub logic-same : (name : LogicName) (d x y : ℕ) (q : Regs) → Same r q → Same r (logic_row name d x y q)
  logic-same logic.Tst d x y q h = h
  logic-same logic.Cmp d x y q h = h
  logic-same logic.Cmn d x y q h = h
  logic-same name d x y q h = either (Same r) _ _ _ h h

  -- the second operand
  put_if-same : (d x : ℕ) (q : Regs) → Same r q → Same r (put_if d x q)
  put_if-same d x q h = either (Same r) _ _ _ h h

  logical-same : (s d x : ℕ) (c : Bool) (q : Regs) → Same r q → Same r (put_logical s d x c q)
  logical-same s d x c q h = let k = put_if-same d x q h in either (Same r) _ _ _ k k

  data_sum-same : (s d : ℕ) (x : Sum) (q : Regs) → Same r q → Same r (put_data_sum s d x q)
  data_sum-same s d x q h = let k = put_if-same d x.result q h in either (Same r) _ _ _ k k

  pub data-same : (name : DataName) (s d x : ℕ) (y : Shifted) (q : Regs) → Same r q → Same r (data_row name s d x y q)
  data-same data_.Add s d x y q h = data_sum-same s d _ q h
  data-same data_.Adc s d x y q h = data_sum-same s d _ q h
  data-same data_.Sbc s d x y q h = data_sum-same s d _ q h
  data-same data_.Sub s d x y q h = data_sum-same s d _ q h
  data-same data_.Rsb s d x y q h = data_sum-same s d _ q h
  data-same name s d x y q h = logical-same s d _ _ q h

  -- products
  pub product-same : (i : T11) (q : Regs) → Same r q → Same r (t11 i q)
  product-same (t11_.Operation i) q h = h
  product-same i q h = h

  -- a thread alone chooses its stack
  control-same : (t b : Bool) (q : Regs) → nat_eq q.ipsr 0 ≡ t → Same r q → Same r (cond t (selected b q) q)
  control-same false b q e h = h
  control-same true b q e h =
      let thread : r.ipsr ≡ 0 = sym h.0 ∙ eqb-true q.ipsr 0 e in
      either (Same r) (beq b q.spsel) q (exchanged b q) h (h.0, h.1, λ n. absurd (n thread))

  -- special registers
  special-same : (name : WrittenName) (x : ℕ) (q : Regs) → Same r q → Same r (with_special name x q)
  special-same written.Msp x q h = either (Same r) (uses_process q) _ _ h h
  special-same written.Psp x q h = either (Same r) (uses_process q) _ _ h h
  special-same written.Control x q h = control-same (nat_eq q.ipsr 0) (bit_is_set x 1) q refl h
  special-same name x q h = h

  pub t18-same : (i : T18) (q : Regs) → Same r q → Same r (t18 i q)
  t18-same (t18_.Read i) q h = h
  t18-same (t18_.Write i) q h = special-same i.name _ q h

  pub system-same : (name : SystemMoveName) (t : ℕ) (q : Regs) → Same r q → Same r (system_move name t q)
  system-same move.ReadFpscr t q h = either (Same r) _ _ _ h h
  system-same name t q h = h

  pub lane-same : (name : LaneMoveName) (k t : ℕ) (q : Regs) → Same r q → Same r (lane_move name k t q)
  lane-same lane.ToLane k t q h = h
  lane-same lane.FromLane k t q h = h

  -- lists
  pub all-same : (ns xs : List ℕ) (q : Regs) → Same r q → Same r (put_all ns xs q)
  all-same [] xs q h = h
  all-same (n ∷ ns) [] q h = h
  all-same (n ∷ ns) (x ∷ xs) q h = all-same ns xs (put n x q) h

  pub words-same : (j : ℕ) (xs : List ℕ) (q : Regs) → Same r q → Same r (put_words j xs q)
  words-same j [] q h = h
  words-same j (x ∷ xs) q h = words-same (j + 1) xs _ h
