-- What stays where a register is handed on from word to word.
use Rattle.std.proofs.Common.{◌≡◌, ℕ, ◌+◌, ◌-◌, ◌*◌, ◌^◌, Bool, true, false, ◌&&◌, ◌⊎◌, inl, inr, cond, ltb, leb, [], ◌∷◌, sym, ◌∙◌, ap, arith}
use Rattle.hm_lane.specs.Predicate.{active_bytes, allowed, remains}
use Rattle.hm_state.specs.Store.{put}
use Rattle.hm_state.specs.State.{Cell, State, Value, cells, same_cell}

-- ACTIVE BYTES WHERE LR CHANGES
remains_any : (size x y k : ℕ) → ltb size 4 ≡ false → remains size x k ≡ remains size y k
remains_any size x y k e = (λ j. cond (e j && leb x (2 ^ (4 - size))) (ltb k (x * 2 ^ size)) true)
    ∙ (λ j. cond (sym e j && leb y (2 ^ (4 - size))) (ltb k (y * 2 ^ size)) true)

pub active_any : (b mask size x y slice : ℕ) → (ltb size 4 ≡ false) ⊎ (x ≡ y) → active_bytes b mask size x slice ≡ active_bytes b mask size y slice
active_any b mask size x y slice (inl e) = λ j.
    (allowed mask slice 0 && remains_any size x y (4 * b + 0) e j) ∷ (allowed mask slice 1 && remains_any size x y (4 * b + 1) e j)
    ∷ (allowed mask slice 2 && remains_any size x y (4 * b + 2) e j) ∷ (allowed mask slice 3 && remains_any size x y (4 * b + 3) e j) ∷ []
active_any b mask size x y slice (inr e) = ap (λ v. active_bytes b mask size v slice) e

-- a register is put twice
pub put_twice : (c : Cell) (v w : Value) (s : State) → put cells c w (put cells c v s) ≡ put cells c w s
put_twice c v w s = λ j. record { cell = λ d. go (same_cell c d) (s.cell d) j; sticky = s.sticky; pc = s.pc; rest = s.rest }
  where
    go : (x : Bool) (u : Value) → cond x w (cond x v u) ≡ cond x w u
    go x u = grind arith
