-- The instructions of a soak, from its draws, of which the first is that behind its number.
use Rattle.std.specs.Prelude.{ℕ, zero, suc, ◌+◌, ◌*◌, ◌/◌, ◌%◌, if◌then◌else◌, nat_eq, List, [], ◌∷◌, ◌++◌}
use Rattle.hm_base.specs.Draws.{draw, drawn}

-- the operations on lanes, of 32 bits: vadd.i32, vsub.i32, vmul.i32, veor, vmax.s32
pub data Operation : Type 0 where
  Add : Operation
  Sub : Operation
  Mul : Operation
  Eor : Operation
  Max : Operation

-- the operation that a number from 0 to 4 stands for
abbrev pub operation_of : ℕ → Operation
operation_of k = if nat_eq k 0 then Add else (if nat_eq k 1 then Sub else (if nat_eq k 2 then Mul else (if nat_eq k 3 then Eor else Max)))

-- an instruction of a soak, with its registers and its number
pub data Item : Type 0 where
  Movw : ℕ → ℕ → Item  -- movw rd,#x
  Movt : ℕ → ℕ → Item  -- movt rd,#x
  Movs : ℕ → ℕ → Item  -- movs rd,#x
  Str : ℕ → ℕ → Item  -- str rt,[rn,#0]
  Vdup : ℕ → ℕ → Item  -- vdup.32 qd,rt
  Lanes : Operation → ℕ → ℕ → ℕ → Item  -- an operation on qd,qn,qm
  Bkpt : ℕ → Item  -- bkpt #x
  Nop : Item  -- nop
  Bx : ℕ → Item  -- bx rm

-- the items that enable interrupt 0
abbrev pub head : List Item
head = Movw 2 0xe100 ∷ Movt 2 0xe000 ∷ Movs 3 1 ∷ Str 3 2 ∷ []

-- a draw in each lane of register 4 + j
abbrev pub filled : ℕ → ℕ → List Item
filled j v = Movw 1 (v % 65536) ∷ Movt 1 (v / 65536) ∷ Vdup (4 + j) 1 ∷ []

-- n registers, from j on, where x was drawn last
unfoldable pub fill : ℕ → ℕ → ℕ → List Item
fill zero j x = []
fill (suc n) j x = filled j (draw x) ++ fill n (j + 1) (draw x)

-- operation k, of a draw
abbrev pub operation : ℕ → ℕ → Item
operation k v = Lanes (operation_of (v / 256 % 5)) (k % 4) (4 + v / 65536 % 4) (4 + v / 262144 % 4)

-- n operations, from k on, where x was drawn last
unfoldable pub operations : ℕ → ℕ → ℕ → List Item
operations zero k x = []
operations (suc n) k x = operation k (draw x) ∷ operations n (k + 1) (draw x)

-- how many operations a soak has
abbrev pub many : ℕ
many = 4096

-- what stands between the head and the breakpoint
abbrev pub middle : ℕ → List Item
middle number = fill 4 0 number ++ operations many 0 (drawn 4 number)

-- the handler of interrupt 0: movs r0,#7, nop, and bx lr
abbrev pub handler : List Item
handler = Movs 0 7 ∷ Nop ∷ Bx 14 ∷ []

-- ALL INSTRUCTIONS, in their order
unfoldable pub code : ℕ → List Item
code number = head ++ (middle number ++ (Bkpt 0 ∷ handler))

-- how many instructions come before the handler's
abbrev pub length_in_order : ℕ
length_in_order = 4 + 3 * 4 + many + 1
