-- Each item of a soak is an instruction, so a soak has an image.
use Rattle.std.proofs.Common.{ℕ, zero, suc, ◌+◌, ◌^◌, ◌<◌, ◌≤◌, List, ◌∷◌, ◌++◌, refl, arith}
use Rattle.std.specs.List.{AllByRecursion}
use Rattle.hm_base.specs.Draws.{draw, drawn}
use Rattle.hm_base.specs.Image.{Segment, flat}
use Rattle.hm_isa.specs.declared.Branch.TheVariants as branch
use Rattle.hm_isa.specs.declared.Instr.{Instr}
use Rattle.hm_isa.specs.declared.Instr.TheVariants as instr
use Rattle.hm_isa.specs.declared.Scalar.TheVariants as scalar
use Rattle.hm_isa.specs.declared.data.HalfName.TheVariants as half
use Rattle.hm_isa.specs.declared.narrow.S16.{S16}
use Rattle.hm_isa.specs.declared.narrow.S19.{S19}
use Rattle.hm_isa.specs.declared.narrow.S23.{S23}
use Rattle.hm_isa.specs.declared.narrow.ByteName.TheVariants as byte
use Rattle.hm_isa.specs.declared.narrow.HintName.TheVariants as hint
use Rattle.hm_isa.specs.declared.narrow.JumpName.TheVariants as jump
use Rattle.hm_isa.specs.declared.narrow.PlainName.TheVariants as plain
use Rattle.hm_isa.specs.declared.vectors.AddName.TheVariants as add
use Rattle.hm_isa.specs.declared.vectors.BitwiseName.TheVariants as bitwise
use Rattle.hm_isa.specs.declared.vectors.Element.TheVariants as element
use Rattle.hm_isa.specs.declared.vectors.SignedName.TheVariants as signed
use Rattle.hm_code_bytes.specs.Bytes.{all_halves, half_bytes}
use Rattle.hm_code_bytes.proofs.Made.{field, fit_append, some_add, some_bitwise, some_breakpoint, some_byte, some_duplicate, some_half, some_items, some_signed}
use Rattle.hm_soak_laws.specs.Image.{IsItem, IsOperation, IsSoak, vectors}
use Rattle.hm_soak_laws.specs.Soak as soak
use Rattle.hm_soak_laws.specs.Soak.{Item, Operation, Movw, Movt, Movs, Str, Vdup, Lanes, Bkpt, Nop, Bx, code, fill, filled, handler, head, many}
use Rattle.hm_soak_laws.specs.Soak.{operation, operations}

-- its numbers fit their fields
abbrev IsGiven : Item → Type 0
IsGiven (Movw d x) = (d < 13) × (x < 65536)
IsGiven (Movt d x) = (d < 13) × (x < 65536)
IsGiven (Movs d x) = (d < 8) × (x < 256)
IsGiven (Str t n) = (t < 8) × (n < 8)
IsGiven (Vdup d t) = (d < 8) × (t < 13)
IsGiven (Lanes o d n m) = (d < 8) × (n < 8) × (m < 8)
IsGiven (Bkpt x) = x < 256
IsGiven Nop = Unit {0}
IsGiven (Bx m) = (m < 16) × (13 < m) × (m < 15)

abbrev AreGiven : List Item → Type 0
AreGiven = AllByRecursion IsGiven

some_operation : (o : Operation) (d n m : ℕ) → d < 8 → n < 8 → m < 8 → (i : Instr) × IsOperation o d n m i
some_operation soak.Add d n m a b c = some_add 2 add.Add d n m (omega arith) a b c
some_operation soak.Sub d n m a b c = some_add 2 add.Sub d n m (omega arith) a b c
some_operation soak.Mul d n m a b c = some_add 2 add.Mul d n m (omega arith) a b c
some_operation soak.Eor d n m a b c = some_bitwise bitwise.Eor d n m a b c
some_operation soak.Max d n m a b c = some_signed 0 2 signed.Max d n m (omega arith) (omega arith) a b c

some_store : (t n : ℕ) → t < 8 → n < 8 → (i : Instr) × IsItem (Str t n) i
some_store t n h k =
    let row : S16 = record {
      name = plain.Str;
      i = field 0 (omega arith);
      n = field n k;
      t = field t h;
    } in
    (instr.Scalar (scalar.S16 row), record { row = row; is = refl; name_is = refl; i_is = refl; n_is = refl; t_is = refl })

some_nop : (i : Instr) × IsItem Nop i
some_nop =
    let row : S19 = record { name = hint.Nop } in
    (instr.Scalar (scalar.S19 row), record { row = row; is = refl; name_is = refl })

some_jump : (m : ℕ) → m < 16 → 13 < m → m < 15 → (i : Instr) × IsItem (Bx m) i
some_jump m h k l =
    let row : S23 = record { name = jump.Bx; m = field m h; not_sp = λ e. omega arith; not_pc = λ e. omega arith } in
    (instr.Branch (branch.S23 row), record { row = row; is = refl; name_is = refl; m_is = refl })

some_item : (x : Item) → IsGiven x → (i : Instr) × IsItem x i
some_item (Movw d x) h = some_half half.Movw d x h.0 h.1
some_item (Movt d x) h = some_half half.Movt d x h.0 h.1
some_item (Movs d x) h = some_byte byte.Mov d x h.0 h.1
some_item (Str t n) h = some_store t n h.0 h.1
some_item (Vdup d t) h = some_duplicate element.Words d t h.0 h.1
some_item (Lanes o d n m) h = some_operation o d n m h.0 h.1 h.2
some_item (Bkpt x) h = some_breakpoint x h
some_item Nop h = some_nop
some_item (Bx m) h = some_jump m h.0 h.1 h.2

-- THE ITEMS of a soak
filled_given : (j v : ℕ) → j < 4 → v < 2 ^ 32 → AreGiven (filled j v)
filled_given j v h k = ((omega arith, omega arith), ((omega arith, omega arith), ((omega arith, omega arith), tt)))

fill_given : (n j x : ℕ) → j + n ≤ 4 → AreGiven (fill n j x)
unfolding fill
fill_given zero j x h = tt
fill_given (suc n) j x h = fit_append IsGiven (filled j (draw x)) (fill n (j + 1) (draw x)) (filled_given j (draw x) (omega arith) (omega arith))
    (fill_given n (j + 1) (draw x) (omega arith))

operation_given : (k v : ℕ) → IsGiven (operation k v)
operation_given k v = (omega arith, omega arith, omega arith)

operations_given : (n k x : ℕ) → AreGiven (operations n k x)
unfolding operations
operations_given zero k x = tt
operations_given (suc n) k x = (operation_given k (draw x), operations_given n (k + 1) (draw x))

head_given : AreGiven head
head_given = ((omega arith, omega arith), ((omega arith, omega arith), ((omega arith, omega arith), ((omega arith, omega arith), tt))))

end_given : AreGiven (Bkpt 0 ∷ handler)
end_given = (omega arith, ((omega arith, omega arith), (tt, ((omega arith, omega arith, omega arith), tt))))

all_given : (n x y : ℕ) → AreGiven (head ++ ((fill 4 0 x ++ operations n 0 y) ++ (Bkpt 0 ∷ handler)))
all_given n x y =
    fit_append IsGiven head ((fill 4 0 x ++ operations n 0 y) ++ (Bkpt 0 ∷ handler)) head_given
    (fit_append IsGiven (fill 4 0 x ++ operations n 0 y) (Bkpt 0 ∷ handler)
    (fit_append IsGiven (fill 4 0 x) (operations n 0 y) (fill_given 4 0 x (omega arith)) (operations_given n 0 y)) end_given)

-- A SOAK HAS AN IMAGE
pub some_image : (number : ℕ) → (image : List Segment) × IsSoak number image
unfolding code
some_image number =
    let is = some_items IsGiven IsItem some_item (code number) (all_given many number (drawn 4 number)) in
    (flat (vectors ++ half_bytes (all_halves is.0)), record { instrs = is.0; items = is.1; is = refl })
