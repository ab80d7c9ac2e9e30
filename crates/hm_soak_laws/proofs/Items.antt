-- The instructions of a soak between its head and its breakpoint always go on; and how many there are.
use Rattle.std.proofs.Common.{◌≡◌, ℕ, zero, suc, ◌+◌, ◌*◌, ◌≤◌, length, List, [], ◌∷◌, ◌++◌, refl, sym, ap, subst, arith}
use Rattle.std.specs.List.{AllByRecursion}
use Rattle.std.proofs.lemmas.List.{length-append}
use Rattle.hm_base.specs.Draws.{draw}
use Rattle.hm_isa.specs.declared.Instr.{Instr}
use Rattle.hm_isa.specs.declared.Instr.TheVariants as instr
use Rattle.hm_isa.specs.declared.Scalar.TheVariants as scalar
use Rattle.hm_isa.specs.declared.Vector.TheVariants as vector
use Rattle.hm_isa.specs.Code.{halfwords}
use Rattle.hm_code_bytes.specs.Bytes.{all_halves}
use Rattle.hm_code_bytes.proofs.Made.{fit_append}
use Rattle.hm_soak_laws.specs.Image.{AreItems, IsItem, IsOperation}
use Rattle.hm_soak_laws.specs.Soak as soak
use Rattle.hm_soak_laws.specs.Soak.{Item, Operation, Movw, Movt, Movs, Str, Vdup, Lanes, Bkpt, Nop, Bx, fill, operations}
use Rattle.hm_soak_laws.specs.Straight.{AllGoOn, AlwaysGoesOn}
use Rattle.hm_soak_laws.proofs.Rows.{byte_goes, half_goes, vector_goes}

-- an item that needs nothing of the state but that no IT block holds
abbrev pub IsFree : Item → Type 0
IsFree (Movw d x) = Unit {0}
IsFree (Movt d x) = Unit {0}
IsFree (Movs d x) = Unit {0}
IsFree (Str t n) = ⊥
IsFree (Vdup d t) = Unit {0}
IsFree (Lanes o d n m) = Unit {0}
IsFree (Bkpt x) = ⊥
IsFree Nop = ⊥
IsFree (Bx m) = ⊥

abbrev pub AreFree : List Item → Type 0
AreFree = AllByRecursion IsFree

by_row : (i j : Instr) → i ≡ j → AlwaysGoesOn j → AlwaysGoesOn i
by_row i j e h = subst AlwaysGoesOn (sym e) h

operation_goes : (o : Operation) (d n m : ℕ) (i : Instr) → IsOperation o d n m i → AlwaysGoesOn i
operation_goes soak.Eor d n m i h = by_row i (instr.Vector (vector.V2 h.row)) h.is (vector_goes (vector.V2 h.row) _ refl refl)
operation_goes soak.Max d n m i h = by_row i (instr.Vector (vector.V3 h.row)) h.is (vector_goes (vector.V3 h.row) _ refl refl)
operation_goes o d n m i h = by_row i (instr.Vector (vector.V1 h.row)) h.is (vector_goes (vector.V1 h.row) _ refl refl)

pub item_goes : (x : Item) (i : Instr) → IsFree x → IsItem x i → AlwaysGoesOn i
item_goes (Movw d x) i free h = by_row i (instr.Scalar (scalar.T4 h.row)) h.is (half_goes h.row)
item_goes (Movt d x) i free h = by_row i (instr.Scalar (scalar.T4 h.row)) h.is (half_goes h.row)
item_goes (Movs d x) i free h = by_row i (instr.Scalar (scalar.S4 h.row)) h.is (byte_goes h.row)
item_goes (Vdup d t) i free h = by_row i (instr.Vector (vector.V18 h.row)) h.is (vector_goes (vector.V18 h.row) _ refl refl)
item_goes (Lanes o d n m) i free h = operation_goes o d n m i h
item_goes x i free h = absurd free

pub items_go : (xs : List Item) (is : List Instr) → AreFree xs → AreItems xs is → AllGoOn is
items_go [] [] free h = tt
items_go [] (i ∷ is) free h = absurd h
items_go (x ∷ xs) [] free h = absurd h
items_go (x ∷ xs) (i ∷ is) free h = (item_goes x i free.0 h.0, items_go xs is free.1 h.1)

-- NUMBERS
fill_free : (n j x : ℕ) → AreFree (fill n j x)
unfolding fill
fill_free zero j x = tt
fill_free (suc n) j x = (tt, (tt, (tt, fill_free n (j + 1) (draw x))))

fill_length : (n j x : ℕ) → length (fill n j x) ≡ 3 * n
unfolding fill
fill_length zero j x = refl
fill_length (suc n) j x = let e = fill_length n (j + 1) (draw x) in omega arith

operations_free : (n k x : ℕ) → AreFree (operations n k x)
unfolding operations
operations_free zero k x = tt
operations_free (suc n) k x = (tt, operations_free n (k + 1) (draw x))

operations_length : (n k x : ℕ) → length (operations n k x) ≡ n
unfolding operations
operations_length zero k x = refl
operations_length (suc n) k x = ap suc (operations_length n (k + 1) (draw x))

pub middle_free : (n x y : ℕ) → AreFree (fill 4 0 x ++ operations n 0 y)
middle_free n x y = fit_append IsFree (fill 4 0 x) (operations n 0 y) (fill_free 4 0 x) (operations_free n 0 y)

pub middle_length : (n x y : ℕ) → length (fill 4 0 x ++ operations n 0 y) ≡ 12 + n
middle_length n x y = let a = length-append (fill 4 0 x) (operations n 0 y) in let b = fill_length 4 0 x in let c = operations_length n 0 y in omega arith

-- each code has one halfword or two
operation_width : (o : Operation) (d n m : ℕ) (i : Instr) → IsOperation o d n m i → length (halfwords i) ≡ 2
operation_width soak.Add d n m i h = ap (λ (x : Instr). length (halfwords x)) h.is
operation_width o d n m i h = ap (λ (x : Instr). length (halfwords x)) h.is

abbrev pub item_halves : Item → ℕ
item_halves (Movw d x) = 2
item_halves (Movt d x) = 2
item_halves (Vdup d t) = 2
item_halves (Lanes o d n m) = 2
item_halves x = 1

pub item_width : (x : Item) (i : Instr) → IsItem x i → length (halfwords i) ≡ item_halves x
item_width (Movw d x) i h = ap (λ (x : Instr). length (halfwords x)) h.is
item_width (Movt d x) i h = ap (λ (x : Instr). length (halfwords x)) h.is
item_width (Movs d x) i h = ap (λ (x : Instr). length (halfwords x)) h.is
item_width (Str t n) i h = ap (λ (x : Instr). length (halfwords x)) h.is
item_width (Vdup d t) i h = ap (λ (x : Instr). length (halfwords x)) h.is
item_width (Lanes o d n m) i h = operation_width o d n m i h
item_width (Bkpt x) i h = ap (λ (x : Instr). length (halfwords x)) h.is
item_width Nop i h = ap (λ (x : Instr). length (halfwords x)) h.is
item_width (Bx m) i h = ap (λ (x : Instr). length (halfwords x)) h.is

at_most_two : (x : Item) → item_halves x ≤ 2
at_most_two x = grind arith

-- so all codes have at most twice as many halfwords as there are instructions
pub few_halves : (xs : List Item) (is : List Instr) → AreItems xs is → length (all_halves is) ≤ 2 * length xs
few_halves [] [] h = omega arith
few_halves [] (i ∷ is) h = absurd h
few_halves (x ∷ xs) [] h = absurd h
few_halves (x ∷ xs) (i ∷ is) h =
    let a = length-append (halfwords i) (all_halves is) in let w = item_width x i h.0 in let t = at_most_two x in let r = few_halves xs is h.1 in omega arith
