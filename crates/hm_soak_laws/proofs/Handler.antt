-- Where the handler of a soak stands.
use Rattle.std.proofs.Common.{◌≡◌, ℕ, zero, suc, ◌+◌, ◌*◌, List, [], ◌∷◌, ◌++◌, refl, subst, arith}
use Rattle.hm_base.specs.Draws.{draw, drawn}
use Rattle.hm_base.specs.Image.{Segment, flash_byte, flat}
use Rattle.hm_codes.specs.Listing.{IsListing, Listing}
use Rattle.hm_isa.specs.declared.Instr.{Instr}
use Rattle.hm_code_bytes.specs.Bytes.{all_halves, half_bytes}
use Rattle.hm_soak_laws.specs.Image.{AreItems, HandlerStands, IsSoak, handler_address, vectors}
use Rattle.hm_soak_laws.specs.Soak.{Bkpt, Item, code, fill, handler, head, many, operations}
use Rattle.hm_soak_laws.specs.Straight.{StandFrom, widths}
use Rattle.hm_soak_laws.proofs.Items.{item_halves, item_width}
use Rattle.hm_soak_laws.proofs.Standing.{stand_back}
use Rattle.hm_soak_laws.proofs.Whole.{soak_stands, split}

abbrev halves_of : List Item → ℕ
halves_of [] = 0
halves_of (x ∷ xs) = item_halves x + halves_of xs

widths_are : (xs : List Item) (is : List Instr) → AreItems xs is → widths is ≡ 2 * halves_of xs
widths_are [] [] h = refl
widths_are [] (i ∷ is) h = absurd h
widths_are (x ∷ xs) [] h = absurd h
widths_are (x ∷ xs) (i ∷ is) h = let w = item_width x i h.0 in let r = widths_are xs is h.1 in omega arith

halves_append : (xs ys : List Item) → halves_of (xs ++ ys) ≡ halves_of xs + halves_of ys
halves_append [] ys = let e : halves_of ys ≡ 0 + halves_of ys = omega arith in e
halves_append (x ∷ xs) ys = let e = halves_append xs ys in omega arith

fill_halves : (n j x : ℕ) → halves_of (fill n j x) ≡ 6 * n
unfolding fill
fill_halves zero j x = refl
fill_halves (suc n) j x = let e = fill_halves n (j + 1) (draw x) in omega arith

operations_halves : (n k x : ℕ) → halves_of (operations n k x) ≡ 2 * n
unfolding operations
operations_halves zero k x = refl
operations_halves (suc n) k x = let e = operations_halves n (k + 1) (draw x) in omega arith

after_breakpoint : (listing : Listing) (a b : ℕ) (is : List Instr) → AreItems (Bkpt 0 ∷ handler) is → StandFrom listing a is → a + 2 ≡ b
    → HandlerStands listing b
after_breakpoint listing a b [] items stand e = absurd items
after_breakpoint listing a b (i ∷ is) items stand e =
    let w = item_width (Bkpt 0) i items.0 in
    let f : a + 2 * 1 ≡ b = omega arith in
    let there = subst (λ (k : ℕ). StandFrom listing (a + 2 * k) is) w stand.2 in
    record { instrs = is; items = items.1; stand = subst (λ (k : ℕ). StandFrom listing k is) f there }

behind_all : (n x y : ℕ) (is : List Instr) (listing : Listing) → AreItems (head ++ ((fill 4 0 x ++ operations n 0 y) ++ (Bkpt 0 ∷ handler))) is
    → StandFrom listing 68 is
    → HandlerStands listing (68 + 12 + 4 * 12 + n * 4 + 2)
behind_all n x y is listing items stand =
    let xs = fill 4 0 x ++ operations n 0 y in
    let p = split head (xs ++ (Bkpt 0 ∷ handler)) is items in
    let q = split xs (Bkpt 0 ∷ handler) p.back p.second in
    let b = 68 + widths p.front in
    let after : StandFrom listing b (q.front ++ q.back) =
    subst (StandFrom listing b) q.both (stand_back listing p.front p.back 68 (subst (StandFrom listing 68) p.both stand)) in
    let w = widths_are head p.front p.first in
    let v = widths_are xs q.front q.first in
    let l = halves_append (fill 4 0 x) (operations n 0 y) in
    let m = fill_halves 4 0 x in
    let o = operations_halves n 0 y in
    let e : b + widths q.front + 2 ≡ 68 + 12 + 4 * 12 + n * 4 + 2 = omega arith in
    after_breakpoint listing (b + widths q.front) (68 + 12 + 4 * 12 + n * 4 + 2) q.back q.second (stand_back listing q.front q.back b after) e

pub handler_stands : (number : ℕ) (image : List Segment) (listing : Listing) → IsSoak number image → IsListing (flash_byte image) listing
    → HandlerStands listing handler_address
unfolding code
handler_stands number image listing soak lists =
    let made = flat (vectors ++ half_bytes (all_halves soak.instrs)) in
    let listed : IsListing (flash_byte made) listing = subst (λ (i : List Segment). IsListing (flash_byte i) listing) soak.is lists in
    behind_all many number (drawn 4 number) soak.instrs listing soak.items
    (soak_stands many number (drawn 4 number) soak.instrs listing (omega arith) soak.items listed)
