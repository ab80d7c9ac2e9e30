-- The image of a soak: its instructions in order halt at its breakpoint.
use Rattle.std.proofs.Common.{◌≡◌, ℕ, ◌+◌, ◌-◌, ◌*◌, ◌%◌, ◌^◌, ◌<◌, ◌≤◌, true, length, List, [], ◌∷◌, ◌++◌, refl, sym, ap, ◌∙◌, subst, arith, Some}
use Rattle.std.specs.Prelude.{Ok, slice_index}
use Rattle.std.proofs.lemmas.List.{length-append}
use Rattle.std.proofs.lemmas.Slice.Zip.{AllZip-long}
use Rattle.hm_base.specs.Draws.{drawn}
use Rattle.hm_base.specs.Image.{Segment, flash_byte, flash_size, flat}
use Rattle.hm_codes.specs.Listing.{HalvesStand, IsListing, Listing}
use Rattle.hm_run_laws.specs.Runs.{run_out}
use Rattle.hm_isa.specs.declared.Instr.{Instr}
use Rattle.hm_run.specs.declared.Outcome.TheVariants as outcome
use Rattle.hm_run.specs.declared.Reason.{Reason}
use Rattle.hm_state.specs.Start.{reset_pc, start, start_under}
use Rattle.hm_code_bytes.specs.Bytes.{all_halves, half_bytes}
use Rattle.hm_soak_laws.specs.Image.{AreItems, IsItem, IsSoak, vectors}
use Rattle.hm_soak_laws.specs.Soak.{Bkpt, Item, code, fill, handler, head, many, operations}
use Rattle.hm_sched.specs.Schedule.{Sched, plain}
use Rattle.hm_soak_laws.specs.Schedule.{in_order_schedule, schedule}
use Rattle.hm_soak_laws.specs.Straight.{ComesTo, StandFrom, widths}
use Rattle.hm_soak_laws.specs.Summary.{EndsAlike, HaltsInOrder, IsSummary, SameShown, entered, scheduled, summary_text}
use Rattle.hm_soak_laws.proofs.Ends.{ends_alike}
use Rattle.hm_soak_laws.proofs.Head.{head_passes}
use Rattle.hm_soak_laws.proofs.Items.{AreFree, few_halves, items_go, middle_free, middle_length}
use Rattle.hm_code_bytes.proofs.Bytes.{length_halves}
use Rattle.hm_code_bytes.proofs.Standing.{flat_byte, held}
use Rattle.hm_soak_laws.proofs.Standing.{stand_back, stand_from, stand_front}
use Rattle.hm_soak_laws.proofs.Straight.{halts, passes}

-- THE PARTS of a list of items
pub record Split (xs ys : List Item) (is : List Instr) : Type 0 where
  pub front : List Instr
  pub back : List Instr
  pub both : is ≡ front ++ back
  pub first : AreItems xs front
  pub second : AreItems ys back

pub split : (xs ys : List Item) (is : List Instr) → AreItems (xs ++ ys) is → Split xs ys is
split [] ys is h = record { front = []; back = is; both = refl; first = tt; second = h }
split (x ∷ xs) ys [] h = absurd h
split (x ∷ xs) ys (i ∷ is) h =
    let s = split xs ys is h.1 in
    record { front = i ∷ s.front; back = s.back; both = ap (λ (l : List Instr). i ∷ l) s.both; first = (h.0, s.first); second = s.second }

-- STRAIGHT CODE behind a head, and a breakpoint
module _ (listing : Listing) (image : List Segment) where
  at_breakpoint : (n a : ℕ) (rest : List Item) (is : List Instr) → ComesTo listing image n a → AreItems (Bkpt 0 ∷ rest) is → StandFrom listing a is
      → HaltsInOrder listing image (n + 1)
  at_breakpoint n a rest [] h items stand = absurd items
  at_breakpoint n a rest (i ∷ is) h items stand =
      let b = items.0 in
      record { state = h.state; halts = halts listing image b.row 0 n a h (stand.0 ∙ ap Ok b.is) b.x_is refl }

  halts_behind : (a : ℕ) (xs rest : List Item) (is : List Instr) → a + 12 < 2 ^ 32 → ComesTo listing image 0 a → AreFree xs
      → AreItems (head ++ (xs ++ (Bkpt 0 ∷ rest))) is → StandFrom listing a is
      → HaltsInOrder listing image (4 + length xs + 1)
  halts_behind a xs rest is fits h free items stand =
      let p = split head (xs ++ (Bkpt 0 ∷ rest)) is items in
      let q = split xs (Bkpt 0 ∷ rest) p.back p.second in
      let all : StandFrom listing a (p.front ++ p.back) = subst (StandFrom listing a) p.both stand in
      let b = a + widths p.front in
      let after : StandFrom listing b (q.front ++ q.back) = subst (StandFrom listing b) q.both (stand_back listing p.front p.back a all) in
      let headed = head_passes listing image a p.front fits h p.first (stand_front listing p.front p.back a all) in
      let passed = passes listing image q.front 4 b headed (stand_front listing q.front q.back b after) (items_go xs q.front free q.first) in
      let ends = at_breakpoint (4 + length q.front) (b + widths q.front) rest q.back passed q.second (stand_back listing q.front q.back b after) in
      let e : 4 + length q.front + 1 ≡ 4 + length xs + 1 = let l = AllZip-long IsItem xs q.front q.first in omega arith in
      subst (HaltsInOrder listing image) e ends

-- THE IMAGE
-- with any number of operations
pub size_is : (n x y : ℕ) (is : List Instr) → AreItems (head ++ ((fill 4 0 x ++ operations n 0 y) ++ (Bkpt 0 ∷ handler))) is
    → length (all_halves is) ≤ 2 * (20 + n)
size_is n x y is h =
    let few = few_halves (head ++ ((fill 4 0 x ++ operations n 0 y) ++ (Bkpt 0 ∷ handler))) is h in
    let m = middle_length n x y in
    let a = length-append (fill 4 0 x ++ operations n 0 y) (Bkpt 0 ∷ handler) in
    omega arith

-- the reset address
pub first_pc : (bytes : List ℕ) → 68 + length bytes ≤ flash_size → reset_pc (flat (vectors ++ bytes)) ≡ 0x45
first_pc bytes fits =
    let size = length-append vectors bytes in
    let total : length (vectors ++ bytes) ≤ flash_size = omega arith in
    let b : (k : ℕ) → k < 8 → flash_byte (flat (vectors ++ bytes)) k ≡ slice_index (vectors ++ bytes) k =
    λ k l. flat_byte (vectors ++ bytes) k (omega arith) total in
    (λ j. b 4 (omega arith) j + 0x100 * b 5 (omega arith) j + 0x10000 * b 6 (omega arith) j + 0x1000000 * b 7 (omega arith) j)

begins : (image : List Segment) → reset_pc image ≡ 0x45 → (listing : Listing) → ComesTo listing image 0 0x44
unfolding start_under
begins image e listing = record { state = start image; runs = refl; pc = ap (λ (x : ℕ). x - x % 2) e; block = refl }

pub soak_stands : (n x y : ℕ) (is : List Instr) (listing : Listing) → n ≤ 100000
    → AreItems (head ++ ((fill 4 0 x ++ operations n 0 y) ++ (Bkpt 0 ∷ handler))) is
    → IsListing (flash_byte (flat (vectors ++ half_bytes (all_halves is)))) listing → StandFrom listing 68 is
soak_stands n x y is listing few items lists =
    let image = flat (vectors ++ half_bytes (all_halves is)) in
    let size = size_is n x y is items in
    let stand : HalvesStand (flash_byte image) (all_halves is) 68 = held vectors (all_halves is) (omega arith) in
    stand_from (flash_byte image) listing lists is 68 refl stand

halts_with : (n x y : ℕ) (is : List Instr) (listing : Listing) → n ≤ 100000 → AreItems (head ++ ((fill 4 0 x ++ operations n 0 y) ++ (Bkpt 0 ∷ handler))) is
    → let image = flat (vectors ++ half_bytes (all_halves is)) in IsListing (flash_byte image) listing → HaltsInOrder listing image (4 + (12 + n) + 1)
halts_with n x y is listing few items lists =
    let image = flat (vectors ++ half_bytes (all_halves is)) in
    let size = size_is n x y is items in
    let bytes = length_halves (all_halves is) in
    let pc = first_pc (half_bytes (all_halves is)) (omega arith) in
    let from = soak_stands n x y is listing few items lists in
    let ends = halts_behind listing image 68 (fill 4 0 x ++ operations n 0 y) handler is (omega arith) (begins image pc listing) (middle_free n x y) items
    from in
    subst (λ (k : ℕ). HaltsInOrder listing image (4 + k + 1)) (middle_length n x y) ends

pub soak_halts : (number : ℕ) (image : List Segment) (listing : Listing) → IsSoak number image → IsListing (flash_byte image) listing
    → HaltsInOrder listing image 4113
unfolding code
soak_halts number image listing soak lists =
    let made = flat (vectors ++ half_bytes (all_halves soak.instrs)) in
    let listed : IsListing (flash_byte made) listing = subst (λ (i : List Segment). IsListing (flash_byte i) listing) soak.is lists in
    let ends : HaltsInOrder listing made (4 + (12 + many) + 1) = halts_with many number (drawn 4 number) soak.instrs listing (omega arith) soak.items listed in
    subst (λ (i : List Segment). HaltsInOrder listing i 4113) (sym soak.is) ends

pub soak_alike : (number : ℕ) (image : List Segment) (listing : Listing) (r : Reason) (n : ℕ) → IsSoak number image → IsListing (flash_byte image) listing
    → (scheduled listing image).outcome ≡ Some (outcome.Halted r n) → EndsAlike listing image 4113 schedule r n
soak_alike number image listing r n soak lists e = ends_alike listing image 4113 schedule r n (soak_halts number image listing soak lists) e

in_order_is : in_order_schedule ≡ plain 4113
unfolding in_order_schedule
in_order_is = refl

pub soak_equal : (number : ℕ) (image : List Segment) (listing : Listing) (r : Reason) (n : ℕ) (text : List ℕ) → IsSoak number image
    → IsListing (flash_byte image) listing
    → (scheduled listing image).outcome ≡ Some (outcome.Halted r n) → IsSummary number listing image text
    → text ≡ (let x = scheduled listing image in summary_text number 4113 x.ticks (entered listing image schedule x.ticks) true)
soak_equal number image listing r n text soak lists e h =
    let alike = soak_alike number image listing r n soak lists e in
    let shown = subst (λ (s : Sched). SameShown (run_out listing image schedule).machine.config.state (run_out listing image s).machine.config.state)
    (sym in_order_is) alike.same in
    let same : h.same ≡ true = h.means.1 shown in
    let x = scheduled listing image in
    h.is ∙ (λ j. summary_text number (alike.retired j) x.ticks (entered listing image schedule x.ticks) (same j))

-- the first instruction's address
pub soak_reset : (number : ℕ) (image : List Segment) → IsSoak number image → reset_pc image ≡ 0x45
unfolding code
soak_reset number image soak =
    let size = size_is many number (drawn 4 number) soak.instrs soak.items in
    let bytes = length_halves (all_halves soak.instrs) in
    ap reset_pc soak.is ∙ first_pc (half_bytes (all_halves soak.instrs)) (omega arith)
