-- A list of instructions whose halfwords stand in flash: each stands there.
use Rattle.std.proofs.Common.{◌≡◌, ℕ, ◌+◌, ◌*◌, ◌%◌, ◌<◌, ◌≤◌, List, [], ◌∷◌, ◌++◌, length, map, refl, subst, arith, length-append}
use Rattle.hm_codes.specs.Listing.{HalvesStand}
use Rattle.hm_codes.proofs.Standing.{halves_behind, halves_front, halves_within}
use Rattle.hm_isa.specs.declared.Instr.{Instr}
use Rattle.hm_isa.specs.Code.{halfwords}
use Rattle.hm_kernel_lang.specs.declared.text.ElementType.{ElementType}
use Rattle.hm_kernel_lang.specs.declared.text.Line.{Line}
use Rattle.hm_kernel_lang.specs.declared.machine.Item.{Item}
use Rattle.hm_kernel_lang.specs.declared.machine.Item.TheVariants.{Plain, Begin, Again}
use Rattle.hm_kernel_lang.specs.declared.machine.Kind.{Kind}
use Rattle.hm_kernel_lang.specs.Machine.{halves, item_halves}
use Rattle.hm_kernel_lang.specs.Code.{body_code, halves_of, head_code, line_code, lines_code}
use Rattle.hm_kernel_lang.specs.Correct.{CodeStands}
use Rattle.hm_kernel_lang.proofs.Lines.{items_append}
use Rattle.hm_kernel_lang.proofs.Straight.{items_halves, plain_halves}
use Rattle.hm_code_bytes.specs.Bytes.{all_halves}
use Rattle.hm_kernel_instrs.specs.Instructions.{AreItems, StaysIn}
use Rattle.hm_kernel_instrs.proofs.Widths.{item_width}
use Rattle.hm_kernel_code.specs.Images.{StandsIn}

-- AN ITEM HAS SOME HALFWORD
some_kind : (k : Kind) → 0 < halves k
some_kind k = grind arith

some_item : (x : Item) → 0 < item_halves x
some_item (Plain k) = some_kind k
some_item x = omega arith

-- BRANCHES STAY
abbrev pub AllStay : ℕ → List Item → Type 0
AllStay a [] = Unit {0}
AllStay a (x ∷ xs) = StaysIn a x × AllStay (a + 2 * item_halves x) xs

stay_append : (a : ℕ) (xs ys : List Item) → AllStay a xs → AllStay (a + 2 * items_halves xs) ys → AllStay a (xs ++ ys)
stay_append a [] ys h k = let e : a + 2 * 0 ≡ a = omega arith in subst (λ (x : ℕ). AllStay x ys) e k
stay_append a (x ∷ xs) ys h k =
    let e : a + 2 * (item_halves x + items_halves xs) ≡ a + 2 * item_halves x + 2 * items_halves xs = omega arith in
    (h.0, stay_append (a + 2 * item_halves x) xs ys h.1 (subst (λ (y : ℕ). AllStay y ys) e k))

plain_stay : (a : ℕ) (ks : List Kind) → AllStay a (map Plain ks)
plain_stay a [] = tt
plain_stay a (k ∷ ks) = (tt, plain_stay (a + 2 * halves k) ks)

line_stays : (at : ℕ → ℕ) (n a : ℕ) (l : Line) → a + 2 * items_halves (line_code at n l) ≤ 0x100000 → AllStay a (line_code at n l)
line_stays at n a l fits =
    let b = map Plain (body_code at l) in
    let h = halves_of (body_code at l) + 2 in
    let width = plain_halves (body_code at l) in
    let all = items_append b (Again h ∷ []) in
    let p = a + 2 * 5 + 2 * 2 in
    let back : 2 * h ≤ p + 2 * items_halves b + 4 = omega arith in
    let over : a + 2 * 5 + 4 + 2 * h ≤ 0x100000 = omega arith in
    stay_append a (map Plain (head_code n)) (Begin h ∷ (b ++ Again h ∷ [])) (plain_stay a (head_code n))
    (over, stay_append p b (Again h ∷ []) (plain_stay p (body_code at l)) (back, tt))

pub lines_stay : (at : ℕ → ℕ) (n : ℕ) (ls : List Line) (a : ℕ) → a + 2 * items_halves (lines_code at n ls) ≤ 0x100000 → AllStay a (lines_code at n ls)
lines_stay at n [] a fits = (tt, tt)
lines_stay at n (l ∷ ls) a fits =
    let all = items_append (line_code at n l) (lines_code at n ls) in
    stay_append a (line_code at n l) (lines_code at n ls) (line_stays at n a l (omega arith))
    (lines_stay at n ls (a + 2 * items_halves (line_code at n l)) (omega arith))

-- ITEMS STAND
pub items_stand : (t : ElementType) (flash : ℕ → ℕ) (a : ℕ) (xs : List Item) (is : List Instr) → a % 2 ≡ 0 → AreItems t xs is
    → HalvesStand flash (all_halves is) a → AllStay a xs → CodeStands (StandsIn t flash) a xs
items_stand t flash a [] is even k h s = tt
items_stand t flash a (x ∷ xs) [] even k h s = absurd k
items_stand t flash a (x ∷ xs) (i ∷ is) even k h s =
    let width = item_width t x i k.0 in
    let here = halves_front flash (halfwords i) (all_halves is) a h in
    let some = some_item x in
    let fits = halves_within flash (halfwords i) a here (omega arith) in
    let next : a + 2 * length (halfwords i) ≡ a + 2 * item_halves x = omega arith in (
      record { instr = i; here = record { even = even; code = here }; is = k.0; fits = omega arith; reach = s.0 },
      items_stand t flash (a + 2 * item_halves x) xs is (omega arith) k.1
          (subst (HalvesStand flash (all_halves is)) next (halves_behind flash (halfwords i) (all_halves is) a h)) s.1,
    )

pub total : (t : ElementType) (xs : List Item) (is : List Instr) → AreItems t xs is → length (all_halves is) ≡ items_halves xs
total t [] [] k = refl
total t [] (i ∷ is) k = absurd k
total t (x ∷ xs) [] k = absurd k
total t (x ∷ xs) (i ∷ is) k = omega (arith, length-append (halfwords i) (all_halves is), item_width t x i k.0, total t xs is k.1)
