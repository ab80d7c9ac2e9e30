-- What an item is coded as: its instructions have one code, so a soak has one image.
use Rattle.std.proofs.Common.{◌≡◌, ℕ, ◌+◌, ◌/◌, ◌%◌, ◌<◌, List, [], ◌∷◌, ◌++◌, refl, sym, ap, ◌∙◌, arith}
use Rattle.hm_base.specs.Image.{Segment, flat}
use Rattle.hm_isa.specs.declared.Instr.{Instr}
use Rattle.hm_isa.specs.declared.data.HalfName.{HalfName}
use Rattle.hm_isa.specs.declared.data.HalfName.TheVariants as half
use Rattle.hm_isa.specs.declared.narrow.ByteName.TheVariants as byte
use Rattle.hm_isa.specs.declared.narrow.HintName.TheVariants as hint
use Rattle.hm_isa.specs.declared.narrow.JumpName.TheVariants as jump
use Rattle.hm_isa.specs.declared.narrow.PlainName.TheVariants as plain
use Rattle.hm_isa.specs.declared.vectors.AddName.{AddName}
use Rattle.hm_isa.specs.declared.vectors.AddName.TheVariants as add
use Rattle.hm_isa.specs.declared.vectors.BitwiseName.TheVariants as bitwise
use Rattle.hm_isa.specs.declared.vectors.Element.TheVariants as element
use Rattle.hm_isa.specs.declared.vectors.SignedName.TheVariants as signed
use Rattle.hm_isa.specs.Code.{add_base, bitwise_base, byte_base, dup_base, halfwords, hint_base, jump_base, plain_base, signed_base, two_halves}
use Rattle.hm_isa.specs.DataCodes.{half_base}
use Rattle.hm_isa.specs.Standing.{◌↑◌}
use Rattle.hm_isa.specs.Words.{imm16}
use Rattle.hm_code_bytes.specs.Bytes.{all_halves, half_bytes}
use Rattle.hm_code_bytes.specs.Instructions.{IsAddRow, IsHalfRow}
use Rattle.hm_soak_laws.specs.Image.{AreItems, IsItem, IsOperation, IsSoak, vectors}
use Rattle.hm_soak_laws.specs.Soak as soak
use Rattle.hm_soak_laws.specs.Soak.{Item, Operation, Movw, Movt, Movs, Str, Vdup, Lanes, Bkpt, Nop, Bx, code}

abbrev half_code : HalfName → ℕ → ℕ → List ℕ
half_code name d x = two_halves (half_base name + (x / 4096) ↑ 16 + (x / 2048 % 2) ↑ 26 + (x / 256 % 8) ↑ 12 + d ↑ 8 + x % 256)

abbrev add_row_code : AddName → ℕ → ℕ → ℕ → List ℕ
add_row_code name d n m = two_halves (add_base name + 2 ↑ 20 + n ↑ 17 + d ↑ 13 + m ↑ 1)

abbrev operation_code : Operation → ℕ → ℕ → ℕ → List ℕ
operation_code soak.Add d n m = add_row_code add.Add d n m
operation_code soak.Sub d n m = add_row_code add.Sub d n m
operation_code soak.Mul d n m = add_row_code add.Mul d n m
operation_code soak.Eor d n m = two_halves (bitwise_base bitwise.Eor + n ↑ 17 + d ↑ 13 + m ↑ 1)
operation_code soak.Max d n m = two_halves (signed_base signed.Max + 0 ↑ 28 + 2 ↑ 20 + n ↑ 17 + d ↑ 13 + m ↑ 1)

abbrev item_code : Item → List ℕ
item_code (Movw d x) = half_code half.Movw d x
item_code (Movt d x) = half_code half.Movt d x
item_code (Movs d x) = (byte_base byte.Mov + d ↑ 8 + x) ∷ []
item_code (Str t n) = (plain_base plain.Str + 0 ↑ 6 + n ↑ 3 + t) ∷ []
item_code (Vdup d t) = two_halves (dup_base element.Words + d ↑ 17 + t ↑ 12)
item_code (Lanes o d n m) = operation_code o d n m
item_code (Bkpt x) = (0xbe00 + x) ∷ []
item_code Nop = (hint_base hint.Nop) ∷ []
item_code (Bx m) = (jump_base jump.Bx + m ↑ 3) ∷ []

-- a number of sixteen bits in its four fields
has_fields : (a b c d x : ℕ) → b < 2 → c < 8 → d < 256 → imm16 a b c d ≡ x
    → (a ≡ x / 4096) × (b ≡ x / 2048 % 2) × (c ≡ x / 256 % 8) × (d ≡ x % 256)
has_fields a b c d x p q r e = (omega arith, omega arith, omega arith, omega arith)

half_has : (name : HalfName) (d x : ℕ) (i : Instr) → IsHalfRow name d x i → halfwords i ≡ half_code name d x
half_has name d x i h =
    let r = h.row in
    let f = has_fields r.i4.value r.i.value r.i3.value r.i8.value x r.i.in_range r.i3.in_range r.i8.in_range h.x_is in
    ap halfwords h.is ∙ (λ j. two_halves (half_base (h.name_is j) + (f.0 j) ↑ 16 + (f.1 j) ↑ 26 + (f.2 j) ↑ 12 + (h.d_is j) ↑ 8 + f.3 j))

add_row_has : (name : AddName) (d n m : ℕ) (i : Instr) → IsAddRow 2 name d n m i → halfwords i ≡ add_row_code name d n m
add_row_has name d n m i h =
    ap halfwords h.is
    ∙ (λ j. two_halves (add_base (h.name_is j) + (h.z_is j) ↑ 20 + (h.n_is j) ↑ 17 + (h.d_is j) ↑ 13 + (h.m_is j) ↑ 1))

operation_has : (o : Operation) (d n m : ℕ) (i : Instr) → IsOperation o d n m i → halfwords i ≡ operation_code o d n m
operation_has soak.Add d n m i h = add_row_has add.Add d n m i h
operation_has soak.Sub d n m i h = add_row_has add.Sub d n m i h
operation_has soak.Mul d n m i h = add_row_has add.Mul d n m i h
operation_has soak.Eor d n m i h = ap halfwords h.is ∙ (λ j. two_halves (bitwise_base (h.name_is j) + (h.n_is j) ↑ 17 + (h.d_is j) ↑ 13 + (h.m_is j) ↑ 1))
operation_has soak.Max d n m i h = ap halfwords h.is
    ∙ (λ j. two_halves (signed_base (h.name_is j) + (h.u_is j) ↑ 28 + (h.z_is j) ↑ 20 + (h.n_is j) ↑ 17 + (h.d_is j) ↑ 13 + (h.m_is j) ↑ 1))

item_has : (x : Item) (i : Instr) → IsItem x i → halfwords i ≡ item_code x
item_has (Movw d x) i h = half_has half.Movw d x i h
item_has (Movt d x) i h = half_has half.Movt d x i h
item_has (Movs d x) i h = ap halfwords h.is ∙ (λ j. (byte_base (h.name_is j) + (h.d_is j) ↑ 8 + h.x_is j) ∷ [])
item_has (Str t n) i h = ap halfwords h.is ∙ (λ j. (plain_base (h.name_is j) + (h.i_is j) ↑ 6 + (h.n_is j) ↑ 3 + h.t_is j) ∷ [])
item_has (Vdup d t) i h = ap halfwords h.is ∙ (λ j. two_halves (dup_base (h.size_is j) + (h.d_is j) ↑ 17 + (h.t_is j) ↑ 12))
item_has (Lanes o d n m) i h = operation_has o d n m i h
item_has (Bkpt x) i h = ap halfwords h.is ∙ (λ j. (0xbe00 + h.x_is j) ∷ [])
item_has Nop i h = ap halfwords h.is ∙ (λ j. (hint_base (h.name_is j)) ∷ [])
item_has (Bx m) i h = ap halfwords h.is ∙ (λ j. (jump_base (h.name_is j) + (h.m_is j) ↑ 3) ∷ [])

-- two lists of instructions that are the same items have the same codes
same_codes : (xs : List Item) (is js : List Instr) → AreItems xs is → AreItems xs js → all_halves is ≡ all_halves js
same_codes [] [] [] h k = refl
same_codes [] [] (j ∷ js) h k = absurd k
same_codes [] (i ∷ is) js h k = absurd h
same_codes (x ∷ xs) [] js h k = absurd h
same_codes (x ∷ xs) (i ∷ is) [] h k = absurd k
same_codes (x ∷ xs) (i ∷ is) (j ∷ js) h k =
    let here : halfwords i ≡ halfwords j = item_has x i h.0 ∙ sym (item_has x j k.0) in
    let rest = same_codes xs is js h.1 k.1 in
    (λ t. here t ++ rest t)

-- A SOAK HAS ONE IMAGE
pub one_image : (number : ℕ) (a b : List Segment) → IsSoak number a → IsSoak number b → a ≡ b
one_image number a b h k =
    h.is ∙ ap (λ (hs : List ℕ). flat (vectors ++ half_bytes hs)) (same_codes (code number) h.instrs k.instrs h.items k.items) ∙ sym k.is
