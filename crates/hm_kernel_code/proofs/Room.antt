-- How much room the code of a text takes in flash.
use Rattle.std.proofs.Common.{◌≡◌, ℕ, ◌+◌, ◌*◌, ◌≤◌, List, [], ◌∷◌, ◌++◌, length, map, arith}
use Rattle.std.specs.Prelude.{All}
use Rattle.std.proofs.lemmas.List.Elements.{All-head, All-tail}
use Rattle.hm_isa.specs.declared.Instr.{Instr}
use Rattle.hm_code_bytes.specs.Bytes.{all_halves}
use Rattle.hm_code_bytes.proofs.Bytes.{length_halves}
use Rattle.hm_kernel_lang.specs.declared.text.ElementType.{ElementType}
use Rattle.hm_kernel_lang.specs.declared.text.Expr.{Expr}
use Rattle.hm_kernel_lang.specs.declared.text.Expr.TheVariants.{Name, Number, Apply'}
use Rattle.hm_kernel_lang.specs.declared.text.Line.{Line}
use Rattle.hm_kernel_lang.specs.declared.text.Text.{Text}
use Rattle.hm_kernel_lang.specs.Code.{body_code, code, end_code, expr_code, halves_of, head_code, line_code, lines_code}
use Rattle.hm_kernel_lang.specs.Language.{address, names, numbers, operations}
use Rattle.hm_kernel_lang.specs.declared.machine.Item.TheVariants.{Plain, Begin, Again}
use Rattle.hm_kernel_lang.specs.Texts.{IsSet, IsText}
use Rattle.hm_kernel_lang.proofs.Lines.{items_append}
use Rattle.hm_kernel_lang.proofs.Straight.{halves_append, items_halves, plain_halves}
use Rattle.hm_kernel_code.specs.Images.{flash_bytes}
use Rattle.hm_kernel_instrs.specs.Instructions.{AreItems}
use Rattle.hm_kernel_code.proofs.Appending.{expr_halves}
use Rattle.hm_kernel_code.proofs.Held.{total}

pub one_fewer : (e : Expr) → operations e + 1 ≡ names e + numbers e
one_fewer (Name i) = omega arith
one_fewer (Number n) = omega arith
one_fewer (Apply' o p l u r) = omega (arith, one_fewer l, one_fewer r)

line_room : (at : ℕ → ℕ) (n : ℕ) (l : Line) → names l.expr + numbers l.expr ≤ 64 → items_halves (line_code at n l) ≤ 600
line_room at n l few =
    let h = halves_of (body_code at l) + 2 in
    let b = map Plain (body_code at l) in
    let fewer = one_fewer l.expr in
    let expr = expr_halves at l.expr 0 in
    let body = halves_append (expr_code at l.expr 0) (end_code (at l.array)) in
    let plain = plain_halves (body_code at l) in
    let ends = items_append b (Again h ∷ []) in
    let whole = items_append (map Plain (head_code n)) (Begin h ∷ (b ++ Again h ∷ [])) in
    omega arith

lines_room : (t : ElementType) (k : ℕ) (at : ℕ → ℕ) (n : ℕ) (ls : List Line) → All (IsSet t k) ls → items_halves (lines_code at n ls) ≤ 600 * length ls + 1
lines_room t k at n [] sets = omega arith
lines_room t k at n (l ∷ ls) sets =
    let one = line_room at n l (All-head (IsSet t k) l ls sets).few in
    let others = lines_room t k at n ls (All-tail (IsSet t k) l ls sets) in
    omega (arith, items_append (line_code at n l) (lines_code at n ls))

-- the bytes of flash
pub room_of : (x : Text) (is : List Instr) → IsText x → AreItems x.element (code x) is → 8 + 2 * length (all_halves is) ≤ 20000
room_of x is text kinds =
    let few = text.few_lines in
    let all = total x.element (code x) is kinds in
    let room = lines_room x.element (length x.arrays.items) (address x.arrays.items) x.count x.lines.items text.lines in
    omega arith

pub flash_length : (is : List Instr) → length (flash_bytes is) ≡ 8 + 2 * length (all_halves is)
flash_length is = let n = length_halves (all_halves is) in omega arith
