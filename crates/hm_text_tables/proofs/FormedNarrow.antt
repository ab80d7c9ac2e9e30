-- Each row of one halfword has a text of the form.
use Rattle.std.proofs.Common.{◌≡◌, ℕ, ◌+◌, ◌<◌, Bool, true, false, cond, List, [], ◌∷◌, ◌++◌, map, refl, arith}
use Rattle.std.specs.Prelude.{codes}
use Rattle.std.proofs.lemmas.Bool.{false≢true}
use Rattle.std.proofs.lemmas.Bool.Decides.{nat_tests}
use Rattle.hm_isa.specs.declared.narrow.ListName.{ListName}
use Rattle.hm_isa.specs.declared.narrow.ListName.TheVariants as list
use Rattle.hm_isa.specs.declared.widths.NarrowRow.{NarrowRow}
use Rattle.hm_isa.specs.declared.widths.NarrowRow.TheVariants.{S20}
use Rattle.hm_isa.specs.Rules.{keeps_list, listed_in}
use Rattle.hm_isa.specs.Standing.{◌↑◌}
use Rattle.hm_tokens.specs.Tokens.{word, number, close_brace, comma, bang, open_brace}
use Rattle.hm_line.specs.declared.form.Depth.TheVariants.{Outside}
use Rattle.hm_line.specs.declared.form.Operands.TheVariants as ops
use Rattle.hm_line.specs.Kinds.{Kind, kind}
use Rattle.hm_line.proofs.Operands.{takes}
use Rattle.hm_text_rows.specs.Operands.{bits_of, braced}
use Rattle.hm_text_rows.specs.Shapes.{braces, listed, r, registers_from}
use Rattle.hm_text_rows.proofs.Braces.{braces_bits}
use Rattle.hm_text16_rows.specs.Rows.{list_tokens, tokens_of}
use Rattle.hm_text_tables.proofs.Formed.{Formed, are_operands}

-- LISTS
more_registers : (ks : List ℕ) → takes ops.ListWord (map kind (listed comma ks ++ close_brace ∷ [])) ≡ true
more_registers [] = refl
more_registers (k ∷ ks) = more_registers ks

some_registers : (ks : List ℕ) (regs : ℕ) → bits_of (braced (listed open_brace ks ++ close_brace ∷ [])) ≡ regs → 0 < regs
    → takes (ops.Operand Outside) (map kind (listed open_brace ks ++ close_brace ∷ [])) ≡ true
unfolding bits_of braced
some_registers [] regs bits some = absurd (omega (arith, bits, some))
some_registers (k ∷ ks) regs bits some = more_registers ks

-- a list that is not empty is an operand
pub taken_braces : (regs : ℕ) → regs < 65536 → 0 < regs → takes (ops.Operand Outside) (map kind (braces regs)) ≡ true
taken_braces regs small some = some_registers (registers_from 16 0 regs) regs (braces_bits regs small) some

operands_of : (ks : List Kind) → takes (ops.Operand Outside) ks ≡ true → are_operands ks ≡ true
operands_of [] e = absurd (false≢true e)
operands_of (k ∷ ks) e = e

formed_braces : (s : List ℕ) (regs : ℕ) → regs < 65536 → 0 < regs → Formed (word s ∷ braces regs)
formed_braces s regs small some = record { is = operands_of (map kind (braces regs)) (taken_braces regs small some) }

formed_load : (b : Bool) (n regs : ℕ) → regs < 65536 → 0 < regs
    → Formed (cond b (word (codes "ldm") ∷ r n ∷ comma ∷ []) (word (codes "ldm") ∷ r n ∷ bang ∷ comma ∷ []) ++ braces regs)
formed_load true n regs small some = record { is = taken_braces regs small some }
formed_load false n regs small some = record { is = taken_braces regs small some }

some_kept : (name : ListName) (x n m : ℕ) → keeps_list name x n m ≡ true → 0 < m + x
some_kept name x n m e = grind (arith, nat_tests)

formed_list : (name : ListName) (x n m : ℕ) → keeps_list name x n m ≡ true → x < 2 → m < 256 → Formed (list_tokens name x n m)
formed_list list.Push x n m e hx hm = let some = some_kept list.Push x n m e in formed_braces (codes "push") (m + x ↑ 14) (omega arith) (omega arith)
formed_list list.Pop x n m e hx hm = let some = some_kept list.Pop x n m e in formed_braces (codes "pop") (m + x ↑ 15) (omega arith) (omega arith)
formed_list list.Stm x n m e hx hm = record { is = taken_braces m (omega arith) (grind (arith, nat_tests, e)) }
formed_list list.Ldm x n m e hx hm = formed_load (listed_in m n) n m (omega arith) (grind (arith, nat_tests, e))

-- ROWS
pub formed_narrow : (i : NarrowRow) (a : ℕ) → Formed (tokens_of i (number a))
formed_narrow (S20 i) a = formed_list i.name i.x.value i.n.value i.list.value i.row i.x.in_range i.list.in_range
formed_narrow i a = grind arith
