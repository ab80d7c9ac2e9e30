-- Each row of two halfwords that is no vector row: its mnemonic is its own, and its text is of the form.
use Rattle.std.proofs.Common.{◌≡◌, ℕ, zero, suc, ◌*◌, ◌<◌, Bool, true, false, cond, List, [], ◌∷◌, ◌++◌, map, Some, refl, subst, inl, inr, arith}
use Rattle.std.specs.Prelude.{nat_eq, not, ◌&&◌}
use Rattle.std.proofs.lemmas.Bool.{and_parts}
use Rattle.std.proofs.lemmas.Bool.Decides.{nat_tests}
use Rattle.std.proofs.lemmas.Nat.{ones_le_self}
use Rattle.hm_isa.specs.declared.data.DataName.{DataName}
use Rattle.hm_isa.specs.declared.data.DataName.TheVariants as data_
use Rattle.hm_isa.specs.declared.system.BarrierName.{BarrierName}
use Rattle.hm_isa.specs.declared.system.T19.TheVariants as t19
use Rattle.hm_isa.specs.declared.wide.WideListName.{WideListName}
use Rattle.hm_isa.specs.declared.widths.ByWidth.TheVariants as by
use Rattle.hm_isa.specs.declared.widths.WideRow.{WideRow}
use Rattle.hm_isa.specs.declared.widths.WideRow.TheVariants.{T1, T2, T9, T14, T19}
use Rattle.hm_isa.specs.Rules.{is_wide_list}
use Rattle.hm_isa.specs.Words.{imm5, is_by_carry, shift_number}
use Rattle.hm_tokens.specs.Tokens.{Tok, word, number, comma}
use Rattle.hm_line.specs.declared.form.Depth.TheVariants.{Outside}
use Rattle.hm_line.specs.declared.form.Operands.TheVariants as ops
use Rattle.hm_line.specs.Kinds.{kind}
use Rattle.hm_line.proofs.Operands.{takes}
use Rattle.hm_text_base.proofs.Steps.{some_is, test_some}
use Rattle.hm_text_rows.specs.Shapes.{braces, r, three, two}
use Rattle.hm_text_rows.proofs.Words.{below_holds}
use Rattle.hm_text32_rows.specs.Rows.{and_shifted, constant_tokens, data_tokens, is_unshifted, list_start, moved_tokens, other_tokens}
use Rattle.hm_text32_rows.specs.Rows.{single_tokens, tokens_of}
use Rattle.hm_text32_rows.specs.Mnemonics.{barrier_mnemonic, carry_mnemonic, data_mnemonic, move_mnemonic, test_mnemonic, shift_mnemonic_with_flags, wide}
use Rattle.hm_text32_rows.specs.Mnemonics.{wide_list_mnemonic, wide_list_suffix}
use Rattle.hm_text_tables.specs.Tables.{AreOfRow}
use Rattle.hm_text_tables.proofs.Formed.{Formed}
use Rattle.hm_text_tables.proofs.FormedNarrow.{taken_braces}
use Rattle.hm_text_tables.proofs.VectorNames.{begins_with_v}
use Rattle.hm_text_tables.proofs.WideNames.{is_not_narrow, is_wide_line}

-- MNEMONICS that no row of another table has, and lines that begin with one
record IsFree (w : List ℕ) : Type 0 where
  is : (is_not_narrow w && not (begins_with_v w)) ≡ true

record IsNamed (ts : List Tok) : Type 0 where
  is : is_wide_line ts ≡ true

chosen : (b : Bool) {xs ys : List Tok} → IsNamed xs → IsNamed ys → IsNamed (cond b xs ys)
chosen true p q = p
chosen false p q = q

line : {w : List ℕ} {ts : List Tok} → IsFree w → IsNamed (word w ∷ ts)
line {w = w} {ts = ts} free = let p = and_parts (is_not_narrow w) (not (begins_with_v w)) free.is in record { is = rw (p.0, p.1) refl }

free_data : (name : DataName) (s : ℕ) → IsFree (data_mnemonic name s ++ wide)
free_data name s = grind arith

free_test : (name : DataName) → IsFree (test_mnemonic name ++ wide)
free_test data_.And = record { is = refl }
free_test name = record { is = refl }

free_move : (name : DataName) (s : ℕ) → IsFree (move_mnemonic name s ++ wide)
free_move name s = grind arith

free_carry : (s : ℕ) → IsFree (carry_mnemonic s)
free_carry s = grind arith

free_shift : (ty s : ℕ) → ty < 4 → s < 2 → IsFree (shift_mnemonic_with_flags ty s ++ wide)
free_shift ty zero lt bit =
    record { is = below_holds (λ j. let w = shift_mnemonic_with_flags j 0 ++ wide in is_not_narrow w && not (begins_with_v w)) 4 ty refl lt }
free_shift ty (suc zero) lt bit =
    record { is = below_holds (λ j. let w = shift_mnemonic_with_flags j 1 ++ wide in is_not_narrow w && not (begins_with_v w)) 4 ty refl lt }
free_shift ty (suc (suc s)) lt bit = absurd (omega arith)

free_barrier : (name : BarrierName) → IsFree (barrier_mnemonic name)
free_barrier name = grind arith

-- rows T1 and T2, whose mnemonic goes by their registers too
constant_named : (name : DataName) (s n d c : ℕ) → IsNamed (constant_tokens name s n d c)
constant_named name s n d c = chosen (nat_eq d 15) (line (free_test name)) (chosen (nat_eq n 15) (line (free_move name s)) (line (free_data name s)))

shifted_named : (w : List ℕ) (ts : List Tok) (ty k : ℕ) → IsFree w → IsNamed (and_shifted (word w ∷ ts) ty k)
shifted_named w ts ty k free = chosen (is_by_carry ty k) (line free) (chosen (nat_eq (shift_number ty k) 0) (line free) (line free))

moved_named : (s d m ty k : ℕ) → ty < 4 → s < 2 → IsNamed (moved_tokens s d m ty k)
moved_named s d m ty k lt bit =
    chosen (is_by_carry ty k) (line (free_carry s)) (chosen (is_unshifted ty k) (line (free_move data_.Orr s)) (line (free_shift ty s lt bit)))

single_named : (name : DataName) (s d m ty k : ℕ) → ty < 4 → s < 2 → IsNamed (single_tokens name s d m ty k)
single_named data_.Orr s d m ty k lt bit = moved_named s d m ty k lt bit
single_named name s d m ty k lt bit = shifted_named (move_mnemonic name s ++ wide) (r d ∷ comma ∷ r m ∷ []) ty k (free_move name s)

data_named : (name : DataName) (s n d m ty k : ℕ) → ty < 4 → s < 2 → IsNamed (data_tokens name s n d m ty k)
data_named name s n d m ty k lt bit =
    chosen (nat_eq d 15) (shifted_named (test_mnemonic name ++ wide) (r n ∷ comma ∷ r m ∷ []) ty k (free_test name))
    (chosen (nat_eq n 15) (single_named name s d m ty k lt bit)
    (shifted_named (data_mnemonic name s ++ wide) (r d ∷ comma ∷ r n ∷ comma ∷ r m ∷ []) ty k (free_data name s)))

-- all rows at once, whatever their label is, but for T1 and T2, and for T9, which is quicker by itself
printed_named : (i : WideRow) (t : Tok) → IsNamed (tokens_of i t)
printed_named (T1 i) t = constant_named i.name i.s.value i.n.value i.d.value _
printed_named (T2 i) t = data_named i.name i.s.value i.n.value i.d.value i.m.value i.ty.value (imm5 i.i3.value i.i2.value) i.ty.in_range i.s.in_range
printed_named (T9 i) t = chosen (nat_eq (8 * i.r.value) 0) (line (grind arith)) (line (grind arith))
printed_named i t = grind arith

-- the other texts
other_named : (i : WideRow) (ts : List Tok) → other_tokens i ≡ Some ts → is_wide_line ts ≡ true
other_named (T19 (t19.Barrier i)) ts e =
    let a = test_some (nat_eq i.o.value 15) (Some (word (barrier_mnemonic i.name) ∷ [])) ts e in
    subst (λ (x : List Tok). is_wide_line x ≡ true) (some_is (word (barrier_mnemonic i.name) ∷ []) ts a.1) (line {ts = []} (free_barrier i.name)).is
other_named i ts e = absurd cc

pub wide_named : (i : WideRow) (t : Tok) (ts : List Tok) → AreOfRow (by.Wide i) t ts → is_wide_line ts ≡ true
wide_named i t ts (inl is) = subst (λ (x : List Tok). is_wide_line x ≡ true) is (printed_named i t).is
wide_named i t ts (inr is) = other_named i ts is

-- THE FORM
-- a list has two registers or more
some_listed : (name : WideListName) (w n list : ℕ) → is_wide_list name w n list ≡ true → 0 < list
some_listed name w n list e = grind (arith, nat_tests, ones_le_self)

list_formed : (w n : ℕ) (name : List ℕ) (ts : List Tok) → takes (ops.Operand Outside) (map kind ts) ≡ true → Formed (list_start name w n ++ ts)
list_formed w n name ts e = grind arith

either_formed : (b : Bool) {xs ys : List Tok} → Formed xs → Formed ys → Formed (cond b xs ys)
either_formed true p q = p
either_formed false p q = q

two_formed : (w : List ℕ) (a b ty k : ℕ) → Formed (and_shifted (two w (r a) (r b)) ty k)
two_formed w a b ty k = grind arith

three_formed : (w : List ℕ) (a b c ty k : ℕ) → Formed (and_shifted (three w (r a) (r b) (r c)) ty k)
three_formed w a b c ty k = grind arith

single_formed : (name : DataName) (s d m ty k : ℕ) → Formed (single_tokens name s d m ty k)
single_formed name s d m ty k = grind arith

data_formed : (name : DataName) (s n d m ty k : ℕ) → Formed (data_tokens name s n d m ty k)
data_formed name s n d m ty k =
    either_formed (nat_eq d 15) (two_formed (test_mnemonic name ++ wide) n m ty k)
    (either_formed (nat_eq n 15) (single_formed name s d m ty k) (three_formed (data_mnemonic name s ++ wide) d n m ty k))

pub formed_wide : (i : WideRow) (a : ℕ) → Formed (tokens_of i (number a))
formed_wide (T2 i) a = data_formed i.name i.s.value i.n.value i.d.value i.m.value i.ty.value (imm5 i.i3.value i.i2.value)
formed_wide (T14 i) a =
    list_formed i.w.value i.n.value (wide_list_mnemonic i.name ++ wide_list_suffix i.name) (braces i.list.value)
    (taken_braces i.list.value i.list.in_range (some_listed i.name i.w.value i.n.value i.list.value i.rules))
formed_wide i a = grind arith
