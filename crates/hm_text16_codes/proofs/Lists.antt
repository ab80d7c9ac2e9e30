-- Rows of lists of registers, and blocks: their texts give their operands, and are printed and read back; and the code of a list.
use Rattle.std.proofs.Common.{◌≡◌, ℕ, zero, suc, ◌+◌, ◌/◌, ◌%◌, ◌^◌, ◌<◌, Bool, true, false, cond, List, [], ◌∷◌, ◌++◌, refl}
use Rattle.std.proofs.Common.{None, Some, ap, sym, subst, arith, ◌∙◌}
use Rattle.std.specs.Prelude.{codes, nat_eq, nat_lt, ◌&&◌}
use Rattle.std.proofs.lemmas.Bool.{and_parts, eqb-true}
use Rattle.hm_isa.specs.declared.widths.NarrowRow.TheVariants as narrow
use Rattle.hm_isa.specs.declared.narrow.ListName.{ListName}
use Rattle.hm_isa.specs.declared.narrow.ListName.TheVariants as list
use Rattle.hm_isa.specs.declared.narrow.S20.{S20}
use Rattle.hm_isa.specs.declared.narrow.S21.{S21}
use Rattle.hm_isa.specs.Code.{code_s20, list_base}
use Rattle.hm_isa.specs.Rules.{keeps_list, listed_in}
use Rattle.hm_isa.specs.Standing.{◌↑◌}
use Rattle.hm_tokens.specs.Tokens.{Tok, word, comma, bang}
use Rattle.hm_text_rows.proofs.Braces.{printed_braces, printed_list}
use Rattle.hm_text_rows.proofs.Printed.{IsPrinted, without_suffix}
use Rattle.hm_text16_codes.specs.declared.operands.Operands.{Operands}
use Rattle.hm_text16_codes.specs.Asked.{operands_of}
use Rattle.hm_text16_codes.specs.Operands.{read_narrow_operands}
use Rattle.hm_text_rows.specs.Operands.{bits_of, braced}
use Rattle.hm_text_rows.specs.Shapes.{braces, r}
use Rattle.hm_text_rows.proofs.Words.{below_holds, is_mnemonic}
use Rattle.hm_text16_rows.specs.Rows.{list_tokens}
use Rattle.hm_text16_rows.specs.Mnemonics.{letters_above}
use Rattle.hm_text16_codes.proofs.Words.{a_condition, a_low}
use Rattle.hm_text16_rows.proofs.Registers.{Braces, low_braces, pop_braces, push_braces}
use Rattle.hm_text16_codes.proofs.Forms.{reads_one}
use Rattle.hm_text16_codes.proofs.Asked.{RowLaw, plain_row}

-- ---- lists

-- the code of a list, by its name
abbrev pub list_code : ListName → Operands → ℕ
list_code list.Push o = list_base list.Push + (o.registers / 2 ^ 14 % 2) ↑ 8 + o.registers % 256
list_code list.Pop o = list_base list.Pop + (o.registers / 2 ^ 15 % 2) ↑ 8 + o.registers % 256
list_code list.Stm o = list_base list.Stm + o.first ↑ 8 + o.registers
list_code list.Ldm o = list_base list.Ldm + o.first ↑ 8 + o.registers

pub record ListRow (name : ListName) (ts : List Tok) (c : ℕ) : Type 0 where
  pub code : list_code name (read_narrow_operands ts) ≡ c
  pub some : 0 < (read_narrow_operands ts).registers
  pub prints : IsPrinted ts

push_field : (x m : ℕ) → x < 2 → m < 256 → ((m + x ↑ 14) / 2 ^ 14 % 2 ≡ x) × ((m + x ↑ 14) % 256 ≡ m)
push_field zero m hx hm = (omega arith, omega arith)
push_field (suc zero) m hx hm = (omega arith, omega arith)
push_field (suc (suc x)) m hx hm = absurd (omega arith)

pop_field : (x m : ℕ) → x < 2 → m < 256 → ((m + x ↑ 15) / 2 ^ 15 % 2 ≡ x) × ((m + x ↑ 15) % 256 ≡ m)
pop_field zero m hx hm = (omega arith, omega arith)
pop_field (suc zero) m hx hm = (omega arith, omega arith)
pop_field (suc (suc x)) m hx hm = absurd (omega arith)

printed_written : (s : List ℕ) (n regs : ℕ) → is_mnemonic s ≡ true → n < 8 → Braces regs → IsPrinted (word s ∷ r n ∷ bang ∷ comma ∷ braces regs)
printed_written s n regs mnemonic hn b = without_suffix s _ (printed_list s [] 1 n regs mnemonic refl (omega arith) (omega (arith, hn)) b.few)

printed_read : (s : List ℕ) (n regs : ℕ) → is_mnemonic s ≡ true → n < 8 → Braces regs → IsPrinted (word s ∷ r n ∷ comma ∷ braces regs)
printed_read s n regs mnemonic hn b = without_suffix s _ (printed_list s [] 0 n regs mnemonic refl (omega arith) (omega (arith, hn)) b.few)

bare_bits : (s : List ℕ) (m : ℕ) → Braces m → (read_narrow_operands (word s ∷ braces m)).registers ≡ m
unfolding braced
bare_bits s m b = b.bits

written_bits : (s : List ℕ) (n m : ℕ) → Braces m → bits_of (braced (word s ∷ r n ∷ bang ∷ comma ∷ braces m)) ≡ m
unfolding braced
written_bits s n m b = b.bits

read_bits : (s : List ℕ) (n m : ℕ) → Braces m → bits_of (braced (word s ∷ r n ∷ comma ∷ braces m)) ≡ m
unfolding braced
read_bits s n m b = b.bits

push_row : (x n m : ℕ) → x < 2 → m < 256 → n ≡ 0 → 0 < m + x
    → ListRow list.Push (word (codes "push") ∷ braces (m + x ↑ 14)) (list_base list.Push + x ↑ 8 + n ↑ 8 + m)
push_row x n m hx hm hn some =
    let b = push_braces x m hx hm in
    let f = push_field x m hx hm in
    record {
      code =
          ap (λ (regs : ℕ). list_base list.Push + (regs / 2 ^ 14 % 2) ↑ 8 + regs % 256) (bare_bits (codes "push") (m + x ↑ 14) b)
          ∙ rw (f.0, f.1, hn) (omega arith);
      some = subst (λ (regs : ℕ). 0 < regs) (sym (bare_bits (codes "push") (m + x ↑ 14) b)) (omega arith);
      prints = without_suffix (codes "push") _ (printed_braces (codes "push") [] (m + x ↑ 14) refl refl b.few);
    }

pop_row : (x n m : ℕ) → x < 2 → m < 256 → n ≡ 0 → 0 < m + x
    → ListRow list.Pop (word (codes "pop") ∷ braces (m + x ↑ 15)) (list_base list.Pop + x ↑ 8 + n ↑ 8 + m)
pop_row x n m hx hm hn some =
    let b = pop_braces x m hx hm in
    let f = pop_field x m hx hm in
    record {
      code =
          ap (λ (regs : ℕ). list_base list.Pop + (regs / 2 ^ 15 % 2) ↑ 8 + regs % 256) (bare_bits (codes "pop") (m + x ↑ 15) b)
          ∙ rw (f.0, f.1, hn) (omega arith);
      some = subst (λ (regs : ℕ). 0 < regs) (sym (bare_bits (codes "pop") (m + x ↑ 15) b)) (omega arith);
      prints = without_suffix (codes "pop") _ (printed_braces (codes "pop") [] (m + x ↑ 15) refl refl b.few);
    }

stm_row : (x n m : ℕ) → n < 8 → m < 256 → x ≡ 0 → 0 < m
    → ListRow list.Stm (word (codes "stm") ∷ r n ∷ bang ∷ comma ∷ braces m) (list_base list.Stm + x ↑ 8 + n ↑ 8 + m)
stm_row x n m hn hm hx some =
    let b = low_braces m hm in
    record {
      code = rw ((a_low n hn).value, written_bits (codes "stm") n m b, hx) (omega arith);
      some = rw (written_bits (codes "stm") n m b) some;
      prints = printed_written (codes "stm") n m refl hn b;
    }

ldm_row : (x n m : ℕ) → n < 8 → m < 256 → x ≡ 0 → 0 < m → (b : Bool)
    → ListRow list.Ldm (cond b (word (codes "ldm") ∷ r n ∷ comma ∷ []) (word (codes "ldm") ∷ r n ∷ bang ∷ comma ∷ []) ++ braces m)
    (list_base list.Ldm + x ↑ 8 + n ↑ 8 + m)
ldm_row x n m hn hm hx some true =
    let b = low_braces m hm in
    record {
      code = rw ((a_low n hn).value, read_bits (codes "ldm") n m b, hx) (omega arith);
      some = rw (read_bits (codes "ldm") n m b) some;
      prints = printed_read (codes "ldm") n m refl hn b;
    }
ldm_row x n m hn hm hx some false =
    let b = low_braces m hm in
    record {
      code = rw ((a_low n hn).value, written_bits (codes "ldm") n m b, hx) (omega arith);
      some = rw (written_bits (codes "ldm") n m b) some;
      prints = printed_written (codes "ldm") n m refl hn b;
    }

-- what the rule of S20 says
no_n : (x n m : ℕ) → (nat_lt 0 (m + x) && nat_eq n 0) ≡ true → n ≡ 0
no_n x n m e = eqb-true n 0 (and_parts _ _ e).1

is_some : (m : ℕ) → nat_lt 0 m ≡ true → 0 < m
is_some m e = grind arith

list_row : (name : ListName) (x n m : ℕ) → x < 2 → n < 8 → m < 256 → keeps_list name x n m ≡ true
    → ListRow name (list_tokens name x n m) (list_base name + x ↑ 8 + n ↑ 8 + m)
list_row list.Push x n m hx hn hm e = push_row x n m hx hm (no_n x n m e) (is_some (m + x) (and_parts _ _ e).0)
list_row list.Pop x n m hx hn hm e = pop_row x n m hx hm (no_n x n m e) (is_some (m + x) (and_parts _ _ e).0)
list_row list.Stm x n m hx hn hm e =
    let p = and_parts _ _ (and_parts _ _ e).0 in
    stm_row x n m hn hm (eqb-true x 0 p.1) (is_some m p.0)
list_row list.Ldm x n m hx hn hm e =
    let p = and_parts _ _ e in
    ldm_row x n m hn hm (eqb-true x 0 p.1) (is_some m p.0) (listed_in m n)

pub row_of_list : (i : S20)
    → ListRow i.name (list_tokens i.name i.x.value i.n.value i.list.value) (list_base i.name + i.x.value ↑ 8 + i.n.value ↑ 8 + i.list.value)
row_of_list i = list_row i.name i.x.value i.n.value i.list.value i.x.in_range i.n.in_range i.list.in_range i.row

pub no_name : (name : ListName) → None ≡ Some name → ⊥
no_name name e = cc

pub same_name : (name other : ListName) → Some name ≡ Some other → name ≡ other
same_name name other e = cc

pub code_of_list : (name : ListName) (i : S20) (t : Tok) (o : Operands) → i.name ≡ name → o ≡ operands_of (narrow.S20 i) t → list_code name o ≡ code_s20 i
code_of_list name i t o is e =
    subst (λ (n : ListName). list_code n o ≡ code_s20 i) is (subst (λ (x : Operands). list_code i.name x ≡ code_s20 i) (sym e) (row_of_list i).code)

pub some_listed : (i : S20) (t : Tok) (o : Operands) → o ≡ operands_of (narrow.S20 i) t → 0 < o.registers
some_listed i t o e = subst (λ (x : Operands). 0 < x.registers) (sym e) (row_of_list i).some

pub row_s20 : (i : S20) → RowLaw (narrow.S20 i)
row_s20 i = record { gives = λ t l. refl; prints = (row_of_list i).prints }

-- ---- blocks

mnemonic_low : (low : ℕ) (m : ℕ) → low < 2 → m < 16 → is_mnemonic (codes "it" ++ letters_above low m) ≡ true
mnemonic_low zero m hl lt = below_holds (λ j. is_mnemonic (codes "it" ++ letters_above 0 j)) 16 m refl lt
mnemonic_low (suc zero) m hl lt = below_holds (λ j. is_mnemonic (codes "it" ++ letters_above 1 j)) 16 m refl lt
mnemonic_low (suc (suc low)) m hl lt = absurd (omega arith)

pub row_s21 : (i : S21) → RowLaw (narrow.S21 i)
row_s21 i =
    plain_row (narrow.S21 i) _ refl (λ t. refl)
    (reads_one _ _ _ (mnemonic_low (i.c.value % 2) i.mask.value (omega arith) i.mask.in_range) (a_condition i.c.value i.c.in_range))
