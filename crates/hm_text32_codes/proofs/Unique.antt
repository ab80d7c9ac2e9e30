-- A text is of one row: rows whose texts give a reader the same, and whose labels name one address, have one code.
use Rattle.std.proofs.Common.{◌≡◌, ℕ, ◌+◌, ◌/◌, ◌^◌, ◌<◌, false, Option, Some, None, refl, sym, ap, inl, inr, ◌∙◌, arith}
use Rattle.std.proofs.lemmas.Bool.Decides.{nat_tests}
use Rattle.std.proofs.lemmas.Bool.{cases_Bool, false≢true}
use Rattle.hm_isa.specs.declared.arith.T11.TheVariants as t11
use Rattle.hm_isa.specs.declared.jumps.LoopEnd.{LoopEnd}
use Rattle.hm_isa.specs.declared.jumps.T16.TheVariants as t16
use Rattle.hm_isa.specs.declared.jumps.T23.TheVariants as t23
use Rattle.hm_isa.specs.declared.jumps.WideBranchName.{WideBranchName}
use Rattle.hm_isa.specs.declared.system.Barrier.{Barrier}
use Rattle.hm_isa.specs.declared.system.BarrierName.{BarrierName}
use Rattle.hm_isa.specs.declared.system.T18.TheVariants as t18
use Rattle.hm_isa.specs.declared.system.T19.TheVariants as t19
use Rattle.hm_isa.specs.declared.wide.T12.TheVariants as t12
use Rattle.hm_isa.specs.declared.wide.WideListName.{WideListName}
use Rattle.hm_isa.specs.declared.widths.WideRow.{WideRow}
use Rattle.hm_isa.specs.declared.widths.WideRow.TheVariants as wide
use Rattle.hm_isa.specs.Code.{wide_code, wide_list_base}
use Rattle.hm_isa.specs.JumpCodes.{label_field, loop_end_base, wide_branch_base}
use Rattle.hm_isa.specs.Standing.{◌↑◌}
use Rattle.hm_isa.specs.SystemCodes.{barrier_base}
use Rattle.hm_text_base.proofs.Steps.{some_is}
use Rattle.hm_tokens.specs.Tokens.{Tok}
use Rattle.hm_text_rows.specs.Labels.{Reaches, distance}
use Rattle.hm_text_rows.specs.Operands.{branch_condition_in}
use Rattle.hm_text_rows.proofs.Branches.{condition_back}
use Rattle.hm_text32_rows.specs.Mnemonics.{barrier_mnemonic, wide_branch_mnemonic, wide_list_mnemonic}
use Rattle.hm_text32_rows.specs.Targets.{target}
use Rattle.hm_text32_codes.specs.declared.operands.Operands.{Operands}
use Rattle.hm_text32_codes.specs.Asked.{AsksBare, loop_end_mnemonic, mnemonic_of, operands_of}
use Rattle.hm_text32_codes.proofs.DataForms.{data_row, has_data_mnemonic, is_data_row, same_data}
use Rattle.hm_text32_codes.proofs.Inverses.{indexed_base, indexed_use, insert_end, offset_base, stack_count}
use Rattle.hm_text32_codes.proofs.Lists.{list_back, list_code}
use Rattle.hm_text32_codes.proofs.OnLabels.{ahead_back, always_back, always_code, behind_back, conditional_back, conditional_code}

-- BRANCHES UNDER A CONDITION, which their mnemonics tell, and those of no other row
abbrev pub condition_of : WideRow → Option ℕ
condition_of (wide.T16 (t16.Conditional i)) = Some i.c.value
condition_of r = None

condition_row : (r : WideRow) → is_data_row r ≡ false → branch_condition_in (mnemonic_of r) ≡ condition_of r
condition_row (wide.T16 (t16.Conditional i)) e = condition_back i.c.value i.c.in_range
condition_row (wide.T11 (t11.Operation i)) e = grind arith
condition_row (wide.T12 (t12.Offset i)) e = grind arith
condition_row (wide.T18 (t18.Read i)) e = grind arith
condition_row (wide.T19 (t19.Barrier i)) e = grind arith
condition_row (wide.T23 (t23.End i)) e = grind arith
condition_row r e = grind arith

same_condition : (r s : WideRow) → is_data_row r ≡ false → is_data_row s ≡ false → mnemonic_of r ≡ mnemonic_of s → condition_of r ≡ condition_of s
same_condition r s e f em = sym (condition_row r e) ∙ ap branch_condition_in em ∙ condition_row s f

-- NAMES by their mnemonics
same_branch : (name other : WideBranchName) → wide_branch_mnemonic name ≡ wide_branch_mnemonic other → name ≡ other
same_branch name other e = grind arith

same_list_name : (name other : WideListName) → wide_list_mnemonic name ≡ wide_list_mnemonic other → name ≡ other
same_list_name name other e = grind arith

same_end : (i j : LoopEnd) (t u : Tok) → loop_end_mnemonic i.name ≡ loop_end_mnemonic j.name
    → operands_of (wide.T23 (t23.End i)) t ≡ operands_of (wide.T23 (t23.End j)) u
    → i.name ≡ j.name
same_end i j t u em eo = grind (arith, em, ap (λ (o : Operands). o.is_single) eo)

-- ALL ROWS BUT T1, T2 AND T8: each pair that is not named has other mnemonics
same_plain : (r s : WideRow) (t u : Tok) (pc a : ℕ) → is_data_row r ≡ false → is_data_row s ≡ false → mnemonic_of r ≡ mnemonic_of s
    → operands_of r t ≡ operands_of s u → pc < 2 ^ 32 → Reaches (target r pc) a → Reaches (target s pc) a → wide_code r ≡ wide_code s
same_plain (wide.T16 (t16.Conditional i)) (wide.T16 (t16.Conditional j)) t u pc a e f em eo hp p q =
    let c = some_is i.c.value j.c.value (same_condition (wide.T16 (t16.Conditional i)) (wide.T16 (t16.Conditional j)) e f em) in
    sym (conditional_back i pc a hp p) ∙ ap (λ (c : ℕ). conditional_code c (distance (pc + 4) a / 2)) c ∙ conditional_back j pc a hp q
same_plain (wide.T16 (t16.Conditional i)) s t u pc a e f em eo hp p q = absurd (let n = same_condition (wide.T16 (t16.Conditional i)) s e f em in cc)
same_plain r (wide.T16 (t16.Conditional j)) t u pc a e f em eo hp p q = absurd (let n = same_condition r (wide.T16 (t16.Conditional j)) e f em in cc)
same_plain (wide.T16 (t16.Always i)) (wide.T16 (t16.Always j)) t u pc a e f em eo hp p q =
    sym (always_back i pc a hp p)
    ∙ ap (λ (n : WideBranchName). always_code (wide_branch_base n) (distance (pc + 4) a / 2)) (same_branch i.name j.name em) ∙ always_back j pc a hp q
same_plain (wide.T23 (t23.Wls i)) (wide.T23 (t23.Wls j)) t u pc a e f em eo hp p q =
    let v = sym (ahead_back pc i.v.value a hp i.v.in_range p) ∙ ahead_back pc j.v.value a hp j.v.in_range q in
    let n = ap (λ (o : Operands). o.second) eo in
    λ k. 0xf040c001 + n k ↑ 16 + label_field (v k)
same_plain (wide.T23 (t23.Wlstp i)) (wide.T23 (t23.Wlstp j)) t u pc a e f em eo hp p q =
    let v = sym (ahead_back pc i.v.value a hp i.v.in_range p) ∙ ahead_back pc j.v.value a hp j.v.in_range q in
    let n = ap (λ (o : Operands). o.second) eo in
    let z = ap (λ (o : Operands). o.size) eo in
    λ k. 0xf000c001 + z k ↑ 20 + n k ↑ 16 + label_field (v k)
same_plain (wide.T23 (t23.End i)) (wide.T23 (t23.End j)) t u pc a e f em eo hp p q =
    let v = sym (behind_back pc i.v.value a hp i.v.in_range p) ∙ behind_back pc j.v.value a hp j.v.in_range q in
    let name = same_end i j t u em eo in
    λ k. loop_end_base (name k) + label_field (v k)
same_plain (wide.T3 i) (wide.T3 j) t u pc a e f em eo hp p q = grind (arith, i.i3.in_range, i.i8.in_range, j.i3.in_range, j.i8.in_range)
same_plain (wide.T4 i) (wide.T4 j) t u pc a e f em eo hp p q =
    grind (arith, i.i.in_range, i.i3.in_range, i.i8.in_range, j.i.in_range, j.i3.in_range, j.i8.in_range)
same_plain (wide.T5 i) (wide.T5 j) t u pc a e f em eo hp p q = grind (arith, i.i2.in_range, j.i2.in_range)
same_plain (wide.T6 i) (wide.T6 j) t u pc a e f em eo hp p q = grind (arith, i.i2.in_range, j.i2.in_range)
same_plain (wide.T7 i) (wide.T7 j) t u pc a e f em eo hp p q = grind (arith, nat_tests, i.i2.in_range, j.i2.in_range, insert_end i, insert_end j)
same_plain (wide.T12 (t12.Offset i)) (wide.T12 (t12.Offset j)) t u pc a e f em eo hp p q = grind arith
same_plain (wide.T12 (t12.Offset i)) (wide.T12 (t12.Indexed j)) t u pc a e f em eo hp p q =
    absurd (indexed_use j (sym (ap (λ (o : Operands). o.back) eo)) (sym (ap (λ (o : Operands). o.added) eo)))
same_plain (wide.T12 (t12.Indexed i)) (wide.T12 (t12.Offset j)) t u pc a e f em eo hp p q =
    absurd (indexed_use i (ap (λ (o : Operands). o.back) eo) (ap (λ (o : Operands). o.added) eo))
same_plain (wide.T12 (t12.Offset i)) (wide.T12 (t12.Literal j)) t u pc a e f em eo hp p q = absurd (offset_base i (ap (λ (o : Operands). o.second) eo))
same_plain (wide.T12 (t12.Literal i)) (wide.T12 (t12.Offset j)) t u pc a e f em eo hp p q = absurd (offset_base j (sym (ap (λ (o : Operands). o.second) eo)))
same_plain (wide.T12 (t12.Indexed i)) (wide.T12 (t12.Literal j)) t u pc a e f em eo hp p q = absurd (indexed_base i (ap (λ (o : Operands). o.second) eo))
same_plain (wide.T12 (t12.Literal i)) (wide.T12 (t12.Indexed j)) t u pc a e f em eo hp p q = absurd (indexed_base j (sym (ap (λ (o : Operands). o.second) eo)))
same_plain (wide.T11 (t11.Operation i)) (wide.T11 (t11.Operation j)) t u pc a e f em eo hp p q = grind arith
same_plain (wide.T14 i) (wide.T14 j) t u pc a e f em eo hp p q =
    sym (list_back i t _ refl) ∙ (λ k. list_code (wide_list_base (same_list_name i.name j.name em k)) (eo k)) ∙ list_back j u _ refl
same_plain (wide.T15 i) (wide.T15 j) t u pc a e f em eo hp p q = grind (arith, stack_count i, stack_count j)
same_plain (wide.T18 (t18.Read i)) (wide.T18 (t18.Read j)) t u pc a e f em eo hp p q = grind arith
same_plain (wide.T19 t19.Nop) (wide.T19 t19.Nop) t u pc a e f em eo hp p q = refl
same_plain (wide.T14 i) s t u pc a e f em _ hp p q = absurd (grind arith)
same_plain r (wide.T14 j) t u pc a e f em _ hp p q = absurd (grind arith)
same_plain r s t u pc a e f em eo hp p q = grind arith

pub same_code : (r s : WideRow) (t u : Tok) (pc a : ℕ) → mnemonic_of r ≡ mnemonic_of s → operands_of r t ≡ operands_of s u → pc < 2 ^ 32
    → Reaches (target r pc) a → Reaches (target s pc) a → wide_code r ≡ wide_code s
same_code r s t u pc a em eo hp p q =
    let same = sym (data_row r) ∙ ap has_data_mnemonic em ∙ data_row s in
    elim (cases_Bool (is_data_row r)) [
      | inl e ↦ same_data r s t u e (sym same ∙ e) em eo
      | inr e ↦ same_plain r s t u pc a e (sym same ∙ e) em eo hp p q
    ]

-- A BARRIER BY ITS OTHER TEXT: its mnemonic is none of T1, T2 and T8
pub no_data : (name : BarrierName) → has_data_mnemonic (barrier_mnemonic name) ≡ false
no_data name = grind arith

-- no row gives a reader the same
bare_plain : (i : Barrier) (r : WideRow) (t : Tok) → is_data_row r ≡ false → AsksBare i (mnemonic_of r) (operands_of r t) → ⊥
bare_plain i (wide.T16 (t16.Conditional j)) t e asks =
    let none : branch_condition_in (barrier_mnemonic i.name) ≡ None = condition_row (wide.T19 (t19.Barrier i)) refl in
    let some = ap branch_condition_in asks.1 ∙ none in
    let told = condition_back j.c.value j.c.in_range in
    cc
bare_plain i (wide.T19 (t19.Barrier j)) t e asks = false≢true (ap (λ (o : Operands). o.is_bare) asks.2)
bare_plain i (wide.T11 (t11.Operation j)) t e asks = absurd (grind (arith, asks.1))
bare_plain i (wide.T12 (t12.Offset j)) t e asks = absurd (grind (arith, asks.1))
bare_plain i (wide.T18 (t18.Read j)) t e asks = absurd (grind (arith, asks.1))
bare_plain i (wide.T23 (t23.End j)) t e asks = absurd (grind (arith, asks.1))
bare_plain i r t e asks = absurd (grind (arith, asks.1))

pub bare_alone : (i : Barrier) (r : WideRow) (t : Tok) → AsksBare i (mnemonic_of r) (operands_of r t) → ⊥
bare_alone i r t asks = bare_plain i r t (sym (data_row r) ∙ ap has_data_mnemonic asks.1 ∙ no_data i.name) asks

-- and two such have one name
same_barrier : (name other : BarrierName) → barrier_mnemonic name ≡ barrier_mnemonic other → name ≡ other
same_barrier name other e = grind arith

pub bare_same : (i j : Barrier) → i.o.value ≡ 15 → j.o.value ≡ 15 → barrier_mnemonic i.name ≡ barrier_mnemonic j.name
    → wide_code (wide.T19 (t19.Barrier i)) ≡ wide_code (wide.T19 (t19.Barrier j))
bare_same i j e f em = λ k. barrier_base (same_barrier i.name j.name em k) + (e ∙ sym f) k
