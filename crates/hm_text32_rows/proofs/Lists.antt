-- Rows of lists of registers: how many there are, and the tokens of a whole row.
use Rattle.std.proofs.Common.{◌≡◌, ℕ, ◌≤◌, Bool, true, false, cond, List, [], ◌∷◌, ◌++◌, length, refl, sym, subst, ◌∙◌, arith}
use Rattle.std.specs.Prelude.{nat_eq, nat_le, not, count_ones, ◌&&◌, ◌||◌}
use Rattle.std.proofs.lemmas.Bool.{and_parts, not-true}
use Rattle.hm_isa.specs.declared.wide.T14.{T14}
use Rattle.hm_isa.specs.declared.wide.WideListName.{WideListName}
use Rattle.hm_isa.specs.declared.wide.WideListName.TheVariants as wide_list
use Rattle.hm_isa.specs.Rules.{is_wide_list, listed_in, may_list}
use Rattle.hm_tokens.specs.Tokens.{Tok}
use Rattle.hm_text_rows.specs.Shapes.{registers_from}
use Rattle.hm_text_rows.proofs.Registers.{front_count}
use Rattle.hm_text32_rows.specs.Rows.{list_start}

-- HOW MANY THERE ARE
one_of_two : (x y : Bool) (j k : ℕ) → (x && y) ≡ false → length (cond x (j ∷ cond y (k ∷ []) []) (cond y (k ∷ []) [])) ≤ 1
one_of_two true true j k e = absurd cc
one_of_two true false j k e = omega arith
one_of_two false true j k e = omega arith
one_of_two false false j k e = omega arith

and_no : (x y : Bool) → y ≡ false → (x && y) ≡ false
and_no true y e = e
and_no false y e = refl

not_both : (name : WideListName) (list : ℕ) → may_list name list ≡ true → (listed_in list 14 && listed_in list 15) ≡ false
not_both wide_list.Stmia list e = and_no (listed_in list 14) (listed_in list 15) (not-true (listed_in list 15) e)
not_both wide_list.Stmdb list e = and_no (listed_in list 14) (listed_in list 15) (not-true (listed_in list 15) e)
not_both wide_list.Ldmia list e = not-true (listed_in list 14 && listed_in list 15) e
not_both wide_list.Ldmdb list e = not-true (listed_in list 14 && listed_in list 15) e

few_of : (name : WideListName) (w n list : ℕ) → is_wide_list name w n list ≡ true → length (registers_from 16 0 list) ≤ 14
few_of name w n list e =
    let a = and_parts (nat_le 2 (count_ones list) && not (listed_in list 13) && may_list name list && not (nat_eq n 15)) (nat_eq w 0 || not (listed_in list n))
    e in
    let b = and_parts (nat_le 2 (count_ones list) && not (listed_in list 13) && may_list name list) (not (nat_eq n 15)) a.0 in
    let c = and_parts (nat_le 2 (count_ones list) && not (listed_in list 13)) (may_list name list) b.0 in
    let d = and_parts (nat_le 2 (count_ones list)) (not (listed_in list 13)) c.0 in
    let no_sp = not-true (listed_in list 13) d.1 in
    let last : length (registers_from 3 13 list) ≤ 1 = rw no_sp (one_of_two (listed_in list 14) (listed_in list 15) 14 15 (not_both name list c.1)) in
    let front = front_count 13 3 0 list in
    omega (arith, front, last)

pub few_listed : (i : T14) → length (registers_from 16 0 i.list.value) ≤ 14
few_listed i = few_of i.name i.w.value i.n.value i.list.value i.rules

-- THE TEXT
pub text_list : (g : ℕ → List Tok) (all start : List Tok) (s f s2 f2 : List ℕ) (w n n2 list list2 : ℕ) → all ≡ start ++ g list2
    → start ≡ list_start (s2 ++ f2) w n2 → s2 ≡ s → f2 ≡ f → n2 ≡ n → list2 ≡ list
    → all ≡ list_start (s ++ f) w n ++ g list
text_list g all start s f s2 f2 w n n2 list list2 ea es e1 e2 en el = ea ∙ (λ j. es j ++ g (el j)) ∙ (λ j. list_start (e1 j ++ e2 j) w (en j) ++ g list)

pub few_same : (i : T14) (list : ℕ) → list ≡ i.list.value → length (registers_from 16 0 list) ≤ 14
few_same i list e = subst (λ (x : ℕ). length (registers_from 16 0 x) ≤ 14) (sym e) (few_listed i)
