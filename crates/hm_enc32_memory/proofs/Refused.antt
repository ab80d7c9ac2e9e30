-- Codes whose fields break the rule of one of the rows T12 to T14.
use Rattle.std.proofs.Common.{◌≡◌, ◌-◌, ◌*◌, ◌^◌, ℕ, true, false, [], ◌∷◌, refl, arith, sym, ◌∙◌}
use Rattle.hm_isa.specs.declared.narrow.AccessName.{AccessName}
use Rattle.hm_isa.specs.declared.wide.PairName.{PairName}
use Rattle.hm_isa.specs.declared.wide.Indexed.{Indexed}
use Rattle.hm_isa.specs.declared.wide.T13.{T13}
use Rattle.hm_isa.specs.declared.wide.WideListName.{WideListName}
use Rattle.hm_isa.specs.declared.wide.T14.{T14}
use Rattle.hm_isa.specs.Rules.{is_indexed, is_pair, is_wide_list}
use Rattle.hm_isa.specs.Code.{wide_access_base, code_indexed, pair_base, code_t13, wide_list_base, code_t14}
use Rattle.hm_layout.proofs.Places.{digits}
use Rattle.hm_layout.proofs.Rows.{named}
use Rattle.hm_code_fields.proofs.AtPlaces.{places_named, read}
use Rattle.hm_codes.proofs.Wides.{row_indexed, row_t13, row_t14}

-- what is left of a code of the row T12 with an index without its fields
abbrev pub rest_indexed : (w n t p u back i : ℕ) → ℕ
rest_indexed w n t p u back i = w - 0x800 - n * 2 ^ 16 - t * 2 ^ 12 - p * 2 ^ 10 - u * 2 ^ 9 - back * 2 ^ 8 - i

base_indexed : (w n t p u back i : ℕ) → digits (places_named row_indexed) w ≡ n ∷ t ∷ p ∷ u ∷ back ∷ i ∷ [] → (r : Indexed) → code_indexed r ≡ w
    → wide_access_base r.name ≡ rest_indexed w n t p u back i
base_indexed w n t p u back i split r e =
    let stands : digits (places_named row_indexed) w ≡ r.n.value ∷ r.t.value ∷ r.p.value ∷ r.u.value ∷ r.w.value ∷ r.i.value ∷ [] =
    read (named row_indexed) refl w r e in
    let fn : n ≡ r.n.value = cc in
    let ft : t ≡ r.t.value = cc in
    let fp : p ≡ r.p.value = cc in
    let fu : u ≡ r.u.value = cc in
    let fw : back ≡ r.w.value = cc in
    let fi : i ≡ r.i.value = cc in
    omega arith

same_access : (x y : AccessName) → wide_access_base x ≡ wide_access_base y → x ≡ y
same_access x y e = grind arith

pub refused_indexed : (w n t p u back i : ℕ) (x : AccessName) → digits (places_named row_indexed) w ≡ n ∷ t ∷ p ∷ u ∷ back ∷ i ∷ []
    → (rest : ℕ) → wide_access_base x ≡ rest → rest ≡ rest_indexed w n t p u back i → is_indexed x n t p u back ≡ false → (r : Indexed) → code_indexed r ≡ w → ⊥
refused_indexed w n t p u back i x split rest base without refused r e =
    let name : r.name ≡ x = same_access _ _ (base_indexed w n t p u back i split r e ∙ sym without ∙ sym base) in
    let stands : digits (places_named row_indexed) w ≡ r.n.value ∷ r.t.value ∷ r.p.value ∷ r.u.value ∷ r.w.value ∷ r.i.value ∷ [] =
    read (named row_indexed) refl w r e in
    let rules : is_indexed r.name r.n.value r.t.value r.p.value r.u.value r.w.value ≡ true = r.rules in
    cc

same_pair : (x y : PairName) → pair_base x ≡ pair_base y → x ≡ y
same_pair x y e = grind arith

pub refused_t13 : (w p add back n t u i : ℕ) (x : PairName) → digits (places_named row_t13) w ≡ p ∷ add ∷ back ∷ n ∷ t ∷ u ∷ i ∷ []
    → (rest : ℕ) → pair_base x ≡ rest → rest ≡ w - p * 2 ^ 24 - add * 2 ^ 23 - back * 2 ^ 21 - n * 2 ^ 16 - t * 2 ^ 12 - u * 2 ^ 8 - i
    → is_pair x p back n t u ≡ false → (r : T13) → code_t13 r ≡ w → ⊥
refused_t13 w p add back n t u i x split rest base without refused r e =
    let stands : digits (places_named row_t13) w ≡ r.p.value ∷ r.add.value ∷ r.w.value ∷ r.n.value ∷ r.t.value ∷ r.u.value ∷ r.i.value ∷ [] =
    read (named row_t13) refl w r e in
    let fp : p ≡ r.p.value = cc in
    let fa : add ≡ r.add.value = cc in
    let fw : back ≡ r.w.value = cc in
    let fn : n ≡ r.n.value = cc in
    let ft : t ≡ r.t.value = cc in
    let fu : u ≡ r.u.value = cc in
    let fi : i ≡ r.i.value = cc in
    let same : pair_base r.name ≡ pair_base x = omega arith in
    let name : r.name ≡ x = same_pair _ _ same in
    let rules : is_pair r.name r.p.value r.w.value r.n.value r.t.value r.u.value ≡ true = r.rules in
    cc

same_list : (x y : WideListName) → wide_list_base x ≡ wide_list_base y → x ≡ y
same_list x y e = grind arith

pub refused_t14 : (w back n list : ℕ) (x : WideListName) → digits (places_named row_t14) w ≡ back ∷ n ∷ list ∷ []
    → (rest : ℕ) → wide_list_base x ≡ rest → rest ≡ w - back * 2 ^ 21 - n * 2 ^ 16 - list → is_wide_list x back n list ≡ false
    → (r : T14) → code_t14 r ≡ w → ⊥
refused_t14 w back n list x split rest base without refused r e =
    let stands : digits (places_named row_t14) w ≡ r.w.value ∷ r.n.value ∷ r.list.value ∷ [] = read (named row_t14) refl w r e in
    let fw : back ≡ r.w.value = cc in
    let fn : n ≡ r.n.value = cc in
    let fl : list ≡ r.list.value = cc in
    let same : wide_list_base r.name ≡ wide_list_base x = omega arith in
    let name : r.name ≡ x = same_list _ _ same in
    let rules : is_wide_list r.name r.w.value r.n.value r.list.value ≡ true = r.rules in
    cc
