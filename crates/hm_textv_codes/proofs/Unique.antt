-- A text is of one row: rows whose texts give a reader the same have one code.
use Rattle.std.proofs.Common.{◌≡◌, ◌⊎◌, ℕ, ◌+◌, ◌*◌, ◌/◌, ◌^◌, ◌<◌, Bool, true, T, eqb, List, [], ◌∷◌, ◌++◌, map, inl, inr, refl, sym, ap}
use Rattle.std.proofs.Common.{subst, ◌∙◌, arith}
use Rattle.std.specs.Prelude.{◌&&◌, bytes_eq, codes}
use Rattle.std.specs.List.{list_any}
use Rattle.std.proofs.lemmas.Bool.{and_from, cases_Bool, eq-eqb, or_left, or_right}
use Rattle.std.proofs.lemmas.Bool.Decides.{nat_tests}
use Rattle.std.proofs.lemmas.Slice.Eq.{bytes_eq-Decides}
use Rattle.hm_isa.specs.declared.Vector.{Vector}
use Rattle.hm_isa.specs.declared.Vector.TheVariants as vector
use Rattle.hm_isa.specs.declared.memory.V24.{V24}
use Rattle.hm_isa.specs.declared.memory.V25.{V25}
use Rattle.hm_isa.specs.declared.vectors.ConstantShiftName.{ConstantShiftName}
use Rattle.hm_isa.specs.declared.vectors.Dot.{Dot}
use Rattle.hm_isa.specs.declared.vectors.NarrowingName.TheVariants as narrowing
use Rattle.hm_isa.specs.declared.vectors.V12.TheVariants as v12
use Rattle.hm_isa.specs.declared.vectors.V13.TheVariants as v13
use Rattle.hm_isa.specs.declared.vectors.V15.{V15}
use Rattle.hm_isa.specs.declared.vectors.V19.TheVariants as v19
use Rattle.hm_isa.specs.declared.vectors.V20.TheVariants as v20
use Rattle.hm_isa.specs.declared.vectors.V21.TheVariants as v21
use Rattle.hm_isa.specs.declared.vectors.V22.TheVariants as v22
use Rattle.hm_isa.specs.Code.{step_code, vector_code}
use Rattle.hm_isa.specs.Words.{imm8}
use Rattle.hm_text_rows.specs.Names.{bit_values, named}
use Rattle.hm_text_rows.proofs.Words.{◌▹◌, below_holds}
use Rattle.hm_tokens.specs.Tokens.{Tok}
use Rattle.hm_textv_rows.specs.Mnemonics.{access_mnemonic, add_mnemonic, bitwise_mnemonic, block_mnemonic, block_word, carry_mnemonic, compare_word}
use Rattle.hm_textv_rows.specs.Mnemonics.{complex_sum_mnemonic, constant_shift_mnemonic, dot_mnemonic, doubling_mnemonic, extreme_mnemonic, high_mnemonic}
use Rattle.hm_textv_rows.specs.Mnemonics.{long_dot_mnemonic, long_move_mnemonic, long_product_mnemonic, long_shift_mnemonic, long_sum_mnemonic}
use Rattle.hm_textv_rows.specs.Mnemonics.{narrowing_mnemonic, offsets_mnemonic, one_mnemonic, other_dot_mnemonic, pair_mnemonic, quad_mnemonic}
use Rattle.hm_textv_rows.specs.Mnemonics.{reverse_mnemonic, scalar_mnemonic, signed_mnemonic, sum_mnemonic, vector_shift_mnemonic, wrapped_mnemonic}
use Rattle.hm_textv_rows.specs.Rows.{HasTokens}
use Rattle.hm_textv_codes.specs.declared.operands.Kind.{Kind}
use Rattle.hm_textv_codes.specs.declared.operands.Kind.TheVariants as kinds
use Rattle.hm_textv_codes.specs.declared.operands.Operands.{Operands}
use Rattle.hm_textv_codes.specs.Asked.{Asks, AsksOther, bare_given, constant_number, mnemonic_of, operands_of}
use Rattle.hm_textv_codes.specs.Names.{access_in, add_names, bitwise_names, carry_names, complex_sum_names, constant_in, constant_mnemonic}
use Rattle.hm_textv_codes.specs.Names.{constant_shift_names, doubling_names, extreme_names, high_names, interleaved_in, interleaved_mnemonic, masks}
use Rattle.hm_textv_codes.specs.Names.{offsets_names, one_names, reverse_names, scalar_names, signed_names, vector_shift_names}
use Rattle.hm_textv_codes.proofs.Fields.{asks_constant, field_back, in_elements, is_narrower, number_below, step_back, step_of}
use Rattle.hm_textv_codes.proofs.Rows.{text_law}
use Rattle.hm_textv_codes.proofs.Told.{access_at, access_told, block_told, compare_told, constant_told, interleaved_at, interleaved_told, same_told}

-- two rows with one mnemonic and the same operands
abbrev Same : Vector → Vector → Type 0
Same v u = mnemonic_of v ≡ mnemonic_of u → operands_of v ≡ operands_of u → vector_code v ≡ vector_code u

-- V11: the mnemonic tells the name
same_name : (name other : ConstantShiftName) → constant_shift_mnemonic name ≡ constant_shift_mnemonic other → name ≡ other
same_name name other e = grind arith

-- V15: the number of the mnemonic and the operands tell all fields
same_byte : (i j l k m n : ℕ) → i < 2 → j < 8 → l < 16 → k < 2 → m < 8 → n < 16 → imm8 i j l ≡ imm8 k m n → (i ≡ k) × (j ≡ m) × (l ≡ n)
same_byte i j l k m n hi hj hl hk hm hn e = (omega arith, omega arith, omega arith)

same_constant : (i j : V15) → Same (vector.V15 i) (vector.V15 j)
same_constant i j em eo =
    let k = constant_number i.op.value i.cm.value in
    let number = number_below i.op.value i.cm.value i.op.in_range in
    let other = number_below j.op.value j.cm.value j.op.in_range in
    let a = asks_constant i k (operands_of (vector.V15 i)) (refl, refl) in
    let b = asks_constant j k (operands_of (vector.V15 i)) (same_told constant_in (constant_told _ number) (constant_told _ other) em, eo) in
    let byte =
    same_byte i.i.value i.i3.value i.i4.value j.i.value j.i3.value j.i4.value i.i.in_range i.i3.in_range i.i4.in_range j.i.in_range j.i3.in_range
    j.i4.in_range (sym a.byte ∙ b.byte) in
    rw (sym a.mode ∙ b.mode, sym a.operation ∙ b.operation, sym a.register ∙ b.register, byte.0, byte.1, byte.2) refl

-- V19: the step tells its power
same_step : (k l : ℕ) → k < 4 → l < 4 → 2 ^ k ≡ 2 ^ l → step_code k ≡ step_code l
same_step k l hk hl e = step_back k hk ∙ ap step_of e ∙ sym (step_back l hl)

-- V20 and V21: the mnemonic tells the mask
same_compare : (k l : ℕ) → k < 16 → l < 16 → block_mnemonic compare_word k ≡ block_mnemonic compare_word l → k ≡ l
same_compare k l hk hl e = same_told (named (block_mnemonic compare_word) masks) (compare_told k hk) (compare_told l hl) e

-- V24 to V27: the mnemonic tells a load from a store, and the size in memory
same_access : (l y k z : ℕ) → l < 2 → y < 3 → k < 2 → z < 3 → access_mnemonic l y ≡ access_mnemonic k z → (l ≡ k) × (y ≡ z)
same_access l y k z hl hy hk hz e =
    let p = same_told access_in (access_told l y hl hy) (access_told k z hk hz) e in
    (ap (λ (x : ℕ × ℕ). x.0) p, ap (λ (x : ℕ × ℕ). x.1) p)

same_offset : (i j y z : ℕ) → y < 3 → y ≡ z → i * 2 ^ y ≡ j * 2 ^ z → i ≡ j
same_offset i j y z lt size e =
    let f : j * 2 ^ z / 2 ^ y ≡ j = subst (λ (x : ℕ). j * 2 ^ x / 2 ^ y ≡ j) size (in_elements j y lt) in
    sym (in_elements i y lt) ∙ ap (λ (n : ℕ). n / 2 ^ y) e ∙ f

small : (h : ℕ) → h < 2 → h < 3
small h lt = omega arith

-- elements that are narrower in memory are told by their two sizes
not_both : (i : V24) (j : V25) → mnemonic_of (vector.V24 i) ≡ mnemonic_of (vector.V25 j) → operands_of (vector.V24 i) ≡ operands_of (vector.V25 j) → ⊥
not_both i j em eo =
    let p = same_access i.l.value i.z.value j.l.value j.h.value i.l.in_range i.z.in_range j.l.in_range (small j.h.value j.h.in_range) em in
    let size : i.z.value ≡ j.z.value = ap (λ (o : Operands). o.size) eo in
    omega (arith, size, is_narrower j, p.1)

-- V12: a shift by all bits of an element is by more than the others
not_full : (z k n : ℕ) → n ≡ z → k ≡ 8 * 2 ^ z → k < 8 * 2 ^ n → ⊥
not_full z k n size e lt = let f = ap (λ (x : ℕ). 8 * 2 ^ x) size in omega (arith, e, f, lt)

-- MNEMONICS that a row may have
abbrev access_names : List (List ℕ)
access_names = map (access_mnemonic 0) (0 ∷ 1 ∷ 2 ∷ []) ++ map (access_mnemonic 1) (0 ∷ 1 ∷ 2 ∷ [])

abbrev interleaved_names : List (List ℕ)
interleaved_names =
    map (pair_mnemonic 0) bit_values ++ map (pair_mnemonic 1) bit_values ++ map (quad_mnemonic 0) (0 ∷ 1 ∷ 2 ∷ 3 ∷ [])
    ++ map (quad_mnemonic 1) (0 ∷ 1 ∷ 2 ∷ 3 ∷ [])

abbrev names_of : Vector → List (List ℕ)
names_of (vector.V1 i) = map add_mnemonic add_names
names_of (vector.V2 i) = map bitwise_mnemonic bitwise_names
names_of (vector.V3 i) = map signed_mnemonic signed_names
names_of (vector.V4 i) = map vector_shift_mnemonic vector_shift_names
names_of (vector.V5 i) = map doubling_mnemonic doubling_names
names_of (vector.V6 i) = map long_product_mnemonic bit_values
names_of (vector.V7 i) = map high_mnemonic high_names
names_of (vector.V8 i) = map carry_mnemonic carry_names
names_of (vector.V9 i) = map complex_sum_mnemonic complex_sum_names
names_of (vector.V10 i) = map scalar_mnemonic scalar_names
names_of (vector.V11 i) = map constant_shift_mnemonic constant_shift_names
names_of (vector.V12 i) = map long_shift_mnemonic bit_values ++ map long_move_mnemonic bit_values
names_of (vector.V13 (v13.Elements i)) = map one_mnemonic one_names
names_of (vector.V13 (v13.Not i)) = codes "vmvn" ∷ []
names_of (vector.V14 i) = map reverse_mnemonic reverse_names
names_of (vector.V15 i) = map constant_mnemonic (0 ∷ 1 ∷ 2 ∷ 3 ∷ [])
names_of (vector.V16 i) =
    map (narrowing_mnemonic narrowing.Plain) bit_values ++ map (narrowing_mnemonic narrowing.ToUnsigned) bit_values
    ++ map (narrowing_mnemonic narrowing.Signed) bit_values
names_of (vector.V17 i) = codes "vshlc" ∷ []
names_of (vector.V18 i) = codes "vdup" ∷ []
names_of (vector.V19 (v19.Free i)) = map offsets_mnemonic offsets_names
names_of (vector.V19 (v19.Wrapped i)) = map wrapped_mnemonic offsets_names
names_of (vector.V20 i) = map (block_mnemonic compare_word) masks
names_of (vector.V21 (v21.Block i)) = map (block_mnemonic block_word) masks
names_of (vector.V21 (v21.Select i)) = codes "vpsel" ∷ []
names_of (vector.V21 (v21.Tail i)) = codes "vctp" ∷ []
names_of (vector.V22 (v22.Sum i)) = map sum_mnemonic bit_values
names_of (vector.V22 (v22.Dot i)) = map dot_mnemonic bit_values
names_of (vector.V22 (v22.LongSum i)) = map long_sum_mnemonic bit_values
names_of (vector.V22 (v22.LongDot i)) = map long_dot_mnemonic bit_values
names_of (vector.V23 i) = map extreme_mnemonic extreme_names
names_of (vector.V28 i) = interleaved_names
names_of v = access_names

abbrev is_among : List (List ℕ) → List ℕ → Bool
is_among names s = list_any (bytes_eq s) names

accessed : (l y : ℕ) → l < 2 → y < 3 → is_among access_names (access_mnemonic l y) ≡ true
accessed l y hl hy = access_at (λ k j. is_among access_names (access_mnemonic k j) ≡ true) l y hl hy (refl ▹ refl ▹ refl ▹ tt) (refl ▹ refl ▹ refl ▹ tt)

is_named : (v : Vector) → is_among (names_of v) (mnemonic_of v) ≡ true
is_named (vector.V15 i) =
    below_holds (λ k. is_among (map constant_mnemonic (0 ∷ 1 ∷ 2 ∷ 3 ∷ [])) (constant_mnemonic k)) 4 _ refl (number_below i.op.value i.cm.value i.op.in_range)
is_named (vector.V20 (v20.Vectors i)) =
    below_holds (λ k. is_among (map (block_mnemonic compare_word) masks) (block_mnemonic compare_word k)) 16 _ refl i.k.in_range
is_named (vector.V20 (v20.Scalar i)) =
    below_holds (λ k. is_among (map (block_mnemonic compare_word) masks) (block_mnemonic compare_word k)) 16 _ refl i.k.in_range
is_named (vector.V21 (v21.Block i)) =
    below_holds (λ k. is_among (map (block_mnemonic block_word) masks) (block_mnemonic block_word k)) 16 _ refl i.k.in_range
is_named (vector.V24 i) = accessed _ _ i.l.in_range i.z.in_range
is_named (vector.V25 i) = accessed _ _ i.l.in_range (small i.h.value i.h.in_range)
is_named (vector.V26 i) = accessed _ _ i.l.in_range i.y.in_range
is_named (vector.V27 i) = accessed _ 2 i.l.in_range (omega arith)
is_named (vector.V28 i) =
    interleaved_at (λ f l p. is_among interleaved_names (interleaved_mnemonic f l p) ≡ true) i
    (refl ▹ refl ▹ tt, refl ▹ refl ▹ tt, refl ▹ refl ▹ refl ▹ refl ▹ tt, refl ▹ refl ▹ refl ▹ refl ▹ tt)
is_named v = grind arith

found_by : (p : List ℕ → Bool) (s : List ℕ) (names : List (List ℕ)) → is_among names s ≡ true → p s ≡ true → list_any p names ≡ true
found_by p s [] e h = absurd cc
found_by p s (t ∷ names) e h =
    elim (cases_Bool (bytes_eq s t)) [
      | inl same ↦ or_left (p t) (list_any p names) (subst (λ (x : List ℕ). p x ≡ true) ((bytes_eq-Decides s t).0 same) h)
      | inr other ↦ or_right (p t) (list_any p names) (found_by p s names (rw other at e) h)
    ]

-- ALL ROWS: two that have mnemonics in common, and the same kinds of operands
abbrev kind_number : Kind → ℕ
kind_number kinds.Missing = 0
kind_number kinds.Word = 1
kind_number kinds.Number = 2
kind_number kinds.Vector = 3

abbrev kinds_number : Operands → ℕ
kinds_number o = kind_number o.base_kind * 4 + kind_number o.third_kind

abbrev alike : Vector → Vector → Bool
alike v u = list_any (is_among (names_of u)) (names_of v) && eqb (kinds_number (operands_of v)) (kinds_number (operands_of u))

are_alike : (v u : Vector) → mnemonic_of v ≡ mnemonic_of u → operands_of v ≡ operands_of u → alike v u ≡ true
are_alike v u em eo =
    and_from (list_any (is_among (names_of u)) (names_of v)) (eqb (kinds_number (operands_of v)) (kinds_number (operands_of u)))
    (found_by (is_among (names_of u)) (mnemonic_of v) (names_of v) (is_named v)
    (subst (λ (s : List ℕ). is_among (names_of u) s ≡ true) (sym em) (is_named u))) (eq-eqb _ _ (ap kinds_number eo))

-- all others that are not named have other operands
same_row : (v u : Vector) → T (alike v u) → Same v u
same_row (vector.V6 i) (vector.V6 j) e em eo = grind (arith, i.t.in_range, j.t.in_range, em, eo)
same_row (vector.V9 i) (vector.V9 j) e em eo = grind (arith, i.t.in_range, j.t.in_range, em, eo)
same_row (vector.V20 (v20.Vectors i)) (vector.V20 (v20.Vectors j)) e em eo =
    let mask = same_compare i.k.value j.k.value i.k.in_range j.k.in_range em in
    grind (arith, mask, eo)
same_row (vector.V22 (v22.Dot i)) (vector.V22 (v22.Dot j)) e em eo = grind (arith, i.a.in_range, j.a.in_range, em, eo)
same_row (vector.V22 (v22.LongSum i)) (vector.V22 (v22.LongSum j)) e em eo = grind (arith, i.a.in_range, j.a.in_range, em, eo)
same_row (vector.V22 (v22.LongDot i)) (vector.V22 (v22.LongDot j)) e em eo = grind (arith, i.a.in_range, j.a.in_range, em, eo)
same_row (vector.V1 i) (vector.V1 j) e em eo = grind arith
same_row (vector.V2 i) (vector.V2 j) e em eo = grind arith
same_row (vector.V3 i) (vector.V3 j) e em eo = grind arith
same_row (vector.V4 i) (vector.V4 j) e em eo = grind arith
same_row (vector.V5 i) (vector.V5 j) e em eo = grind arith
same_row (vector.V7 i) (vector.V7 j) e em eo = grind arith
same_row (vector.V8 i) (vector.V8 j) e em eo = grind arith
same_row (vector.V21 (v21.Select i)) (vector.V21 (v21.Select j)) e em eo = grind arith
same_row (vector.V11 i) (vector.V11 j) e em eo =
    let name = same_name i.name j.name em in
    let field =
    sym (field_back i i.name _ _ refl refl refl) ∙ field_back j i.name _ _ name (ap (λ (o : Operands). o.size) eo) (ap (λ (o : Operands). o.third) eo) in
    grind (arith, name, field, eo)
same_row (vector.V12 (v12.Bytes i)) (vector.V12 (v12.Bytes j)) e em eo = grind (arith, nat_tests, i.t.in_range, j.t.in_range, em, eo)
same_row (vector.V12 (v12.Halves i)) (vector.V12 (v12.Halves j)) e em eo = grind (arith, nat_tests, i.t.in_range, j.t.in_range, em, eo)
same_row (vector.V12 (v12.Full i)) (vector.V12 (v12.Full j)) e em eo = grind (arith, i.t.in_range, j.t.in_range, em, eo)
same_row (vector.V12 (v12.Bytes i)) (vector.V12 (v12.Full j)) e em eo =
    absurd (not_full j.z.value i.k.value 0 (ap (λ (o : Operands). o.size) eo) (ap (λ (o : Operands). o.third) eo) i.k.in_range)
same_row (vector.V12 (v12.Halves i)) (vector.V12 (v12.Full j)) e em eo =
    absurd (not_full j.z.value i.k.value 1 (ap (λ (o : Operands). o.size) eo) (ap (λ (o : Operands). o.third) eo) i.k.in_range)
same_row (vector.V12 (v12.Full i)) (vector.V12 (v12.Bytes j)) e em eo =
    absurd (not_full i.z.value j.k.value 0 (sym (ap (λ (o : Operands). o.size) eo)) (sym (ap (λ (o : Operands). o.third) eo)) j.k.in_range)
same_row (vector.V12 (v12.Full i)) (vector.V12 (v12.Halves j)) e em eo =
    absurd (not_full i.z.value j.k.value 1 (sym (ap (λ (o : Operands). o.size) eo)) (sym (ap (λ (o : Operands). o.third) eo)) j.k.in_range)
same_row (vector.V15 i) (vector.V15 j) e em eo = same_constant i j em eo
same_row (vector.V16 i) (vector.V16 j) e em eo = grind (arith, i.t.in_range, j.t.in_range, em, eo)
same_row (vector.V17 i) (vector.V17 j) e em eo = grind (arith, nat_tests, i.k.in_range, j.k.in_range, eo)
same_row (vector.V19 (v19.Free i)) (vector.V19 (v19.Free j)) e em eo =
    let step = same_step i.k.value j.k.value i.k.in_range j.k.in_range (ap (λ (o : Operands). o.third) eo) in
    grind (arith, step, em, eo)
same_row (vector.V19 (v19.Wrapped i)) (vector.V19 (v19.Wrapped j)) e em eo =
    let step = same_step i.k.value j.k.value i.k.in_range j.k.in_range (ap (λ (o : Operands). o.fourth) eo) in
    grind (arith, step, em, eo)
same_row (vector.V20 (v20.Scalar i)) (vector.V20 (v20.Scalar j)) e em eo =
    let mask = same_compare i.k.value j.k.value i.k.in_range j.k.in_range em in
    grind (arith, mask, eo)
same_row (vector.V21 (v21.Block i)) (vector.V21 (v21.Block j)) e em eo =
    rw (same_told (named (block_mnemonic block_word) masks) (block_told i.k.value i.k.in_range) (block_told j.k.value j.k.in_range) em) refl
same_row (vector.V22 (v22.Sum i)) (vector.V22 (v22.Sum j)) e em eo = grind (arith, i.a.in_range, j.a.in_range, em, eo)
same_row (vector.V24 i) (vector.V24 j) e em eo =
    let p = same_access i.l.value i.z.value j.l.value j.z.value i.l.in_range i.z.in_range j.l.in_range j.z.in_range em in
    let offset = same_offset i.i.value j.i.value i.z.value j.z.value i.z.in_range p.1 (ap (λ (o : Operands). o.third) eo) in
    grind (arith, p.0, p.1, offset, eo)
same_row (vector.V24 i) (vector.V25 j) e em eo = absurd (not_both i j em eo)
same_row (vector.V25 i) (vector.V24 j) e em eo = absurd (not_both j i (sym em) (sym eo))
same_row (vector.V25 i) (vector.V25 j) e em eo =
    let lt = small i.h.value i.h.in_range in
    let p = same_access i.l.value i.h.value j.l.value j.h.value i.l.in_range lt j.l.in_range (small j.h.value j.h.in_range) em in
    let offset = same_offset i.i.value j.i.value i.h.value j.h.value lt p.1 (ap (λ (o : Operands). o.third) eo) in
    grind (arith, p.0, p.1, offset, eo)
same_row (vector.V26 i) (vector.V26 j) e em eo =
    let p = same_access i.l.value i.y.value j.l.value j.y.value i.l.in_range i.y.in_range j.l.in_range j.y.in_range em in
    grind (arith, p.0, p.1, eo)
same_row (vector.V27 i) (vector.V27 j) e em eo =
    let p = same_access i.l.value 2 j.l.value 2 i.l.in_range (omega arith) j.l.in_range (omega arith) em in
    grind (arith, p.0, eo)
same_row (vector.V28 i) (vector.V28 j) e em eo =
    let p = same_told interleaved_in (interleaved_told i) (interleaved_told j) em in
    grind (arith, p, eo)
same_row (vector.V10 i) (vector.V10 j) e em eo = grind arith
same_row (vector.V13 (v13.Elements i)) (vector.V13 (v13.Elements j)) e em eo = grind arith
same_row (vector.V13 (v13.Not i)) (vector.V13 (v13.Not j)) e em eo = grind arith
same_row (vector.V14 i) (vector.V14 j) e em eo = grind arith
same_row (vector.V18 i) (vector.V18 j) e em eo = grind arith
same_row (vector.V21 (v21.Tail i)) (vector.V21 (v21.Tail j)) e em eo = grind arith
same_row (vector.V23 i) (vector.V23 j) e em eo = grind arith
same_row v u e em eo = absurd (grind (arith, e))

pub same_code : (v u : Vector) → Same v u
same_code v u em eo = same_row v u (subst T (sym (are_alike v u em eo)) tt) em eo

-- AND THE OTHER TEXTS: no row is printed so,
not_moved : (v : Vector) (d m : ℕ) → mnemonic_of v ≡ codes "vmov" → operands_of v ≡ bare_given kinds.Missing d m 0 → ⊥
not_moved v d m em eo = absurd (grind arith)

not_product : (v : Vector) (i : Dot) → mnemonic_of v ≡ other_dot_mnemonic i.a.value → operands_of v ≡ operands_of (vector.V22 (v22.Dot i)) → ⊥
not_product v i em eo = absurd (grind arith)

not_other : (v u : Vector) (s : List ℕ) (o : Operands) → Asks v s o → AsksOther u s o → ⊥
not_other v (vector.V2 i) s o a b = not_moved v i.d.value i.m.value (sym a.0 ∙ b.2) (sym a.1 ∙ b.3)
not_other v (vector.V22 (v22.Dot i)) s o a b = not_product v i (sym a.0 ∙ b.0) (sym a.1 ∙ b.1)
not_other v u s o a b = b

-- and rows with one have one code
same_other : (v u : Vector) (s : List ℕ) (o : Operands) → AsksOther v s o → AsksOther u s o → vector_code v ≡ vector_code u
same_other (vector.V2 i) (vector.V2 j) s o a b = grind (arith, a.0, b.0, a.1, b.1, sym a.3 ∙ b.3)
same_other (vector.V22 (v22.Dot i)) (vector.V22 (v22.Dot j)) s o a b = grind (arith, i.a.in_range, j.a.in_range, sym a.0 ∙ b.0, sym a.1 ∙ b.1)
same_other v u s o a b = absurd (grind (arith, a, b))

one_asked : (v u : Vector) (s : List ℕ) (o : Operands) → Asks v s o ⊎ AsksOther v s o → Asks u s o ⊎ AsksOther u s o → vector_code v ≡ vector_code u
one_asked v u s o (inl a) (inl b) = same_code v u (sym a.0 ∙ b.0) (sym a.1 ∙ b.1)
one_asked v u s o (inl a) (inr b) = absurd (not_other v u s o a b)
one_asked v u s o (inr a) (inl b) = absurd (not_other u v s o b a)
one_asked v u s o (inr a) (inr b) = same_other v u s o a b

pub one_vector_code : (ts : List Tok) (v u : Vector) → HasTokens v ts → HasTokens u ts → vector_code v ≡ vector_code u
one_vector_code ts v u has more = one_asked v u _ _ (text_law v ts has).asks (text_law u ts more).asks
