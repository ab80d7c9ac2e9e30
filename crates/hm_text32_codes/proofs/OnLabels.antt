-- Rows with a label: their texts give their mnemonics and their operands; and their fields, by the address that the label names.
use Rattle.std.proofs.Common.{◌≡◌, ℕ, zero, suc, ◌+◌, ◌-◌, ◌*◌, ◌/◌, ◌%◌, ◌^◌, ◌<◌, ◌≤◌, false, true, List, [], ◌∷◌, ◌++◌, refl, ap, ◌∙◌}
use Rattle.std.proofs.Common.{inl, inr, arith}
use Rattle.std.specs.Prelude.{codes, nat_eq, nat_lt}
use Rattle.std.proofs.lemmas.Bool.{cases_Bool}
use Rattle.std.proofs.lemmas.Bool.Decides.{nat_tests}
use Rattle.hm_isa.specs.declared.jumps.LoopEnd.{LoopEnd}
use Rattle.hm_isa.specs.declared.jumps.LoopEndName.{LoopEndName}
use Rattle.hm_isa.specs.declared.jumps.LoopEndName.TheVariants as loop_end
use Rattle.hm_isa.specs.declared.jumps.T16.TheVariants as t16
use Rattle.hm_isa.specs.declared.jumps.T23.TheVariants as t23
use Rattle.hm_isa.specs.declared.jumps.WideAlways.{WideAlways}
use Rattle.hm_isa.specs.declared.jumps.WideBranchName.{WideBranchName}
use Rattle.hm_isa.specs.declared.jumps.WideBranchName.TheVariants as wide_branch
use Rattle.hm_isa.specs.declared.jumps.WideConditional.{WideConditional}
use Rattle.hm_isa.specs.declared.jumps.Wls.{Wls}
use Rattle.hm_isa.specs.declared.jumps.Wlstp.{Wlstp}
use Rattle.hm_isa.specs.declared.widths.WideRow.TheVariants as rows
use Rattle.hm_isa.specs.JumpCodes.{code_wide_always, code_wide_conditional, wide_branch_base}
use Rattle.hm_isa.specs.Standing.{◌↑◌}
use Rattle.hm_isa.specs.Words.{sign_extended}
use Rattle.hm_isa.specs.Distances.{alike, wide_always_distance, wide_conditional_distance}
use Rattle.hm_tokens.proofs.Addresses.{ends_in_mark}
use Rattle.hm_tokens.proofs.Again.{are_apart}
use Rattle.hm_tokens.proofs.Ranges.{has_no_ranges}
use Rattle.hm_tokens.specs.Names.{register_name}
use Rattle.hm_tokens.specs.Tokens.{Tok, word, number, mark, comma, is_number}
use Rattle.hm_text_rows.specs.Labels.{IsLabel, behind, distance}
use Rattle.hm_text_rows.specs.Mnemonics.{branch_mnemonic, element_suffix}
use Rattle.hm_text_rows.specs.Operands.{bits_of, braced, is_vector_name, size_of}
use Rattle.hm_text_rows.specs.Shapes.{r}
use Rattle.hm_text_rows.proofs.Printed.{AreShort, IsShort, is_printed_at, room, short_comma, short_word}
use Rattle.hm_text_rows.proofs.Branches.{distance_back, mnemonic_branch}
use Rattle.hm_text_rows.proofs.Words.{◌▹◌, cut, is_mnemonic, is_suffix}
use Rattle.hm_text32_rows.specs.Mnemonics.{wide, wide_branch_mnemonic, wide_branch_suffix}
use Rattle.hm_text32_rows.specs.Rows.{loop_end_tokens}
use Rattle.hm_text32_codes.specs.declared.operands.Operands.{Operands}
use Rattle.hm_text32_codes.specs.Asked.{given_sized, label_given, loop_end_mnemonic, loop_end_operands}
use Rattle.hm_text32_codes.specs.Operands.{operands_in, read_wide_operands, wide_value, wide_word_value}
use Rattle.hm_text32_codes.proofs.Asked.{LabelReads, ReadsAt}
use Rattle.hm_text32_codes.proofs.Forms.{Suffix, a_register, no_suffix, short, suffix_element, suffix_wide, the_mnemonic}

-- TEXTS
-- tokens behind a mnemonic and a suffix and before a label, which is a word or a number: where they are short, and what they give
reads_at : (s f : List ℕ) (ts : List Tok) (o : Tok → Operands) → is_mnemonic s ≡ true → is_suffix f ≡ true → AreShort ts → are_apart ts ≡ true
    → ends_in_mark ts ≡ true → room ts ≤ 68 → has_no_ranges ts ≡ true
    → ((v : List ℕ) → read_wide_operands f (word (s ++ f) ∷ (ts ++ word v ∷ [])) ≡ o (word v))
    → ((n : ℕ) → read_wide_operands f (word (s ++ f) ∷ (ts ++ number n ∷ [])) ≡ o (number n)) → ReadsAt (word (s ++ f) ∷ ts) s o
reads_at s f ts o mnemonic suffix short apart ends le none by_word by_number = record {
  mnemonic = λ t. the_mnemonic s f (ts ++ t ∷ []) mnemonic suffix;
  gives = given_by;
  prints = is_printed_at s f ts mnemonic suffix short apart ends le none;
}
  where
    given_by : (t : Tok) → IsLabel t → operands_in (word (s ++ f) ∷ (ts ++ t ∷ [])) ≡ o t
    given_by (word v) is =
        ap (λ (p : List ℕ × List ℕ). read_wide_operands p.1 (word (s ++ f) ∷ (ts ++ word v ∷ []))) (cut s f mnemonic suffix) ∙ by_word v
    given_by (number n) is =
        ap (λ (p : List ℕ × List ℕ). read_wide_operands p.1 (word (s ++ f) ∷ (ts ++ number n ∷ []))) (cut s f mnemonic suffix) ∙ by_number n
    given_by (mark c) is = absurd is

-- a label alone
reads_label : (s f : List ℕ) → is_mnemonic s ≡ true → Suffix f 0 → ReadsAt (word (s ++ f) ∷ []) s label_given
unfolding bits_of braced
reads_label s f mnemonic g = reads_at s f [] label_given mnemonic g.is tt refl refl (omega arith) refl (λ v. rw (g.size) refl) (λ n. rw (g.size) refl)

-- lr and a label
lr_short : IsShort (r 14)
lr_short = short_word (register_name 14) refl

reads_lr : (s : List ℕ) → is_mnemonic s ≡ true
    → ReadsAt (word (s ++ []) ∷ r 14 ∷ comma ∷ []) s (λ t. given_sized 0 (is_number t) false 14 (wide_value t) 0 0 0)
unfolding bits_of braced wide_word_value is_vector_name size_of
reads_lr s mnemonic =
    reads_at s [] _ _ mnemonic refl (lr_short ▹ short_comma ▹ tt) refl refl (omega arith) refl (λ v. refl) (λ n. refl)

-- lr, another register and a label
reads_start : (s f : List ℕ) (z n : ℕ) → is_mnemonic s ≡ true → Suffix f z → n < 16
    → ReadsAt (word (s ++ f) ∷ r 14 ∷ comma ∷ r n ∷ comma ∷ []) s (λ t. given_sized z false (is_number t) 14 n (wide_value t) 0 0)
unfolding bits_of braced
reads_start s f z n mnemonic g hn =
    let p = a_register 14 (omega arith) in
    let o = a_register n hn in
    reads_at s f _ _ mnemonic g.is (lr_short ▹ short_comma ▹ short o ▹ short_comma ▹ tt) refl refl (omega arith) refl
    (λ v. rw (g.size, p.vector, p.value, o.value) refl) (λ n. rw (g.size, p.vector, p.value, o.value) refl)

-- T16
pub row_conditional : (i : WideConditional) → LabelReads (rows.T16 (t16.Conditional i))
row_conditional i = reads_label (branch_mnemonic i.c.value) wide (mnemonic_branch i.c.value i.c.in_range) suffix_wide

always_reads : (name : WideBranchName)
    → ReadsAt (word (wide_branch_mnemonic name ++ wide_branch_suffix name) ∷ []) (wide_branch_mnemonic name) label_given
always_reads wide_branch.B = reads_label (codes "b") wide refl suffix_wide
always_reads wide_branch.Bl = reads_label (codes "bl") [] refl no_suffix

pub row_always : (i : WideAlways) → LabelReads (rows.T16 (t16.Always i))
row_always i = always_reads i.name

-- T23
pub row_wls : (i : Wls) → LabelReads (rows.T23 (t23.Wls i))
row_wls i = reads_start (codes "wls") [] 0 i.n.value refl no_suffix i.n.in_range

pub row_wlstp : (i : Wlstp) → LabelReads (rows.T23 (t23.Wlstp i))
row_wlstp i = reads_start (codes "wlstp") (element_suffix i.z.value) i.z.value i.n.value refl (suffix_element i.z.value i.z.in_range) i.n.in_range

end_reads : (name : LoopEndName) → ReadsAt (loop_end_tokens name) (loop_end_mnemonic name) (loop_end_operands name)
end_reads loop_end.LeLr = reads_lr (codes "le") refl
end_reads loop_end.Letp = reads_lr (codes "letp") refl
end_reads loop_end.Le = reads_label (codes "le") [] refl no_suffix

pub row_end : (i : LoopEnd) → LabelReads (rows.T23 (t23.End i))
row_end i = end_reads i.name

-- FIELDS
-- T16 with a condition: its code, where f is half the distance
abbrev pub conditional_code : ℕ → ℕ → ℕ
conditional_code c f = 0xf0008000 + (f / 2 ^ 19 % 2) ↑ 26 + c ↑ 22 + (f / 2 ^ 11 % 64) ↑ 16 + (f / 2 ^ 17 % 2) ↑ 13 + (f / 2 ^ 18 % 2) ↑ 11 + f % 2 ^ 11

-- and without one
abbrev pub always_code : ℕ → ℕ → ℕ
always_code base f =
    base + (f / 2 ^ 23 % 2) ↑ 26 + (f / 2 ^ 11 % 1024) ↑ 16 + alike (f / 2 ^ 22 % 2) (f / 2 ^ 23 % 2) ↑ 13 + alike (f / 2 ^ 21 % 2) (f / 2 ^ 23 % 2) ↑ 11
    + f % 2 ^ 11

-- a distance as a number of 32 bits, and half of it: so much and a multiple
record Signed (whole d h : ℕ) : Type 0 where
  small : d < 2 ^ 32
  more : ℕ
  half : d / 2 ≡ h + more * whole

near_signed : (x h : ℕ) → x ≡ 2 * h → h < 2 ^ 20 → Signed (2 ^ 20) (sign_extended 21 x) h
near_signed x h e lt =
    let same : x % 2 ^ 21 ≡ x = omega arith in
    rw same
    (elim (cases_Bool (nat_lt x (2 ^ 20))) [
      | inl f ↦ let low : x < 2 ^ 20 = grind (arith, nat_tests, f) in rw f (record { small = omega arith; more = 0; half = omega arith })
      | inr f ↦ let high : 2 ^ 20 ≤ x = grind (arith, nat_tests, f) in rw f (record { small = omega arith; more = 2047; half = omega arith })
    ])

far_signed : (x h : ℕ) → x ≡ 2 * h → h < 2 ^ 24 → Signed (2 ^ 24) (sign_extended 25 x) h
far_signed x h e lt =
    let same : x % 2 ^ 25 ≡ x = omega arith in
    rw same
    (elim (cases_Bool (nat_lt x (2 ^ 24))) [
      | inl f ↦ let low : x < 2 ^ 24 = grind (arith, nat_tests, f) in rw f (record { small = omega arith; more = 0; half = omega arith })
      | inr f ↦ let high : 2 ^ 24 ≤ x = grind (arith, nat_tests, f) in rw f (record { small = omega arith; more = 127; half = omega arith })
    ])

-- the fields of half a distance
abbrev near_half : ℕ → ℕ → ℕ → ℕ → ℕ → ℕ
near_half s j2 j1 i6 i11 = s * 2 ^ 19 + j2 * 2 ^ 18 + j1 * 2 ^ 17 + i6 * 2 ^ 11 + i11

module _ (s j2 j1 i6 i11 m : ℕ) (hs : s < 2) (h2 : j2 < 2) (h1 : j1 < 2) (h6 : i6 < 64) (hi : i11 < 2048) where
  abbrev near_field : ℕ
  near_field = near_half s j2 j1 i6 i11 + m * 2 ^ 20

  near_sum : (c : ℕ) → conditional_code c near_field ≡ 0xf0008000 + s ↑ 26 + c ↑ 22 + i6 ↑ 16 + j1 ↑ 13 + j2 ↑ 11 + i11
  near_sum c =
      let sign : near_field / 2 ^ 19 % 2 ≡ s = omega arith in
      let two : near_field / 2 ^ 18 % 2 ≡ j2 = omega arith in
      let one : near_field / 2 ^ 17 % 2 ≡ j1 = omega arith in
      let six : near_field / 2 ^ 11 % 64 ≡ i6 = omega arith in
      let low : near_field % 2 ^ 11 ≡ i11 = omega arith in
      rw (sign, two, one, six, low) refl

near_small : (s j2 j1 i6 i11 : ℕ) → s < 2 → j2 < 2 → j1 < 2 → i6 < 64 → i11 < 2048 → near_half s j2 j1 i6 i11 < 2 ^ 20
near_small s j2 j1 i6 i11 hs h2 h1 h6 hi = omega arith

pub conditional_back : (i : WideConditional) (pc a : ℕ) → pc < 2 ^ 32 → behind pc (wide_conditional_distance i) ≡ a
    → conditional_code i.c.value (distance (pc + 4) a / 2) ≡ code_wide_conditional i
conditional_back i pc a hp e =
    let h = near_half i.s.value i.j2.value i.j1.value i.i6.value i.i11.value in
    let signed : Signed (2 ^ 20) (wide_conditional_distance i) h =
    near_signed (i.s.value * 2 ^ 20 + i.j2.value * 2 ^ 19 + i.j1.value * 2 ^ 18 + i.i6.value * 2 ^ 12 + i.i11.value * 2) h (omega arith)
    (near_small i.s.value i.j2.value i.j1.value i.i6.value i.i11.value i.s.in_range i.j2.in_range i.j1.in_range i.i6.in_range i.i11.in_range) in
    let back = distance_back (pc + 4) (wide_conditional_distance i) a (omega arith) signed.small e in
    let half : distance (pc + 4) a / 2 ≡ h + signed.more * 2 ^ 20 = ap (λ (d : ℕ). d / 2) back ∙ signed.half in
    ap (λ (f : ℕ). conditional_code i.c.value f) half
    ∙ near_sum i.s.value i.j2.value i.j1.value i.i6.value i.i11.value signed.more i.s.in_range i.j2.in_range i.j1.in_range i.i6.in_range i.i11.in_range
    i.c.value

abbrev far_half : ℕ → ℕ → ℕ → ℕ → ℕ → ℕ
far_half s x1 x2 i10 i11 = s * 2 ^ 23 + x1 * 2 ^ 22 + x2 * 2 ^ 21 + i10 * 2 ^ 11 + i11

alike_back : (j s : ℕ) → j < 2 → s < 2 → alike (alike j s) s ≡ j
alike_back j s hj hs = grind arith

alike_bit : (j s : ℕ) → alike j s < 2
alike_bit j s = elim (cases_Bool (nat_eq j s)) [ inl e ↦ rw e (omega arith) | inr e ↦ rw e (omega arith) ]

module _ (s x1 x2 i10 i11 m : ℕ) (hs : s < 2) (h1 : x1 < 2) (h2 : x2 < 2) (h10 : i10 < 1024) (hi : i11 < 2048) where
  abbrev far_field : ℕ
  far_field = far_half s x1 x2 i10 i11 + m * 2 ^ 24

  far_sum : (base : ℕ) → always_code base far_field ≡ base + s ↑ 26 + i10 ↑ 16 + alike x1 s ↑ 13 + alike x2 s ↑ 11 + i11
  far_sum base =
      let sign : far_field / 2 ^ 23 % 2 ≡ s = omega arith in
      let one : far_field / 2 ^ 22 % 2 ≡ x1 = omega arith in
      let two : far_field / 2 ^ 21 % 2 ≡ x2 = omega arith in
      let ten : far_field / 2 ^ 11 % 1024 ≡ i10 = omega arith in
      let low : far_field % 2 ^ 11 ≡ i11 = omega arith in
      rw (sign, one, two, ten, low) refl

far_small : (s x1 x2 i10 i11 : ℕ) → s < 2 → x1 < 2 → x2 < 2 → i10 < 1024 → i11 < 2048 → far_half s x1 x2 i10 i11 < 2 ^ 24
far_small s x1 x2 i10 i11 hs h1 h2 h10 hi = omega arith

pub always_back : (i : WideAlways) (pc a : ℕ) → pc < 2 ^ 32 → behind pc (wide_always_distance i) ≡ a
    → always_code (wide_branch_base i.name) (distance (pc + 4) a / 2) ≡ code_wide_always i
always_back i pc a hp e =
    let s = i.s.value in
    let x1 = alike i.j1.value s in
    let x2 = alike i.j2.value s in
    let b1 = alike_bit i.j1.value s in
    let b2 = alike_bit i.j2.value s in
    let h = far_half s x1 x2 i.i10.value i.i11.value in
    let signed : Signed (2 ^ 24) (wide_always_distance i) h =
    far_signed (s * 2 ^ 24 + x1 * 2 ^ 23 + x2 * 2 ^ 22 + i.i10.value * 2 ^ 12 + i.i11.value * 2) h (omega arith)
    (far_small s x1 x2 i.i10.value i.i11.value i.s.in_range b1 b2 i.i10.in_range i.i11.in_range) in
    let back = distance_back (pc + 4) (wide_always_distance i) a (omega arith) signed.small e in
    let half : distance (pc + 4) a / 2 ≡ h + signed.more * 2 ^ 24 = ap (λ (d : ℕ). d / 2) back ∙ signed.half in
    ap (λ (f : ℕ). always_code (wide_branch_base i.name) f) half
    ∙ far_sum s x1 x2 i.i10.value i.i11.value signed.more i.s.in_range b1 b2 i.i10.in_range i.i11.in_range (wide_branch_base i.name)
    ∙ (λ k. wide_branch_base i.name + s ↑ 26 + i.i10.value ↑ 16 + alike_back i.j1.value s i.j1.in_range i.s.in_range k ↑ 13 + alike_back i.j2.value s
    i.j2.in_range i.s.in_range k ↑ 11 + i.i11.value)

pub ahead_back : (pc v a : ℕ) → pc < 2 ^ 32 → v < 2048 → behind pc (2 * v) ≡ a → distance (pc + 4) a / 2 % 2048 ≡ v
ahead_back pc v a hp hv e =
    let d = distance_back (pc + 4) (2 * v) a (omega arith) (omega arith) e in
    rw d (omega arith)

pub behind_back : (pc v a : ℕ) → pc < 2 ^ 32 → v < 2048 → behind pc (2 ^ 32 - 2 * v) ≡ a → (0x1_0000_0000 - distance (pc + 4) a) / 2 % 2048 ≡ v
behind_back pc zero a hp hv e =
    let same : (pc + 4 + 0) % 2 ^ 32 ≡ a = omega (arith, e) in
    let d = distance_back (pc + 4) 0 a (omega arith) (omega arith) same in
    rw d refl
behind_back pc (suc v) a hp hv e =
    let d = distance_back (pc + 4) (2 ^ 32 - 2 * suc v) a (omega arith) (omega arith) e in
    rw d (omega arith)
