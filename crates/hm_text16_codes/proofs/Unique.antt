-- A text is of one row: rows whose texts give a reader the same, and whose labels name one address, have one code.
use Rattle.std.proofs.Common.{◌≡◌, ℕ, zero, suc, Bool, true, false, cond, List, [], ◌∷◌, ◌+◌, ◌-◌, ◌%◌, ◌^◌, ◌<◌, ◌++◌, Some, refl, sym, subst, ap, ◌∙◌, arith}
use Rattle.std.specs.Prelude.{codes, nat_eq, unwrap_or}
use Rattle.std.proofs.lemmas.Bool.{and_parts, ltb-true}
use Rattle.std.proofs.lemmas.Bool.Decides.{nat_tests}
use Rattle.hm_isa.specs.declared.narrow.ListName.{ListName}
use Rattle.hm_isa.specs.declared.narrow.ListName.TheVariants as list
use Rattle.hm_isa.specs.declared.narrow.S20.{S20}
use Rattle.hm_isa.specs.declared.narrow.S25.TheVariants as s25
use Rattle.hm_isa.specs.declared.widths.NarrowRow.{NarrowRow}
use Rattle.hm_isa.specs.declared.widths.NarrowRow.TheVariants as narrow
use Rattle.hm_isa.specs.Code.{narrow_code}
use Rattle.hm_isa.specs.Rules.{keeps_it, listed_in}
use Rattle.hm_isa.specs.Standing.{◌↑◌}
use Rattle.hm_tokens.specs.Tokens.{Tok, word, bang, comma}
use Rattle.hm_text_rows.specs.Labels.{Reaches}
use Rattle.hm_text_rows.specs.Names.{block_masks, named}
use Rattle.hm_text_rows.specs.Operands.{branch_condition_in, first_word}
use Rattle.hm_text_rows.specs.Shapes.{braces, r}
use Rattle.hm_text_rows.proofs.Words.{below_is}
use Rattle.hm_text16_rows.specs.Mnemonics.{block_first_word, letters_above}
use Rattle.hm_text_rows.proofs.Branches.{condition_back}
use Rattle.hm_text16_rows.specs.Rows.{list_tokens, tokens_of}
use Rattle.hm_text16_rows.specs.Targets.{target}
use Rattle.hm_text16_codes.specs.declared.operands.Operands.{Operands}
use Rattle.hm_text16_codes.specs.Asked.{operands_of}
use Rattle.hm_text16_codes.proofs.Fields.{always_field, conditional_field, literal_field, zero_field}
use Rattle.hm_text16_codes.proofs.Lists.{code_of_list, list_code, some_listed}

-- ---- lists

abbrev pub list_word : ListName → List ℕ
list_word list.Push = codes "push"
list_word list.Pop = codes "pop"
list_word list.Stm = codes "stm"
list_word list.Ldm = codes "ldm"

load_word : (b : Bool) (n : ℕ) (ts : List Tok)
    → first_word (cond b (word (codes "ldm") ∷ r n ∷ comma ∷ []) (word (codes "ldm") ∷ r n ∷ bang ∷ comma ∷ []) ++ ts) ≡ codes "ldm"
load_word true n ts = refl
load_word false n ts = refl

pub begins : (name : ListName) (x n m : ℕ) → first_word (list_tokens name x n m) ≡ list_word name
begins list.Push x n m = refl
begins list.Pop x n m = refl
begins list.Stm x n m = refl
begins list.Ldm x n m = load_word (listed_in m n) n (braces m)

same_word : (name other : ListName) → list_word name ≡ list_word other → name ≡ other
same_word name other e = grind arith

same_list : (i j : S20)
    → first_word (list_tokens i.name i.x.value i.n.value i.list.value) ≡ first_word (list_tokens j.name j.x.value j.n.value j.list.value) → i.name ≡ j.name
same_list i j e = same_word i.name j.name (sym (begins i.name i.x.value i.n.value i.list.value) ∙ e ∙ begins j.name j.x.value j.n.value j.list.value)

-- ---- blocks

abbrev mask_in : ℕ → ℕ → ℕ
mask_in low m = unwrap_or (named (block_first_word 0) block_masks (codes "it" ++ letters_above low m)) 0

mask_told : (low m : ℕ) → low < 2 → m < 16 → 0 < m → mask_in low m ≡ cond (nat_eq low 0) m (16 - m)
mask_told low zero hl hm some = absurd (omega arith)
mask_told zero (suc k) hl hm some = below_is (λ j. mask_in 0 (suc j)) (λ j. suc j) 15 k refl (omega arith)
mask_told (suc zero) (suc k) hl hm some = below_is (λ j. mask_in 1 (suc j)) (λ j. 15 - j) 15 k refl (omega arith) ∙ omega arith
mask_told (suc (suc low)) (suc k) hl hm some = absurd (omega arith)

same_mask : (low m k : ℕ) → low < 2 → m < 16 → k < 16 → 0 < m → 0 < k → codes "it" ++ letters_above low m ≡ codes "it" ++ letters_above low k → m ≡ k
same_mask low m k hl hm hk sm sk e =
    let f = sym (mask_told low m hl hm sm) ∙ ap (λ (w : List ℕ). unwrap_or (named (block_first_word 0) block_masks w) 0) e ∙ mask_told low k hl hk sk in
    grind (arith, f)

pub some_mask : (c m : ℕ) → keeps_it c m ≡ true → 0 < m
some_mask c m e = ltb-true 0 m (and_parts _ _ e).0

block_code : (c d m k : ℕ) → m < 16 → k < 16 → 0 < m → 0 < k → c ≡ d → block_first_word c m ≡ block_first_word d k → 0xbf00 + c ↑ 4 + m ≡ 0xbf00 + d ↑ 4 + k
block_code c d m k hm hk sm sk is e =
    let f : block_first_word c m ≡ block_first_word c k = subst (λ (x : ℕ). block_first_word c m ≡ block_first_word x k) (sym is) e in
    rw (is, same_mask (c % 2) m k (omega arith) hm hk sm sk f) refl

-- ---- all rows: each pair that is not named has other mnemonics or operands of other kinds

pub same_code : (r s : NarrowRow) (t u : Tok) (pc a : ℕ) → first_word (tokens_of r t) ≡ first_word (tokens_of s u) → operands_of r t ≡ operands_of s u
    → pc < 2 ^ 32 → Reaches (target r pc) a → Reaches (target s pc) a → narrow_code r ≡ narrow_code s
same_code (narrow.S20 i) (narrow.S20 j) t u pc a em eo hp p q =
    let name = same_list i j em in
    sym (code_of_list i.name i t _ refl refl) ∙ ap (list_code i.name) eo ∙ code_of_list i.name j u _ (sym name) refl
same_code (narrow.S20 i) s t u pc a em eo hp p q =
    let some = some_listed i t _ refl in
    let e = ap (λ (o : Operands). o.registers) eo in
    absurd (omega (arith, some, e))
same_code s (narrow.S20 j) t u pc a em eo hp p q =
    let some = some_listed j u _ refl in
    let e = ap (λ (o : Operands). o.registers) eo in
    absurd (omega (arith, some, e))
same_code (narrow.S5 i) (narrow.S7 j) t u pc a em eo hp p q = absurd (grind (arith, nat_tests, i.d.in_range, i.m.in_range, j.high, eo))
same_code (narrow.S7 i) (narrow.S5 j) t u pc a em eo hp p q = absurd (grind (arith, nat_tests, j.d.in_range, j.m.in_range, i.high, eo))
same_code (narrow.S16 i) (narrow.S17 j) t u pc a em eo hp p q = absurd (grind (arith, i.n.in_range, eo))
same_code (narrow.S17 i) (narrow.S16 j) t u pc a em eo hp p q = absurd (grind (arith, j.n.in_range, eo))
same_code (narrow.S14 i) (narrow.S14 j) t u pc a em eo hp p q =
    let e = sym (literal_field pc i.i.value a hp i.i.in_range p) ∙ literal_field pc j.i.value a hp j.i.in_range q in
    grind (arith, e)
same_code (narrow.S24 i) (narrow.S24 j) t u pc a em eo hp p q =
    let e = sym (zero_field pc i.i.value a hp i.i.in_range p) ∙ zero_field pc j.i.value a hp j.i.in_range q in
    grind (arith, e)
same_code (narrow.S25 (s25.Conditional i)) (narrow.S25 (s25.Conditional j)) t u pc a em eo hp p q =
    let e = sym (conditional_field i pc a hp p) ∙ conditional_field j pc a hp q in
    let f : Some i.c.value ≡ Some j.c.value = sym (condition_back i.c.value i.c.in_range) ∙ ap branch_condition_in em ∙ condition_back j.c.value j.c.in_range in
    cc
same_code (narrow.S25 (s25.Always i)) (narrow.S25 (s25.Always j)) t u pc a em eo hp p q =
    let e = sym (always_field i pc a hp p) ∙ always_field j pc a hp q in
    grind (arith, e)
same_code (narrow.S25 (s25.Conditional i)) (narrow.S25 (s25.Always j)) t u pc a em eo hp p q =
    absurd (let f = sym (condition_back i.c.value i.c.in_range) ∙ ap branch_condition_in em in cc)
same_code (narrow.S25 (s25.Always i)) (narrow.S25 (s25.Conditional j)) t u pc a em eo hp p q =
    absurd (let f = ap branch_condition_in em ∙ condition_back j.c.value j.c.in_range in cc)
same_code (narrow.S1 i) (narrow.S1 j) t u pc a em eo hp p q = grind arith
same_code (narrow.S2 i) (narrow.S2 j) t u pc a em eo hp p q = grind arith
same_code (narrow.S3 i) (narrow.S3 j) t u pc a em eo hp p q = grind arith
same_code (narrow.S4 i) (narrow.S4 j) t u pc a em eo hp p q = grind arith
same_code (narrow.S5 i) (narrow.S5 j) t u pc a em eo hp p q = grind arith
same_code (narrow.S6 i) (narrow.S6 j) t u pc a em eo hp p q = grind arith
same_code (narrow.S7 i) (narrow.S7 j) t u pc a em eo hp p q = grind arith
same_code (narrow.S8 i) (narrow.S8 j) t u pc a em eo hp p q = grind arith
same_code (narrow.S9 i) (narrow.S9 j) t u pc a em eo hp p q = grind arith
same_code (narrow.S10 i) (narrow.S10 j) t u pc a em eo hp p q = grind arith
same_code (narrow.S11 i) (narrow.S11 j) t u pc a em eo hp p q = grind arith
same_code (narrow.S12 i) (narrow.S12 j) t u pc a em eo hp p q = grind arith
same_code (narrow.S13 i) (narrow.S13 j) t u pc a em eo hp p q = grind arith
same_code (narrow.S15 i) (narrow.S15 j) t u pc a em eo hp p q = grind arith
same_code (narrow.S16 i) (narrow.S16 j) t u pc a em eo hp p q = grind arith
same_code (narrow.S17 i) (narrow.S17 j) t u pc a em eo hp p q = grind arith
same_code (narrow.S18 i) (narrow.S18 j) t u pc a em eo hp p q = grind arith
same_code (narrow.S19 i) (narrow.S19 j) t u pc a em eo hp p q = grind arith
same_code (narrow.S23 i) (narrow.S23 j) t u pc a em eo hp p q = grind arith
same_code (narrow.S21 i) (narrow.S21 j) t u pc a em eo hp p q =
    block_code i.c.value j.c.value i.mask.value j.mask.value i.mask.in_range j.mask.in_range (some_mask i.c.value i.mask.value i.row)
    (some_mask j.c.value j.mask.value j.row) (ap (λ (o : Operands). o.first) eo) em
same_code i j t u pc a em eo hp p q = absurd (grind arith)
