-- The mnemonic of a row of two halfwords that is no vector row: no row of one halfword has it, and no vector row has it but `vmov.32`,
-- which there has a lane.
use Rattle.std.proofs.Common.{◌≡◌, ℕ, zero, suc, ◌%◌, ◌<◌, Bool, true, false, List, [], ◌∷◌, ◌++◌, refl, sym, ap, inl, inr, ◌∙◌, arith}
use Rattle.std.specs.Prelude.{bytes_eq, codes, is_none, not, ◌&&◌, ◌||◌}
use Rattle.std.proofs.lemmas.Bool.{agree_below, agree_below_at, and_parts, false≢true}
use Rattle.hm_isa.specs.declared.Vector.{Vector}
use Rattle.hm_isa.specs.declared.narrow.ListName.{ListName}
use Rattle.hm_isa.specs.declared.narrow.S25.TheVariants as s25
use Rattle.hm_isa.specs.declared.widths.NarrowRow.{NarrowRow}
use Rattle.hm_isa.specs.declared.widths.NarrowRow.TheVariants as narrow
use Rattle.hm_layout.proofs.Bits.{or_cases}
use Rattle.hm_tokens.specs.Tokens.{Tok, word, number, mark}
use Rattle.hm_text16_codes.specs.Names.{byte_names, hint_names, jump_names, logic_names, masking_names, plain_names, shift_names, swap_names}
use Rattle.hm_text16_codes.specs.Names.{word_names, zero_names}
use Rattle.hm_text16_codes.proofs.Unique.{begins, list_word, some_mask}
use Rattle.hm_text16_rows.specs.Mnemonics.{block_first_word, byte_mnemonic, hint_mnemonic, jump_mnemonic, letters_above, logic_mnemonic, masking_mnemonic}
use Rattle.hm_text16_rows.specs.Mnemonics.{plain_mnemonic, shift_mnemonic, stack_sum_mnemonic, sum_mnemonic, swap_mnemonic, word_mnemonic, zero_mnemonic}
use Rattle.hm_text16_rows.specs.Rows.{tokens_of}
use Rattle.hm_text_rows.specs.Mnemonics.{access_mnemonic, branch_mnemonic, extend_mnemonic}
use Rattle.hm_text_rows.specs.Names.{access_names, block_masks, extend_names, named, sum_names}
use Rattle.hm_text_rows.specs.Operands.{branch_condition_in, first_word}
use Rattle.hm_textv_rows.specs.Rows.{HasTokens}
use Rattle.hm_text_tables.proofs.Lines.{has_lane}
use Rattle.hm_text_tables.proofs.VectorNames.{begins_with_v, is_other, not_other, vector_named}

below_is_false : (f : ℕ → Bool) (n b : ℕ) → agree_below f (λ k. false) n ≡ true → b < n → f b ≡ false
below_is_false f n b e lt = agree_below_at f (λ k. false) n b e lt

-- whether all tests of a list hold
abbrev are_all : List Bool → Bool
are_all [] = true
are_all (b ∷ bs) = b && are_all bs

-- NO ROW OF ONE HALFWORD: a test for each look-up that no name has the mnemonic
abbrev no_names : List ℕ → List Bool
no_names s =
    is_none (named shift_mnemonic shift_names s)
    ∷ is_none (named sum_mnemonic sum_names s)
    ∷ is_none (named word_mnemonic word_names s)
    ∷ is_none (named plain_mnemonic plain_names s)
    ∷ is_none (named access_mnemonic access_names s)
    ∷ is_none (named logic_mnemonic logic_names s)
    ∷ is_none (named extend_mnemonic extend_names s)
    ∷ is_none (named swap_mnemonic swap_names s)
    ∷ is_none (named byte_mnemonic byte_names s)
    ∷ is_none (named stack_sum_mnemonic sum_names s)
    ∷ is_none (named masking_mnemonic masking_names s)
    ∷ is_none (named hint_mnemonic hint_names s)
    ∷ is_none (named jump_mnemonic jump_names s)
    ∷ is_none (named (block_first_word 0) block_masks s)
    ∷ is_none (named zero_mnemonic zero_names s)
    ∷ is_none (branch_condition_in s)
    ∷ []

-- and a test for each word beside them
abbrev no_words : List ℕ → List Bool
no_words s =
    not (bytes_eq s (codes "add")) ∷ not (bytes_eq s (codes "cmp")) ∷ not (bytes_eq s (codes "mov")) ∷ not (bytes_eq s (codes "bkpt"))
    ∷ not (bytes_eq s (codes "push")) ∷ not (bytes_eq s (codes "pop")) ∷ not (bytes_eq s (codes "stm")) ∷ not (bytes_eq s (codes "ldm"))
    ∷ not (bytes_eq s (codes "ldr")) ∷ not (bytes_eq s (codes "b")) ∷ []

abbrev pub is_not_narrow : List ℕ → Bool
is_not_narrow s = are_all (no_names s) && are_all (no_words s)

-- a row of one halfword fails one of them
list_fails : (name : ListName) → is_not_narrow (list_word name) ≡ false
list_fails name = grind arith

block_fails : (low m : ℕ) → low < 2 → m < 16 → 0 < m → is_not_narrow (codes "it" ++ letters_above low m) ≡ false
block_fails low zero hl hm some = absurd (omega arith)
block_fails zero (suc k) hl hm some = below_is_false (λ j. is_not_narrow (codes "it" ++ letters_above 0 (suc j))) 15 k refl (omega arith)
block_fails (suc zero) (suc k) hl hm some = below_is_false (λ j. is_not_narrow (codes "it" ++ letters_above 1 (suc j))) 15 k refl (omega arith)
block_fails (suc (suc low)) (suc k) hl hm some = absurd (omega arith)

narrow_fails : (r : NarrowRow) (t : Tok) → is_not_narrow (first_word (tokens_of r t)) ≡ false
narrow_fails (narrow.S20 i) t = ap is_not_narrow (begins i.name i.x.value i.n.value i.list.value) ∙ list_fails i.name
narrow_fails (narrow.S21 i) t =
    block_fails (i.c.value % 2) i.mask.value (omega arith) i.mask.in_range (some_mask i.c.value i.mask.value i.row)
narrow_fails (narrow.S25 (s25.Conditional i)) t = below_is_false (λ c. is_not_narrow (branch_mnemonic c)) 14 i.c.value refl i.c.in_range
narrow_fails r t = grind arith

-- ALL
abbrev pub is_wide_name : List ℕ → List Tok → Bool
is_wide_name w ts = is_not_narrow w && (not (begins_with_v w) || (is_other w || has_lane ts))

-- the tokens begin with such a mnemonic
abbrev pub is_wide_line : List Tok → Bool
is_wide_line [] = false
is_wide_line (word w ∷ ts) = is_wide_name w ts
is_wide_line (number n ∷ ts) = false
is_wide_line (mark c ∷ ts) = false

pub no_narrow : (r : NarrowRow) (t : Tok) (ts : List Tok) → tokens_of r t ≡ ts → is_wide_line ts ≡ true → ⊥
no_narrow r t [] is e = false≢true e
no_narrow r t (word w ∷ ts) is e =
    let p = and_parts (is_not_narrow w) (not (begins_with_v w) || (is_other w || has_lane ts)) e in
    false≢true (sym (narrow_fails r t) ∙ ap (λ (x : List Tok). is_not_narrow (first_word x)) is ∙ p.0)
no_narrow r t (number n ∷ ts) is e = false≢true e
no_narrow r t (mark c ∷ ts) is e = false≢true e

or_not : (v b : Bool) → (not v || b) ≡ true → v ≡ true → b ≡ true
or_not true b e v = e
or_not false b e v = absurd (false≢true v)

-- a vector row with such a mnemonic has a lane
pub vector_with_lane : (w : List ℕ) (ts us : List Tok) (v : Vector) → is_wide_name w ts ≡ true → HasTokens v (word w ∷ us) → has_lane ts ≡ true
vector_with_lane w ts us v e has =
    let p = and_parts (is_not_narrow w) (not (begins_with_v w) || (is_other w || has_lane ts)) e in
    elim (or_cases (is_other w) (has_lane ts) (or_not (begins_with_v w) (is_other w || has_lane ts) p.1 (vector_named v (word w ∷ us) has))) [
      | inl is ↦ absurd (not_other v w us has is)
      | inr lane ↦ lane
    ]
