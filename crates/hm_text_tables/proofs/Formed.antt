-- A text is of the form of an instruction, where its tokens are.
use Rattle.std.proofs.Common.{◌≡◌, ℕ, ◌<◌, Bool, true, false, eqb, ltb, List, [], ◌∷◌, length, map, Some, refl, ap, ◌∙◌, arith}
use Rattle.std.specs.Prelude.{◌==◌, ◌||◌}
use Rattle.std.proofs.lemmas.Bool.{false≢true, ne_eqb}
use Rattle.std.proofs.lemmas.Bool.Decides.{nat_tests}
use Rattle.hm_tokens.specs.declared.token.Class.TheVariants as classes
use Rattle.hm_tokens.specs.Lines.{AreTokensOf, IsLineOf, is_gap}
use Rattle.hm_tokens.specs.Tokens.{Tok, word, number, mark, run, skip, token_at}
use Rattle.hm_line.specs.declared.form.Depth.TheVariants.{Outside}
use Rattle.hm_line.specs.declared.form.Form.TheVariants as forms
use Rattle.hm_line.specs.declared.form.Operands.TheVariants as ops
use Rattle.hm_line.specs.Kinds.{Kind, kind}
use Rattle.hm_line.specs.Kinds as line_kinds
use Rattle.hm_line.specs.Forms.{Spaced, kinds}
use Rattle.hm_line.specs.Texts.{AreTokens, IsLast, IsOfForm, is_spaced, next}
use Rattle.hm_line.proofs.Fronts.{run_le}
use Rattle.hm_line.proofs.Operands.{operands_taken, takes}

-- the tokens of an instruction, where a space stands behind the first word
abbrev pub are_operands : List Kind → Bool
are_operands [] = true
are_operands (k ∷ ks) = takes (ops.Operand Outside) (k ∷ ks)

abbrev pub is_formed : List Tok → Bool
is_formed [] = false
is_formed (word w ∷ ts) = are_operands (map kind ts)
is_formed (number n ∷ ts) = false
is_formed (mark c ∷ ts) = false

pub record Formed (ts : List Tok) : Type 0 where
  pub is : is_formed ts ≡ true

next_of : (text rest : List ℕ) (t : Tok) → token_at (skip text) ≡ Some (t, rest) → next text ≡ Some ((is_spaced text, kind t), rest)
next_of text rest t e = rw e refl

-- the tokens with the spaces before them
abbrev AreSpaced : List ℕ → List Tok → Type 0
AreSpaced text ts = (ss : List Spaced) × (rest : List ℕ) × AreTokens text ss rest × (skip rest ≡ []) × (kinds ss ≡ map kind ts)

spaced_of : (ts : List Tok) (text : List ℕ) → AreTokensOf text ts → AreSpaced text ts
spaced_of [] text are = ([], text, refl, are, refl)
spaced_of (t ∷ ts) text are =
    let more = spaced_of ts are.0 are.2 in
    ((is_spaced text, kind t) ∷ more.0, more.1, (are.0, next_of text are.0 t are.1, more.2), more.3, ap (λ (ks : List Kind). kind t ∷ ks) more.4)

-- a space stands before a token that stands apart
run_space : (b : ℕ) (bs : List ℕ) → eqb b 32 ≡ true → run classes.Space (b ∷ bs) ≡ (b ∷ (run classes.Space bs).0, (run classes.Space bs).1)
unfolding run
run_space b bs e = rw e refl

skip_space : (b : ℕ) (bs : List ℕ) → eqb b 32 ≡ true → skip (b ∷ bs) ≡ skip bs
skip_space b bs e = ap (λ (p : List ℕ × List ℕ). p.1) (run_space b bs e)

begins_with_space : (n b : ℕ) → 0 < n → ((n == 0) || (b == 32)) ≡ true → eqb b 32 ≡ true
begins_with_space n b some e = second (eqb n 0) (eqb b 32) (ne_eqb n 0 (λ is. omega arith)) e
  where
    second : (x y : Bool) → x ≡ false → (x || y) ≡ true → y ≡ true
    second x y f t = rw f at t

less : (m n : ℕ) → m < n → ltb m n ≡ true
less m n lt = grind (arith, nat_tests)

nothing_there : (t : Tok) (rest : List ℕ) → token_at (skip []) ≡ Some (t, rest) → ⊥
unfolding token_at run
nothing_there t rest e = absurd cc

stands_apart : (text rest : List ℕ) (t : Tok) → is_gap text ≡ true → token_at (skip text) ≡ Some (t, rest) → is_spaced text ≡ true
stands_apart [] rest t gap e = absurd (nothing_there t rest e)
stands_apart (b ∷ bs) rest t gap e =
    let shorter = run_le classes.Space bs in
    let same = ap length (skip_space b bs (begins_with_space (length (b ∷ bs)) b (omega arith) gap)) in
    less (length (skip (b ∷ bs))) (length (b ∷ bs)) (omega (arith, shorter, same))

line_form : (text : List ℕ) (w : List ℕ) (rest : List ℕ) (ts : List Tok) → token_at (skip text) ≡ Some (word w, rest) → is_gap rest ≡ true → AreTokensOf rest ts
    → are_operands (map kind ts) ≡ true → IsOfForm forms.Instruction text
line_form text w rest [] e gap are f = ((is_spaced text, line_kinds.word) ∷ [], rest, (rest, next_of text rest (word w) e, refl), are, (refl, tt))
line_form text w rest (t ∷ ts) e gap are f =
    let more = spaced_of ts are.0 are.2 in
    let operands = operands_taken (kind t ∷ map kind ts) f in (
      (is_spaced text, line_kinds.word) ∷ (is_spaced rest, kind t) ∷ more.0,
      more.1,
      (rest, next_of text rest (word w) e, (are.0, next_of rest are.0 t are.1, more.2)),
      more.3,
      (refl, (stands_apart rest are.0 t gap are.1, operands.0, operands.1, ap (λ (ks : List Kind). kind t ∷ ks) more.4 ∙ operands.2)),
    )

text_form : (ts : List Tok) (text : List ℕ) → IsLineOf text ts → is_formed ts ≡ true → IsOfForm forms.Instruction text
text_form [] text line f = absurd line
text_form (word w ∷ ts) text line f = line_form text w line.0 ts line.1 line.2 line.3 f
text_form (number n ∷ ts) text line f = absurd (false≢true f)
text_form (mark c ∷ ts) text line f = absurd (false≢true f)

pub formed_text : (ts : List Tok) (text : List ℕ) → IsLineOf text ts → Formed ts → IsOfForm forms.Instruction text
formed_text ts text line f = text_form ts text line f.is

-- a text of the form has a last token
last_of : (ss : List Spaced) (text rest : List ℕ) (s : Spaced) → AreTokens text (s ∷ ss) rest → skip rest ≡ [] → (here : List ℕ) × IsLast text here
last_of [] text rest s are end = (text, ([], s, are.0, refl, are.1, ap skip are.2 ∙ end))
last_of (u ∷ ss) text rest s are end =
    let more = last_of ss are.0 rest u are.2 end in
    (more.0, (s ∷ more.1.0, more.1.1, more.1.2, (are.0, are.1, more.1.3), more.1.4, more.1.5))

pub last_there : (text : List ℕ) → IsOfForm forms.Instruction text → (here : List ℕ) × IsLast text here
last_there text ([], rest, are, end, is) = absurd is
last_there text (s ∷ ss, rest, are, end, is) = last_of ss text rest s are end
