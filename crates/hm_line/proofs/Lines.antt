-- Reading token by token goes on exactly where the tokens begin a line of the form, and may end exactly where they are one.
use Rattle.std.proofs.Common.{◌≡◌, Bool, true, false, List, [], ◌∷◌, ◌++◌, Option, Some, None, refl, sym, ap, subst, inl, inr, ◌∙◌}
use Rattle.std.specs.Prelude.{option_map, option_and_then}
use Rattle.std.proofs.lemmas.Bool.{false≢true}
use Rattle.std.proofs.lemmas.List.{append-nil}
use Rattle.hm_text_base.proofs.Steps.{some_is, and_then_some}
use Rattle.hm_tokens.specs.declared.marks.Mark.TheVariants.{Colon}
use Rattle.hm_line.specs.declared.form.Form.{Form}
use Rattle.hm_line.specs.declared.form.Form.TheVariants as forms
use Rattle.hm_line.specs.declared.form.Depth.TheVariants.{Outside}
use Rattle.hm_line.specs.declared.form.Operands.{Operands}
use Rattle.hm_line.specs.declared.form.Operands.TheVariants as ops
use Rattle.hm_line.specs.declared.form.State.{State}
use Rattle.hm_line.specs.declared.form.State.TheVariants as states
use Rattle.hm_line.specs.Kinds.{Kind, word, number, mark}
use Rattle.hm_line.specs.Forms.{Spaced, kinds, AreOperands, IsInstruction, IsOptional, IsLabelled, IsForm, Begins}
use Rattle.hm_line.specs.Steps.{first_operand, operand_step, line_step, is_line_end}
use Rattle.hm_line.proofs.Operands.{after, takes, operands_taken, operands_read, completion, completed}

-- these may follow, and then the end
abbrev pub accepts : Form → State → List Spaced → Bool
accepts form s [] = is_line_end form s
accepts form s (t ∷ ts) = after (line_step form s t.0 t.1) (λ next. accepts form next ts)

-- where tokens lead
abbrev pub run : Form → State → List Spaced → Option State
run form s [] = Some s
run form s (t ∷ ts) = option_and_then (λ next. run form next ts) (line_step form s t.0 t.1)

-- ---- operands in a line

mapped : (form : Form) (ts : List Spaced) (x : Option Operands) → ((n : Operands) → accepts form (states.Operands n) ts ≡ takes n (kinds ts))
    → after (option_map states.Operands x) (λ n. accepts form n ts) ≡ after x (λ n. takes n (kinds ts))
mapped form ts None h = refl
mapped form ts (Some n) h = h n

operands_accepted : (form : Form) (ts : List Spaced) (n : Operands) → accepts form (states.Operands n) ts ≡ takes n (kinds ts)
operands_accepted form [] n = refl
operands_accepted form (t ∷ ts) n = mapped form ts (operand_step n t.1) (λ m. operands_accepted form ts m)

begun : (form : Form) (k : Kind) (ts : List Spaced)
    → after (option_map states.Operands (first_operand Outside k)) (λ n. accepts form n ts) ≡ takes (ops.Operand Outside) (k ∷ kinds ts)
begun form k ts = mapped form ts (first_operand Outside k) (λ n. operands_accepted form ts n)

-- ---- what is accepted is of the form

first_word_accepted : (form : Form) (ts : List Spaced) → accepts form states.FirstWord ts ≡ true → AreOperands ts
first_word_accepted form [] e = tt
first_word_accepted form ((true, k) ∷ ts) e = let f = operands_taken (k ∷ kinds ts) (sym (begun form k ts) ∙ e) in (refl, f.0, f.1, f.2)
first_word_accepted form ((false, k) ∷ ts) e = absurd (false≢true e)

label_accepted : (form : Form) (ts : List Spaced) → accepts form states.Label ts ≡ true → IsOptional ts
label_accepted form [] e = tt
label_accepted form ((a, word) ∷ ts) e = (refl, first_word_accepted form ts e)
label_accepted form ((a, number) ∷ ts) e = absurd (false≢true e)
label_accepted form ((a, mark m) ∷ ts) e = absurd (false≢true e)

label_or_word_accepted : (form : Form) (a : Bool) (ts : List Spaced) → accepts form states.LabelOrWord ts ≡ true → IsForm form ((a, word) ∷ ts)
label_or_word_accepted forms.Instruction a [] e = (refl, tt)
label_or_word_accepted forms.Instruction a (t ∷ ts) e = (refl, first_word_accepted forms.Instruction (t ∷ ts) e)
label_or_word_accepted forms.Line a [] e = inl (refl, tt)
label_or_word_accepted forms.Line a ((b, mark Colon) ∷ ts) e = inr (refl, refl, label_accepted forms.Line ts e)
label_or_word_accepted forms.Line a ((b, k) ∷ ts) e = inl (refl, first_word_accepted forms.Line ((b, k) ∷ ts) e)

start_accepted : (form : Form) (ts : List Spaced) → accepts form states.Start ts ≡ true → IsForm form ts
start_accepted forms.Instruction [] e = absurd (false≢true e)
start_accepted forms.Line [] e = inl tt
start_accepted form ((a, word) ∷ ts) e = label_or_word_accepted form a ts e
start_accepted form ((a, number) ∷ ts) e = absurd (false≢true e)
start_accepted form ((a, mark m) ∷ ts) e = absurd (false≢true e)

-- ---- what is of the form is accepted

first_word_of : (form : Form) (ts : List Spaced) → AreOperands ts → accepts form states.FirstWord ts ≡ true
first_word_of form [] x = refl
first_word_of form ((true, k) ∷ ts) x = begun form k ts ∙ ap (takes (ops.Operand Outside)) x.3 ∙ operands_read x.1 x.2
first_word_of form ((false, k) ∷ ts) x = absurd (false≢true x.0)

label_or_word_of_form : (form : Form) (ts : List Spaced) → AreOperands ts → accepts form states.LabelOrWord ts ≡ true
label_or_word_of_form form [] x = refl
label_or_word_of_form forms.Line ((true, mark Colon) ∷ ts) x = absurd (false≢true (first_word_of forms.Line ((true, mark Colon) ∷ ts) x))
label_or_word_of_form forms.Line ((false, mark Colon) ∷ ts) x = absurd (false≢true x.0)
label_or_word_of_form form ((a, k) ∷ ts) x = first_word_of form ((a, k) ∷ ts) x

instruction_of : (form : Form) (ts : List Spaced) → IsInstruction ts → accepts form states.Start ts ≡ true
instruction_of form [] x = absurd x
instruction_of form ((a, k) ∷ ts) x = rw x.0 (label_or_word_of_form form ts x.1)

optional_of : (ts : List Spaced) → IsOptional ts → accepts forms.Line states.Start ts ≡ true
optional_of [] x = refl
optional_of (t ∷ ts) x = instruction_of forms.Line (t ∷ ts) x

label_of : (ts : List Spaced) → IsOptional ts → accepts forms.Line states.Label ts ≡ true
label_of [] x = refl
label_of ((a, k) ∷ ts) x = rw x.0 (first_word_of forms.Line ts x.1)

labelled_of : (ts : List Spaced) → IsLabelled ts → accepts forms.Line states.Start ts ≡ true
labelled_of [] x = absurd x
labelled_of (t ∷ []) x = absurd x
labelled_of ((a, k) ∷ (b, m) ∷ ts) x = rw (x.0, x.1) (label_of ts x.2)

complete : (form : Form) (ts : List Spaced) → IsForm form ts → accepts form states.Start ts ≡ true
complete forms.Instruction ts x = instruction_of forms.Instruction ts x
complete forms.Line ts x =
    elim x [
      | inl y ↦ optional_of ts y
      | inr y ↦ labelled_of ts y
    ]

-- ---- tokens one behind another

one_more : (form : Form) (s next last : State) (t : Spaced) (ts : List Spaced) → line_step form s t.0 t.1 ≡ Some next → run form next ts ≡ Some last
    → run form s (t ∷ ts) ≡ Some last
one_more form s next last t ts e f = rw e f

join : (form : Form) (ts : List Spaced) (s n : State) (more : List Spaced) → run form s ts ≡ Some n → accepts form s (ts ++ more) ≡ accepts form n more
join form [] s n more e = ap (λ (x : State). accepts form x more) (some_is s n e)
join form (t ∷ ts) s n more e =
    let a = and_then_some (line_step form s t.0 t.1) (λ x. run form x ts) n e in
    ap (λ (x : Option State). after x (λ m. accepts form m (ts ++ more))) a.1 ∙ join form ts a.0 n more a.2

after_true : (x : Option State) (f : State → Bool) → after x f ≡ true → (n : State) × (x ≡ Some n) × (f n ≡ true)
after_true None f e = absurd (false≢true e)
after_true (Some n) f e = (n, refl, e)

split : (form : Form) (ts : List Spaced) (s : State) (more : List Spaced) → accepts form s (ts ++ more) ≡ true → (n : State) × (run form s ts ≡ Some n)
split form [] s more e = (s, refl)
split form (t ∷ ts) s more e =
    let a = after_true (line_step form s t.0 t.1) (λ m. accepts form m (ts ++ more)) e in
    let r = split form ts a.0 more a.2 in
    (r.0, one_more form s a.0 r.0 t ts a.1 r.1)

some_again : {A : Type 0} (x : Option A) → option_and_then (λ n. Some n) x ≡ x
some_again None = refl
some_again (Some n) = refl

-- one more token behind others
pub run_push : (form : Form) (ts : List Spaced) (s n : State) (t : Spaced) → run form s ts ≡ Some n → run form s (ts ++ t ∷ []) ≡ line_step form n t.0 t.1
run_push form [] s n t e = some_again (line_step form s t.0 t.1) ∙ ap (λ (x : State). line_step form x t.0 t.1) (some_is s n e)
run_push form (u ∷ ts) s n t e =
    let a = and_then_some (line_step form s u.0 u.1) (λ x. run form x ts) n e in
    ap (λ (x : Option State). option_and_then (λ next. run form next (ts ++ t ∷ [])) x) a.1 ∙ run_push form ts a.0 n t a.2

-- ---- more tokens always make a line

abbrev spaced : List Kind → List Spaced
spaced [] = []
spaced (k ∷ ks) = (true, k) ∷ spaced ks

kinds_spaced : (ks : List Kind) → kinds (spaced ks) ≡ ks
kinds_spaced [] = refl
kinds_spaced (k ∷ ks) = ap (λ (x : List Kind). k ∷ x) (kinds_spaced ks)

abbrev state_completion : State → List Spaced
state_completion states.Start = (true, word) ∷ []
state_completion states.LabelOrWord = []
state_completion states.Label = []
state_completion states.FirstWord = []
state_completion (states.Operands n) = spaced (completion n)

state_completed : (form : Form) (s : State) → accepts form s (state_completion s) ≡ true
state_completed form states.Start = refl
state_completed form states.LabelOrWord = refl
state_completed form states.Label = refl
state_completed form states.FirstWord = refl
state_completed form (states.Operands n) = operands_accepted form (spaced (completion n)) n ∙ ap (takes n) (kinds_spaced (completion n)) ∙ completed n

-- ---- the laws

pub begins_run : (form : Form) (ts : List Spaced) → Begins form ts → (n : State) × (run form states.Start ts ≡ Some n)
begins_run form ts x = split form ts states.Start x.0 (complete form (ts ++ x.0) x.1)

pub run_begins : (form : Form) (ts : List Spaced) (n : State) → run form states.Start ts ≡ Some n → Begins form ts
run_begins form ts n e = (
  state_completion n,
  start_accepted form (ts ++ state_completion n) (join form ts states.Start n (state_completion n) e ∙ state_completed form n),
)

pub is_form : (form : Form) (ts : List Spaced) (n : State) → run form states.Start ts ≡ Some n → is_line_end form n ≡ true → IsForm form ts
is_form form ts n e end =
    start_accepted form ts (subst (λ (x : List Spaced). accepts form states.Start x ≡ true) (append-nil ts) (join form ts states.Start n [] e ∙ end))

pub form_ends : (form : Form) (ts : List Spaced) (n : State) → run form states.Start ts ≡ Some n → IsForm form ts → is_line_end form n ≡ true
form_ends form ts n e x =
    sym (join form ts states.Start n [] e) ∙ subst (λ (y : List Spaced). accepts form states.Start y ≡ true) (sym (append-nil ts)) (complete form ts x)
