-- Reading a text token by token, and where it stops.
use Rattle.std.proofs.Common.{◌≡◌, ℕ, ◌<◌, ◌≤◌, Bool, true, false, cond, eqb, ltb, List, [], ◌∷◌, ◌++◌, length, drop, length-drop, Option, Some, None, Result}
use Rattle.std.proofs.Common.{Ok, Err, refl, sym, ap, subst, inl, inr, ◌∙◌, arith}
use Rattle.std.specs.Prelude.{MatchResult, IfSome, IsOk}
use Rattle.std.proofs.lemmas.Bool.{cases_Bool, false≢true, ne_eqb, eq-eqb}
use Rattle.std.proofs.lemmas.List.{append-nil, nil_from_length}
use Rattle.hm_text_base.specs.Reading.{ReadsSome}
use Rattle.hm_text_base.proofs.Steps.{some_is, and_then_some, err_is, refused}
use Rattle.hm_tokens.specs.declared.token.Class.{Class}
use Rattle.hm_tokens.specs.declared.token.Class.TheVariants as classes
use Rattle.hm_tokens.specs.Tokens.{Tok, word, number, mark, is_digit, is_hex, is_in, run, skip, token_at, value}
use Rattle.hm_tokens.specs.Marks.{is_mark}
use Rattle.hm_line.specs.declared.form.Form.{Form}
use Rattle.hm_line.specs.declared.form.State.{State}
use Rattle.hm_line.specs.declared.form.State.TheVariants as states
use Rattle.hm_line.specs.Kinds.{kind}
use Rattle.hm_line.specs.Forms.{Spaced, IsForm, Begins}
use Rattle.hm_line.specs.Steps.{line_step, is_line_end}
use Rattle.hm_line.specs.Texts.{AreTokens, IsFront, IsOfForm, IsRefused, column, is_spaced, next, refusal_column}
use Rattle.hm_line.proofs.Lines as lines

abbrev accepted : {A E : Type 0} → A → Result A E
accepted x = Ok x

abbrev given : {A : Type 0} → A → Option A
given x = Some x

-- ---- one more token

more_tokens : (text : List ℕ) (ts : List Spaced) (rest after : List ℕ) (t : Spaced) → AreTokens text ts rest → next rest ≡ Some (t, after)
    → AreTokens text (ts ++ t ∷ []) after
more_tokens text [] rest after t are e = (after, subst (λ (x : List ℕ). next x ≡ Some (t, after)) (sym are) e, refl)
more_tokens text (u ∷ ts) rest after t are e = (are.0, are.1, more_tokens are.0 ts rest after t are.2 e)

next_of : (rest after : List ℕ) (t : Tok) (apart : Bool) → token_at (skip rest) ≡ Some (t, after) → apart ≡ is_spaced rest
    → next rest ≡ Some ((apart, kind t), after)
next_of rest after t apart e a = rw (e, a) refl

-- what is read so far
abbrev pub ReadTo : Form → List ℕ → State → List ℕ → Type 0
ReadTo form text s rest = (ts : List Spaced) × AreTokens text ts rest × (lines.run form states.Start ts ≡ Some s)

goes_on : (form : Form) (text rest after : List ℕ) (s n : State) (t : Tok) (apart : Bool) → ReadTo form text s rest → token_at (skip rest) ≡ Some (t, after)
    → apart ≡ is_spaced rest → line_step form s apart (kind t) ≡ Some n → ReadTo form text n after
goes_on form text rest after s n t apart r e a step = (
  r.0 ++ (apart, kind t) ∷ [],
  more_tokens text r.0 rest after (apart, kind t) r.1 (next_of rest after t apart e a),
  lines.run_push form r.0 states.Start s (apart, kind t) r.2 ∙ step,
)

all_read : (form : Form) (text rest : List ℕ) (s : State) → ReadTo form text s rest → skip rest ≡ [] → is_line_end form s ≡ true → IsOfForm form text
all_read form text rest s r e end = (r.0, rest, r.1, e, lines.is_form form r.0 s r.2 end)

-- ---- where reading stops

-- no token that stands next leads on
abbrev pub Stuck : Form → State → List ℕ → Type 0
Stuck form s rest = (t : Spaced) (after : List ℕ) → next rest ≡ Some (t, after) → line_step form s t.0 t.1 ≡ None

-- nothing stands next where nothing is left
pub nothing_next : (rest : List ℕ) → token_at (skip rest) ≡ None → next rest ≡ None
nothing_next rest none = rw none refl

pub differs : {A : Type 0} (x : Option A) (y : A) → x ≡ None → x ≡ Some y → ⊥
differs x y none some = cc

nothing_stuck : (form : Form) (s : State) (rest : List ℕ) → token_at (skip rest) ≡ None → Stuck form s rest
nothing_stuck form s rest none t after e = absurd (differs (next rest) (t, after) (nothing_next rest none) e)

ends_stuck : (form : Form) (s : State) (rest : List ℕ) → skip rest ≡ [] → Stuck form s rest
unfolding token_at
ends_stuck form s rest e = nothing_stuck form s rest (rw e refl)

step_stuck : (form : Form) (s : State) (rest : List ℕ) (u : Spaced) (behind : List ℕ) → next rest ≡ Some (u, behind) → line_step form s u.0 u.1 ≡ None
    → Stuck form s rest
step_stuck form s rest u behind is none t after e =
    let same : u ≡ t = ap (λ (p : Spaced × List ℕ). p.0) (some_is (u, behind) (t, after) (sym is ∙ e)) in
    subst (λ (x : Spaced). line_step form s x.0 x.1 ≡ None) same none

front : (form : Form) (text rest : List ℕ) (s : State) (r : ReadTo form text s rest) → Stuck form s rest → IsFront form text r.0 rest
front form text rest s r stuck = (
  r.1,
  lines.run_begins form r.0 s r.2,
  λ t after e b.
      let more = lines.begins_run form (r.0 ++ t ∷ []) b in
      differs (lines.run form states.Start (r.0 ++ t ∷ [])) more.0 (lines.run_push form r.0 states.Start s t r.2 ∙ stuck t after e) more.1,
)

-- nothing is left, but the line may not end
ends_early : (form : Form) (text rest : List ℕ) (s : State) (c : ℕ) → ReadTo form text s rest → skip rest ≡ [] → is_line_end form s ≡ false
    → c ≡ column text rest → IsRefused form text c
ends_early form text rest s c r empty end is = (
  r.0,
  rest,
  front form text rest s r (ends_stuck form s rest empty),
  λ e f. false≢true (sym end ∙ lines.form_ends form r.0 s r.2 f),
  is ∙ sym (at_end (eqb (length (skip rest)) 0) (column text rest) (column text (skip rest)) (eq-eqb (length (skip rest)) 0 (ap length empty))),
)
  where
    at_end : (b : Bool) (x y : ℕ) → b ≡ true → cond b x y ≡ x
    at_end b x y e = rw e refl

some_left : (text rest : List ℕ) (c : ℕ) → 0 < length (skip rest) → c ≡ column text (skip rest) → c ≡ refusal_column text rest
some_left text rest c some is = is
    ∙ sym (not_end (eqb (length (skip rest)) 0) (column text rest) (column text (skip rest)) (ne_eqb (length (skip rest)) 0 (λ e. omega arith)))
  where
    not_end : (b : Bool) (x y : ℕ) → b ≡ false → cond b x y ≡ y
    not_end b x y e = rw e refl

pub not_empty : (xs : List ℕ) → 0 < length xs → xs ≡ [] → ⊥
not_empty xs some e = let n : length xs ≡ 0 = ap length e in omega arith

-- a byte of no token
no_token : (form : Form) (text rest : List ℕ) (s : State) (c : ℕ) → ReadTo form text s rest → 0 < length (skip rest) → token_at (skip rest) ≡ None
    → c ≡ column text (skip rest) → IsRefused form text c
no_token form text rest s c r some none is = (
  r.0,
  rest,
  front form text rest s r (nothing_stuck form s rest none),
  λ e f. not_empty (skip rest) some e,
  some_left text rest c some is,
)

-- a token that leads nowhere
no_step : (form : Form) (text rest after : List ℕ) (s : State) (t : Tok) (apart : Bool) (c : ℕ) → ReadTo form text s rest → 0 < length (skip rest)
    → token_at (skip rest) ≡ Some (t, after) → apart ≡ is_spaced rest
    → line_step form s apart (kind t) ≡ None → c ≡ column text (skip rest) → IsRefused form text c
no_step form text rest after s t apart c r some e a none is = (
  r.0,
  rest,
  front form text rest s r (step_stuck form s rest (apart, kind t) after (next_of rest after t apart e a) none),
  λ e f. not_empty (skip rest) some e,
  some_left text rest c some is,
)

-- ---- it stops at one place

stuck_of : (form : Form) (ts : List Spaced) (rest : List ℕ) (n : State)
    → ((t : Spaced) (after : List ℕ) → next rest ≡ Some (t, after) → Begins form (ts ++ t ∷ []) → ⊥) → lines.run form states.Start ts ≡ Some n
    → Stuck form n rest
stuck_of form ts rest n longest r t after e = no_more (line_step form n t.0 t.1) refl
  where
    no_more : (x : Option State) → line_step form n t.0 t.1 ≡ x → x ≡ None
    no_more None is = refl
    no_more (Some m) is = absurd (longest t after e (lines.run_begins form (ts ++ t ∷ []) m (lines.run_push form ts states.Start n t r ∙ is)))

same_front : (form : Form) (ts us : List Spaced) (s p q : State) (text rest other : List ℕ)
    → AreTokens text ts rest → lines.run form s ts ≡ Some p → Stuck form p rest → AreTokens text us other → lines.run form s us ≡ Some q → Stuck form q other
    → (ts ≡ us) × (rest ≡ other)
same_front form [] [] s p q text rest other a e f b g h = (refl, sym a ∙ b)
same_front form [] (u ∷ us) s p q text rest other a e f b g h =
    let x = and_then_some (line_step form s u.0 u.1) (λ n. lines.run form n us) q g in
    let none = f u b.0 (subst (λ (r : List ℕ). next r ≡ Some (u, b.0)) a b.1) in
    absurd (differs (line_step form s u.0 u.1) x.0 (subst (λ (n : State). line_step form n u.0 u.1 ≡ None) (sym (some_is s p e)) none) x.1)
same_front form (t ∷ ts) [] s p q text rest other a e f b g h =
    let x = and_then_some (line_step form s t.0 t.1) (λ n. lines.run form n ts) p e in
    let none = h t a.0 (subst (λ (r : List ℕ). next r ≡ Some (t, a.0)) b a.1) in
    absurd (differs (line_step form s t.0 t.1) x.0 (subst (λ (n : State). line_step form n t.0 t.1 ≡ None) (sym (some_is s q g)) none) x.1)
same_front form (t ∷ ts) (u ∷ us) s p q text rest other a e f b g h =
    let same = some_is (t, a.0) (u, b.0) (sym a.1 ∙ b.1) in
    let tokens : t ≡ u = ap (λ (z : Spaced × List ℕ). z.0) same in
    let texts : a.0 ≡ b.0 = ap (λ (z : Spaced × List ℕ). z.1) same in
    let x = and_then_some (line_step form s t.0 t.1) (λ n. lines.run form n ts) p e in
    let y = and_then_some (line_step form s u.0 u.1) (λ n. lines.run form n us) q g in
    let states : x.0 ≡ y.0 = some_is x.0 y.0 (sym x.1 ∙ ap (λ (z : Spaced). line_step form s z.0 z.1) tokens ∙ y.1) in
    let r = same_front form ts us x.0 p q a.0 rest other a.2 x.2 f
    (subst (λ (z : List ℕ). AreTokens z us other) (sym texts) b.2)
    (subst (λ (z : State). lines.run form z us ≡ Some q) (sym states) y.2) h in
    (cc (tokens, r.0), r.1)

fronts : (form : Form) (text : List ℕ) (ts us : List Spaced) (rest other : List ℕ) → IsFront form text ts rest → IsFront form text us other
    → (ts ≡ us) × (rest ≡ other)
fronts form text ts us rest other a b =
    let m = lines.begins_run form ts a.1 in
    let n = lines.begins_run form us b.1 in
    same_front form ts us states.Start m.0 n.0 text rest other a.0 m.1 (stuck_of form ts rest m.0 a.2 m.1) b.0 n.1 (stuck_of form us other n.0 b.2 n.1)

form_front : (form : Form) (text : List ℕ) (ts : List Spaced) (rest : List ℕ) → AreTokens text ts rest → skip rest ≡ [] → IsForm form ts
    → IsFront form text ts rest
form_front form text ts rest a e f =
    let b : Begins form ts = ([], subst (λ (x : List Spaced). IsForm form x) (sym (append-nil ts)) f) in
    let m = lines.begins_run form ts b in
    front form text rest m.0 (ts, a, m.1) (ends_stuck form m.0 rest e)

-- a text is not both
pub not_both : (form : Form) (text : List ℕ) (c : ℕ) → IsOfForm form text → IsRefused form text c → ⊥
not_both form text c f r =
    let same = fronts form text f.0 r.0 f.1 r.1 (form_front form text f.0 f.1 f.2 f.3 f.4) r.2 in
    r.3 (subst (λ (x : List ℕ). skip x ≡ []) same.1 f.3) (subst (λ (x : List Spaced). IsForm form x) same.0 f.4)

-- and is refused at one column
pub one_column : (form : Form) (text : List ℕ) (c d : ℕ) → IsRefused form text c → IsRefused form text d → c ≡ d
one_column form text c d r s =
    let same = fronts form text r.0 s.0 r.1 s.1 r.2 s.2 in
    r.4 ∙ ap (refusal_column text) same.1 ∙ sym s.4

-- ---- a token is no empty text

pub run_le : (class : Class) (text : List ℕ) → length (run class text).1 ≤ length text
unfolding run
run_le class [] = omega arith
run_le class (b ∷ bs) =
    elim (cases_Bool (is_in class b)) [
      | inl e ↦ rw e (omega (arith, run_le class bs))
      | inr e ↦ rw e (omega arith)
    ]

run_lt : (class : Class) (b : ℕ) (bs : List ℕ) → is_in class b ≡ true → length (run class (b ∷ bs)).1 ≤ length bs
unfolding run
run_lt class b bs e = rw e (run_le class bs)

rest_is : (x y : Tok × List ℕ) (n : ℕ) → given x ≡ given y → length x.1 < n → length y.1 < n
rest_is x y n e lt = subst (λ (p : Tok × List ℕ). length p.1 < n) (some_is x y e) lt

pub token_shorter : (text : List ℕ) (x : Tok × List ℕ) → token_at text ≡ Some x → length x.1 < length text
unfolding token_at
token_shorter [] x e = absurd cc
token_shorter (b ∷ bs) x e =
    let some : eqb (length (b ∷ bs)) 0 ≡ false = ne_eqb (length (b ∷ bs)) 0 (λ is. omega arith) in
    elim (cases_Bool (is_hex (b ∷ bs))) [
      | inl h ↦ rest_is (number (value 16 0 (run classes.Hex (drop 2 (b ∷ bs))).0), (run classes.Hex (drop 2 (b ∷ bs))).1) x (length (b ∷ bs))
          (rw (some, h) at e) (omega (arith, run_le classes.Hex (drop 2 (b ∷ bs)), length-drop 2 (b ∷ bs)))
      | inr h ↦ elim (cases_Bool (is_digit b)) [
        | inl d ↦ rest_is (number (value 10 0 (run classes.Decimal (b ∷ bs)).0), (run classes.Decimal (b ∷ bs)).1) x (length (b ∷ bs)) (rw (some, h, d) at e)
            (omega (arith, run_lt classes.Decimal b bs d))
        | inr d ↦ elim (cases_Bool (is_in classes.Word b)) [
          | inl w ↦ rest_is (word (run classes.Word (b ∷ bs)).0, (run classes.Word (b ∷ bs)).1) x (length (b ∷ bs)) (rw (some, h, w, d) at e)
              (omega (arith, run_lt classes.Word b bs w))
          | inr w ↦ elim (cases_Bool (is_mark b)) [
            | inl m ↦ rest_is (mark b, bs) x (length (b ∷ bs)) (rw (some, h, w, d, m) at e) (omega arith)
            | inr m ↦ absurd (differs None x refl (rw (some, h, w, d, m) at e))
          ]
        ]
      ]
    ]

-- ---- as the code reads, of what stands behind the spaces

none_left : (here rest : List ℕ) → here ≡ skip rest → length here ≡ 0 → skip rest ≡ []
none_left here rest is e = sym is ∙ nil_from_length here e

some_here : (here rest : List ℕ) → here ≡ skip rest → 0 < length here → 0 < length (skip rest)
some_here here rest is some = subst (λ (x : List ℕ). 0 < length x) is some

pub whole_read : (form : Form) (text rest here : List ℕ) (s : State) → here ≡ skip rest → ReadTo form text s rest → length here ≡ 0 → is_line_end form s ≡ true
    → IsOfForm form text
whole_read form text rest here s is r e end = all_read form text rest s r (none_left here rest is e) end

pub too_early : (form : Form) (text rest here : List ℕ) (s : State) (c : ℕ) → here ≡ skip rest → ReadTo form text s rest → length here ≡ 0
    → is_line_end form s ≡ false → c ≡ column text rest → IsRefused form text c
too_early form text rest here s c is r e end at = ends_early form text rest s c r (none_left here rest is e) end at

pub strange_byte : (form : Form) (text rest here : List ℕ) (s : State) (c : ℕ) → here ≡ skip rest → ReadTo form text s rest → 0 < length here
    → token_at here ≡ None → c ≡ column text here → IsRefused form text c
strange_byte form text rest here s c is r some e at =
    no_token form text rest s c r (some_here here rest is some) (ap token_at (sym is) ∙ e) (at ∙ ap (column text) is)

apart_is : (here rest : List ℕ) (apart : Bool) → here ≡ skip rest → apart ≡ ltb (length here) (length rest) → apart ≡ is_spaced rest
apart_is here rest apart is a = a ∙ ap (λ (x : List ℕ). ltb (length x) (length rest)) is

pub wrong_token : (form : Form) (text rest here after : List ℕ) (s : State) (t : Tok) (apart : Bool) (c : ℕ) → here ≡ skip rest → ReadTo form text s rest
    → 0 < length here → token_at here ≡ Some (t, after)
    → apart ≡ ltb (length here) (length rest) → None ≡ line_step form s apart (kind t) → c ≡ column text here → IsRefused form text c
wrong_token form text rest here after s t apart c is r some e a none at =
    no_step form text rest after s t apart c r (some_here here rest is some) (ap token_at (sym is) ∙ e) (apart_is here rest apart is a) (sym none)
    (at ∙ ap (column text) is)

pub next_token : (form : Form) (text rest here after : List ℕ) (s n : State) (t : Tok) (apart : Bool) → here ≡ skip rest → ReadTo form text s rest
    → token_at here ≡ Some (t, after)
    → apart ≡ ltb (length here) (length rest) → Some n ≡ line_step form s apart (kind t) → ReadTo form text n after
next_token form text rest here after s n t apart is r e a step =
    goes_on form text rest after s n t apart r (ap token_at (sym is) ∙ e) (apart_is here rest apart is a) (sym step)

-- what a reader of the next token leaves is shorter
pub shorter_next : {X : Type 0} (t : X → Tok) (r : X → List ℕ) (o : Option X) (text : List ℕ) (n : ℕ) → ReadsSome (λ x. (t x, r x)) o (token_at text)
    → length text ≤ n → IfSome o (λ x. length (r x) < n)
shorter_next t r (Some x) text n e le = omega (arith, token_shorter text (t x, r x) e)
shorter_next t r None text n e le = tt

-- ---- as the code answers

pub fits_are : {A : Type 0} (form : Form) (text : List ℕ) (r : Result A ℕ) → MatchResult r (λ _. IsOfForm form text) (λ c. IsRefused form text c)
    → (IsOk r → IsOfForm form text) × (IsOfForm form text → IsOk r)
fits_are form text (Ok x) m = ((λ _. m), (λ _. refl))
fits_are form text (Err c) m = ((λ e. absurd (false≢true e)), (λ f. absurd (not_both form text c f m)))

pub refusals_are : {A : Type 0} (form : Form) (text : List ℕ) (r : Result A ℕ) → MatchResult r (λ _. IsOfForm form text) (λ c. IsRefused form text c) → (c : ℕ)
    → (IsRefused form text c → r ≡ Err c) × (r ≡ Err c → IsRefused form text c)
refusals_are form text (Ok x) m c = ((λ f. absurd (not_both form text c m f)), (λ e. absurd cc))
refusals_are form text (Err d) m c = (
  (λ f. ap (λ (x : ℕ). Err x) (one_column form text d c m f)),
  (λ e. subst (λ (x : ℕ). IsRefused form text x) (err_is d c e) m),
)

pub ok_refusals : {A : Type 0} (form : Form) (text : List ℕ) (x : A) → IsOfForm form text → (c : ℕ)
    → (IsRefused form text c → accepted x ≡ refused c) × (accepted x ≡ refused c → IsRefused form text c)
ok_refusals form text x f c = ((λ r. absurd (not_both form text c f r)), (λ e. absurd cc))

pub moved : {A B : Type 0} (P : ℕ → Type 0) (d : ℕ) → ((c : ℕ) → (P c → refused {A = A} d ≡ refused c) × (refused {A = A} d ≡ refused c → P c)) → (c : ℕ)
    → (P c → refused {A = B} d ≡ refused c) × (refused {A = B} d ≡ refused c → P c)
moved P d h c = ((λ p. ap (λ (x : ℕ). Err x) (err_is d c ((h c).0 p))), (λ e. (h c).1 (ap (λ (x : ℕ). Err x) (err_is d c e))))
