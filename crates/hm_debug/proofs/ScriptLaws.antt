-- A text is a script, of one list of commands, or it is refused, in one way.
use Rattle.std.proofs.Common.{◌≡◌, ◌⊎◌, inl, inr, ℕ, ◌+◌, Bool, true, false, refl, sym, ◌∙◌, ap, List, [], ◌∷◌, nat_lt}
use Rattle.hm_text_base.specs.Spans.{lines_of}
use Rattle.hm_debug.proofs.Deciding.{one_command, said_decided}
use Rattle.hm_debug.specs.Scripts.{IsFirstBad, IsScript, SayAll, ScriptRefuses, lines_in, most_lines}
use Rattle.hm_debug.specs.declared.command.Command.{Command}
use Rattle.hm_debug.specs.declared.errors.ScriptErr.{ScriptErr}
use Rattle.hm_debug.specs.declared.errors.ScriptErr.TheVariants as err

-- LINES
read_lines : (ls : List (List ℕ)) (rest : List ℕ) (k : ℕ) → ((cs : List Command) × SayAll (ls, rest) cs) ⊎ ((bad : ℕ) × IsFirstBad bad k (ls, rest))
read_lines [] [] k = inl ([], tt)
read_lines [] (b ∷ bs) k = inr (k, refl)
read_lines (l ∷ ls) rest k =
    elim (said_decided l) [
      | inr unsaid ↦ inr (k, inl ((λ c s. unsaid (c, s)), refl))
      | inl said ↦ elim (read_lines ls rest (k + 1)) [
        | inl all ↦ inl (said.0 ∷ all.0, (said.1, all.1))
        | inr bad ↦ inr (bad.0, inr (said.0, said.1, bad.1))
      ]
    ]

one_list : (ls : List (List ℕ)) (rest : List ℕ) (cs ds : List Command) → SayAll (ls, rest) cs → SayAll (ls, rest) ds → cs ≡ ds
one_list [] [] [] [] x y = refl
one_list [] [] [] (d ∷ ds) x y = absurd y
one_list [] [] (c ∷ cs) ds x y = absurd x
one_list [] (b ∷ bs) [] ds x y = absurd x
one_list [] (b ∷ bs) (c ∷ cs) ds x y = absurd x
one_list (l ∷ ls) rest [] ds x y = absurd x
one_list (l ∷ ls) rest (c ∷ cs) [] x y = absurd y
one_list (l ∷ ls) rest (c ∷ cs) (d ∷ ds) x y = λ i. one_command l c d x.0 y.0 i ∷ one_list ls rest cs ds x.1 y.1 i

one_bad : (ls : List (List ℕ)) (rest : List ℕ) (k a b : ℕ) → IsFirstBad a k (ls, rest) → IsFirstBad b k (ls, rest) → a ≡ b
one_bad [] [] k a b x y = absurd x
one_bad [] (c ∷ cs) k a b x y = x ∙ sym y
one_bad (l ∷ ls) rest k a b (inl x) (inl y) = x.1 ∙ sym y.1
one_bad (l ∷ ls) rest k a b (inl x) (inr y) = absurd (x.0 y.0 y.1)
one_bad (l ∷ ls) rest k a b (inr x) (inl y) = absurd (y.0 x.0 x.1)
one_bad (l ∷ ls) rest k a b (inr x) (inr y) = one_bad ls rest (k + 1) a b x.2 y.2

none_bad : (ls : List (List ℕ)) (rest : List ℕ) (k bad : ℕ) (cs : List Command) → SayAll (ls, rest) cs → IsFirstBad bad k (ls, rest) → ⊥
none_bad [] [] k bad cs x y = y
none_bad [] (b ∷ bs) k bad [] x y = x
none_bad [] (b ∷ bs) k bad (c ∷ cs) x y = x
none_bad (l ∷ ls) rest k bad [] x y = x
none_bad (l ∷ ls) rest k bad (c ∷ cs) x (inl y) = y.0 c x.0
none_bad (l ∷ ls) rest k bad (c ∷ cs) x (inr y) = none_bad ls rest (k + 1) bad cs x.1 y.2

-- TEXTS
abbrev pub IsReadOrRefused : List ℕ → Type 0
IsReadOrRefused text = ((cs : List Command) × IsScript text cs) ⊎ ((e : ScriptErr) × ScriptRefuses text e)

some_reading : (text : List ℕ) (many : Bool) → nat_lt most_lines (lines_in (lines_of text)) ≡ many → IsReadOrRefused text
some_reading text true many = inr (err.TooManyLines, many)
some_reading text false few =
    elim (read_lines (lines_of text).0 (lines_of text).1 1) [
      | inl all ↦ inl (all.0, record { few = few; says = all.1 })
      | inr bad ↦ inr (err.Line bad.0, (few, bad.1))
    ]

pub read_or_refused : (text : List ℕ) → IsReadOrRefused text
read_or_refused text = some_reading text (nat_lt most_lines (lines_in (lines_of text))) refl

pub one_script : (text : List ℕ) (cs ds : List Command) → IsScript text cs → IsScript text ds → cs ≡ ds
one_script text cs ds x y = one_list (lines_of text).0 (lines_of text).1 cs ds x.says y.says

pub one_refusal : (text : List ℕ) (d e : ScriptErr) → ScriptRefuses text d → ScriptRefuses text e → d ≡ e
one_refusal text err.TooManyLines err.TooManyLines x y = refl
one_refusal text err.TooManyLines (err.Line l) x y = absurd (let no : true ≡ false = sym x ∙ y.0 in cc)
one_refusal text err.TooManyLines err.OutOfMemory x y = absurd y
one_refusal text (err.Line k) err.TooManyLines x y = absurd (let no : true ≡ false = sym y ∙ x.0 in cc)
one_refusal text (err.Line k) (err.Line l) x y = ap (λ (n : ℕ). err.Line n) (one_bad (lines_of text).0 (lines_of text).1 1 k l x.1 y.1)
one_refusal text (err.Line k) err.OutOfMemory x y = absurd y
one_refusal text err.OutOfMemory e x y = absurd x

pub not_both : (text : List ℕ) (cs : List Command) (e : ScriptErr) → IsScript text cs → ScriptRefuses text e → ⊥
not_both text cs err.TooManyLines x y = let no : true ≡ false = sym y ∙ x.few in cc
not_both text cs (err.Line l) x y = none_bad (lines_of text).0 (lines_of text).1 1 l cs x.says y.1
not_both text cs err.OutOfMemory x y = y
