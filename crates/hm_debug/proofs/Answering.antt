-- The answers of a script, line by line.
use Rattle.std.proofs.Common.{◌≡◌, ℕ, ap, refl, sym, ◌∙◌, List, [], ◌∷◌, ◌++◌, append-nil, append_assoc}
use Rattle.hm_debug.specs.Answers.{Gives, answer, answers}
use Rattle.hm_debug.specs.Commands.{Says}
use Rattle.hm_debug.specs.Films.{Film}
use Rattle.hm_debug.specs.Scripts.{SayAll}
use Rattle.hm_debug.specs.declared.command.Command.{Command}
use Rattle.hm_text_base.specs.Spans.{Lines}

-- what is left to answer of lines, behind what was printed, is what a script answers
abbrev pub IsLeft : Film → Lines → List ℕ → ℕ → List ℕ → Type 0
IsLeft f lines out place all = (ds : List Command) × SayAll lines ds × (out ++ answers f ds place ≡ all)

-- a script begins with a line, which says its first command
pub first_says : (line : List ℕ) (ls : List (List ℕ)) (r : List ℕ) (cs : List Command) → SayAll (line ∷ ls, r) cs
    → (c : Command) × (ds : List Command) × (cs ≡ c ∷ ds) × Says line c × SayAll (ls, r) ds
first_says line ls r [] say = absurd say
first_says line ls r (c ∷ cs) say = (c, cs, refl, say.0, say.1)

pub left_after : (f : Film) (line : List ℕ) (ls : List (List ℕ)) (r : List ℕ) (out new : List ℕ) (place next : ℕ) (all : List ℕ)
    → IsLeft f (line ∷ ls, r) out place all → ((c : Command) → Says line c → Gives (answer f c place) out new next) → IsLeft f (ls, r) new next all
left_after f line ls r out new place next all left given =
    let one = first_says line ls r left.0 left.1 in
    let c = one.0 in
    let ds = one.1 in
    let g = given c one.3 in
    let text = (answer f c place).text in
    let rest = answers f ds (answer f c place).place in (
      ds,
      one.4,
      (λ i. g.text i ++ answers f ds (g.place_is i)) ∙ append_assoc out text rest ∙ ap (λ (cs : List Command). out ++ answers f cs place) (sym one.2) ∙ left.2,
    )

-- no line is left
pub left_none : (f : Film) (r out : List ℕ) (place : ℕ) (all : List ℕ) → IsLeft f ([], r) out place all → out ≡ all
left_none f r out place all left = none r left.0 left.1 left.2
  where
    none : (r : List ℕ) (ds : List Command) → SayAll ([], r) ds → out ++ answers f ds place ≡ all → out ≡ all
    none [] [] say is = sym (append-nil out) ∙ is
    none [] (d ∷ ds) say is = absurd say
    none (b ∷ bs) [] say is = absurd say
    none (b ∷ bs) (d ∷ ds) say is = absurd say
