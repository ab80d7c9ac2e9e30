-- A script that goes on behind another one.
use Rattle.std.proofs.Common.{◌≡◌, ℕ, ap, refl, subst, Bool, true, false, cond, eqb, List, [], ◌∷◌, ◌++◌}
use Rattle.hm_text_base.specs.Spans.{Lines, lines_of, onto_line}
use Rattle.hm_debug.proofs.Deciding.{one_command}
use Rattle.hm_debug.specs.Scripts.{IsScript, SayAll}
use Rattle.hm_debug.specs.declared.command.Command.{Command}

-- the lines of a text behind lines that are all ended
abbrev then_lines : List (List ℕ) → Lines → Lines
then_lines ls m = (ls ++ m.0, m.1)

one_more : (b : ℕ) (ends : Bool) (x y m : Lines) → (x.1 ≡ [] → y ≡ then_lines x.0 m) → (cond ends ([] ∷ x.0, x.1) (onto_line b x)).1 ≡ []
    → cond ends ([] ∷ y.0, y.1) (onto_line b y) ≡ then_lines (cond ends ([] ∷ x.0, x.1) (onto_line b x)).0 m
one_more b true x y m goes ended = λ i. ([] ∷ (goes ended i).0, (goes ended i).1)
one_more b false ([], r) y m goes ended = absurd cc
one_more b false (l ∷ ls, r) y m goes ended = ap (onto_line b) (goes ended)

lines_then : (text more : List ℕ) → (lines_of text).1 ≡ [] → lines_of (text ++ more) ≡ then_lines (lines_of text).0 (lines_of more)
unfolding lines_of
lines_then [] more ended = refl
lines_then (b ∷ bs) more ended = one_more b (eqb b 10) (lines_of bs) (lines_of (bs ++ more)) (lines_of more) (lines_then bs more) ended

all_ended : (lines : Lines) (cs : List Command) → SayAll lines cs → lines.1 ≡ []
all_ended ([], []) cs say = refl
all_ended ([], b ∷ bs) [] say = absurd say
all_ended ([], b ∷ bs) (c ∷ cs) say = absurd say
all_ended (l ∷ ls, rest) [] say = absurd say
all_ended (l ∷ ls, rest) (c ∷ cs) say = all_ended (ls, rest) cs say.1

-- what the first lines say, the longer script begins with
begins : (ls : List (List ℕ)) (rest : List ℕ) (m : Lines) (cs es : List Command) → SayAll (ls, rest) cs → SayAll (then_lines ls m) es
    → (ds : List Command) × (es ≡ cs ++ ds)
begins [] rest m [] es say all = (es, refl)
begins [] [] m (c ∷ cs) es say all = absurd say
begins [] (b ∷ bs) m (c ∷ cs) es say all = absurd say
begins (l ∷ ls) rest m [] es say all = absurd say
begins (l ∷ ls) rest m (c ∷ cs) [] say all = absurd all
begins (l ∷ ls) rest m (c ∷ cs) (e ∷ es) say all =
    let more = begins ls rest m cs es say.1 all.1 in
    (more.0, λ i. one_command l e c all.0 say.0 i ∷ more.1 i)

pub goes_on : (text more : List ℕ) (cs es : List Command) → IsScript text cs → IsScript (text ++ more) es → (ds : List Command) × (es ≡ cs ++ ds)
goes_on text more cs es script longer =
    let lines = lines_of text in
    begins lines.0 lines.1 (lines_of more) cs es script.says
    (subst (λ (ls : Lines). SayAll ls es) (lines_then text more (all_ended lines cs script.says)) longer.says)
