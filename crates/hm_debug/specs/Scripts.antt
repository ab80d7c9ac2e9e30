-- SCRIPTS: their commands, a line each, and the first refusal.
use Rattle.std.specs.Prelude.{◌≡◌, ℕ, ◌+◌, ◌⊎◌, true, false, nat_lt, List, [], ◌∷◌, length}
use Rattle.hm_text_base.specs.Spans.{Lines, lines_of}
use Rattle.hm_debug.specs.Commands.{Says}
use Rattle.hm_debug.specs.declared.command.Command.{Command}
use Rattle.hm_debug.specs.declared.errors.ScriptErr.{ScriptErr}
use Rattle.hm_debug.specs.declared.errors.ScriptErr.TheVariants as err

-- a script has no more lines than this
abbrev pub most_lines : ℕ
most_lines = 1000

-- the lines, an unended last one counted
abbrev pub lines_in : Lines → ℕ
lines_in (ls, []) = length ls
lines_in (ls, b ∷ bs) = length ls + 1

-- THE LINES FROM NUMBER k ON say these commands, and the last is ended
abbrev pub SayAll : Lines → List Command → Type 0
SayAll ([], []) [] = Unit {0}
SayAll (l ∷ ls, rest) (c ∷ cs) = Says l c × SayAll (ls, rest) cs
SayAll lines cs = ⊥

-- line k is the first that says no command, of those from number k on
abbrev pub IsFirstBad : ℕ → ℕ → Lines → Type 0
IsFirstBad bad k ([], []) = ⊥
IsFirstBad bad k ([], b ∷ bs) = bad ≡ k
IsFirstBad bad k (l ∷ ls, rest) = (((c : Command) → ¬ (Says l c)) × (bad ≡ k)) ⊎ ((c : Command) × Says l c × IsFirstBad bad (k + 1) (ls, rest))

-- A SCRIPT: a text of no more lines than there may be, which say these commands
pub record IsScript (text : List ℕ) (cs : List Command) : Type 0 where
  pub few : nat_lt most_lines (lines_in (lines_of text)) ≡ false
  pub says : SayAll (lines_of text) cs

-- why a text is no script: it has too many lines, or a line of it says no command
abbrev pub ScriptRefuses : List ℕ → ScriptErr → Type 0
ScriptRefuses text err.TooManyLines = nat_lt most_lines (lines_in (lines_of text)) ≡ true
ScriptRefuses text (err.Line line) = (nat_lt most_lines (lines_in (lines_of text)) ≡ false) × IsFirstBad line 1 (lines_of text)
ScriptRefuses text err.OutOfMemory = ⊥

-- why a script is not done: the text is none, or memory was wanted
abbrev pub ScriptStops : List ℕ → ScriptErr → Type 0
ScriptStops text err.TooManyLines = ScriptRefuses text err.TooManyLines
ScriptStops text (err.Line line) = ScriptRefuses text (err.Line line)
ScriptStops text err.OutOfMemory = (cs : List Command) × IsScript text cs
