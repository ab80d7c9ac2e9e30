-- What a line has to be for the second pass.
use Rattle.std.specs.Prelude.{◌<◌, ℕ, List}
use Rattle.hm_source.specs.declared.values.Values.{Values}
use Rattle.hm_source.specs.declared.directives.Directive.{Directive}
use Rattle.hm_source.specs.declared.lines.Line.{Line}
use Rattle.hm_source.specs.Directives.{Directed}
use Rattle.hm_source.specs.Places.{HasPlace}
use Rattle.hm_source.specs.Shown.{ShowsSaid, ShowsDirected, ShowsValues}
use Rattle.hm_source.specs.Statements.{Said, directive, Says}

-- the program's list stands for what is asked in a text, and that has its place at a
abbrev pub IsReadyList : List ℕ → Values → ℕ → Type 0
IsReadyList text v a = (asked : Directed) × ShowsValues text v asked × HasPlace (directive asked) a

-- the program's directive stands for what is asked in a text, and that has its place at a
abbrev pub IsReadyAsked : List ℕ → Directive → ℕ → Type 0
IsReadyAsked text d a = (asked : Directed) × ShowsDirected text d asked × HasPlace (directive asked) a

-- the program's line has a column, stands for what its text says, and that has its place at a
abbrev pub IsReady : Line → ℕ → Type 0
IsReady l a = (0 < l.parts.column) × (said : Said) × Says l.parts.instruction.now said × ShowsSaid l.parts.instruction.now l.statement said × HasPlace said a
