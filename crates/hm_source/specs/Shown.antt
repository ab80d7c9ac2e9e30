-- What the program's values of a line stand for.
use Rattle.std.specs.Prelude.{◌≡◌, ℕ, List, [], ◌∷◌, length, Some}
use Rattle.std.specs.List.{AllByRecursion}
use Rattle.hm_tokens.specs.Lines.{AreTokensOf}
use Rattle.hm_tokens.specs.Tokens.{word, skip, token_at, plus_mark}
use Rattle.hm_line.specs.Fronts.{AreFront}
use Rattle.hm_source.specs.declared.values.DatumSize.{DatumSize}
use Rattle.hm_source.specs.declared.values.Item.{Item}
use Rattle.hm_source.specs.declared.values.Item.TheVariants as items
use Rattle.hm_source.specs.declared.values.Values.{Values}
use Rattle.hm_source.specs.declared.directives.Directive.{Directive}
use Rattle.hm_source.specs.declared.directives.Directive.TheVariants as directives
use Rattle.hm_source.specs.declared.statements.Statement.{Statement}
use Rattle.hm_source.specs.declared.statements.Statement.TheVariants as statements
use Rattle.hm_source.specs.Directives.{Datum, literal, named, beyond, Directed, org, align, space, values, list_name, list_tokens, multiple_of, Fits}
use Rattle.hm_source.specs.Statements.{Said, nothing, instruction, directive}

-- no `+` goes on with what stands before
abbrev pub EndsHere : List ℕ → Type 0
EndsHere rest = (after : List ℕ) → token_at (skip rest) ≡ Some (plus_mark, after) → ⊥

-- the value of a list that the program's value stands for
abbrev pub datum : Item → Datum
datum (items.Literal minus n) = literal minus n
datum (items.Name w) = named w.now
datum (items.Beyond w n) = beyond w.now n

-- a text is a list of these values, each of them in its range
abbrev pub AreListed : DatumSize → List ℕ → Datum → List Datum → Type 0
AreListed s text d ds = AreTokensOf text (list_tokens d ds) × AllByRecursion (Fits s) (d ∷ ds)

-- behind the name of its directive the text goes on with the list
abbrev pub ShowsValues : List ℕ → Values → Directed → Type 0
ShowsValues text v (values s d ds) = (v.size ≡ s) × (v.count ≡ length (d ∷ ds)) × AreFront text (word (list_name s) ∷ []) v.list.now
    × AreListed s v.list.now d ds
ShowsValues text v asked = ⊥

-- the program's directive stands for what is asked, where the text of the line is this
abbrev pub ShowsDirected : List ℕ → Directive → Directed → Type 0
ShowsDirected text (directives.Org b) asked = asked ≡ org b
ShowsDirected text (directives.Align m) asked = asked ≡ align (multiple_of m)
ShowsDirected text (directives.Space n) asked = asked ≡ space n
ShowsDirected text (directives.Values v) asked = ShowsValues text v asked

-- a value of the program stands for what its text says
abbrev pub ShowsSaid : List ℕ → Statement → Said → Type 0
ShowsSaid text statements.Nothing said = said ≡ nothing
ShowsSaid text (statements.Instruction n) said = said ≡ instruction n
ShowsSaid text (statements.Directive d) (directive asked) = ShowsDirected text d asked
ShowsSaid text (statements.Directive d) said = ⊥
