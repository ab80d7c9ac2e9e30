-- THE LINES of what was found, each behind what stands before it.
use Rattle.std.specs.Prelude.{ℕ, List, [], ◌∷◌, ◌++◌, codes}
use Rattle.std.specs.Fmt.{decimal}
use Rattle.hm_shake.specs.Kinds.{kind_text}
use Rattle.hm_shake_runs.specs.declared.found.Found.{Found}
use Rattle.hm_shake_runs.specs.declared.kinds.Kind.{Kind}

-- the line of the plain run, `plain KIND`
abbrev pub plain_line : Kind → List ℕ → List ℕ
plain_line k out = kind_text k (out ++ codes "plain ") ++ codes "\n"

-- the line of a kind and how often it came, `KIND: COUNT`
abbrev pub count_line : Found → List ℕ → List ℕ
count_line x out = kind_text x.kind out ++ codes ": " ++ decimal x.count ++ codes "\n"

-- such a line for each kind that came
abbrev pub count_lines : List Found → List ℕ → List ℕ
count_lines [] out = out
count_lines (x ∷ xs) out = count_lines xs (count_line x out)

-- THE LINES of the plain run, and of each kind that came
abbrev pub counts_text : Kind → List Found → List ℕ
counts_text plain xs = count_lines xs (plain_line plain [])
