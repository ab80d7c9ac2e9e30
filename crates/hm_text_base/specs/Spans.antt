-- Cutting a text at a mark, and into lines.
use Rattle.std.specs.Prelude.{◌≢◌, ℕ, List, [], ◌∷◌, ◌++◌, ◌==◌, if◌then◌else◌}
use Rattle.std.specs.List.{AllByRecursion}
use Rattle.hm_text_base.specs.Marks.{line_end}

-- what stands before the first mark, and the rest from that mark on
unfoldable pub span : ℕ → List ℕ → List ℕ × List ℕ
span mark [] = ([], [])
span mark (b ∷ bs) = if b == mark then ([], b ∷ bs) else (b ∷ (span mark bs).0, (span mark bs).1)

-- the mark does not stand in the text
abbrev pub Lacks : ℕ → List ℕ → Type 0
Lacks mark text = AllByRecursion (λ b. b ≢ mark) text

-- a line and its end
abbrev pub line : List ℕ → List ℕ
line text = text ++ line_end ∷ []

-- the lines that are ended, and what stands after the last end
abbrev pub Lines : Type 0
Lines = List (List ℕ) × List ℕ

-- a byte in front of the first line, ended or not
abbrev pub onto_line : ℕ → Lines → Lines
onto_line b ([], rest) = ([], b ∷ rest)
onto_line b (l ∷ ls, rest) = ((b ∷ l) ∷ ls, rest)

-- a text cut into its lines, at each end of a line, and what stands after the last one
unfoldable pub lines_of : List ℕ → Lines
lines_of [] = ([], [])
lines_of (b ∷ bs) = if b == line_end then ([] ∷ (lines_of bs).0, (lines_of bs).1) else onto_line b (lines_of bs)
