-- WHAT A JOURNAL OF EACH FORMAT HAS OF A REPORT: one of format 1 has no line of the system.
use Rattle.std.specs.Prelude.{ℕ, Bool, true, ◌&&◌, nat_eq, if◌then◌else◌, List, [], ◌∷◌, codes}
use Rattle.std.specs.List.{starts_with}
use Rattle.hm_text_base.specs.Marks.{line_end}

-- whether a line that begins here is the system's
abbrev pub is_system : List ℕ → Bool
is_system text = starts_with nat_eq text (codes "system ")

-- what stands behind the first end of a line
abbrev pub behind_line : List ℕ → List ℕ
behind_line [] = []
behind_line (b ∷ bs) = if nat_eq b line_end then bs else behind_line bs

-- a text without the first of its lines that is the system's, from where a line begins or from within one
abbrev pub without : Bool → List ℕ → List ℕ
without begins [] = []
without begins (b ∷ bs) = if begins && is_system (b ∷ bs) then behind_line (b ∷ bs) else b ∷ without (nat_eq b line_end) bs

-- a report without the system's line
abbrev pub without_system : List ℕ → List ℕ
without_system report = without true report

-- what a journal of a format has of a report
abbrev pub report_in : ℕ → List ℕ → List ℕ
report_in format report = if nat_eq format 1 then without_system report else report
