-- THE TEXT THAT IS PRINTED, and the names of the files that are written.
use Rattle.std.specs.Prelude.{ℕ, List, [], ◌++◌, codes, Option, Some, None}
use Rattle.std.specs.Fmt.{decimal}
use Rattle.std.specs.List.{flat_map}
use Rattle.hm_shake.specs.Kinds.{kind_name}
use Rattle.hm_shake.specs.Texts.{counts_text}
use Rattle.hm_shake.specs.declared.filing.Written.{Written}
use Rattle.hm_shake.specs.declared.shaking.Findings.{Findings}
use Rattle.hm_shake_runs.specs.declared.kinds.Kind.{Kind}

-- THE NAME OF A FILE: that of the schedule, a dot, and that of the kind
abbrev pub file_name : List ℕ → Kind → List ℕ
file_name schedule kind = schedule ++ codes "." ++ kind_name kind

-- the line of a file
abbrev pub file_line : List ℕ → Written → List ℕ
file_line schedule w = file_name schedule w.kind ++ codes " ticks " ++ decimal w.ticks ++ codes " interrupts " ++ decimal w.interrupts ++ codes "\n"

-- a report, where there is one
abbrev pub report_or_none : Option (List ℕ) → List ℕ
report_or_none None = []
report_or_none (Some report) = report

-- THE TEXT: how often each kind came, a line for each file, and the report of the runs that halt
abbrev pub findings_text : List ℕ → Findings → Option (List ℕ) → List ℕ
findings_text schedule f report = counts_text f.plain f.kinds.items ++ flat_map (file_line schedule) f.files.items ++ report_or_none report
