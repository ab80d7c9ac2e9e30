-- A report, or of a fault its first line.
use Rattle.std.specs.Prelude.{ℕ, Bool, true, false, List, Option, Some, if◌then◌else◌}
use Rattle.hm_run.specs.Report.{outcome_line, report_text}
use Rattle.hm_run.specs.Timed.{Timed}
use Rattle.hm_run.specs.declared.Outcome.{Outcome}
use Rattle.hm_run.specs.declared.Outcome.TheVariants as outcome

-- whether a run ended with a fault
abbrev pub is_fault : Option Outcome → Bool
is_fault (Some (outcome.Fault who f pc n)) = true
is_fault o = false

-- the report of a run, or of a fault the first line alone
abbrev pub short_report : Timed → List ℕ
short_report x = if is_fault x.outcome then outcome_line x.outcome else report_text x
