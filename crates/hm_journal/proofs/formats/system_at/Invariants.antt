use Rattle.std.proofs.Common.{◌≡◌, ◌++◌, drop, take}
use Rattle.hm_journal.specs.Formats.{without, without_system}
use Rattle.hm_journal.proofs.formats.system_at.Given as goal

abbrev pub invariant-loop-at : goal.invariant-loop-at
invariant-loop-at l = without_system l.report ≡ take l.at l.report ++ without l.begins (drop l.at l.report)
