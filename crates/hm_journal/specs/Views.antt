-- What the types of the code stand for.
use Rattle.std.specs.Prelude.{ℕ, List, map, string_bytes}
use Rattle.hm_journal.specs.Journals.{ReportAt, Journaled, IsJournal}
use Rattle.hm_journal.specs.declared.journal.Checkpoint.{Checkpoint}
use Rattle.hm_journal.specs.declared.journal.Journal.TheInside.{Inside}
use Rattle.hm_journal.specs.declared.reading.Draft.{Draft}

-- the tick and the report of a checkpoint
abbrev pub checkpoint_of : Checkpoint → ReportAt
checkpoint_of x = record { tick = x.tick; report = string_bytes x.report }

-- a journal of these parts
abbrev pub journal_with : ℕ → ℕ → List Checkpoint → Journaled
journal_with format every checkpoints = record { format = format; every = every; checkpoints = map checkpoint_of checkpoints }

-- what a draft says, which is read and not yet judged
abbrev pub drafted : Draft → Journaled
drafted d = journal_with d.format d.every d.checkpoints.items

-- what the fields of a journal say
abbrev pub journal_view : Inside → Journaled
journal_view w = journal_with w.format w.every w.checkpoints.items

-- what a journal says is a journal
abbrev pub IsSound : Inside → Type 0
IsSound w = IsJournal (journal_view w)
