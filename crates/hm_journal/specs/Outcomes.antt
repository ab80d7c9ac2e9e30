-- WHAT BYTES COME TO, read as a journal: a journal, or one refusal.
use Rattle.std.specs.Prelude.{◌≡◌, ℕ, List, Result, Ok, Err}
use Rattle.serde_json.specs.Data.{Data}
use Rattle.hm_journal.specs.Journals.{HasFormat, IsJournal, IsJournalFile, Journaled, Reads, journal_data}
use Rattle.hm_journal.specs.declared.journal.JournalErr.{JournalErr}
use Rattle.hm_journal.specs.declared.journal.JournalErr.TheVariants as err

-- no JSON text has these bytes
abbrev pub IsNoJson : List ℕ → Type 0
IsNoJson bytes = (d : Data) → ¬ (Reads bytes d)

-- a value whose format is none that there is
abbrev pub HasNoFormat : Data → Type 0
HasNoFormat d = (n : ℕ) → ¬ (HasFormat d n)

-- a value with a format that there is, which is no journal's
abbrev pub HasNoShape : Data → Type 0
HasNoShape d = ((n : ℕ) × HasFormat d n) × ((j : Journaled) → IsJournal j → ¬ (d ≡ journal_data j))

-- JSON whose format is none that there is
abbrev pub IsNoFormat : List ℕ → Type 0
IsNoFormat bytes = (d : Data) × Reads bytes d × HasNoFormat d

-- JSON with a format that there is, which is no journal's
abbrev pub IsNoShape : List ℕ → Type 0
IsNoShape bytes = (d : Data) × Reads bytes d × HasNoShape d

-- what bytes come to, read as a journal: the journal, or why they are none
abbrev pub IsReading : List ℕ → Result Journaled JournalErr → Type 0
IsReading bytes (Ok j) = IsJournalFile bytes j
IsReading bytes (Err err.Json) = IsNoJson bytes
IsReading bytes (Err err.Format) = IsNoFormat bytes
IsReading bytes (Err err.Shape) = IsNoShape bytes
IsReading bytes (Err err.TooMany) = ⊥
IsReading bytes (Err (err.Differs tick)) = ⊥
IsReading bytes (Err err.OutOfMemory) = ⊥

-- what an error of reading tells: want of memory tells nothing
abbrev pub IsReadErr : List ℕ → JournalErr → Type 0
IsReadErr bytes err.OutOfMemory = Unit {0}
IsReadErr bytes e = IsReading bytes (Err e)

-- what an error of reading a value tells: want of memory tells nothing
abbrev pub IsValueErr : Data → JournalErr → Type 0
IsValueErr d err.OutOfMemory = Unit {0}
IsValueErr d err.Format = HasNoFormat d
IsValueErr d err.Shape = HasNoShape d
IsValueErr d e = ⊥
