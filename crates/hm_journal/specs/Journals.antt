-- JOURNALS, and their JSON: as a value, and as its compact text.
use Rattle.std.specs.Prelude.{◌≡◌, ℕ, ◌*◌, ◌<◌, ◌≤◌, ◌^◌, ◌⊎◌, Bool, true, false, List, [], ◌∷◌, ◌++◌, codes, decimal, length, map, slice_get, Option, Some}
use Rattle.std.specs.Prelude.{option_and_then}
use Rattle.std.specs.Str.{IsUtf8}
use Rattle.json.specs.Print.{quoted}
use Rattle.serde_json.specs.Data.{Data, array, member, no_members, number, object, string, unsigned}
use Rattle.serde_json.specs.Find.{as_number, as_u64, get}
use Rattle.serde_json.specs.Read.{read}
use Rattle.serde_json.specs.View.{items_of}
use Rattle.serde_json.specs.Written.{comma_if}
use Rattle.hm_sched.specs.Schedule.{most_ticks}

-- a tick, and the report there
pub record ReportAt : Type 0 where
  pub tick : ℕ
  pub report : List ℕ

-- what a journal says: the format of its text, and the reports at tick 0 and from there on at each so many ticks
pub record Journaled : Type 0 where
  pub format : ℕ
  pub every : ℕ
  pub checkpoints : List ReportAt

-- AS A VALUE. A number stands here as one that has no minus sign, no fraction and no exponent.
-- a checkpoint as a JSON value
abbrev pub checkpoint_data : ReportAt → Data
checkpoint_data x = object (member (codes "report") (string x.report) (member (codes "tick") (number (unsigned x.tick)) no_members))

-- a journal as a JSON value
abbrev pub journal_data : Journaled → Data
journal_data j =
    object (member (codes "checkpoints") (array (items_of (map checkpoint_data j.checkpoints)))
    (member (codes "every") (number (unsigned j.every))
    (member (codes "format") (number (unsigned j.format)) no_members)))

-- AS TEXT, byte for byte
-- a checkpoint as its compact JSON text
abbrev pub checkpoint_text : ReportAt → List ℕ
checkpoint_text x = codes "{\"report\":" ++ quoted x.report ++ codes ",\"tick\":" ++ decimal x.tick ++ codes "}"

-- the texts of checkpoints with commas between them, and one before the first where others stand before it
abbrev pub checkpoints_text : Bool → List ReportAt → List ℕ
checkpoints_text later [] = []
checkpoints_text later (x ∷ xs) = comma_if later ++ checkpoint_text x ++ checkpoints_text true xs

-- a journal as its compact JSON text
abbrev pub journal_text : Journaled → List ℕ
journal_text j =
    codes "{\"checkpoints\":[" ++ checkpoints_text false j.checkpoints ++ codes "],\"every\":" ++ decimal j.every ++ codes ",\"format\":" ++ decimal j.format
    ++ codes "}"

-- WHICH JOURNALS THERE ARE
-- the formats that there are: 1, whose reports have no line of the system, and 2
abbrev pub IsFormat : ℕ → Type 0
IsFormat n = (n ≡ 1) ⊎ (n ≡ 2)

-- the checkpoints lie at the ticks 0, every, 2 * every and so on
abbrev pub AreTicks : Journaled → Type 0
AreTicks j = (k : ℕ) (x : ReportAt) → slice_get j.checkpoints k ≡ Some x → x.tick ≡ k * j.every

-- a journal has no more checkpoints
abbrev pub most_checkpoints : ℕ
most_checkpoints = 64

-- which there are: of a known format, with 1 to `most_checkpoints` checkpoints, and from one to the next 1 tick to as many as a schedule may have
pub record IsJournal (j : Journaled) : Type 0 where
  pub format : IsFormat j.format
  pub some : 0 < length j.checkpoints
  pub few : length j.checkpoints ≤ most_checkpoints
  pub every : 0 < j.every
  pub most : j.every ≤ most_ticks
  pub ticks : AreTicks j

-- the ticks fit in 32 bits
abbrev pub AreSmall : List ReportAt → Type 0
AreSmall xs = (k : ℕ) (x : ReportAt) → slice_get xs k ≡ Some x → x.tick < 2 ^ 32

-- AS BYTES: what reads as a journal. A text has one reading at most, in which the last of two members of one name counts.
-- bytes that read as a JSON value
abbrev pub Reads : List ℕ → Data → Type 0
Reads bytes d = IsUtf8 bytes × (read bytes ≡ Some d)

-- the number under a key
abbrev pub number_at : List ℕ → Data → Option ℕ
number_at key d = option_and_then as_u64 (option_and_then as_number (get key d))

-- its format is this, and there is such a format
abbrev pub HasFormat : Data → ℕ → Type 0
HasFormat d n = (number_at (codes "format") d ≡ Some n) × IsFormat n

-- these bytes read as the JSON of this journal
pub record IsJournalFile (bytes : List ℕ) (j : Journaled) : Type 0 where
  pub reads : Reads bytes (journal_data j)
  pub sound : IsJournal j
