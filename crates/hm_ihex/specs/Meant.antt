-- What the code holds, in the words of the definitions.
use Rattle.std.specs.Prelude.{◌≡◌, ℕ, List, Option, Result, Ok, Err}
use Rattle.hm_base.specs.Image.{Segment}
use Rattle.hm_base.specs.declared.errors.ImageErr.{ImageErr}
use Rattle.hm_base.specs.declared.errors.ImageErr.TheVariants as refusals
use Rattle.hm_ihex.specs.Cells.{Cells}
use Rattle.hm_ihex.specs.Files.{Reading, by_record, ended_by}
use Rattle.hm_ihex.specs.Records.{Record, data_at, end, new_base, start}
use Rattle.hm_ihex.specs.declared.areas.Areas.{Areas}
use Rattle.hm_ihex.specs.declared.reading.Next.{Next}
use Rattle.hm_ihex.specs.declared.reading.Next.TheVariants.{End as Ends, More}
use Rattle.hm_ihex.specs.declared.reading.State.{State}
use Rattle.hm_ihex.specs.declared.record.Record.{Record as Held}
use Rattle.hm_ihex.specs.declared.record.Record.TheVariants.{Data, End, Base, Start}

-- the records that the code holds
abbrev pub record_meant : Held → Record
record_meant (Data offset bytes) = data_at offset bytes.now
record_meant End = end
record_meant (Base address) = new_base address
record_meant Start = start

-- the cells that the code holds
abbrev pub cells_of : Areas → Cells
cells_of a = record { flash = a.flash.items; sram = a.sram.items }

-- what the code knows behind some lines
abbrev pub reading_of : State → Reading
reading_of s = record { base = s.base; cells = cells_of s.areas; count = s.count }

-- what holds of the bytes of data
abbrev pub IfData : (List ℕ → Type 0) → Record → Type 0
IfData P (data_at offset bytes) = P bytes
IfData P end = Unit {0}
IfData P (new_base base) = Unit {0}
IfData P start = Unit {0}

-- what follows a line of this record, whatever lines stand behind it and whatever is done with them
abbrev pub IsNext : ℕ → Reading → Reading → Option Record → Result Next ImageErr → Type 0
IsNext k old new said (Ok More) = (others : List (List ℕ)) (more : Reading → Result (List Segment) ImageErr) → by_record k old others more said ≡ more new
IsNext k old new said (Ok Ends) = (others : List (List ℕ)) (more : Reading → Result (List Segment) ImageErr)
    → by_record k old others more said ≡ ended_by k new.cells others
IsNext k old new said (Err refusals.OutOfMemory) = Unit {0}
IsNext k old new said (Err e) = (others : List (List ℕ)) (more : Reading → Result (List Segment) ImageErr) → by_record k old others more said ≡ Err e
