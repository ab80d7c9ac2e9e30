-- Files of Intel HEX: the image, or the first refusal.
use Rattle.std.specs.Prelude.{ℕ, ◌+◌, ◌-◌, get_or, length, take, List, [], ◌∷◌, ◌++◌, Option, Some, None, Result, Ok, Err, map, nat_eq, if◌then◌else◌}
use Rattle.hm_base.specs.Image.{Segment}
use Rattle.hm_base.specs.declared.errors.ImageErr.{ImageErr}
use Rattle.hm_base.specs.declared.errors.ImageErr.TheVariants as refusals
use Rattle.hm_text_base.specs.Marks.{carriage_return}
use Rattle.hm_text_base.specs.Reading.{◌>>=◌}
use Rattle.hm_text_base.specs.Spans.{Lines, lines_of}
use Rattle.hm_ihex.specs.Cells.{Cells, first_cells, image_of, with_data}
use Rattle.hm_ihex.specs.Records.{Record, data_at, end, new_base, start, line_in}

-- a line that is ended, without the CR that may stand before its LF
abbrev pub without_return : List ℕ → List ℕ
without_return line = if nat_eq (get_or line (length line - 1) 0) carriage_return then take (length line - 1) line else line

-- the lines: those that are ended, and the last, which may have no end
abbrev pub all_lines : Lines → List (List ℕ)
all_lines (ended, []) = map without_return ended
all_lines (ended, c ∷ cs) = map without_return ended ++ (c ∷ cs) ∷ []

-- what is known behind some lines: the base, the cells, and how many data records there were
pub record Reading : Type 0 where
  pub base : ℕ
  pub cells : Cells
  pub count : ℕ

-- what is known before the first line: the base is 0, no cell is given, and there was no data record
abbrev pub first_reading : Reading
first_reading = record { base = 0; cells = first_cells; count = 0 }

-- behind one more data record, unless it is refused
abbrev pub behind_data : Reading → Option Cells → Result Reading ImageErr
behind_data r None = Err (refusals.Segment r.count)
behind_data r (Some cells) = Ok (record r { cells = cells; count = r.count + 1 })

-- the image where nothing follows, else the refusal of the line that follows
abbrev pub ended_by : ℕ → Cells → List (List ℕ) → Result (List Segment) ImageErr
ended_by k cells [] = Ok (image_of cells)
ended_by k cells (l ∷ ls) = Err (refusals.Hex (k + 1))

-- what comes of a line's record, by what is to be done with what is known behind it
abbrev pub by_record : ℕ → Reading → List (List ℕ) → (Reading → Result (List Segment) ImageErr) → Option Record → Result (List Segment) ImageErr
by_record k r others more None = Err (refusals.Hex k)
by_record k r others more (Some end) = ended_by k r.cells others
by_record k r others more (Some (new_base base)) = more (record r { base = base })
by_record k r others more (Some start) = more r
by_record k r others more (Some (data_at offset bytes)) = behind_data r (with_data (r.base + offset) bytes r.cells) >>= more

-- THE LINES from number k on, in order; the end record may not be missing
unfoldable pub lines_in : ℕ → Reading → List (List ℕ) → Result (List Segment) ImageErr
lines_in k r [] = Err (refusals.Hex k)
lines_in k r (l ∷ ls) = by_record k r ls (λ q. lines_in (k + 1) q ls) (line_in l)

-- the image of a file of Intel HEX, or its first refusal
abbrev pub hex_in : List ℕ → Result (List Segment) ImageErr
hex_in bytes = lines_in 1 first_reading (all_lines (lines_of bytes))
