-- What the program does, by its words and the files that the host tells.
use Rattle.std.specs.Prelude.{◌≡◌, ◌≢◌, ◌⊎◌, ℕ, List, [], ◌∷◌, ◌++◌, length, Option, Some, None, Result, Ok, Err, codes, nat_lt, if◌then◌else◌}
use Rattle.std.specs.FinMap.{get, insert}
use Rattle.hm_base.specs.Image.{Segment}
use Rattle.hm_codes.specs.Listing.{Listing}
use Rattle.hm_host.specs.Host.{FileMap, HostState, Call, Made, Stays, Becomes, Changes, KeepsOthers, AddsPrefix, Rose, longest}
use Rattle.hm_host.specs.declared.host.HostErr.{HostErr}
use Rattle.hm_host.specs.declared.host.HostErr.TheVariants.{Failed, TooLarge, OutOfMemory}
use Rattle.hm_commands.specs.declared.status.Status.{Status}
use Rattle.hm_commands.specs.declared.status.Status.TheVariants.{Done, Ended, Usage, Refused, HostFault, NoMemory}
use Rattle.hm_work.specs.declared.work.Refusal.{Refusal}
use Rattle.hm_work.specs.declared.work.Refusal.TheVariants.{FileTooLarge}
use Rattle.hm_work.specs.Work.{Outcome, finishes, refuses, refusal_text}
use Rattle.hm_words.specs.Words.{Form, form_of, reads_of}
use Rattle.hm_work.specs.Commands.{ComesTo}
use Rattle.hm_commands.specs.Calls.{Way, to_end, to_fault, to_memory, read_calls, write_calls, print_calls, way_of, MakesCalls, MakesAll}

-- the number of a status
abbrev pub code_of : Status → ℕ
code_of Done = 0
code_of Ended = 1
code_of Usage = 2
code_of Refused = 3
code_of HostFault = 4
code_of NoMemory = 5

-- a status, the file to write and its bytes, and the text to print
pub record Effect : Type 0 where
  pub status : Status
  pub file : Option (List ℕ × List ℕ)
  pub text : Option (List ℕ)

-- the line that says how the program is used
abbrev pub usage_line : List ℕ
usage_line = codes "helium: usage\n"

-- the line of a refusal
abbrev pub refused_line : Refusal → List ℕ
refused_line why = refusal_text why (codes "helium: refused ") ++ codes "\n"

-- words that ask for nothing print a line that says how the program is used
abbrev pub usage_by : List ℕ → Effect
usage_by line = record { status = Usage; file = None; text = Some line }

-- those of helium print its line
abbrev pub usage_effect : Effect
usage_effect = usage_by usage_line

-- nothing but the host's fault can come of it
abbrev pub no_effect : Effect
no_effect = record { status = HostFault; file = None; text = None }

-- the status, the file and the text of an outcome
abbrev pub effect_for : Outcome → Effect
effect_for (finishes done file text) = record { status = (if done then Done else Ended); file = file; text = text }
effect_for (refuses why) = record { status = Refused; file = None; text = Some (refused_line why) }

-- what comes of reads, in order: all the contents; or the first that does not succeed is too large, or of a file that is not there
pub data Reading : Type 0 where
  whole : (contents : List (List ℕ)) → Reading
  too_large : Reading
  missing : Reading

-- more contents in front
abbrev pub after_contents : List (List ℕ) → Reading → Reading
after_contents before (whole contents) = whole (before ++ contents)
after_contents before too_large = too_large
after_contents before missing = missing

-- a read, and then the others
abbrev pub then_read : Option (List ℕ) → Reading → Reading
then_read None others = missing
then_read (Some bytes) others = if nat_lt longest (length bytes) then too_large else after_contents (bytes ∷ []) others

-- what comes of the reads of files, one after another
abbrev pub reading_of : FileMap → List (List ℕ) → Reading
reading_of F [] = whole []
reading_of F (name ∷ names) = then_read (get F name) (reading_of F names)

-- the files that are read: none for words that ask for nothing
abbrev pub reads_for : Option Form → List (List ℕ)
reads_for None = []
reads_for (Some form) = reads_of form

-- In what follows, Comes says to which outcomes the contents of the files come that were read.
-- the effects by what comes of the reads: those of the outcomes of all contents, that of the refusal of a file that is too large, or that of a missing file
abbrev pub IsEffectBy : (List (List ℕ) → Outcome → Type 0) → Reading → Effect → Type 0
IsEffectBy Comes (whole contents) = λ e. (o : Outcome) × Comes contents o × (e ≡ effect_for o)
IsEffectBy Comes too_large = λ e. e ≡ effect_for (refuses FileTooLarge)
IsEffectBy Comes missing = λ e. e ≡ no_effect

-- In what follows, listings gives a listing of the flash of each image.
-- the effect of a form, by what comes of its reads
abbrev pub IsEffectAfter : (List Segment → Listing) → Option Form → Reading → Effect → Type 0
IsEffectAfter listings None = λ reading e. e ≡ usage_effect
IsEffectAfter listings (Some form) = IsEffectBy (ComesTo listings form)

-- what the program does
abbrev pub IsEffect : (List Segment → Listing) → List (List ℕ) → FileMap → Effect → Type 0
IsEffect listings words F = IsEffectAfter listings (form_of words) (reading_of F (reads_for (form_of words)))

-- the calls that do an effect: the write of its file, and the print of its text
abbrev pub calls_for : Effect → List Call
calls_for effect = write_calls effect.file ++ print_calls effect.text

-- the files after a write
abbrev pub with_file : Option (List ℕ × List ℕ) → FileMap → FileMap
with_file None F = F
with_file (Some file) F = insert F file.0 file.1

-- the printed bytes after a print
abbrev pub with_text : Option (List ℕ) → List ℕ → List ℕ
with_text None P = P
with_text (Some text) P = P ++ text

-- all files but the one to write are as before
abbrev pub ButForFile : Option (List ℕ × List ℕ) → FileMap → FileMap → Type 0
ButForFile None old new = new ≡ old
ButForFile (Some file) old new = KeepsOthers file.0 old new

-- a prefix of the text was added
abbrev pub PartOfText : Option (List ℕ) → List ℕ → List ℕ → Type 0
PartOfText None old new = new ≡ old
PartOfText (Some text) old new = AddsPrefix text old new

-- the effect is done, and its status is this
pub record IsDone (effect : Effect) (old new : HostState) (status : Status) : Type 0 where
  pub status_is : effect.status ≡ status
  pub faults : new.faults ≡ old.faults
  pub files : Becomes (with_file effect.file) old.files new.files
  pub printed : Becomes (with_text effect.text) old.printed new.printed

-- the host failed before anything was printed: at most the file to write has changed
pub record IsCutBeforeText (effect : Effect) (old new : HostState) : Type 0 where
  pub files : Changes (ButForFile effect.file) old.files new.files
  pub printed : Stays old.printed new.printed

-- the host failed at the text: the file stands whole, and a prefix of the text was printed
pub record IsCutInText (effect : Effect) (old new : HostState) : Type 0 where
  pub files : Becomes (with_file effect.file) old.files new.files
  pub printed : Changes (PartOfText effect.text) old.printed new.printed

-- memory ran out: nothing was printed, and the file was not touched or stands whole
pub record IsOutOfMemory (effect : Effect) (old new : HostState) : Type 0 where
  pub faults : new.faults ≡ old.faults
  pub files : Stays old.files new.files ⊎ Becomes (with_file effect.file) old.files new.files
  pub printed : Stays old.printed new.printed

-- what a call that is to do the effect leaves, by the status that it ends with
abbrev pub Carries : Effect → HostState → HostState → Status → Type 0
Carries effect old new Done = IsDone effect old new Done
Carries effect old new Ended = IsDone effect old new Ended
Carries effect old new Usage = IsDone effect old new Usage
Carries effect old new Refused = IsDone effect old new Refused
Carries effect old new HostFault = Rose old.faults new.faults × (IsCutBeforeText effect old new ⊎ IsCutInText effect old new)
Carries effect old new NoMemory = IsOutOfMemory effect old new

-- a call failed or memory ran out, and no file was touched and nothing was printed
abbrev pub IsUntouched : HostState → HostState → Status → Type 0
IsUntouched old new HostFault = Rose old.faults new.faults × Stays old.files new.files × Stays old.printed new.printed
IsUntouched old new NoMemory = (new.faults ≡ old.faults) × Stays old.files new.files × Stays old.printed new.printed
IsUntouched old new status = ⊥

-- the reads were not made to their end, or memory ran out behind them
abbrev pub CutsReads : List Call → Option (List Made) → Option (List Made) → Way → Type 0
CutsReads reads old new to_end = ⊥
CutsReads reads old new to_fault = MakesCalls reads old new to_fault
CutsReads reads old new to_memory = MakesCalls reads old new to_memory

-- no file was touched, or all these calls were made
abbrev pub StaysOrMakesAll : List Call → HostState → HostState → Type 0
StaysOrMakesAll calls old new = Stays old.files new.files ⊎ MakesAll calls old.calls new.calls

-- WHAT A CALL DOES of this effect, after these reads: the files and the printed bytes, by the status; done whole where the status is neither the
-- host's fault nor want of memory (which `carries` tells by cases, and is said here for the reader); the calls that were made, all of them or up
-- to the first that failed; and where memory was wanted, no file was touched or all calls were made.
pub record DoesEffect (reads : List Call) (effect : Effect) (old new : HostState) (status : Status) : Type 0 where
  pub carries : Carries effect old new status
  pub complete : status ≢ HostFault → (status ≡ NoMemory) ⊎ IsDone effect old new status
  pub calls : MakesCalls (reads ++ calls_for effect) old.calls new.calls (way_of status)
  pub spent : status ≡ NoMemory → StaysOrMakesAll (reads ++ calls_for effect) old new

-- an effect is begun behind the reads of these files, and the calls are told where the files are
pub record IsBegun (names : List (List ℕ)) (effect : Effect) (old new : HostState) (status : Status) : Type 0 where
  pub carries : Carries effect old new status
  pub calls : (F : FileMap) → old.files ≡ Some F → MakesCalls (read_calls F names ++ calls_for effect) old.calls new.calls (way_of status)
  pub spent : (F : FileMap) → old.files ≡ Some F → status ≡ NoMemory → StaysOrMakesAll (read_calls F names ++ calls_for effect) old new

-- no effect was reached
pub record IsNotReached (names : List (List ℕ)) (old new : HostState) (status : Status) : Type 0 where
  pub untouched : IsUntouched old new status
  pub calls : (F : FileMap) → old.files ≡ Some F → CutsReads (read_calls F names) old.calls new.calls (way_of status)

-- one of these effects is begun behind the reads of these files, as Begun says it of effects of its type, or none was reached
abbrev pub BeginsOne : {E : Type 0} → (List (List ℕ) → E → HostState → HostState → Status → Type 0) → List (List ℕ) → (E → Type 0) → HostState
    → HostState → Status → Type 0
BeginsOne {E} Begun names Is old new status = ((e : E) × Is e × Begun names e old new status) ⊎ IsNotReached names old new status

-- one of the effects that there are by what comes of the reads of these files is begun, or none was reached; where the files are told, what comes of the
-- reads is what they hold
pub record DoesOne (names : List (List ℕ)) (Is : Reading → Effect → Type 0) (old new : HostState) (status : Status) : Type 0 where
  pub reading : Reading
  pub told : (F : FileMap) → old.files ≡ Some F → reading ≡ reading_of F names
  pub begins : BeginsOne IsBegun names (Is reading) old new status

-- so of the effects of a form
abbrev pub Does : (List Segment → Listing) → Option Form → HostState → HostState → Status → Type 0
Does listings form old new status = DoesOne (reads_for form) (IsEffectAfter listings form) old new status

-- the status of a host's error
abbrev pub failure_of : HostErr → Status
failure_of Failed = HostFault
failure_of TooLarge = HostFault
failure_of OutOfMemory = NoMemory

-- one of the statuses of an effect that was done
abbrev pub IsComplete : Status → Type 0
IsComplete HostFault = ⊥
IsComplete NoMemory = ⊥
IsComplete Done = Unit {0}
IsComplete Ended = Unit {0}
IsComplete Usage = Unit {0}
IsComplete Refused = Unit {0}

-- the answer to several reads, in order
abbrev pub ReadsAll : {T : Type 0} → Option FileMap → List (List ℕ) → (T → List (List ℕ)) → Result T HostErr → Type 0
ReadsAll files names items (Ok contents) = (F : FileMap) → files ≡ Some F → reading_of F names ≡ whole (items contents)
ReadsAll files names items (Err Failed) = Unit {0}
ReadsAll files names items (Err TooLarge) = (F : FileMap) → files ≡ Some F → reading_of F names ≡ too_large
ReadsAll files names items (Err OutOfMemory) = Unit {0}

-- writing the file that there may be
abbrev pub WritesFile : {T : Type 0} → Option (List ℕ × List ℕ) → HostState → HostState → Result T HostErr → Type 0
WritesFile file old new (Ok _) = Becomes (with_file file) old.files new.files
WritesFile file old new (Err Failed) = Changes (ButForFile file) old.files new.files
WritesFile file old new (Err TooLarge) = ⊥
WritesFile file old new (Err OutOfMemory) = Stays old.files new.files

-- printing the text that there may be
abbrev pub PrintsText : {T : Type 0} → Option (List ℕ) → HostState → HostState → Result T HostErr → Type 0
PrintsText text old new (Ok _) = Becomes (with_text text) old.printed new.printed
PrintsText text old new (Err Failed) = Changes (PartOfText text) old.printed new.printed
PrintsText text old new (Err TooLarge) = ⊥
PrintsText text old new (Err OutOfMemory) = Stays old.printed new.printed
