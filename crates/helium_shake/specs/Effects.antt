-- WHAT THE PROGRAM DOES, by its words and the files that the host tells.
use Rattle.std.specs.FinMap.{insert}
use Rattle.std.specs.Prelude.{◌≡◌, ◌⊎◌, ◌++◌, ℕ, List, [], ◌∷◌, map, Option, Some, None, Result, Ok, Err, codes, get_or, option_map}
use Rattle.hm_base.specs.Image.{Segment}
use Rattle.hm_codes.specs.Listing.{Listing}
use Rattle.hm_commands.specs.Calls.{MakesCalls, read_calls, way_of}
use Rattle.hm_work.specs.Commands.{OfRunBy, UnlessRefusedBy}
use Rattle.hm_commands.specs.Effect.{BeginsOne, Reading, missing, reading_of, refused_line, too_large, whole}
use Rattle.hm_work.specs.Images.{image_of}
use Rattle.hm_work.specs.Run.{reset_refusal}
use Rattle.hm_work.specs.Work.{GivesBy}
use Rattle.hm_commands.specs.declared.status.Status.{Status}
use Rattle.hm_commands.specs.declared.status.Status.TheVariants.{Done, Ended, HostFault, NoMemory, Refused, Usage}
use Rattle.hm_work.specs.declared.work.Refusal.{Refusal}
use Rattle.hm_work.specs.declared.work.Refusal.TheVariants.{FileTooLarge}
use Rattle.hm_work.specs.declared.work.Stop.{Stop}
use Rattle.hm_host.specs.Host.{AddsPrefix, Becomes, Call, Changes, FileMap, HostState, KeepsOthers, Rose, Stays, print, write}
use Rattle.hm_host.specs.declared.host.HostErr.{HostErr}
use Rattle.hm_host.specs.declared.host.HostErr.TheVariants.{Failed, OutOfMemory, TooLarge}
use Rattle.hm_sched.specs.ReadFile.{file_in}
use Rattle.hm_sched.specs.Schedule.{Sched}
use Rattle.hm_shake.specs.Findings.{FindsFor}
use Rattle.hm_shake.specs.declared.filing.Written.{Written}
use Rattle.hm_shake.specs.declared.shaking.Findings.{Findings}
use Rattle.helium_shake.specs.Texts.{file_name, findings_text}
use Rattle.helium_shake.specs.Words.{Asked, reads_of}

-- a file that is written: its name and its bytes
abbrev pub File : Type 0
File = List ℕ × List ℕ

-- AN EFFECT: a status, the files that are written one after another, and the text that is printed behind them
pub record Effect : Type 0 where
  pub status : Status
  pub files : List File
  pub text : List ℕ

-- ---- what is to be done

-- the line that says how the program is used
abbrev pub usage_line : List ℕ
usage_line = codes "helium-shake: usage\n"

-- words that ask for nothing print it
abbrev pub usage_effect : Effect
usage_effect = record { status = Usage; files = []; text = usage_line }

-- a refusal prints its line
abbrev pub refused_effect : Refusal → Effect
refused_effect why = record { status = Refused; files = []; text = refused_line why }

-- the file of a kind, under the name of that kind
abbrev pub file_of : List ℕ → Written → File
file_of schedule w = (file_name schedule w.kind, w.bytes.items)

-- the status of what was found: Ended where a kind has a file
abbrev pub status_for : List Written → Status
status_for [] = Done
status_for (w ∷ ws) = Ended

-- the text of what was found
abbrev pub text_for : List ℕ → Findings → List ℕ
text_for schedule f = findings_text schedule f (option_map (λ report. report.items) f.report)

-- what was found is told: its files are written, and its text is printed
abbrev pub found_effect : List ℕ → Findings → Effect
found_effect schedule f = record { status = status_for f.files.items; files = map (file_of schedule) f.files.items; text = text_for schedule f }

-- the effect of what is found of an image under a schedule, by what is asked for
abbrev pub IsFoundEffect : (List Segment → Listing) → Asked → List Segment → Sched → Effect → Type 0
IsFoundEffect listings a image s e = (f : Findings) × FindsFor (listings image) image a.seed a.runs s f × (e ≡ found_effect a.schedule f)

-- the same of an image and a schedule that were read, or the effect of the refusal of the reset address
abbrev pub IsRunEffect : (List Segment → Listing) → Asked → List Segment → Sched → Effect → Type 0
IsRunEffect listings a image s = UnlessRefusedBy refused_effect (reset_refusal image) (IsFoundEffect listings a image s)

-- the same of the contents of the files that are read, in order: the first refusal is that of the image, then that of the schedule, then that of the reset
-- address
abbrev pub IsEffectFor : (List Segment → Listing) → Asked → List (List ℕ) → Effect → Type 0
IsEffectFor listings a contents =
    OfRunBy refused_effect (image_of (get_or contents 0 [])) (file_in (get_or contents 1 [])) (IsRunEffect listings a)

-- the effect of what is asked for, by what comes of its reads: there is none where a file is missing
abbrev pub IsEffectAfter : (List Segment → Listing) → Asked → Reading → Effect → Type 0
IsEffectAfter listings a (whole contents) = IsEffectFor listings a contents
IsEffectAfter listings a too_large = λ e. e ≡ refused_effect FileTooLarge
IsEffectAfter listings a missing = λ e. ⊥

-- the files that are read: none for words that ask for nothing
abbrev pub reads_for : Option Asked → List (List ℕ)
reads_for None = []
reads_for (Some a) = reads_of a

-- THE EFFECT OF THE PROGRAM: its status, the files that it writes and the text that it prints
abbrev pub IsEffect : (List Segment → Listing) → Option Asked → Reading → Effect → Type 0
IsEffect listings None reading = λ e. e ≡ usage_effect
IsEffect listings (Some a) reading = IsEffectAfter listings a reading

-- an answer has one of these effects: that of what was found, or of a refusal; want of memory has none
abbrev pub GivesEffect : (Effect → Type 0) → List ℕ → Result Findings Stop → Type 0
GivesEffect Is schedule answer = GivesBy (found_effect schedule) refused_effect Is answer

-- ---- how it is done

-- the call that writes a file
abbrev pub write_call : File → Call
write_call file = write file.0 file.1

-- the calls that do an effect: a write of each file, and a print of the text
abbrev pub calls_for : Effect → List Call
calls_for e = map write_call e.files ++ print e.text ∷ []

-- the files once these are written
abbrev pub with_files : List File → FileMap → FileMap
with_files [] F = F
with_files (file ∷ files) F = with_files files (insert F file.0 file.1)

-- the host failed at one of the files: those before it stand whole, and all others but that one are as they were
pub record IsCutAt (files : List File) (old new : Option FileMap) : Type 0 where
  pub done : List File
  pub last : File
  pub left : List File
  pub parts_are : files ≡ done ++ last ∷ left
  pub others : Changes (λ F G. KeepsOthers last.0 (with_files done F) G) old new

-- the first of the files stand whole, none or some or all of them, and all others are as they were
pub record AreSome (files : List File) (old new : Option FileMap) : Type 0 where
  pub done : List File
  pub left : List File
  pub parts_are : files ≡ done ++ left
  pub files_are : Becomes (with_files done) old new

-- what writes of files leave, by the answer to the last one
abbrev pub WritesFiles : {T : Type 0} → List File → Option FileMap → Option FileMap → Result T HostErr → Type 0
WritesFiles files old new (Ok _) = Becomes (with_files files) old new
WritesFiles files old new (Err Failed) = IsCutAt files old new
WritesFiles files old new (Err TooLarge) = ⊥
WritesFiles files old new (Err OutOfMemory) = AreSome files old new

-- the effect is done, and its status is this
pub record IsDone (e : Effect) (old new : HostState) (status : Status) : Type 0 where
  pub status_is : e.status ≡ status
  pub faults : new.faults ≡ old.faults
  pub files : Becomes (with_files e.files) old.files new.files
  pub printed : Becomes (λ P. P ++ e.text) old.printed new.printed

-- the host failed at a file, and nothing was printed
pub record IsCutAtFile (e : Effect) (old new : HostState) : Type 0 where
  pub files : IsCutAt e.files old.files new.files
  pub printed : Stays old.printed new.printed

-- the host failed at the text: all files stand whole, and a prefix of the text was printed
pub record IsCutInText (e : Effect) (old new : HostState) : Type 0 where
  pub files : Becomes (with_files e.files) old.files new.files
  pub printed : Changes (AddsPrefix e.text) old.printed new.printed

-- memory ran out: some of the files stand whole, and nothing was printed
pub record IsOutOfMemory (e : Effect) (old new : HostState) : Type 0 where
  pub faults : new.faults ≡ old.faults
  pub files : AreSome e.files old.files new.files
  pub printed : Stays old.printed new.printed

-- WHAT A CALL THAT IS TO DO AN EFFECT LEAVES, by the status that it ends with
abbrev pub Carries : Effect → HostState → HostState → Status → Type 0
Carries e old new Done = IsDone e old new Done
Carries e old new Ended = IsDone e old new Ended
Carries e old new Usage = IsDone e old new Usage
Carries e old new Refused = IsDone e old new Refused
Carries e old new HostFault = Rose old.faults new.faults × (IsCutAtFile e old new ⊎ IsCutInText e old new)
Carries e old new NoMemory = IsOutOfMemory e old new

-- an effect is begun behind the reads of these files; where the files are told, the calls are those reads, the writes and the print, all of them or up to the
-- first that failed
pub record IsBegun (names : List (List ℕ)) (e : Effect) (old new : HostState) (status : Status) : Type 0 where
  pub carries : Carries e old new status
  pub calls : (F : FileMap) → old.files ≡ Some F → MakesCalls (read_calls F names ++ calls_for e) old.calls new.calls (way_of status)

-- WHAT A CALL DOES, by what comes of the reads, which is what the files hold where the host tells them: an effect of the words is begun behind the reads, and
-- done whole or cut by a fault of the host or for want of memory; or none was reached
pub record Shakes (listings : List Segment → Listing) (asked : Option Asked) (old new : HostState) (status : Status) : Type 0 where
  pub reading : Reading
  pub told : (F : FileMap) → old.files ≡ Some F → reading ≡ reading_of F (reads_for asked)
  pub begins : BeginsOne IsBegun (reads_for asked) (IsEffect listings asked reading) old new status
