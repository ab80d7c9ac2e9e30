-- What a command comes to, once its files are read.
use Rattle.std.specs.Prelude.{◌≡◌, ℕ, Bool, List, ◌++◌, Option, Result, Ok, Err, option_map, codes}
use Rattle.std.specs.Fmt.{decimal}
use Rattle.hm_asm.specs.declared.errors.AsmErr.{AsmErr}
use Rattle.hm_asm.specs.declared.errors.AsmErr.TheVariants as asm
use Rattle.hm_base.specs.declared.errors.ImageErr.{ImageErr}
use Rattle.hm_base.specs.declared.errors.ImageErr.TheVariants as image
use Rattle.hm_debug.specs.declared.errors.ScriptErr.{ScriptErr}
use Rattle.hm_debug.specs.declared.errors.ScriptErr.TheVariants as script
use Rattle.hm_journal.specs.declared.journal.JournalErr.{JournalErr}
use Rattle.hm_journal.specs.declared.journal.JournalErr.TheVariants as journal
use Rattle.hm_kernel_text.specs.declared.errors.KernelErr.{KernelErr}
use Rattle.hm_kernel_text.specs.declared.errors.KernelErr.TheVariants as kernel
use Rattle.hm_kernel_text.specs.declared.errors.KernelKind.{KernelKind}
use Rattle.hm_kernel_text.specs.declared.errors.KernelKind.TheVariants as fault
use Rattle.hm_line.specs.declared.errors.AsmKind.{AsmKind}
use Rattle.hm_line.specs.declared.errors.AsmKind.TheVariants as row
use Rattle.hm_sched.specs.declared.errors.LineKind.{LineKind}
use Rattle.hm_sched.specs.declared.errors.LineKind.TheVariants as kind
use Rattle.hm_sched.specs.declared.errors.SchedErr.{SchedErr}
use Rattle.hm_sched.specs.declared.errors.SchedErr.TheVariants as sched
use Rattle.hm_text_base.specs.Texts.{separator, hex8}
use Rattle.hm_work.specs.declared.work.Output.{Output}
use Rattle.hm_work.specs.declared.work.Finish.{Finish}
use Rattle.hm_work.specs.declared.work.Refusal.{Refusal}
use Rattle.hm_work.specs.declared.work.Refusal.TheVariants.{FileTooLarge, Image, Schedule, Source, Script, Journal, Kernel, Past, Reset}
use Rattle.hm_work.specs.declared.work.Stop.{Stop}
use Rattle.hm_work.specs.declared.work.Stop.TheVariants.{Refused, NoMemory}

-- what is wrong with an image, after a text
abbrev pub image_text : ImageErr → List ℕ → List ℕ
image_text image.Short out = out ++ codes "short"
image_text image.Long out = out ++ codes "long"
image_text (image.Truncated k) out = out ++ codes "truncated " ++ decimal k
image_text image.Class out = out ++ codes "class"
image_text image.Order out = out ++ codes "order"
image_text image.Header out = out ++ codes "header"
image_text image.Kind out = out ++ codes "kind"
image_text image.Machine out = out ++ codes "machine"
image_text image.TooMany out = out ++ codes "too many"
image_text (image.Segment k) out = out ++ codes "segment " ++ decimal k
image_text (image.Hex k) out = out ++ codes "hex " ++ decimal k
image_text image.OutOfMemory out = out

-- the word for what is bad in a line of a schedule
abbrev pub kind_text : LineKind → List ℕ
kind_text kind.Header = codes "header"
kind_text kind.Entries = codes "entries"
kind_text kind.Region = codes "region"
kind_text kind.Floor = codes "floor"
kind_text kind.Process = codes "process"
kind_text kind.Count = codes "count"
kind_text kind.Steps = codes "steps"
kind_text kind.Irq = codes "irq"
kind_text kind.Newline = codes "newline"

-- what is wrong with a schedule, after a text
abbrev pub schedule_text : SchedErr → List ℕ → List ℕ
schedule_text (sched.Line k kind) out = out ++ codes "line " ++ decimal k ++ separator ++ kind_text kind
schedule_text (sched.TooManyTicks k) out = out ++ codes "too many ticks " ++ decimal k
schedule_text sched.OutOfMemory out = out

-- the word for what is bad in a line of a source
abbrev pub asm_kind_text : AsmKind → List ℕ
asm_kind_text row.Syntax = codes "syntax"
asm_kind_text row.Row = codes "row"
asm_kind_text row.Missing = codes "missing"
asm_kind_text row.Double = codes "double"
asm_kind_text row.Offset = codes "offset"
asm_kind_text row.Place = codes "place"

-- what is wrong with a source, after a text
abbrev pub source_text : AsmErr → List ℕ → List ℕ
source_text (asm.Line k c kind) out = out ++ codes "line " ++ decimal k ++ codes " column " ++ decimal c ++ separator ++ asm_kind_text kind
source_text asm.OutOfMemory out = out

-- what is wrong with a script, after a text
abbrev pub script_text : ScriptErr → List ℕ → List ℕ
script_text (script.Line k) out = out ++ codes "line " ++ decimal k
script_text script.TooManyLines out = out ++ codes "too many lines"
script_text script.OutOfMemory out = out

-- what is wrong with a journal, after a text
abbrev pub journal_refusal_text : JournalErr → List ℕ → List ℕ
journal_refusal_text journal.TooMany out = out ++ codes "too many"
journal_refusal_text journal.Json out = out ++ codes "json"
journal_refusal_text journal.Shape out = out ++ codes "shape"
journal_refusal_text journal.Format out = out ++ codes "format"
journal_refusal_text (journal.Differs tick) out = out ++ codes "differs " ++ decimal tick
journal_refusal_text journal.OutOfMemory out = out

-- the word for what is bad in a line of the array language
abbrev pub kernel_kind_text : KernelKind → List ℕ
kernel_kind_text fault.Syntax = codes "syntax"
kernel_kind_text fault.Large = codes "large"
kernel_kind_text fault.Name = codes "name"
kernel_kind_text fault.Range = codes "range"
kernel_kind_text fault.Overlap = codes "overlap"
kernel_kind_text fault.Deep = codes "deep"

-- what is wrong with a text of the array language, after a text
abbrev pub kernel_text : KernelErr → List ℕ → List ℕ
kernel_text (kernel.Line k kind) out = out ++ codes "line " ++ decimal k ++ separator ++ kernel_kind_text kind
kernel_text kernel.OutOfMemory out = out

-- what a refusal's line says, after a text
abbrev pub refusal_text : Refusal → List ℕ → List ℕ
refusal_text FileTooLarge out = out ++ codes "file too large"
refusal_text (Image e) out = image_text e (out ++ codes "image ")
refusal_text (Schedule e) out = schedule_text e (out ++ codes "schedule ")
refusal_text (Source e) out = source_text e (out ++ codes "source ")
refusal_text (Script e) out = script_text e (out ++ codes "script ")
refusal_text (Journal e) out = journal_refusal_text e (out ++ codes "journal ")
refusal_text (Kernel e) out = kernel_text e (out ++ codes "kernel ")
refusal_text (Past last) out = out ++ codes "replay past " ++ decimal last
refusal_text (Reset value) out = out ++ codes "image reset " ++ hex8 value

-- what a command comes to: whether what was asked came about, the file to write and the text to print; or a refusal
pub data Outcome : Type 0 where
  finishes : (done : Bool) (file : Option (List ℕ × List ℕ)) (text : Option (List ℕ)) → Outcome
  refuses : (why : Refusal) → Outcome

-- the name of a file to write, and its bytes
abbrev pub output_pair : Output → List ℕ × List ℕ
output_pair o = (o.name.now, o.bytes.items)

-- the outcome that a finish stands for
abbrev pub finish_of : Finish → Outcome
finish_of f = finishes f.done (option_map output_pair f.file) (option_map (λ text. text.items) f.text)

-- the answer, or the refusal, is one of these by what it stands for, or memory was wanted
abbrev pub GivesBy : {A T : Type 0} → (A → T) → (Refusal → T) → (T → Type 0) → Result A Stop → Type 0
GivesBy given refused Is (Ok x) = Is (given x)
GivesBy given refused Is (Err (Refused why)) = Is (refused why)
GivesBy given refused Is (Err NoMemory) = Unit {0}

-- the answer is one of these outcomes, or want of memory
abbrev pub GivesOne : (Outcome → Type 0) → Result Finish Stop → Type 0
GivesOne Is answer = GivesBy finish_of refuses Is answer

-- the answer is this outcome, or want of memory
abbrev pub Gives : Outcome → Result Finish Stop → Type 0
Gives outcome answer = GivesOne (λ o. o ≡ outcome) answer

-- all that is wrong with an image is refused, and want of memory is no refusal
abbrev pub image_stop : ImageErr → Stop
image_stop image.OutOfMemory = NoMemory
image_stop e = Refused (Image e)

-- all that is wrong with a source is refused, and want of memory is no refusal
abbrev pub source_stop : AsmErr → Stop
source_stop asm.OutOfMemory = NoMemory
source_stop e = Refused (Source e)

-- all that is wrong with a script is refused, and want of memory is no refusal
abbrev pub script_stop : ScriptErr → Stop
script_stop script.OutOfMemory = NoMemory
script_stop e = Refused (Script e)

-- all that is wrong with a journal is refused, and want of memory is no refusal
abbrev pub journal_stop : JournalErr → Stop
journal_stop journal.OutOfMemory = NoMemory
journal_stop e = Refused (Journal e)

-- all that is wrong with a text of the array language is refused, and want of memory is no refusal
abbrev pub kernel_stop : KernelErr → Stop
kernel_stop kernel.OutOfMemory = NoMemory
kernel_stop e = Refused (Kernel e)

-- a tick that no run of a tape reaches, which begins so many
abbrev pub past_stop : ℕ → Stop
past_stop last = Refused (Past last)
