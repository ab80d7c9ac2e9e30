-- The words of a command, by position.
use Rattle.std.specs.Prelude.{◌≡◌, ◌≢◌, ℕ, ◌≤◌, ◌<◌, ◌%◌, ◌^◌, ◌&&◌, Bool, List, [], ◌∷◌, Option, Some, None, nat_eq, nat_le, nat_lt, if◌then◌else◌, option_map}
use Rattle.std.specs.Prelude.{option_and_then, codes, bytes_eq, take, drop, ◌++◌}
use Rattle.std.specs.Fmt.{decimal}
use Rattle.hm_base.specs.Image.{flash_size}
use Rattle.hm_text_base.specs.Numbers.{hex8_in, number_in, word_in}
use Rattle.hm_text_base.specs.Texts.{hex8}
use Rattle.hm_words.specs.declared.command.Command.{Command}
use Rattle.hm_words.specs.declared.command.Command.TheVariants.{Run, Seq, Dis, Asm, Soak, Debug, Journal, Replay, Migrate, Plan, Hex, Kernel}
use Rattle.hm_words.specs.declared.command.Source.{Source as HeldSource}
use Rattle.hm_words.specs.declared.command.Source.TheVariants.{Plain, File}

-- the largest number of ticks that a word may give
abbrev pub most : ℕ
most = 16777216

-- the largest number of instructions that may be planned
abbrev pub most_planned : ℕ
most_planned = 262144

-- a number that is not past a limit
abbrev pub not_past : ℕ → ℕ → Option ℕ
not_past limit n = if nat_lt limit n then None else Some n

-- the number that a word gives, up to a limit: one to eight decimal digits without a leading zero
abbrev pub number_of : ℕ → List ℕ → Option ℕ
number_of limit word = option_and_then (not_past limit) (number_in word)

-- a number that is not 0
abbrev pub not_zero : ℕ → Option ℕ
not_zero n = if nat_eq n 0 then None else Some n

-- the distance in ticks that a word gives, at least 1
abbrev pub every_of : List ℕ → Option ℕ
every_of word = option_and_then not_zero (number_of most word)

-- where the schedule of a run comes from: so many ticks of one whole instruction each, or a file
pub data Source : Type 0 where
  ticks : (count : ℕ) → Source
  file : (name : List ℕ) → Source

-- the word of a schedule: one that begins with `plain:` is no name of a file
abbrev pub source_of : List ℕ → Option Source
source_of word = if bytes_eq (take 6 word) (codes "plain:") then option_map ticks (number_of most (drop 6 word)) else Some (file word)

-- a range of flash, from an even address to another
abbrev pub is_range : ℕ → ℕ → Bool
is_range lo hi = nat_eq (lo % 2) 0 && nat_eq (hi % 2) 0 && nat_le lo hi && nat_le hi flash_size

-- two addresses that are a range
abbrev pub range_of : ℕ → ℕ → Option (ℕ × ℕ)
range_of lo hi = if is_range lo hi then Some (lo, hi) else None

-- the range that two words give, each of eight hexadecimal digits
abbrev pub range_in : List ℕ → List ℕ → Option (ℕ × ℕ)
range_in lo hi = option_and_then (λ a. option_and_then (range_of a) (hex8_in hi)) (hex8_in lo)

-- what the words ask for
pub data Form : Type 0 where
  run : (image : List ℕ) (schedule : Source) (memory : List ℕ) → Form
  seq : (image : List ℕ) (count : ℕ) → Form
  dis : (image : List ℕ) (lo hi : ℕ) → Form
  asm : (source out : List ℕ) → Form
  soak : (number : ℕ) → Form
  debug : (image : List ℕ) (schedule : Source) (script : List ℕ) → Form
  journal : (image : List ℕ) (schedule : Source) (every : ℕ) (out : List ℕ) → Form
  replay : (image : List ℕ) (schedule : Source) (journal : List ℕ) (tick : ℕ) → Form
  migrate : (image : List ℕ) (schedule : Source) (journal out : List ℕ) → Form
  plan : (image : List ℕ) (count : ℕ) (out : List ℕ) → Form
  hex : (image out : List ℕ) → Form
  kernel : (source out : List ℕ) → Form

-- an image, a schedule and a file for the memory
abbrev pub run_form : List (List ℕ) → Option Form
run_form (image ∷ schedule ∷ memory ∷ []) = option_map (λ s. run image s memory) (source_of schedule)
run_form _ = None

-- an image and a number of instructions
abbrev pub seq_form : List (List ℕ) → Option Form
seq_form (image ∷ count ∷ []) = option_map (seq image) (number_of most count)
seq_form _ = None

-- an image and a range
abbrev pub dis_form : List (List ℕ) → Option Form
dis_form (image ∷ lo ∷ hi ∷ []) = option_map (λ r. dis image r.0 r.1) (range_in lo hi)
dis_form _ = None

-- two names of files and no more
abbrev pub two_names : (List ℕ → List ℕ → Form) → List (List ℕ) → Option Form
two_names form (name ∷ out ∷ []) = Some (form name out)
two_names form _ = None

-- a source and a file for its image
abbrev pub asm_form : List (List ℕ) → Option Form
asm_form = two_names asm

-- a number
abbrev pub soak_form : List (List ℕ) → Option Form
soak_form (number ∷ []) = option_map soak (word_in number)
soak_form _ = None

-- an image, a schedule and a script
abbrev pub debug_form : List (List ℕ) → Option Form
debug_form (image ∷ schedule ∷ script ∷ []) = option_map (λ s. debug image s script) (source_of schedule)
debug_form _ = None

-- an image, a schedule, a distance and a file for the journal
abbrev pub journal_form : List (List ℕ) → Option Form
journal_form (image ∷ schedule ∷ every ∷ out ∷ []) = option_and_then (λ s. option_map (λ e. journal image s e out) (every_of every)) (source_of schedule)
journal_form _ = None

-- an image, a schedule, a journal and a tick
abbrev pub replay_form : List (List ℕ) → Option Form
replay_form (image ∷ schedule ∷ text ∷ tick ∷ []) = option_and_then (λ s. option_map (replay image s text) (number_of most tick)) (source_of schedule)
replay_form _ = None

-- an image, a schedule, a journal and a file for the journal that is written
abbrev pub migrate_form : List (List ℕ) → Option Form
migrate_form (image ∷ schedule ∷ text ∷ out ∷ []) = option_map (λ s. migrate image s text out) (source_of schedule)
migrate_form _ = None

-- an image, a number of instructions and a file for the schedule
abbrev pub plan_form : List (List ℕ) → Option Form
plan_form (image ∷ count ∷ out ∷ []) = option_map (λ n. plan image n out) (number_of most_planned count)
plan_form _ = None

-- an image and a file for it as Intel HEX
abbrev pub hex_form : List (List ℕ) → Option Form
hex_form = two_names hex

-- a text of the array language and a file for its image
abbrev pub kernel_form : List (List ℕ) → Option Form
kernel_form = two_names kernel

-- the commands by their names, and what the words behind a name ask for
abbrev pub commands : List (List ℕ × (List (List ℕ) → Option Form))
commands =
    (codes "run", run_form) ∷ (codes "seq", seq_form) ∷ (codes "dis", dis_form) ∷ (codes "asm", asm_form) ∷ (codes "soak", soak_form)
    ∷ (codes "debug", debug_form) ∷ (codes "journal", journal_form) ∷ (codes "replay", replay_form) ∷ (codes "migrate", migrate_form)
    ∷ (codes "plan", plan_form)
    ∷ (codes "hex", hex_form) ∷ (codes "kernel", kernel_form) ∷ []

-- the command of a name among these
abbrev pub form_in : List (List ℕ × (List (List ℕ) → Option Form)) → List ℕ → List (List ℕ) → Option Form
form_in [] name words = None
form_in (command ∷ others) name words = if bytes_eq name command.0 then command.1 words else form_in others name words

-- the command is named by the first word
abbrev pub form_of : List (List ℕ) → Option Form
form_of [] = None
form_of (name ∷ words) = form_in commands name words

-- the source that the program holds
abbrev pub source_meant : HeldSource → Source
source_meant (Plain n) = ticks n.count
source_meant (File name) = file name.now

-- the form that a command stands for
abbrev pub meant : Command → Form
meant (Run image schedule memory) = run image.now (source_meant schedule) memory.now
meant (Seq image n) = seq image.now n.count
meant (Dis image r) = dis image.now r.lo r.hi
meant (Asm source out) = asm source.now out.now
meant (Soak number) = soak number
meant (Debug image schedule script) = debug image.now (source_meant schedule) script.now
meant (Journal image schedule every out) = journal image.now (source_meant schedule) every.ticks out.now
meant (Replay image schedule text tick) = replay image.now (source_meant schedule) text.now tick.count
meant (Migrate image schedule text out) = migrate image.now (source_meant schedule) text.now out.now
meant (Plan image n out) = plan image.now n.count out.now
meant (Hex image out) = hex image.now out.now
meant (Kernel source out) = kernel source.now out.now

-- the file to read for a schedule
abbrev pub source_reads : Source → List (List ℕ)
source_reads (ticks n) = []
source_reads (file name) = name ∷ []

-- the files to read, in order
abbrev pub reads_of : Form → List (List ℕ)
reads_of (run image schedule memory) = image ∷ source_reads schedule
reads_of (seq image n) = image ∷ []
reads_of (dis image lo hi) = image ∷ []
reads_of (asm source out) = source ∷ []
reads_of (soak number) = []
reads_of (debug image schedule script) = image ∷ (source_reads schedule ++ script ∷ [])
reads_of (journal image schedule every out) = image ∷ source_reads schedule
reads_of (replay image schedule text tick) = image ∷ (source_reads schedule ++ text ∷ [])
reads_of (migrate image schedule text out) = image ∷ (source_reads schedule ++ text ∷ [])
reads_of (plan image n out) = image ∷ []
reads_of (hex image out) = image ∷ []
reads_of (kernel source out) = source ∷ []

-- the word that stands for a source
abbrev pub IsSource : List ℕ → Source → Type 0
IsSource word (ticks n) = (word ≡ codes "plain:" ++ decimal n) × (n ≤ most)
IsSource word (file name) = (word ≡ name) × (take 6 word ≢ codes "plain:")

-- words that ask for a run of an image under a schedule, with a file for its memory
pub record IsRun (words : List (List ℕ)) (image : List ℕ) (schedule : Source) (memory : List ℕ) : Type 0 where
  pub word : List ℕ
  pub words_are : words ≡ codes "run" ∷ image ∷ word ∷ memory ∷ []
  pub source : IsSource word schedule

-- words that ask for n whole instructions of an image in order
pub record IsSeq (words : List (List ℕ)) (image : List ℕ) (n : ℕ) : Type 0 where
  pub words_are : words ≡ codes "seq" ∷ image ∷ decimal n ∷ []
  pub few : n ≤ most

-- addresses of a range of flash: both are even, in order, and in flash or at its end
pub record IsRange (lo hi : ℕ) : Type 0 where
  pub even : (lo % 2 ≡ 0) × (hi % 2 ≡ 0)
  pub order : lo ≤ hi
  pub within : hi ≤ flash_size

-- words that ask for the listing of an image from lo up to hi
pub record IsDis (words : List (List ℕ)) (image : List ℕ) (lo hi : ℕ) : Type 0 where
  pub words_are : words ≡ codes "dis" ∷ image ∷ hex8 lo ∷ hex8 hi ∷ []
  pub range : IsRange lo hi

-- words that ask for a source to be assembled, with a file for its image
pub record IsAsm (words : List (List ℕ)) (source out : List ℕ) : Type 0 where
  pub words_are : words ≡ codes "asm" ∷ source ∷ out ∷ []

-- words that ask for the generated work of a number
pub record IsSoak (words : List (List ℕ)) (number : ℕ) : Type 0 where
  pub words_are : words ≡ codes "soak" ∷ decimal number ∷ []
  pub few : number < 2 ^ 32

-- words that ask for the answers of a script over a run
pub record IsDebug (words : List (List ℕ)) (image : List ℕ) (schedule : Source) (script : List ℕ) : Type 0 where
  pub word : List ℕ
  pub words_are : words ≡ codes "debug" ∷ image ∷ word ∷ script ∷ []
  pub source : IsSource word schedule

-- words that ask for the journal of a run, with the distance of its checkpoints and a file for it
pub record IsJournal (words : List (List ℕ)) (image : List ℕ) (schedule : Source) (every : ℕ) (out : List ℕ) : Type 0 where
  pub word : List ℕ
  pub words_are : words ≡ codes "journal" ∷ image ∷ word ∷ decimal every ∷ out ∷ []
  pub source : IsSource word schedule
  pub some : 1 ≤ every
  pub few : every ≤ most

-- words that ask to check a journal against a run, and for the report at a tick
pub record IsReplay (words : List (List ℕ)) (image : List ℕ) (schedule : Source) (text : List ℕ) (tick : ℕ) : Type 0 where
  pub word : List ℕ
  pub words_are : words ≡ codes "replay" ∷ image ∷ word ∷ text ∷ decimal tick ∷ []
  pub source : IsSource word schedule
  pub few : tick ≤ most

-- words that ask to check a journal against a run, and for the run's journal in the format of today, with a file for it
pub record IsMigrate (words : List (List ℕ)) (image : List ℕ) (schedule : Source) (text out : List ℕ) : Type 0 where
  pub word : List ℕ
  pub words_are : words ≡ codes "migrate" ∷ image ∷ word ∷ text ∷ out ∷ []
  pub source : IsSource word schedule

-- words that ask for the dense schedule of n instructions, with a file for it
pub record IsPlan (words : List (List ℕ)) (image : List ℕ) (n : ℕ) (out : List ℕ) : Type 0 where
  pub words_are : words ≡ codes "plan" ∷ image ∷ decimal n ∷ out ∷ []
  pub few : n ≤ most_planned

-- words that ask for an image to be written as Intel HEX, with a file for it
pub record IsHex (words : List (List ℕ)) (image out : List ℕ) : Type 0 where
  pub words_are : words ≡ codes "hex" ∷ image ∷ out ∷ []

-- words that ask for a text of the array language to be compiled, with a file for its image
pub record IsKernel (words : List (List ℕ)) (source out : List ℕ) : Type 0 where
  pub words_are : words ≡ codes "kernel" ∷ source ∷ out ∷ []
