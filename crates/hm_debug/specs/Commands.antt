-- COMMANDS OF A SCRIPT: how each is written, and which there are.
use Rattle.std.specs.Prelude.{◌≡◌, ℕ, ◌+◌, ◌^◌, ◌%◌, ◌<◌, ◌≤◌, List, ◌++◌, codes, Option, IfSome, Some}
use Rattle.std.specs.Fmt.{decimal}
use Rattle.hm_base.specs.Image.{flash_size}
use Rattle.hm_sched.specs.Schedule.{most_ticks}
use Rattle.hm_text_base.specs.Texts.{separator, hex8}
use Rattle.hm_debug.specs.declared.command.Command.{Command}
use Rattle.hm_debug.specs.declared.command.Command.TheVariants.{Goto, Step, Back, Until, Show, Memory, Listing}

-- an address, and how many are asked for from there on
abbrev pub range_text : ℕ → ℕ → List ℕ
range_text addr n = hex8 addr ++ separator ++ decimal n

-- the line of a command, without its end
abbrev pub command_text : Command → List ℕ
command_text (Goto n) = codes "goto " ++ decimal n
command_text Step = codes "step"
command_text Back = codes "back"
command_text (Until addr) = codes "until " ++ hex8 addr
command_text Show = codes "show"
command_text (Memory addr len) = codes "mem " ++ range_text addr len
command_text (Listing addr count) = codes "dis " ++ range_text addr count

-- the most bytes of memory that one command shows
abbrev pub most_bytes : ℕ
most_bytes = 4096

-- the most lines of the listing that one command shows
abbrev pub most_listed : ℕ
most_listed = 1000

-- the numbers that a command may have
abbrev pub Fits : Command → Type 0
Fits (Goto n) = n ≤ most_ticks
Fits Step = Unit {0}
Fits Back = Unit {0}
Fits (Until addr) = addr < 2 ^ 32
Fits Show = Unit {0}
Fits (Memory addr len) = (addr + len ≤ 2 ^ 32) × (0 < len) × (len ≤ most_bytes)
Fits (Listing addr count) = (addr % 2 ≡ 0) × (addr < flash_size) × (0 < count) × (count ≤ most_listed)

-- a command without numbers, which is a word alone
abbrev pub IsPlain : Command → Type 0
IsPlain Step = Unit {0}
IsPlain Back = Unit {0}
IsPlain Show = Unit {0}
IsPlain c = ⊥

-- a line that is the word of no such command
abbrev pub IsNoPlain : List ℕ → Type 0
IsNoPlain line = (c : Command) → IsPlain c → ¬ (line ≡ command_text c)

-- a line says a command
pub record Says (line : List ℕ) (c : Command) : Type 0 where
  pub reads : line ≡ command_text c
  pub fits : Fits c

-- what a line is read as, its numbers not judged: it is written so, and a command that the line says is found
pub record IsRead (line : List ℕ) (read : Option Command) : Type 0 where
  pub reads : IfSome read (λ c. line ≡ command_text c)
  pub finds : (c : Command) → Says line c → read ≡ Some c
