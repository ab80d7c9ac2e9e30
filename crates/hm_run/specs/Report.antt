-- The report of a run, and its memory file. A line is a function from the text before it to the text after it.
use Rattle.std.specs.Prelude.{ℕ, zero, suc, ◌+◌, ◌*◌, ◌/◌, ◌%◌, Bool, nat_eq, if◌then◌else◌, List, [], ◌++◌, codes, length, slice_index, Option, Some, None}
use Rattle.std.specs.Fmt.{decimal}
use Rattle.hex.specs.Hex.{encode_lower}
use Rattle.hm_base.specs.declared.FaultKind.{FaultKind}
use Rattle.hm_base.specs.declared.FaultKind.TheVariants as kind
use Rattle.hm_base.specs.declared.Place.{Place}
use Rattle.hm_base.specs.declared.Place.TheVariants as place
use Rattle.hm_regs.specs.Stacks.{main_of, process_of}
use Rattle.hm_regs.specs.declared.Regs.{Regs}
use Rattle.hm_exc.specs.declared.types.Broken.{Broken}
use Rattle.hm_exc.specs.declared.types.Broken.TheVariants as broken
use Rattle.hm_run.specs.declared.Offence.{Offence}
use Rattle.hm_run.specs.declared.Offence.TheVariants as offence
use Rattle.hm_run.specs.declared.Outcome.{Outcome}
use Rattle.hm_run.specs.declared.Outcome.TheVariants as outcome
use Rattle.hm_run.specs.declared.Reason.{Reason}
use Rattle.hm_run.specs.declared.Reason.TheVariants as reason
use Rattle.hm_window.specs.declared.rule.Rule.{Rule}
use Rattle.hm_window.specs.declared.rule.Rule.TheVariants as rule
use Rattle.hm_exc.specs.declared.types.Slot.{Slot}
use Rattle.hm_exc.specs.declared.types.Slot.TheVariants as slot
use Rattle.hm_run.specs.declared.Who.{Who}
use Rattle.hm_run.specs.declared.Who.TheVariants as who
use Rattle.hm_run.specs.Timed.{Timed}
use Rattle.hm_state.specs.State.{regs_of, sram_bytes, taint_bytes}
use Rattle.hm_text_base.specs.Texts.{separator, hex2, hex8, binary_digit}

-- THE FIRST LINE
-- the word for a kind of fault
abbrev pub kind_text : FaultKind → List ℕ
kind_text kind.Undefined = codes "undefined"
kind_text kind.InvState = codes "invstate"
kind_text kind.Fetch = codes "fetch"
kind_text kind.Bus = codes "bus"
kind_text kind.FlashWrite = codes "flashwrite"
kind_text kind.Unaligned = codes "unaligned"
kind_text kind.DeviceVector = codes "devicevector"
kind_text kind.TimedRead = codes "timedread"
kind_text kind.Semihost = codes "semihost"
kind_text kind.Vector = codes "vector"

-- the word for whose fault it is
abbrev pub who_text : Who → List ℕ
who_text who.Thread = codes "thread"
who_text who.Handler = codes "handler"
who_text who.Entry = codes "entry"

-- why a program halts: a breakpoint with its number, or an exit with its reason
abbrev pub reason_text : Reason → List ℕ → List ℕ
reason_text (reason.Break k) out = out ++ codes "break " ++ decimal k
reason_text (reason.Exit r) out = out ++ codes "exit " ++ hex8 r

-- the program counter and the address of a fault
abbrev pub address_text : ℕ → ℕ → List ℕ → List ℕ
address_text pc addr out = out ++ codes " pc " ++ hex8 pc ++ codes " addr " ++ hex8 addr

-- the name of register n: 13 is sp, 14 is lr
abbrev pub register_text : ℕ → List ℕ → List ℕ
register_text n out = if nat_eq n 13 then out ++ codes "sp" else (if nat_eq n 14 then out ++ codes "lr" else out ++ codes "r" ++ decimal n)

-- the name of word k of all vector registers, as a word of one of them
abbrev pub word_text : ℕ → List ℕ → List ℕ
word_text k out = out ++ codes "q" ++ decimal (k / 4) ++ codes "." ++ decimal (k % 4)

-- the name of a place: a core register, a word of a vector register, or a part of VPR or FPSCR
abbrev pub place_text : Place → List ℕ → List ℕ
place_text (place.R n) out = register_text n out
place_text (place.QWord k) out = word_text k out
place_text (place.P0 b) out = out ++ codes "p0." ++ decimal b
place_text place.Mask01 out = out ++ codes "mask01"
place_text place.Mask23 out = out ++ codes "mask23"
place_text place.Carry out = out ++ codes "carry"
place_text place.Ltp out = out ++ codes "ltpsize"
place_text place.Sticky out = out ++ codes "qc"

-- the name of what a handler has to leave as it was
abbrev pub slot_text : Slot → List ℕ → List ℕ
slot_text (slot.Reg p) out = place_text p out
slot_text slot.Primask out = out ++ codes "primask"
slot_text slot.Psp out = out ++ codes "psp"
slot_text slot.Basepri out = out ++ codes "basepri"

-- the rule of overlap that is broken
abbrev pub rule_text : Rule → List ℕ → List ℕ
rule_text rule.NotVector out = out ++ codes "notvector"
rule_text rule.Order out = out ++ codes "order"
rule_text (rule.Register p) out = place_text p (out ++ codes "register ")
rule_text (rule.Memory addr) out = out ++ codes "memory " ++ hex8 addr
rule_text rule.YoungerFault out = out ++ codes "youngerfault"
rule_text (rule.Ending a b) out = out ++ codes "ending " ++ decimal a ++ separator ++ decimal b

-- how a return differs from its entry
abbrev pub broken_text : Broken → List ℕ → List ℕ
broken_text (broken.ExcReturn value) out = out ++ codes "return " ++ hex8 value
broken_text (broken.Register name entry now) out = slot_text name (out ++ codes "register ") ++ codes " entry " ++ hex8 entry ++ codes " now " ++ hex8 now
broken_text (broken.Frame addr) out = out ++ codes "frame " ++ hex8 addr

-- what a handler did that it may not do
abbrev pub offence_text : Offence → List ℕ → List ℕ
offence_text (offence.Left b) out = broken_text b out
offence_text (offence.Store addr) out = out ++ codes "store " ++ hex8 addr
offence_text (offence.Call pc) out = out ++ codes "call " ++ hex8 pc

-- a halt: why, and after how many instructions
abbrev pub halted_text : Reason → ℕ → List ℕ → List ℕ
halted_text reason n out = reason_text reason (out ++ codes "halted ") ++ codes " after " ++ decimal n

-- the outcome of a run that has ended
abbrev pub ended_text : Outcome → List ℕ → List ℕ
ended_text (outcome.Halted reason n) out = halted_text reason n out
ended_text (outcome.Fault who f pc n) out =
    address_text pc f.addr (out ++ codes "fault " ++ who_text who ++ separator ++ kind_text f.kind) ++ codes " after " ++ decimal n
ended_text (outcome.RuleBroken t step r) out = rule_text r (out ++ codes "rule tick " ++ decimal t ++ codes " step " ++ decimal step ++ separator)
ended_text (outcome.HandlerBroken t what) out = offence_text what (out ++ codes "handler tick " ++ decimal t ++ separator)
ended_text (outcome.TaintedRead t pc addr) out = address_text pc addr (out ++ codes "tainted tick " ++ decimal t)
ended_text (outcome.StackSpent t sp) out = out ++ codes "stack tick " ++ decimal t ++ codes " sp " ++ hex8 sp
ended_text (outcome.OutputFull t) out = out ++ codes "output tick " ++ decimal t
ended_text outcome.OutOfTicks out = out ++ codes "ticks"

-- the outcome of a run, or that it still goes on
abbrev pub outcome_text : Option Outcome → List ℕ → List ℕ
outcome_text (Some o) out = ended_text o out
outcome_text None out = out ++ codes "running"

-- the first line of a report, which is the outcome
abbrev pub outcome_line : Option Outcome → List ℕ
outcome_line o = outcome_text o ([] ++ codes "outcome ") ++ codes "\n"

-- THE FURTHER LINES
-- the mode: the thread, or a handler with its exception number and the number of activations
abbrev pub mode_line : ℕ → ℕ → List ℕ → List ℕ
mode_line zero ipsr out = out ++ codes "mode thread\n"
mode_line (suc k) ipsr out = out ++ codes "mode handler " ++ decimal ipsr ++ codes " depth " ++ decimal (suc k) ++ codes "\n"

-- the lines of registers 0 to k-1
abbrev pub low_lines : ℕ → List ℕ → List ℕ → List ℕ
low_lines zero r out = out
low_lines (suc k) r out = low_lines k r out ++ codes "r" ++ decimal k ++ separator ++ hex8 (slice_index r k) ++ codes "\n"

-- a line of a name and a word
abbrev pub word_line : List ℕ → ℕ → List ℕ → List ℕ
word_line name x out = out ++ name ++ separator ++ hex8 x ++ codes "\n"

-- the lines of sp, lr and pc
abbrev pub pointer_lines : Regs → List ℕ → List ℕ
pointer_lines g out = word_line (codes "pc") g.pc (word_line (codes "lr") g.lr (word_line (codes "sp") g.sp out))

-- the line of the position: how many beats are done of the older instruction, and of the younger
abbrev pub position_line : ℕ → ℕ → List ℕ → List ℕ
position_line a b out = out ++ codes "position " ++ decimal a ++ separator ++ decimal b ++ codes "\n"

-- the line of N, Z, C, V and Q
abbrev pub flags_line : Regs → List ℕ → List ℕ
flags_line g out = out ++ codes "flags " ++ binary_digit g.n ++ binary_digit g.z ++ binary_digit g.c ++ binary_digit g.v ++ binary_digit g.q ++ codes "\n"

-- a line of a name and a bit
abbrev pub bit_line : List ℕ → Bool → List ℕ → List ℕ
bit_line name b out = out ++ name ++ separator ++ binary_digit b ++ codes "\n"

-- the line of the main and the process stack pointer, SPSEL and BASEPRI
abbrev pub system_line : Regs → List ℕ → List ℕ
system_line g out = out ++ codes "system " ++ hex8 (main_of g) ++ separator ++ hex8 (process_of g) ++ separator ++ binary_digit g.spsel ++ separator
    ++ hex2 g.basepri
    ++ codes "\n"

-- the lines of the IT byte, FPSCR, VPR, FPCA and PRIMASK
abbrev pub state_lines : Regs → List ℕ → List ℕ
state_lines g out =
    bit_line (codes "primask") g.primask (bit_line (codes "fpca") g.fpca
    (word_line (codes "vpr") g.vpr (word_line (codes "fpscr") g.fpscr (out ++ codes "it " ++ hex2 g.it ++ codes "\n"))))

-- the lines of the special registers
abbrev pub special_lines : Regs → List ℕ → List ℕ
special_lines g out = system_line g (state_lines g out)

-- the four words of vector register k
abbrev pub vector_words : ℕ → List ℕ → List ℕ → List ℕ
vector_words k qw out =
    out ++ hex8 (slice_index qw (4 * k)) ++ separator ++ hex8 (slice_index qw (4 * k + 1)) ++ separator
    ++ hex8 (slice_index qw (4 * k + 2)) ++ separator ++ hex8 (slice_index qw (4 * k + 3))

-- the line of vector register k: its four words, the lowest first
abbrev pub vector_line : ℕ → List ℕ → List ℕ → List ℕ
vector_line k qw out = vector_words k qw (out ++ codes "q" ++ decimal k ++ separator) ++ codes "\n"

-- the lines of vector registers 0 to k-1
abbrev pub vector_lines : ℕ → List ℕ → List ℕ → List ℕ
vector_lines zero qw out = out
vector_lines (suc k) qw out = vector_line k qw (vector_lines k qw out)

-- the lines of the output: how many bytes it has, and the bytes
abbrev pub output_lines : List ℕ → List ℕ → List ℕ
output_lines bytes out = out ++ codes "output " ++ decimal (length bytes) ++ codes "\n" ++ encode_lower bytes ++ codes "\n"

-- the lines of the core registers, the position, the flags, the special registers and the vector registers
unfoldable pub register_lines : Regs → ℕ → ℕ → List ℕ → List ℕ
register_lines g a b out = vector_lines 8 g.qw (special_lines g (flags_line g (position_line a b (pointer_lines g (low_lines 13 g.r out)))))

-- the report of an outcome, so many activations, registers, a position and an output
unfoldable pub report_of : Option Outcome → ℕ → Regs → ℕ → ℕ → List ℕ → List ℕ
report_of o depth g a b output = output_lines output (register_lines g a b (mode_line depth g.ipsr (outcome_line o)))

-- the report of a run
abbrev pub report_text : Timed → List ℕ
report_text x =
    let s = x.config.state in
    report_of x.outcome (length x.acts) (regs_of s) x.config.a x.config.b s.rest.output

-- the memory file of a run: SRAM and then its taint
abbrev pub memory_text : Timed → List ℕ
memory_text x = sram_bytes x.config.state ++ taint_bytes x.config.state
