-- The machine of a program: what a step of the older instruction and one of the younger do. The listing says what
-- stands at each address.
use Rattle.std.specs.Prelude.{ℕ, ◌+◌, ◌-◌, ◌&&◌, nat_lt, is_none, Bool, true, false, cond, List, ◌++◌, length, nat_eq, Option, Some}
use Rattle.std.specs.Prelude.{None, option_map, Result, Ok, Err}
use Rattle.std.specs.Option.{option_or}
use Rattle.hm_base.specs.Results.{map_err, unless}
use Rattle.hm_base.specs.declared.Fault.{Fault}
use Rattle.hm_base.specs.declared.Stop.{Stop}
use Rattle.hm_base.specs.declared.Stop.TheVariants as stop
use Rattle.hm_codes.specs.Listing.{Listing}
use Rattle.hm_isa.specs.declared.Instr.{Instr}
use Rattle.hm_isa.specs.declared.Instr.TheVariants as instr
use Rattle.hm_isa.specs.declared.Vector.{Vector}
use Rattle.hm_mem.specs.Memory.{Around}
use Rattle.hm_beat.specs.Ordered.{of_four}
use Rattle.hm_beat.specs.Trees.{action}
use Rattle.hm_order.specs.Beats.{Action, Beats, then}
use Rattle.hm_order.specs.Machine.{Core, Config, End, younger}
use Rattle.hm_run.specs.declared.Cause.{Cause}
use Rattle.hm_run.specs.declared.Cause.TheVariants as cause
use Rattle.hm_run.specs.declared.Reason.TheVariants.{Break, Exit}
use Rattle.hm_window.specs.declared.rule.Rule.{Rule}
use Rattle.hm_window.specs.declared.rule.Rule.TheVariants as rule
use Rattle.hm_run.specs.Stops.{WholeStop, Halt, Full, Faults, at_break, break_of}
use Rattle.hm_rows.specs.Context.{with_context}
use Rattle.hm_rows.specs.Rows.{vector_tree, vector_whole, refuse}
use Rattle.hm_regs.specs.declared.Regs.{Regs}
use Rattle.hm_state.specs.State.{State, Cell, cells, regs_of}
use Rattle.hm_base.specs.Stops.{is_tainted}
use Rattle.hm_window.specs.Overlap.{first_rule}
use Rattle.hm_thumb.specs.Calls.{Asked, Writes, Exits, asked}
use Rattle.hm_thumb.specs.Does as runner
use Rattle.hm_thumb.specs.Does.{Runner}
use Rattle.hm_thumb.specs.Rows.{makes_context}
use Rattle.hm_thumb.specs.Steps.{settled}
use Rattle.hm_thumb.specs.declared.Way.TheVariants as way
use Rattle.hm_whole.specs.Watched.{Watched, In, Beside, Held, dead, view}
use Rattle.hm_whole.specs.Whole.{Went, scalar_by, seen_in, state_with}

-- what may have a fault, as the end of a whole instruction
abbrev pub or_fault : {A : Type 0} → Result A Fault → Result A WholeStop
or_fault = map_err Faults

-- ONE WHOLE INSTRUCTION, in thread mode, alone. A vector row first makes the context where there is none, and may then
-- be refused.
-- a state, unless a fault refuses it
abbrev pub unless_refused : Option Fault → State → Result State WholeStop
unless_refused o s = or_fault (unless o (Ok s))

-- the state with a context, in which a vector row begins, or the fault by which it is refused
abbrev pub ready_state : Vector → State → Result State WholeStop
ready_state v s = unless_refused (refuse v (with_context s)) (with_context s)

-- one whole vector row, alone: with a context, all its beats, where it is not refused
abbrev pub vector_row : Vector → State → Result State WholeStop
vector_row v s = then (ready_state v s) (λ t. or_fault (vector_whole v t))

-- S18: whether BKPT with this number asks something of the host: 171 does, and any other halts the program (DDI0553, "BKPT")
abbrev pub asks : ℕ → Bool
asks k = nat_eq k 171

-- a program writes no more bytes than this
abbrev pub most_output : ℕ
most_output = 0x10000

-- bytes behind the output, and the next instruction behind the breakpoint
abbrev pub printed : List ℕ → State → State
printed xs s = state_with (settled 2 way.On (regs_of s)) (seen_in s) s.rest.around (s.rest.output ++ xs)

-- HOW AN INSTRUCTION IS DONE that is no vector row: who runs it, and how what stops it there and what ends the program are named
pub record Doing (F E : Type 0) : Type 0 where
  pub runner : Runner F
  pub stopped : F → E
  pub ended : WholeStop → E

-- why a whole instruction does not go on, named alone
abbrev pub itself : WholeStop → WholeStop
itself w = w

-- why a whole instruction does not go on, named by the machine
abbrev pub cause_of : WholeStop → Cause
cause_of (Halt reason) = cause.Halt reason
cause_of Full = cause.Full
cause_of (Faults f) = cause.Stop (stop.Fault f)

-- how an instruction is done alone, in thread mode
abbrev pub doing_alone : Doing Fault WholeStop
doing_alone = record { runner = runner.alone; stopped = Faults; ended = itself }

-- how an instruction is done in the machine, under who accesses the memory
abbrev pub doing_in_machine : Around → Doing Stop Cause
doing_in_machine around = record { runner = runner.in_machine around; stopped = cause.Stop; ended = cause_of }

-- what the host does: it writes the bytes behind the output, if there is room, or ends the program
abbrev pub answered : {E : Type 0} → (WholeStop → E) → State → Asked → Result State E
answered ended s (Writes xs) = cond (nat_lt most_output (length s.rest.output + length xs)) (Err (ended Full)) (Ok (printed xs s))
answered ended s (Exits reason) = Err (ended (Halt (Exit reason)))

-- S18: BKPT 171: what the program asks of the host is read and done (DDI0553, "BKPT")
abbrev pub served : {F E : Type 0} → Doing F E → State → Result State E
served d s = then (map_err d.stopped (asked d.runner (regs_of s) (seen_in s))) (answered d.ended s)

-- S18: BKPT with number k: 171 asks something of the host, and any other halts the program (DDI0553, "BKPT")
abbrev pub breakpoint : {F E : Type 0} → Doing F E → ℕ → State → Result State E
breakpoint d k s = cond (asks k) (served d s) (Err (d.ended (Halt (Break k))))

-- Any other instruction is done: the state that it leaves, or why it stops. (Alone, one that would end a handler is as any other: it stands in no thread.)
abbrev pub done_as : {F E : Type 0} → (F → E) → Result Went F → Result State E
done_as f (Ok x) = Ok x.state
done_as f (Err e) = Err (f e)

-- one whole instruction that is no vector row
abbrev pub other_row : {F E : Type 0} → Doing F E → Instr → State → Result State E
other_row d i s = at_break (λ k. breakpoint d k s) (break_of i) (done_as d.stopped (scalar_by d.runner i s))

-- one whole instruction, alone
abbrev pub whole : Instr → State → Result State WholeStop
whole (instr.Scalar i) s = other_row doing_alone (instr.Scalar i) s
whole (instr.Branch i) s = other_row doing_alone (instr.Branch i) s
whole (instr.Vector v) s = vector_row v s

-- what stands at the program counter, done; or the fault where nothing stands there
abbrev pub whole_here : Result Instr Fault → State → Result State WholeStop
whole_here (Ok i) s = whole i s
whole_here (Err f) s = Err (Faults f)

-- the whole instruction that a listing has at the program counter, alone
abbrev pub alone : Listing → State → Result State WholeStop
alone listing s = whole_here (listing s.pc) s

-- what a whole instruction comes to alone, with the cause that the machine names where it does not go on
abbrev pub with_cause : Result State WholeStop → Result State Cause
with_cause = map_err cause_of

-- what stops a part of an instruction, with the cause that the machine names
abbrev pub caused : {A : Type 0} → Result A Stop → Result A Cause
caused = map_err cause.Stop

-- what stands at the program counter, done whole in the machine, or the fault where nothing stands there
abbrev pub other_here : Around → Result Instr Fault → State → Result State Cause
other_here around (Ok (instr.Scalar i)) s = other_row (doing_in_machine around) (instr.Scalar i) s
other_here around (Ok (instr.Branch i)) s = other_row (doing_in_machine around) (instr.Branch i) s
other_here around (Ok (instr.Vector v)) s = with_cause (vector_row v s)
other_here around (Err f) s = Err (cause.Stop (stop.Fault f))

-- whether a stop is for the read of a byte that an entry or a handler wrote, or for a store that a handler may not do
abbrev pub is_tainted_cause : Cause → Bool
is_tainted_cause (cause.Halt reason) = false
is_tainted_cause cause.Full = false
is_tainted_cause (cause.Stop e) = is_tainted e

-- THE BEATS OF VECTOR ROWS, as the machine sees them: they touch cells alone
-- whether a watched cell is of a set of cells; what stands in no cell is not
abbrev pub on_cell : (Cell → Bool) → Watched → Bool
on_cell p (In c) = p c
on_cell p Beside = false

-- what a beat does to cells, as what it does to all that is watched
abbrev pub lifted : Action State Cell Stop → Action State Watched Cause
lifted x = record { run = λ s. caused (x.run s); uses = λ s w. on_cell (x.uses s) w; sets = λ s w. on_cell (x.sets s) w; marks = x.marks }

-- a row may run where there is a context and it is not refused
abbrev pub is_ready : Vector → State → Bool
is_ready v s = s.rest.fpca && is_none (refuse v s)

-- the rows, where it is known who accesses the memory
abbrev pub rows : Around → Beats State Vector Watched Held Cause
rows around = record { view = view; act = λ v k. lifted (action cells (of_four (vector_tree v around) k)); ready = is_ready; tainted = is_tainted_cause }

-- the vector row that an instruction is, if it is one
abbrev pub vector_in : Instr → Option Vector
vector_in (instr.Scalar i) = None
vector_in (instr.Branch i) = None
vector_in (instr.Vector i) = Some i

-- the vector row at an address
abbrev pub vector_of : Result Instr Fault → Option Vector
vector_of (Ok i) = vector_in i
vector_of (Err f) = None

-- THE RULES OF OVERLAP
-- the younger may not be refused (and there is a context, since the older has made it)
abbrev pub refusal_rule : Option Vector → State → Option Rule
refusal_rule (Some w) s = cond (is_ready w s) None (Some rule.YoungerFault)
refusal_rule None s = None

-- The first rule that a younger step breaks: those of its next beat, and then that the younger is not refused. That its beat has
-- no fault is the last rule, and `fault_rule` has it.
abbrev pub step_rule : Around → Option Vector → Option Vector → Config State → Option Rule
step_rule x v w c = option_or (first_rule (option_map (λ i. vector_tree i x) v) (option_map (λ i. vector_tree i x) w) c.a c.b c.state) (refusal_rule w c.state)

-- a younger beat does not fault
abbrev pub fault_rule : Cause → Option Rule
fault_rule e = cond (is_tainted_cause e) None (Some rule.YoungerFault)

-- what a vector row makes before all else, and whether it is refused then
abbrev pub begins : Vector → State → Result State Cause
begins v s = with_cause (ready_state v s)

-- whether an instruction makes a context, before anything of it may stop
abbrev pub makes_here : Result Instr Fault → Regs → Bool
makes_here (Ok (instr.Scalar i)) r = makes_context (instr.Scalar i) r
makes_here (Ok (instr.Branch i)) r = makes_context (instr.Branch i) r
makes_here (Ok (instr.Vector v)) r = true
makes_here (Err f) r = false

-- the state, with a context where the instruction makes one before anything of it may stop
abbrev pub made_here : Result Instr Fault → State → State
made_here x s = cond (makes_here x (regs_of s)) (with_context s) s

-- the machine of a program, as the abstract machine that overlaps beats
abbrev pub Program : Type 0
Program = Core State Vector Watched Held Cause WholeStop Rule

-- the machine of the program that a listing has, under who accesses the memory
abbrev pub core : Listing → Around → Program
core listing around = record {
  rows = rows around;
  code = λ a. vector_of (listing a);
  start = begins;
  made = λ s. made_here (listing s.pc) s;
  whole = vector_row;
  other = λ s. other_here around (listing s.pc) s;
  alone = alone listing;
  stop_of = cause_of;
  jump = λ p s. record s { pc = p };
  rule = step_rule around;
  fault_rule = fault_rule;
  marked = dead;
}

-- STEPS
-- what a step comes to: where the machine stands, or why it does not go on
abbrev pub Stepped : Type 0
Stepped = Result (Config State) (End State Cause Rule)

-- how many steps the older instruction has left: its beats that are left, or one where it has no beats
abbrev pub steps_left : Option Vector → ℕ → ℕ
steps_left (Some v) a = 4 - a
steps_left None a = 1

-- why an instruction stops, and whether it is the younger of two
pub record Stopping : Type 0 where
  pub cause : Cause
  pub younger : Bool
