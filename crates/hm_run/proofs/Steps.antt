-- One step of a run.
use Rattle.std.proofs.Common.{◌≡◌, suc, ap, refl, true, false, not, IsTrue, Option, Some, None}
use Rattle.std.proofs.Common.{Result, Ok}
use Rattle.hm_codes.specs.Listing.{Listing}
use Rattle.hm_base.specs.declared.Fault.{Fault}
use Rattle.hm_isa.specs.declared.Instr.{Instr}
use Rattle.hm_isa.specs.declared.Instr.TheVariants as instr
use Rattle.hm_isa.specs.declared.Scalar.{Scalar}
use Rattle.hm_isa.specs.declared.Scalar.TheVariants as scalar
use Rattle.hm_isa.specs.declared.Vector.{Vector}
use Rattle.hm_mem.specs.Memory.{Around}
use Rattle.hm_order.specs.Beats.{then}
use Rattle.hm_order.specs.Machine.{Config, begin, done, older, older_of, settle}
use Rattle.hm_run.specs.Program.{doing_in_machine, core, makes_here, other_here, other_row, rows, vector_of}
use Rattle.hm_run.specs.Stops.{break_of, scalar_break}
use Rattle.hm_regs.specs.declared.Regs.{Regs}
use Rattle.hm_state.specs.State.{State}
use Rattle.hm_thumb.specs.Families.{is_vector_row}
use Rattle.hm_thumb.specs.Rows.{makes_context}

-- STEPS
-- the position after the whole of an instruction that leaves this state
abbrev pub past : Config State → State → Config State
past c t = record { a = 0; b = 0; n = suc c.n; steps = suc c.steps; state = t }

-- a step of an instruction that is no vector row
pub older_other : (listing : Listing) (around : Around) (c : Config State) → vector_of (listing c.state.pc) ≡ None
    → older (core listing around) c ≡ done (core listing around) c (other_here around (listing c.state.pc) c.state) (past c)
older_other listing around c other = ap (λ (o : Option Vector). older_of (core listing around) o c) other

-- the next beat of one that is
pub older_vector : (listing : Listing) (around : Around) (c : Config State) (v : Vector) → vector_of (listing c.state.pc) ≡ Some v
    → older (core listing around) c
    ≡ done (core listing around) c (then (begin (core listing around) v c.a c.state) ((rows around).act v c.a).run)
    (settle (core listing around) (suc c.a) c.b c.n (suc c.steps))
older_vector listing around c v row = ap (λ (o : Option Vector). older_of (core listing around) o c) row

-- INSTRUCTIONS THAT ARE NO VECTOR ROWS
pub other_is : (around : Around) (i : Instr) (s : State) → IsTrue (not (is_vector_row i)) → other_here around (Ok i) s ≡ other_row (doing_in_machine around) i s
other_is around (instr.Scalar i) s other = refl
other_is around (instr.Branch i) s other = refl
other_is around (instr.Vector v) s other = absurd cc

pub no_row : (i : Instr) → IsTrue (not (is_vector_row i)) → vector_of (Ok i) ≡ None
no_row (instr.Scalar i) other = refl
no_row (instr.Branch i) other = refl
no_row (instr.Vector v) other = absurd cc

pub makes_other : (i : Instr) (r : Regs) → IsTrue (not (is_vector_row i)) → makes_here (Ok i) r ≡ makes_context i r
makes_other (instr.Scalar i) r other = refl
makes_other (instr.Branch i) r other = refl
makes_other (instr.Vector v) r other = absurd cc

pub makes_row : (x : Result Instr Fault) (v : Vector) (r : Regs) → vector_of x ≡ Some v → makes_here x r ≡ true
makes_row (Ok (instr.Vector w)) v r e = refl
makes_row x v r e = absurd cc

-- a breakpoint makes no context
scalar_makes : (i : Scalar) (r : Regs) → (scalar_break i ≡ None → ⊥) → makes_context (instr.Scalar i) r ≡ false
scalar_makes (scalar.S18 i) r h = refl
scalar_makes i r h = absurd (h refl)

pub break_makes : (i : Instr) (r : Regs) → (break_of i ≡ None → ⊥) → makes_context i r ≡ false
break_makes (instr.Scalar i) r h = scalar_makes i r h
break_makes (instr.Branch i) r h = absurd (h refl)
break_makes (instr.Vector v) r h = absurd (h refl)
