use Rattle.std.proofs.Common.{◌≡◌, ℕ, List, subst}
use Rattle.std.specs.Prelude.{IfErr, IfOk}
use Rattle.std.specs.FinMap.{get}
use Rattle.hm_source.specs.declared.statements.Statement.{Statement}
use Rattle.hm_source.specs.Shown.{ShowsSaid}
use Rattle.hm_asm.specs.Making.{after_line, place_of}
use Rattle.hm_asm.specs.Refusals.{IsSaidErr}
use Rattle.hm_asm.specs.SecondPass.{AreBytes}
use Rattle.hm_asm.proofs.Steps.{of_directive, of_instruction, room_here}
use Rattle.hm_asm.proofs.second.add_statement.Goals as goal

pub returns-in-Directive-clause-given : goal.returns-in-Directive-clause-given
returns-in-Directive-clause-given c =
    λ said says.
    of_directive c.args.line.now.parts.instruction.now c.in-Directive.asked said c.requires.ready.1
    (λ s. IfOk c.add_asked.result
    (λ _. (bs : List ℕ) × AreBytes (get c.args.labels.now) (place_of c.args.out.now) c.args.line.now.parts.instruction.now s bs
    × (c.add_asked.new.out ≡ after_line c.args.out.now s bs))) says
    c.requires.ready.2 (subst (λ (s : Statement). ShowsSaid c.args.line.now.parts.instruction.now s c.requires.ready.1) c.in-Directive.is c.requires.ready.3)
    (λ a shows. c.add_asked.ensures.given a shows)

pub returns-in-Directive-clause-refused : goal.returns-in-Directive-clause-refused
returns-in-Directive-clause-refused c =
    λ said says.
    of_directive c.args.line.now.parts.instruction.now c.in-Directive.asked said c.requires.ready.1
    (λ s. IfErr c.add_asked.result
    (λ e. IsSaidErr (get c.args.labels.now) (place_of c.args.out.now) c.args.line.now.parts.instruction.now c.args.line.now.parts.column c.args.number s e))
    says
    c.requires.ready.2 (subst (λ (s : Statement). ShowsSaid c.args.line.now.parts.instruction.now s c.requires.ready.1) c.in-Directive.is c.requires.ready.3)
    (λ a shows. c.add_asked.ensures.refused a shows)

pub add_instruction-requires-clause-room : goal.add_instruction-requires-clause-room
add_instruction-requires-clause-room c =
    λ n width.
    room_here c.args.line.now.parts.instruction.now (place_of c.args.out.now) c.in-Instruction._width n c.requires.ready.1 c.requires.ready.2
    (subst (λ (s : Statement). ShowsSaid c.args.line.now.parts.instruction.now s c.requires.ready.1) c.in-Instruction.is c.requires.ready.3) c.requires.ready.4
    width

pub returns-in-Instruction-clause-given : goal.returns-in-Instruction-clause-given
returns-in-Instruction-clause-given c =
    λ said says.
    of_instruction c.args.line.now.parts.instruction.now c.in-Instruction._width said c.requires.ready.1
    (λ s. IfOk c.add_instruction.result
    (λ _. (bs : List ℕ) × AreBytes (get c.args.labels.now) (place_of c.args.out.now) c.args.line.now.parts.instruction.now s bs
    × (c.add_instruction.new.out ≡ after_line c.args.out.now s bs))) says
    c.requires.ready.2 (subst (λ (s : Statement). ShowsSaid c.args.line.now.parts.instruction.now s c.requires.ready.1) c.in-Instruction.is c.requires.ready.3)
    (c.add_instruction.ensures.given c.in-Instruction._width)

pub returns-in-Instruction-clause-refused : goal.returns-in-Instruction-clause-refused
returns-in-Instruction-clause-refused c =
    λ said says.
    of_instruction c.args.line.now.parts.instruction.now c.in-Instruction._width said c.requires.ready.1
    (λ s. IfErr c.add_instruction.result
    (λ e. IsSaidErr (get c.args.labels.now) (place_of c.args.out.now) c.args.line.now.parts.instruction.now c.args.line.now.parts.column c.args.number s e))
    says
    c.requires.ready.2 (subst (λ (s : Statement). ShowsSaid c.args.line.now.parts.instruction.now s c.requires.ready.1) c.in-Instruction.is c.requires.ready.3)
    (c.add_instruction.ensures.refused c.in-Instruction._width)
