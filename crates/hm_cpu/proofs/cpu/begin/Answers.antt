use Rattle.std.proofs.Common.{◌≡◌, arith, ap, sym, ◌∙◌}
use Rattle.hm_exec.specs.Families.{row_of}
use Rattle.hm_isa.specs.declared.Vector.{Vector}
use Rattle.hm_cpu.proofs.Steps.{context_made, begins_first}
use Rattle.hm_rows.specs.Rows.{refuse}
use Rattle.hm_state.specs.State.{state_of}
use Rattle.hm_cpu.proofs.cpu.begin.Goals as goal

pub returns-in-Some-clause-value : goal.returns-in-Some-clause-value
returns-in-Some-clause-value c listing m output =
    let first : c.args.done ≡ 0 = omega (arith, c.if-done-gt0.false) in
    begins_first listing m.around (row_of c.args.v.now) c.args.done _ _ _ first (context_made c.args.regs.now _ m output c.context.ensures)
    (ap (λ (v : Vector). refuse v (state_of c.context.new.r m output)) (sym c.row.ensures.value) ∙ sym (c.refuse.ensures.value m output) ∙ c.in-Some.is)

pub returns-in-Some-clause-refused : goal.returns-in-Some-clause-refused
returns-in-Some-clause-refused c m output =
    let first : c.args.done ≡ 0 = omega (arith, c.if-done-gt0.false) in
    (first, context_made c.args.regs.now _ m output c.context.ensures)

pub returns-clause-value : goal.returns-clause-value
returns-clause-value c listing m output =
    let first : c.args.done ≡ 0 = omega (arith, c.if-done-gt0.false) in
    begins_first listing m.around (row_of c.args.v.now) c.args.done _ _ _ first (context_made c.args.regs.now _ m output c.context.ensures)
    (ap (λ (v : Vector). refuse v (state_of c.context.new.r m output)) (sym c.row.ensures.value) ∙ sym (c.refuse.ensures.value m output) ∙ c.in_default.is)

pub returns-in-Some-clause-made : goal.returns-in-Some-clause-made
returns-in-Some-clause-made c m output first = context_made c.args.regs.now _ m output c.context.ensures

pub returns-clause-made : goal.returns-clause-made
returns-clause-made c m output first = context_made c.args.regs.now _ m output c.context.ensures
