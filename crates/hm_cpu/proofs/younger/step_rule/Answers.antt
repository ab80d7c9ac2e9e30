use Rattle.std.proofs.Common.{arith, ap, ◌∙◌}
use Rattle.hm_isa.specs.declared.Vector.{Vector}
use Rattle.hm_rows.specs.Rows.{refuse}
use Rattle.hm_state.specs.State.{state_of}
use Rattle.hm_exec.specs.Families.{row_of}
use Rattle.hm_cpu.proofs.Youngers.{rule_first, rule_none, rule_refused}
use Rattle.hm_cpu.proofs.younger.step_rule.Goals as goal

pub returns-in-Some-clause-value : goal.returns-in-Some-clause-value
returns-in-Some-clause-value c m output n steps =
    rule_first (row_of c.args.v.now) (row_of c.args.w.now) c.args.at.a c.args.at.b n steps c.args.regs.now m output c.overlap_rule.result
    (c.overlap_rule.ensures.value m output)
    c.in-Some.rule c.in-Some.is

pub returns-in-Some-refuse-clause-value : goal.returns-in-Some-refuse-clause-value
returns-in-Some-refuse-clause-value c m output n steps =
    let late = c.overlap_rule.ensures.in_time c.in_default.is in
    rule_refused (row_of c.args.v.now) (row_of c.args.w.now) c.args.at.a c.args.at.b n steps c.args.regs.now m output c.overlap_rule.result
    (c.overlap_rule.ensures.value m output)
    c.refuse.result _ (c.requires.context (omega (arith, late.0))) c.in_default.is
    (c.refuse.ensures.value m output ∙ ap (λ (v : Vector). refuse v (state_of c.args.regs.now m output)) c.row.ensures.value) c.in-Some-refuse.is

pub returns-in-None-clause-value : goal.returns-in-None-clause-value
returns-in-None-clause-value c m output n steps =
    let late = c.overlap_rule.ensures.in_time c.in_default.is in
    rule_none (row_of c.args.v.now) (row_of c.args.w.now) c.args.at.a c.args.at.b n steps c.args.regs.now m output c.overlap_rule.result
    (c.overlap_rule.ensures.value m output)
    c.refuse.result (c.requires.context (omega (arith, late.0))) c.in_default.is
    (c.refuse.ensures.value m output ∙ ap (λ (v : Vector). refuse v (state_of c.args.regs.now m output)) c.row.ensures.value) c.in-None.is
