use Rattle.std.proofs.Common.{ap, sym, ◌∙◌}
use Rattle.std.specs.Prelude.{option_map}
use Rattle.hm_exec.specs.Families.{row_of}
use Rattle.hm_mem.specs.Memory.{memory_of}
use Rattle.hm_cpu.proofs.Youngers.{younger_absent, younger_alone, younger_beats, younger_breaks}
use Rattle.hm_cpu.proofs.younger.younger.Goals as goal

pub returns-in_default-clause-value : goal.returns-in_default-clause-value
returns-in_default-clause-value c listing is =
    younger_alone listing c.args.x.now (ap (option_map row_of) (sym c.in_default.is) ∙ c.vector_at.ensures.row listing is)

pub returns-in_default-vector_at-clause-value : goal.returns-in_default-vector_at-clause-value
returns-in_default-vector_at-clause-value c listing is =
    younger_absent listing c.args.x.now (row_of c.in-Some.v) (ap (option_map row_of) (sym c.in-Some.is) ∙ c.vector_at.ensures.row listing is)
    (ap (option_map row_of) (sym c.in_default-vector_at.is) ∙ c.vector_at-2.ensures.row listing is)

pub returns-in-Some-step_rule-clause-value : goal.returns-in-Some-step_rule-clause-value
returns-in-Some-step_rule-clause-value c listing is =
    let x = c.args.x.now in
    younger_breaks listing x (row_of c.in-Some.v) (row_of c.in-Some-vector_at.w) c.in-Some-step_rule.rule
    (ap (option_map row_of) (sym c.in-Some.is) ∙ c.vector_at.ensures.row listing is)
    (ap (option_map row_of) (sym c.in-Some-vector_at.is) ∙ c.vector_at-2.ensures.row listing is)
    (sym c.in-Some-step_rule.is ∙ c.step_rule.ensures.value (memory_of x.mem) x.output.items x.retired x.older_steps)

pub returns-in-None-clause-value : goal.returns-in-None-clause-value
returns-in-None-clause-value c listing is =
    let x = c.args.x.now in
    younger_beats listing x (row_of c.in-Some.v) (row_of c.in-Some-vector_at.w) _
    (ap (option_map row_of) (sym c.in-Some.is) ∙ c.vector_at.ensures.row listing is)
    (ap (option_map row_of) (sym c.in-Some-vector_at.is) ∙ c.vector_at-2.ensures.row listing is)
    (sym c.in-None.is ∙ c.step_rule.ensures.value (memory_of x.mem) x.output.items x.retired x.older_steps)
    (c.younger_beat.ensures.value listing)
