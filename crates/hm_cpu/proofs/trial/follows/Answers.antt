use Rattle.std.proofs.Common.{ap, sym, ◌∙◌}
use Rattle.std.specs.Prelude.{option_map}
use Rattle.hm_exec.specs.Families.{row_of}
use Rattle.hm_cpu.proofs.Trials.{follows_broken, follows_checked, follows_none}
use Rattle.hm_mem.specs.Memory.{memory_of}
use Rattle.hm_cpu.proofs.trial.follows.Goals as goal

pub returns-in_default : goal.returns-in_default
returns-in_default c = record {
  value = λ listing output n steps is row.
      follows_none listing (row_of c.args.v.now) c.args.regs.now (memory_of c.args.mem.now) output n steps row
      (ap (option_map row_of) (sym c.in_default.is) ∙ c.vector_anew.ensures.row listing is);
}

pub returns-in-Some-step_rule : goal.returns-in-Some-step_rule
returns-in-Some-step_rule c = record {
  value = λ listing output n steps is row.
      let m = memory_of c.args.mem.now in
      follows_broken listing (row_of c.args.v.now) c.args.regs.now m output n steps (row_of c.in-Some.w) _ row
      (ap (option_map row_of) (sym c.in-Some.is) ∙ c.vector_anew.ensures.row listing is)
      (sym c.in-Some-step_rule.is ∙ c.step_rule.ensures.value m output n steps);
}

pub returns-in-None : goal.returns-in-None
returns-in-None c = record {
  value = λ listing output n steps is row.
      let m = memory_of c.args.mem.now in
      c.is_ok.ensures.value
      ∙ follows_checked listing (row_of c.args.v.now) c.args.regs.now m output n steps (row_of c.in-Some.w) c.check.result row
      (ap (option_map row_of) (sym c.in-Some.is) ∙ c.vector_anew.ensures.row listing is)
      (sym c.in-None.is ∙ c.step_rule.ensures.value m output n steps)
      (c.check.ensures output);
}
