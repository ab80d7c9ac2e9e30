use Rattle.hm_debug.proofs.ScriptLaws.{not_both, one_refusal, one_script, read_or_refused}
use Rattle.hm_debug.proofs.laws.script_law.Goals as goal

pub returns-clause-some : goal.returns-clause-some
returns-clause-some c = read_or_refused

pub returns-clause-one : goal.returns-clause-one
returns-clause-one c = one_script

pub returns-clause-one_refusal : goal.returns-clause-one_refusal
returns-clause-one_refusal c = one_refusal

pub returns-clause-not_both : goal.returns-clause-not_both
returns-clause-not_both c = not_both
