use Rattle.std.proofs.Common.{sym, ◌∙◌}
use Rattle.hm_encv_memory.proofs.Refused.{refused_v26}
use Rattle.hm_encv_memory.proofs.decode_v26.Goals as goal

pub returns-then-not-may_be_access-clause-none : goal.returns-then-not-may_be_access-clause-none
returns-then-not-may_be_access-clause-none c =
    refused_v26 c.args.w c.bit-u.result.value c.bit-l.result.value c.q_register-d.result.value c.in_ok-z.z.value c.in_ok-y.y.value
    c.q_register-m.result.value c.bit-u.ensures.value c.bit-l.ensures.value c.q_register-d.ensures.value c.in_ok-z.ensures.value
    c.in_ok-y.ensures.value c.q_register-m.ensures.value (sym c.may_be_access.ensures.value ∙ c.if-not-may_be_access.true)
