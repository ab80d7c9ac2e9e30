use Rattle.std.proofs.Common.{◌≡◌, ◌+◌, ap, sym, ◌∙◌, Result, Ok, Err}
use Rattle.std.proofs.lemmas.Result.{err_from_is_err_and}
use Rattle.hm_cpu.proofs.Steps.{break_stops, by_break, by_none, other_done, other_stops}
use Rattle.hm_cpu.specs.Cpus.{config_of, reached, state_in}
use Rattle.hm_cpu.specs.declared.cpu.Cpu.{Cpu}
use Rattle.hm_mem.specs.Memory.{memory_of}
use Rattle.hm_order.specs.Machine as order
use Rattle.hm_run.specs.declared.Cause.{Cause}
use Rattle.hm_cpu.proofs.cpu.other_step.Goals as goal

pub returns-in_err-breakpoint-clause-value : goal.returns-in_err-breakpoint-clause-value
returns-in_err-breakpoint-clause-value c listing here =
    let x = c.args.x.now in
    let answered = err_from_is_err_and c.from_residual.result c.from_residual.ensures.1 in
    let cause = c.in_err-breakpoint.field-0.0 in
    let same : c.from_residual.result ≡ Err cause = answered.1 ∙ ap Err answered.2 in
    let did = c.in_err-breakpoint.ensures in
    ap (λ (q : Result Unit Cause). reached q c.breakpoint.new.x) same
    ∙ ap (λ (y : Cpu). Err (order.Stopped (config_of y) cause)) did.stays
    ∙ break_stops listing x c.args.i.now here c.requires.row c.in-Some.k cause (sym c.in-Some.is ∙ c.break_of.ensures.value) did.value

pub returns-in-Some-clause-value : goal.returns-in-Some-clause-value
returns-in-Some-clause-value c listing here =
    let x = c.args.x.now in
    let did = c.in_ok-breakpoint.ensures in
    let kept = did.kept in
    let y = c.breakpoint.new.x in
    ap (λ (z : Cpu). Ok (config_of z)) c.retire.ensures.new
    ∙ (λ j. Ok (record { a = 0; b = 0; n = kept.retired j + 1; steps = kept.steps j + 1; state = state_in y }))
    ∙ other_done listing x c.args.i.now here c.requires.row (state_in y)
    (by_break listing x c.args.i.now here c.requires.row c.in-Some.k (sym c.in-Some.is ∙ c.break_of.ensures.value) ∙ sym did.value)

pub returns-in-Err-clause-value : goal.returns-in-Err-clause-value
returns-in-Err-clause-value c listing here =
    let x = c.args.x.now in
    let did = c.in-Err.ensures in
    other_stops listing x c.args.i.now here c.requires.row c.in-Err.cause c.execute_in_thread.new.regs (memory_of c.execute_in_thread.new.mem) did.range
    did.counted c.requires.position.2 (sym c.in_default.is ∙ c.break_of.ensures.value) (did.value x.output.items) did.stopped.0 did.stopped.1

pub returns-clause-value : goal.returns-clause-value
returns-clause-value c listing here =
    let x = c.args.x.now in
    ap (λ (z : Cpu). Ok (config_of z)) c.retire-2.ensures.new
    ∙ other_done listing x c.args.i.now here c.requires.row _
    (by_none listing x c.args.i.now here c.requires.row (sym c.in_default.is ∙ c.break_of.ensures.value)
    ∙ sym (c.in_default-execute_in_thread.ensures.value x.output.items))
