use Rattle.std.proofs.Common.{arith, ap, ◌∙◌, Err}
use Rattle.hm_exec.specs.Families.{row_of}
use Rattle.hm_cpu.proofs.Steps.{beat_stays, row_done, row_refused, row_stops}
use Rattle.hm_mem.specs.Memory.{memory_of}
use Rattle.hm_order.specs.Machine as order
use Rattle.hm_regs.specs.declared.Regs.{Regs}
use Rattle.hm_state.specs.State.{state_of}
use Rattle.hm_cpu.proofs.cpu.vector_step.Goals as goal

pub returns-in-Err-clause-value : goal.returns-in-Err-clause-value
returns-in-Err-clause-value c listing row =
    let x = c.args.x.now in
    let refused = c.in-Err.ensures.refused (memory_of x.mem) x.output.items in
    row_refused listing x (row_of c.args.v.now) _ c.in-Err.cause row refused.0 refused.1
    (c.in-Err.ensures.value listing (memory_of x.mem) x.output.items)

pub returns-in-Err-beat-clause-value : goal.returns-in-Err-beat-clause-value
returns-in-Err-beat-clause-value c listing row =
    let x = c.args.x.now in
    let m = memory_of x.mem in
    let still = c.in-Err-beat.ensures.stopped in
    (λ j. Err (order.Stopped (record
    { a = x.window.a; b = x.window.b; n = x.retired; steps = x.older_steps; state = state_of (still.0 j) (still.1 j) x.output.items }) c.in-Err-beat.cause))
    ∙ row_stops listing x (row_of c.args.v.now) _ c.in-Err-beat.cause row (c.in_default.ensures.made m x.output.items)
    (λ some. ap (λ (r : Regs). state_of r m x.output.items) (c.in_default.ensures.later some))
    (c.in_default.ensures.value listing m x.output.items) (c.in-Err-beat.ensures.value x.output.items)

pub end_beat-requires-clause-pc : goal.end_beat-requires-clause-pc
end_beat-requires-clause-pc c =
    let x = c.args.x.now in
    let stays = beat_stays (row_of c.args.v.now) x.window.a c.begin.new.regs c.beat.new.regs (memory_of x.mem) (memory_of c.beat.new.mem) x.output.items
    (c.in_default-beat.ensures.value x.output.items) in
    omega (arith, stays, c.in_default.ensures.pc, c.requires.pc)

pub returns-clause-value : goal.returns-clause-value
returns-clause-value c listing row =
    let x = c.args.x.now in
    row_done listing x (row_of c.args.v.now) _ _ _ row (c.in_default.ensures.value listing (memory_of x.mem) x.output.items)
    (c.in_default-beat.ensures.value x.output.items) (c.end_beat.ensures.value listing (memory_of x.mem).around)

pub returns-clause-stays : goal.returns-clause-stays
returns-clause-stays c more =
    let x = c.args.x.now in
    let stays = beat_stays (row_of c.args.v.now) x.window.a c.begin.new.regs c.beat.new.regs (memory_of x.mem) (memory_of c.beat.new.mem) x.output.items
    (c.in_default-beat.ensures.value x.output.items) in
    let settled = c.end_beat.ensures.stays more in
    (settled.0 ∙ stays ∙ c.in_default.ensures.pc, settled.1)
