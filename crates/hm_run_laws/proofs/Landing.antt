-- Where a vector instruction stands after a beat: behind its end, or one beat on.
use Rattle.std.proofs.Common.{suc, ◌+◌, Bool, cond}
use Rattle.hm_order.specs.Machine.{Config}
use Rattle.hm_run.specs.Program.{Program}
use Rattle.hm_state.specs.State.{State}

abbrev pub landed : Program → Bool → Config State → State → Config State
landed machine over c t =
    cond over (record { a = c.b; b = 0; n = suc c.n; steps = suc c.steps; state = machine.jump (machine.rows.view.pc t + 4) t })
    (record { a = suc c.a; b = c.b; n = c.n; steps = suc c.steps; state = t })
