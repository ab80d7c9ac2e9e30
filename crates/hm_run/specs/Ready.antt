-- WHERE TWO BEATS OF THE OLDER are done, and its third and the first of the younger can be done in one tick.
use Rattle.std.specs.Prelude.{◌==◌, ◌&&◌, Bool, true, false, Ok, Err}
use Rattle.hm_order.specs.Beats.{then}
use Rattle.hm_order.specs.Machine.{Config, older, younger}
use Rattle.hm_run.specs.Program.{Program, Stepped}
use Rattle.hm_state.specs.State.{State}

-- whether a step goes on
abbrev pub goes_on : Stepped → Bool
goes_on (Ok c) = true
goes_on (Err e) = false

-- READY: two beats of the older are done and none of the younger; the next of the older goes on, and behind it the first of the younger goes
-- on too: it breaks no rule and does not stop.
abbrev pub is_ready : Program → Config State → Bool
is_ready M c = (c.a == 2) && ((c.b == 0) && goes_on (then (older M c) (younger M)))
