use Rattle.std.proofs.Common.{◌≡◌}
use Rattle.hm_forms_elements.specs.Forms.{offset_after}
use Rattle.hm_forms_elements.proofs.offsets.offset_after.Given as goal

abbrev pub invariant-loop-step : goal.invariant-loop-step
invariant-loop-step l = l.offset ≡ offset_after l.row l.m l._step l.o
