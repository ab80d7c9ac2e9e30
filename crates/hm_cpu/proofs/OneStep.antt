-- One step is a run of one step.
use Rattle.std.proofs.Common.{◌≡◌, arith}
use Rattle.hm_codes.specs.Listing.{Listing}
use Rattle.hm_run_laws.specs.Nested.{Nested, NestedStep, step, steps}
use Rattle.hm_order.specs.Beats.{then}
use Rattle.hm_order.specs.InFlight.{Older}
use Rattle.hm_sched.specs.Schedule.{Sched}

module _ (listing : Listing) (s : Sched) where
  only_step : (r : NestedStep) → r ≡ then r (steps listing s 0)
  only_step r = grind arith

  pub one_step : (x : Nested) → step listing s Older x ≡ steps listing s 1 x
  one_step x = only_step (step listing s Older x)
