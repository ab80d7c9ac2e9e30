-- Which of the two instructions in flight takes a step.
use Rattle.std.specs.Prelude.{Result}
use Rattle.hm_order.specs.Machine.{Core, Config, End, older, younger}

-- which instruction takes the next step: the older or the younger
pub data InFlight : Type 0 where
  Older : InFlight
  Younger : InFlight

-- a step of the machine
abbrev pub step_in_flight : {S I C V E W B : Type 0} → Core S I C V E W B → InFlight → Config S → Result (Config S) (End S E B)
step_in_flight M Older c = older M c
step_in_flight M Younger c = younger M c
