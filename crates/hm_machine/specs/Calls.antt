-- What calls answer.
use Rattle.std.specs.Prelude.{◌≡◌, ◌%◌, List, Option, Some, None}
use Rattle.hm_base.specs.Image.{Segment}
use Rattle.hm_machine.specs.declared.load.LoadErr.{LoadErr}
use Rattle.hm_machine.specs.declared.load.LoadErr.TheVariants as err
use Rattle.hm_run.specs.declared.Outcome.{Outcome}
use Rattle.hm_run.specs.declared.Turn.{Turn}
use Rattle.hm_run.specs.declared.Turn.TheVariants.{Running, Ended}
use Rattle.hm_state.specs.Start.{reset_pc}

-- what a tick answers
abbrev pub tick_answer : Option Outcome → Turn
tick_answer None = Running
tick_answer (Some o) = Ended o

-- why there is no machine for an image: the word at 4 is even
abbrev pub LoadRefuses : List Segment → LoadErr → Type 0
LoadRefuses image (err.Reset value) = (value ≡ reset_pc image) × (value % 2 ≡ 0)
LoadRefuses image err.OutOfMemory = Unit {0}
