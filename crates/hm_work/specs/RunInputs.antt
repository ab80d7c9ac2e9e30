-- An image and a schedule as they were read, or why they are refused.
use Rattle.std.specs.Prelude.{◌≡◌, List, Some, Result, Ok, Err}
use Rattle.hm_base.specs.Image.{Segment}
use Rattle.hm_base.specs.declared.errors.ImageErr.{ImageErr}
use Rattle.hm_sched.specs.Schedule.{Sched}
use Rattle.hm_sched.specs.declared.errors.SchedErr.{SchedErr}
use Rattle.hm_work.specs.Commands.{run_refusal}
use Rattle.hm_work.specs.declared.tapes.RunInput.{RunInput}
use Rattle.hm_work.specs.declared.work.Stop.{Stop}
use Rattle.hm_work.specs.declared.work.Stop.TheVariants.{Refused, NoMemory}

-- both were read, or this is why they are refused; want of memory says nothing
abbrev pub GivesRun : Result (List Segment) ImageErr → Result Sched SchedErr → Result RunInput Stop → Type 0
GivesRun image schedule (Ok input) = (image ≡ Ok input.image) × (schedule ≡ Ok input.schedule)
GivesRun image schedule (Err (Refused why)) = run_refusal image schedule ≡ Some why
GivesRun image schedule (Err NoMemory) = Unit {0}
