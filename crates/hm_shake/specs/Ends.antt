-- HOW RUNS END.
use Rattle.std.specs.Prelude.{◌≡◌, ◌≢◌, ◌<◌, ℕ, List, Option, Some, None, map, true}
use Rattle.hm_base.specs.Image.{Segment}
use Rattle.hm_codes.specs.Listing.{Listing}
use Rattle.hm_run_laws.specs.Runs.{run_out}
use Rattle.hm_run.specs.declared.Outcome.{Outcome}
use Rattle.hm_sched.specs.Schedule.{Sched, most_ticks, plain, total}
use Rattle.hm_shake.specs.Kinds.{is_halt}
use Rattle.hm_shake_runs.specs.Heads.{bare}
use Rattle.hm_shake_runs.specs.Kinds.{kind_of}
use Rattle.hm_shake_runs.specs.Shaken.{shaken_schedule}
use Rattle.hm_shake_runs.specs.Stretches.{interrupts_in, stretch_line, with_stretches, without}
use Rattle.hm_shake_runs.specs.declared.head.Head.{Head}
use Rattle.hm_shake_runs.specs.declared.kinds.Ended.{Ended}
use Rattle.hm_shake_runs.specs.declared.kinds.Kind.{Kind}
use Rattle.hm_shake_runs.specs.declared.kinds.Kind.TheVariants as kind
use Rattle.hm_shake_runs.specs.declared.plan.Plan.{Plan}
use Rattle.hm_shake_runs.specs.declared.stretches.Stretch.{Stretch}

-- the kind of the outcome of a run to its end
abbrev pub kind_or : Option Outcome → Kind
kind_or None = kind.Ticks
kind_or (Some o) = kind_of o

-- HOW A RUN ENDS under all ticks of a schedule: the kind of its outcome, and the ticks that it began
unfoldable pub ended_under : Listing → List Segment → Sched → Ended
ended_under listing image s = let x = run_out listing image s in record { kind = kind_or x.outcome; ticks = x.ticks }

-- a schedule gives a kind of outcome
abbrev pub EndsAs : Listing → List Segment → Kind → Sched → Type 0
EndsAs listing image k s = (ended_under listing image s).kind ≡ k

-- an image ends otherwise under a schedule
abbrev pub EndsOtherwise : Listing → List Segment → Kind → Sched → Type 0
EndsOtherwise listing image k s = (ended_under listing image s).kind ≢ k

-- A RUN UNDER STRETCHES ends in their last tick
abbrev pub EndsInLast : Listing → List Segment → Head → List Stretch → Type 0
EndsInLast listing image h xs = (ended_under listing image (with_stretches xs (bare h))).ticks ≡ total (map stretch_line xs)

-- NO ONE INTERRUPT CAN BE LEFT OUT: without any one of them alone the run comes to another kind
abbrev pub AllNeeded : Listing → List Segment → Head → Kind → List Stretch → Type 0
AllNeeded listing image h k xs = (n : ℕ) → n < interrupts_in xs → EndsOtherwise listing image k (with_stretches (without n 1 xs) (bare h))

-- an image halts under a schedule
abbrev pub Halts : Listing → List Segment → Sched → Type 0
Halts listing image s = is_halt (ended_under listing image s).kind ≡ true

-- how a run of n whole instructions ends, one a tick
unfoldable pub ended_plain : Listing → List Segment → ℕ → Ended
ended_plain listing image n = ended_under listing image (plain n)

-- THE PLAIN RUN, up to the limit of ticks
abbrev pub plain_end : Listing → List Segment → Ended
plain_end listing image = ended_plain listing image most_ticks

-- how the runs of a shake end
abbrev pub ends_in : Listing → List Segment → Plan → Head → List ℕ → ℕ → Ended
ends_in listing image p h irqs run = ended_under listing image (shaken_schedule p h irqs run)
