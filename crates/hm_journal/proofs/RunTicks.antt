-- A run begins no more ticks than its schedule has.
use Rattle.std.proofs.Common.{ℕ, zero, suc, ◌+◌, ◌≤◌, arith, List, [], ◌∷◌, drop, length, Option, Some, None}
use Rattle.hm_base.specs.Image.{Segment}
use Rattle.hm_codes.specs.Listing.{Listing}
use Rattle.hm_run_laws.proofs.TickCounts.{closed_ticks, ended_ticks}
use Rattle.hm_run_laws.specs.Nested.{letters}
use Rattle.hm_run_laws.specs.Runs.{Run, begin, next, run, run_out, tick_of}
use Rattle.hm_run.specs.declared.Outcome.{Outcome}
use Rattle.hm_sched.specs.Schedule.{Sched, TickLine, ticks_of}

module _ (listing : Listing) (s : Sched) where
  tick_ticks : (line : TickLine) (x : Run) (o : Option Outcome) → (tick_of listing s line x o).ticks ≤ x.ticks + 1
  tick_ticks line x (Some o) = omega arith
  tick_ticks line x None = let one = ended_ticks s line x (letters listing s 0 line.letters x.machine) in omega (arith, one)

  next_ticks : (left : List TickLine) (x : Run) → (next listing s left x).ticks ≤ x.ticks + 1
  next_ticks [] x = omega arith
  next_ticks (line ∷ left) x =
      let same = closed_ticks left (tick_of listing s line x x.outcome) in
      let one = tick_ticks line x x.outcome in
      omega (arith, same, one)

  run_ticks : (image : List Segment) (t : ℕ) → (run listing image s t).ticks ≤ t
  run_ticks image zero = let same = closed_ticks (ticks_of s.lines) (begin image s) in omega (arith, same)
  run_ticks image (suc t) =
      let one = next_ticks (drop t (ticks_of s.lines)) (run listing image s t) in
      let before = run_ticks image t in
      omega (arith, one, before)

pub few_ticks : (listing : Listing) (image : List Segment) (s : Sched) → (run_out listing image s).ticks ≤ length (ticks_of s.lines)
few_ticks listing image s = run_ticks listing s image (length (ticks_of s.lines))
