-- The run of a plan to the end of its ticks is a fold over them.
use Rattle.std.proofs.Common.{◌≡◌, ℕ, List, [], ◌∷◌, length, Option, Some, None, Result, refl, ◌∙◌, ap, arith}
use Rattle.std.proofs.Math.Seq.{drop-length, take-length}
use Rattle.hm_base.specs.Image.{Segment}
use Rattle.hm_codes.specs.Listing.{Listing}
use Rattle.hm_run_laws.specs.Nested.{Nested, TickEnd, letters}
use Rattle.hm_run_laws.specs.Runs.{Run, begin, closed, ended, run_out, tick, tick_of}
use Rattle.hm_plan_laws.specs.Greedy.{letters_of}
use Rattle.hm_plan_laws.specs.Planned.{plan_line}
use Rattle.hm_plan_laws.specs.declared.Greedy.{Greedy}
use Rattle.hm_plan_laws.proofs.Lines.{Does}
use Rattle.hm_run_laws.proofs.Prefixes.{run_taken, ticks_bare}
use Rattle.hm_run_laws.specs.Next.{after_ticks}
use Rattle.hm_run.specs.Bare.{bare}
use Rattle.hm_run.specs.declared.Outcome.{Outcome}
use Rattle.hm_sched.specs.Schedule.{TickLine, Sched, ticks_of, no_irq}

module _ (listing : Listing) where
  pub folds : (image : List Segment) (lines : List TickLine)
      → run_out listing image (bare lines) ≡ closed [] (after_ticks listing (bare []) (ticks_of lines) (begin image (bare [])))
  folds image lines =
      run_taken listing (bare lines) image (length (ticks_of lines))
      ∙ (λ j. closed (drop-length (ticks_of lines) j) (after_ticks listing (bare lines) (take-length (ticks_of lines) j) (begin image (bare lines))))
      ∙ ap (closed []) (ticks_bare listing (bare lines) (ticks_of lines) (begin image (bare lines)))

  -- THE SAME TICKS: of a line its letters and its interrupts count
  abbrev one_line : List ℕ → List ℕ → TickLine
  one_line letters irq = record { count = 1; letters = letters; irq = irq }

  same_ended : (s : Sched) (line : TickLine) (x : Run) (r : Result Nested TickEnd) → ended s line x r ≡ ended s (one_line line.letters line.irq) x r
  same_ended s line x r = grind arith

  same_tick : (s : Sched) (line : TickLine) (x : Run) (o : Option Outcome)
      → tick_of listing s line x o ≡ tick_of listing s (one_line line.letters line.irq) x o
  same_tick s line x (Some o) = refl
  same_tick s line x None = same_ended s line x (letters listing s 0 line.letters x.machine)

  pub tick_does : (line : TickLine) (g : Greedy) (x : Run) → line.letters ≡ letters_of g → line.irq ≡ no_irq
      → tick listing (bare []) line x ≡ tick listing (bare []) (plan_line 1 g) x
  tick_does line g x letters irq = same_tick (bare []) line x x.outcome ∙ (λ j. tick listing (bare []) (one_line (letters j) (irq j)) x)

  -- the ticks of a plan
  abbrev pub all_greedy : List Greedy → Run → Run
  all_greedy [] x = closed [] x
  all_greedy (g ∷ gs) x = all_greedy gs (tick listing (bare []) (plan_line 1 g) x)

  pub all_does : (lines : List TickLine) (gs : List Greedy) (x : Run) → Does lines gs → closed [] (after_ticks listing (bare []) lines x) ≡ all_greedy gs x
  all_does [] [] x h = refl
  all_does [] (g ∷ gs) x h = absurd h
  all_does (line ∷ lines) [] x h = absurd h
  all_does (line ∷ lines) (g ∷ gs) x h =
      ap (λ (y : Run). closed [] (after_ticks listing (bare []) lines y)) (tick_does line g x h.0 h.1)
      ∙ all_does lines gs (tick listing (bare []) (plan_line 1 g) x) h.2
