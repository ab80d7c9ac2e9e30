-- THE SCHEDULE OF A RUN, as a function of the seed, the number of the run, how many runs there are, how many ticks the plain run begins, the head of the
-- schedule, and the interrupts that are drawn from.
use Rattle.std.specs.Prelude.{ℕ, zero, suc, ◌+◌, ◌-◌, ◌*◌, ◌/◌, ◌^◌, List, [], ◌∷◌, ◌++◌, length, map, min, nat_eq, if◌then◌else◌, slice_index, Some, None}
use Rattle.hm_base.specs.Draws.{drawn}
use Rattle.hm_sched.specs.Schedule.{Sched, most_ticks, total}
use Rattle.hm_shake_runs.specs.Draws.{first, part}
use Rattle.hm_shake_runs.specs.Heads.{bare}
use Rattle.hm_shake_runs.specs.Stretches.{stretch_line, with_stretches}
use Rattle.hm_shake_runs.specs.declared.head.Head.{Head}
use Rattle.hm_shake_runs.specs.declared.plan.Plan.{Plan}
use Rattle.hm_shake_runs.specs.declared.stretches.Stretch.{Stretch}

-- how many binary digits a number below 2 ^ k has
abbrev pub digits : ℕ → ℕ → ℕ
digits zero n = 0
digits (suc k) n = if nat_eq n 0 then 0 else suc (digits k (n / 2))

-- the longest gap of a run, in ticks: that of the first runs is the plain run's length, and it is halved as the runs go on, down to one tick
abbrev pub longest_gap : Plan → ℕ → ℕ
longest_gap p run = p.ticks / 2 ^ (digits 25 p.ticks * run / p.runs)

-- how many interrupts there are: so that they come in some four times the plain run's ticks, and within the limit, and 262,144 at most
abbrev pub many_pairs : ℕ → ℕ → ℕ
many_pairs ticks gap = min (min (8 * ticks / (gap + 1) + 8) (most_ticks / (gap + 1))) 262144

-- so many ticks without an interrupt, of so many letters; 0 ticks are no stretch
abbrev pub gap_of : ℕ → ℕ → List Stretch
gap_of zero letters = []
gap_of (suc n) letters = record { count = suc n; letters = letters; irq = None } ∷ []

-- a gap, up to the longest, by two draws: its letters and its ticks
abbrev pub gap_part : ℕ → ℕ → List Stretch
gap_part gap x = gap_of (part (drawn 2 x) (gap + 1)) (1 + part (drawn 1 x) 4)

-- a tick in which an interrupt arrives, by two draws: its letters, and which it is
abbrev pub interrupt_part : List ℕ → ℕ → List Stretch
interrupt_part irqs x = record { count = 1; letters = 1 + part (drawn 1 x) 4; irq = Some (slice_index irqs (part (drawn 2 x) (length irqs))) } ∷ []

-- n gaps with an interrupt behind each, from what was drawn last
abbrev pub pairs : ℕ → ℕ → List ℕ → ℕ → List Stretch
pairs zero gap irqs x = []
pairs (suc n) gap irqs x = gap_part gap x ++ (interrupt_part irqs (drawn 2 x) ++ pairs n gap irqs (drawn 4 x))

-- the ticks that are left behind so many, up to the limit, each of four letters and without interrupts
abbrev pub tail_part : ℕ → List Stretch
tail_part ticks = gap_of (most_ticks - ticks) 4

-- with these behind them
abbrev pub with_tail : List Stretch → List Stretch
with_tail xs = xs ++ tail_part (total (map stretch_line xs))

-- THE STRETCHES OF A RUN
-- gaps with an interrupt behind each, and the ticks that are left behind them
abbrev pub shaken : Plan → List ℕ → ℕ → List Stretch
shaken p irqs run = with_tail (pairs (many_pairs p.ticks (longest_gap p run)) (longest_gap p run) irqs (first p.seed run))

-- THE SCHEDULE OF A RUN
-- the schedule with this head that these stretches make
abbrev pub shaken_schedule : Plan → Head → List ℕ → ℕ → Sched
shaken_schedule p h irqs run = with_stretches (shaken p irqs run) (bare h)
