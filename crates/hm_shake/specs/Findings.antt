-- WHAT A SHAKE FINDS.
use Rattle.std.specs.Prelude.{◌≡◌, ◌≢◌, ◌⊎◌, ℕ, ◌<◌, ◌≤◌, false, List, [], ◌∷◌, length, map, None, IfSome}
use Rattle.std.specs.List.{All}
use Rattle.hm_base.specs.Image.{Segment}
use Rattle.hm_codes.specs.Listing.{Listing}
use Rattle.hm_run_laws.specs.Runs.{shown_out}
use Rattle.hm_run.specs.Report.{report_text}
use Rattle.hm_sched.specs.Schedule.{Sched, most_irq, total}
use Rattle.hm_sched.specs.Written.{IsFile}
use Rattle.hm_shake.specs.Counts.{AreCounted, CameIn}
use Rattle.hm_shake.specs.Ends.{AllNeeded, EndsAs, EndsInLast, Halts, ends_in, plain_end}
use Rattle.hm_shake.specs.Kinds.{is_halt, kind_name}
use Rattle.hm_shake.specs.Shorter.{LeavesOut}
use Rattle.hm_shake.specs.declared.counting.Given.{Given}
use Rattle.hm_shake.specs.declared.filing.Written.{Written}
use Rattle.hm_shake.specs.declared.shaking.Findings.{Findings}
use Rattle.hm_shake_runs.specs.Heads.{bare, interrupts_of}
use Rattle.hm_shake_runs.specs.Runs.{AreOlder}
use Rattle.hm_shake_runs.specs.Shaken.{shaken, shaken_schedule}
use Rattle.hm_shake_runs.specs.Stretches.{interrupts_in, stretch_line, with_stretches}
use Rattle.hm_shake_runs.specs.declared.found.Found.{Found}
use Rattle.hm_shake_runs.specs.declared.head.Head.{Head}
use Rattle.hm_shake_runs.specs.declared.kinds.Kind.{Kind}
use Rattle.hm_shake_runs.specs.declared.kinds.Kind.TheVariants.{Rule}
use Rattle.hm_shake_runs.specs.declared.plan.Plan.{Plan}
use Rattle.hm_shake_runs.specs.declared.stretches.Stretch.{Stretch}

-- THE FILE OF A KIND that came: it holds a schedule with this head, of stretches of the letter O, under which the run of the image has this kind of outcome
pub record IsFiled (listing : Listing) (image : List Segment) (p : Plan) (h : Head) (irqs : List ℕ) (x : Found) (w : Written) : Type 0 where
  pub stretches : List Stretch
  pub file : IsFile w.bytes.items (with_stretches stretches (bare h))
  pub letters : AreOlder (with_stretches stretches (bare h))
  -- they are those of the run in which the kind came, cut off and with interrupts left out
  pub left : LeavesOut stretches (shaken p irqs x.run)
  -- the ticks and the interrupts are told, and that run began no fewer ticks
  pub ticks : total (map stretch_line stretches) ≡ w.ticks
  pub few : w.ticks ≤ x.ticks
  pub interrupts : interrupts_in stretches ≡ w.interrupts
  pub kind : w.kind ≡ x.kind
  pub gives : EndsAs listing image w.kind (with_stretches stretches (bare h))
  -- its run ends in its last tick, and no one of its interrupts can be left out without another kind
  pub last : EndsInLast listing image h stretches
  pub needed : AllNeeded listing image h w.kind stretches

-- of the kinds that came, each that is not the plain run's has a file of which this holds, in order
abbrev pub AreFiled : (Found → Written → Type 0) → Kind → List Found → List Written → Type 0
AreFiled Is plain [] ws = ws ≡ []
AreFiled Is plain (x ∷ xs) ws =
    ((x.kind ≢ plain) × (w : Written) × (more : List Written) × (ws ≡ w ∷ more) × Is x w × AreFiled Is plain xs more)
    ⊎ ((x.kind ≡ plain) × AreFiled Is plain xs ws)

-- no two files have one name, behind that of the schedule
abbrev pub AreNamedApart : List Written → Type 0
AreNamedApart [] = Unit {0}
AreNamedApart (w ∷ ws) = All (λ v. kind_name v.kind ≢ kind_name w.kind) ws × AreNamedApart ws

-- a kind came in this run of a shake, which began so many ticks
abbrev pub IsFoundIn : Listing → List Segment → Plan → Head → List ℕ → Found → Type 0
IsFoundIn listing image p h irqs found = CameIn (ends_in listing image p h irqs) p.runs found

-- THE REPORT of an image: that which it shows under every schedule under which it halts, and under one of these runs it does
pub record IsReport (listing : Listing) (image : List Segment) (p : Plan) (h : Head) (irqs : List ℕ) (report : List ℕ) : Type 0 where
  pub run : ℕ
  pub one : run < p.runs
  pub halts : Halts listing image (shaken_schedule p h irqs run)
  pub shown : (s : Sched) → Halts listing image s → report ≡ report_text (shown_out listing image s)

-- WHAT IS FOUND of an image, by a plan: the plain run's kind, how often each kind came, none of which is a broken rule, a file for each that is another,
-- no two under one name, and the report of the runs that halt
pub record Finds (listing : Listing) (image : List Segment) (p : Plan) (h : Head) (irqs : List ℕ) (f : Findings) : Type 0 where
  pub plain : f.plain ≡ (plain_end listing image).kind
  pub ticks : p.ticks ≡ (plain_end listing image).ticks
  pub kinds : AreCounted (ends_in listing image p h irqs) p.runs f.kinds.items
  pub lawful : All (λ x. x.kind ≢ Rule) f.kinds.items
  pub files : AreFiled (IsFiled listing image p h irqs) f.plain f.kinds.items f.files.items
  pub names : AreNamedApart f.files.items
  pub report : IfSome f.report (λ bytes. IsReport listing image p h irqs bytes.items)
  pub none : f.report ≡ None → All (λ x. is_halt x.kind ≡ false) f.kinds.items

-- WHAT IS FOUND under a schedule: its head is that of all runs, and its lines name the interrupts that are drawn from
pub record FindsFor (listing : Listing) (image : List Segment) (seed runs : ℕ) (s : Sched) (f : Findings) : Type 0 where
  pub plan : Plan
  pub seed_is : plan.seed ≡ seed
  pub runs_are : plan.runs ≡ runs
  pub head : Head
  pub same : bare head ≡ record s { lines = [] }
  pub finds : Finds listing image plan head (interrupts_of s) f

-- there are interrupts to draw from, which the format of the schedules names
pub record CanShake (given : Given) : Type 0 where
  pub some : 0 < length given.irqs.items
  pub few : length given.irqs.items ≤ 240
  pub each : All (λ n. n < most_irq given.head.format) given.irqs.items
