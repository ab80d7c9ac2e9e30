-- How a plain run ends, by what the instructions in order come to.
use Rattle.std.specs.Prelude.{◌≡◌, ℕ, ◌+◌, Some}
use Rattle.hm_run.specs.declared.Outcome.{Outcome}
use Rattle.hm_run.specs.declared.Outcome.TheVariants as outcome
use Rattle.hm_run.specs.declared.Who.TheVariants.{Thread}
use Rattle.hm_run.specs.InOrder.{InOrder, Running, Halted, Full, Faulted}
use Rattle.hm_run.specs.Timed.{Timed}

-- how a plain run of as many ticks ends
abbrev pub plain_end : InOrder → Outcome
plain_end (Running s) = outcome.OutOfTicks
plain_end (Halted reason k s) = outcome.Halted reason k
plain_end (Full k s) = outcome.OutputFull k
plain_end (Faulted kind pc addr k) = outcome.Fault Thread (record { kind = kind; addr = addr }) pc k

-- how many of n plain ticks are begun
abbrev pub plain_ticks : ℕ → InOrder → ℕ
plain_ticks n (Running s) = n
plain_ticks n (Halted reason k s) = k
plain_ticks n (Full k s) = k
plain_ticks n (Faulted kind pc addr k) = k + 1

-- a run of n plain ticks ends as the instructions in order do, and begins as many ticks
pub record EndsPlainly (n : ℕ) (x : Timed) (y : InOrder) : Type 0 where
  pub outcome : x.outcome ≡ Some (plain_end y)
  pub ticks : x.ticks ≡ plain_ticks n y
