-- What whole instructions in order come to.
use Rattle.std.specs.Prelude.{ℕ, zero, suc, ◌+◌, List, Some, Result, Ok, Err}
use Rattle.hm_base.specs.Image.{Segment}
use Rattle.hm_base.specs.declared.FaultKind.{FaultKind}
use Rattle.hm_codes.specs.Listing.{Listing}
use Rattle.hm_run.specs.declared.Outcome.{Outcome}
use Rattle.hm_run.specs.declared.Outcome.TheVariants as outcome
use Rattle.hm_run.specs.declared.Reason.{Reason}
use Rattle.hm_run.specs.declared.Who.TheVariants.{Thread}
use Rattle.hm_run.specs.Program.{alone}
use Rattle.hm_run.specs.Report.{outcome_line, report_of}
use Rattle.hm_run.specs.Stops as why
use Rattle.hm_run.specs.Stops.{WholeStop}
use Rattle.hm_state.specs.Start.{start}
use Rattle.hm_state.specs.State.{State, regs_of}

-- The state after n instructions; or instruction k halts, or has no room for its output, in the state before it; or after
-- k instructions the next, at pc, has a fault at an address.
pub data InOrder : Type 0 where
  Running : State → InOrder
  Halted : Reason → ℕ → State → InOrder
  Full : ℕ → State → InOrder
  Faulted : FaultKind → ℕ → ℕ → ℕ → InOrder

-- what the instruction after n comes to in the state s
abbrev pub after : ℕ → State → Result State WholeStop → InOrder
after n s (Ok t) = Running t
after n s (Err (why.Halt reason)) = Halted reason (n + 1) s
after n s (Err why.Full) = Full (n + 1) s
after n s (Err (why.Faults f)) = Faulted f.kind s.pc f.addr n

-- what one more instruction after n comes to; what has halted, is full or has a fault stays as it is
abbrev pub one_more : Listing → ℕ → InOrder → InOrder
one_more listing n (Running s) = after n s (alone listing s)
one_more listing n (Halted reason k s) = Halted reason k s
one_more listing n (Full k s) = Full k s
one_more listing n (Faulted kind pc addr k) = Faulted kind pc addr k

-- n whole instructions in order, from a reset to an image
abbrev pub in_order : Listing → List Segment → ℕ → InOrder
in_order listing image zero = Running (start image)
in_order listing image (suc n) = one_more listing n (in_order listing image n)

-- the report of an outcome in the thread, between two instructions
abbrev pub report_between : Outcome → State → List ℕ
report_between o s = report_of (Some o) 0 (regs_of s) 0 0 s.rest.output

-- The report of instructions in order. Of a fault it is the first line alone.
abbrev pub in_order_report : InOrder → List ℕ
in_order_report (Running s) = report_between outcome.OutOfTicks s
in_order_report (Halted reason k s) = report_between (outcome.Halted reason k) s
in_order_report (Full k s) = report_between (outcome.OutputFull k) s
in_order_report (Faulted kind pc addr k) = outcome_line (Some (outcome.Fault Thread (record { kind = kind; addr = addr }) pc k))
