-- KINDS OF OUTCOMES: what is told of an outcome but for when and where.
use Rattle.hm_exc.specs.declared.types.Broken.{Broken}
use Rattle.hm_exc.specs.declared.types.Broken.TheVariants as broken
use Rattle.hm_run.specs.declared.Offence.{Offence}
use Rattle.hm_run.specs.declared.Offence.TheVariants as offence
use Rattle.hm_run.specs.declared.Outcome.{Outcome}
use Rattle.hm_run.specs.declared.Outcome.TheVariants as outcome
use Rattle.hm_shake_runs.specs.declared.kinds.Kind.{Kind}
use Rattle.hm_shake_runs.specs.declared.kinds.Kind.TheVariants as kind

-- how a return differs from its entry
abbrev pub left_kind : Broken → Kind
left_kind (broken.ExcReturn value) = kind.Return
left_kind (broken.Register name entry now) = kind.Register name
left_kind (broken.Frame addr) = kind.Frame

-- what a handler did that it may not do
abbrev pub offence_kind : Offence → Kind
offence_kind (offence.Left b) = left_kind b
offence_kind (offence.Store addr) = kind.Store
offence_kind (offence.Call pc) = kind.Call

-- THE KIND OF AN OUTCOME
-- what is told of an outcome, but for when and where
abbrev pub kind_of : Outcome → Kind
kind_of (outcome.Halted reason n) = kind.Halted reason n
kind_of (outcome.Fault who f pc n) = kind.Fault who f.kind
kind_of (outcome.RuleBroken t step r) = kind.Rule
kind_of (outcome.HandlerBroken t what) = offence_kind what
kind_of (outcome.TaintedRead t pc addr) = kind.Tainted
kind_of (outcome.StackSpent t sp) = kind.Stack
kind_of (outcome.OutputFull t) = kind.Output
kind_of outcome.OutOfTicks = kind.Ticks
