-- TEXTS AND NAMES OF KINDS of outcomes, and which of them halt.
use Rattle.std.specs.Prelude.{Bool, false, true, ℕ, List, [], ◌++◌, codes, if◌then◌else◌, map, nat_eq}
use Rattle.hm_text_base.specs.Marks.{minus_sign, space}
use Rattle.hm_text_base.specs.Texts.{separator}
use Rattle.hm_run.specs.Report.{halted_text, kind_text as fault_text, slot_text, who_text}
use Rattle.hm_shake_runs.specs.declared.kinds.Kind.{Kind}
use Rattle.hm_shake_runs.specs.declared.kinds.Kind.TheVariants as kind

-- THE TEXT OF A KIND, behind what stands before it
abbrev pub kind_text : Kind → List ℕ → List ℕ
kind_text (kind.Halted reason n) out = halted_text reason n out
kind_text (kind.Fault who k) out = out ++ codes "fault " ++ who_text who ++ separator ++ fault_text k
kind_text kind.Rule out = out ++ codes "rule"
kind_text (kind.Register name) out = slot_text name (out ++ codes "handler register ")
kind_text kind.Frame out = out ++ codes "handler frame"
kind_text kind.Return out = out ++ codes "handler return"
kind_text kind.Store out = out ++ codes "handler store"
kind_text kind.Call out = out ++ codes "handler call"
kind_text kind.Tainted out = out ++ codes "tainted"
kind_text kind.Stack out = out ++ codes "stack"
kind_text kind.Output out = out ++ codes "output"
kind_text kind.Ticks out = out ++ codes "ticks"

-- a minus in place of a space
abbrev pub joined : ℕ → ℕ
joined c = if nat_eq c space then minus_sign else c

-- THE NAME OF A KIND: its text, with a minus between its words
abbrev pub kind_name : Kind → List ℕ
kind_name k = map joined (kind_text k [])

-- it is that of runs that halt
abbrev pub is_halt : Kind → Bool
is_halt (kind.Halted reason n) = true
is_halt k = false
