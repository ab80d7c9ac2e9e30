use Rattle.std.proofs.Common.{◌≡◌, ℕ, ◌<◌, List, false, get_or}
use Rattle.hm_base.specs.Image.{Segment}
use Rattle.hm_shake.specs.Kinds.{is_halt}
use Rattle.hm_shake.specs.Repeats.{Repeats}
use Rattle.hm_shake_runs.specs.declared.found.Found.{Found}
use Rattle.hm_shake.proofs.counting.report_of.Given as goal

-- none of those so far halts
abbrev pub invariant-loop-found : goal.invariant-loop-found
invariant-loop-found l = record {
  again : (image : List Segment) → Repeats image l.given.head l.fn.repeater → Repeats image l.given.head l.repeater;
  none : (k : ℕ) (d : Found) → k < l.found-index → is_halt (get_or l.kinds k d).kind ≡ false;
}
