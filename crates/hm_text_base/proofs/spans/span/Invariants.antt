use Rattle.std.proofs.Common.{◌≢◌, ℕ, ◌<◌, ◌≤◌, ◌-◌, get_or, length}
use Rattle.hm_text_base.proofs.spans.span.Given as goal

abbrev pub invariant-loop-at : goal.invariant-loop-at
invariant-loop-at l = (l.at ≤ length l.text) × ((k : ℕ) → k < l.at → get_or l.text k 0 ≢ l.mark)

abbrev pub decreases-loop-at : goal.decreases-loop-at
decreases-loop-at l = length l.text - l.at
