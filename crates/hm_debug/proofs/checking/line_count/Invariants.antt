use Rattle.std.proofs.Common.{◌≡◌, ◌+◌, ◌≤◌, length}
use Rattle.hm_text_base.specs.Spans.{lines_of}
use Rattle.hm_debug.specs.Scripts.{lines_in}
use Rattle.hm_debug.proofs.checking.line_count.Given as goal

abbrev pub invariant-loop-line : goal.invariant-loop-line
invariant-loop-line l = record {
  count : lines_in (lines_of l.text) ≡ l.count + lines_in (lines_of l.rest);
  few : l.count + length l.rest ≤ length l.text;
}

abbrev pub decreases-loop-line : goal.decreases-loop-line
decreases-loop-line l = length l.rest
