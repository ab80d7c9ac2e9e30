use Rattle.std.proofs.Common.{ℕ, ◌+◌, ◌≤◌, List, length}
use Rattle.hm_text_base.specs.Spans.{lines_of}
use Rattle.hm_debug.specs.Scripts.{IsFirstBad, SayAll, lines_in, most_lines}
use Rattle.hm_debug.specs.declared.command.Command.{Command}
use Rattle.hm_debug.proofs.checking.check_lines.Given as goal

abbrev pub invariant-loop-words : goal.invariant-loop-words
invariant-loop-words l = record {
  fine : (cs : List Command) → SayAll (lines_of l.rest) cs → (ds : List Command) × SayAll (lines_of l.text) ds;
  bad : (k : ℕ) → IsFirstBad k l.line (lines_of l.rest) → IsFirstBad k 1 (lines_of l.text);
  few : l.line + lines_in (lines_of l.rest) ≤ most_lines + 1;
}

abbrev pub decreases-loop-words : goal.decreases-loop-words
decreases-loop-words l = length l.rest
