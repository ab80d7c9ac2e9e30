use Rattle.std.proofs.Common.{◌≤◌, length}
use Rattle.hm_line.proofs.Fronts.{ReadTo}
use Rattle.hm_line.proofs.reading.follow.Given as goal

abbrev pub invariant-loop-here : goal.invariant-loop-here
invariant-loop-here l = record {
  read : ReadTo l.form l.text l.state l.rest;
  within : length l.rest ≤ length l.text;
}

abbrev pub decreases-loop-here : goal.decreases-loop-here
decreases-loop-here l = length l.rest
