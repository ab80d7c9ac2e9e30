use Rattle.std.proofs.Common.{◌≡◌, ◌+◌, ◌≤◌, length}
use Rattle.hm_kernel_text.specs.Words.{words_behind}
use Rattle.hm_kernel_text.specs.ReadLine.{values_in}
use Rattle.hm_kernel_text.proofs.ValueSteps.{with_front}
use Rattle.hm_kernel_text.proofs.lines.read_values.Given as goal

abbrev pub invariant-loop-rest : goal.invariant-loop-rest
invariant-loop-rest l = record {
  so_far : with_front l.values.items (values_in l.limit (words_behind l.rest)) ≡ values_in l.limit (words_behind l.text);
  counted : length l.values.items + length (words_behind l.rest) ≡ length (words_behind l.text);
  within : length l.values.items ≤ l.most;
}

abbrev pub decreases-loop-rest : goal.decreases-loop-rest
decreases-loop-rest l = length l.rest
