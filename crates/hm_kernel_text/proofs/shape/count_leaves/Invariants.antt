use Rattle.std.proofs.Common.{◌≡◌, ◌+◌, ◌≤◌, [], length}
use Rattle.std.specs.Prelude.{reverse}
use Rattle.hm_kernel_text.specs.Words.{words_behind}
use Rattle.hm_kernel_text.specs.Shapes.{leaves_from}
use Rattle.hm_kernel_text.proofs.shape.count_leaves.Given as goal

abbrev pub invariant-loop-rest : goal.invariant-loop-rest
invariant-loop-rest l = record {
  so_far : leaves_from (reverse l.awaited.items) l.operations (words_behind l.rest) ≡ leaves_from [] 0 (words_behind l.text);
  within : l.operations + length l.rest ≤ length l.text;
}

abbrev pub decreases-loop-rest : goal.decreases-loop-rest
decreases-loop-rest l = length l.rest
