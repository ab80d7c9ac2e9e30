use Rattle.std.proofs.Common.{◌≡◌, ◌+◌, ◌≤◌, length}
use Rattle.std.specs.Prelude.{All}
use Rattle.hm_text_base.specs.Spans.{lines_of}
use Rattle.hm_kernel_lang.specs.Texts.{IsSet}
use Rattle.hm_kernel_text.specs.Held.{written}
use Rattle.hm_kernel_text.specs.ReadFile.{lines_in}
use Rattle.hm_kernel_text.proofs.reading.with_lines.Given as goal

abbrev pub invariant-loop-rest : goal.invariant-loop-rest
invariant-loop-rest l = record {
  so_far : lines_in l.line (written l.x) (lines_of l.rest).0 (lines_of l.rest).1 ≡ lines_in 4 (written l.initial.x) (lines_of l.text).0 (lines_of l.text).1;
  sets : All (IsSet l.x.element (length l.x.arrays.items)) l.x.lines.items;
  numbered : l.line ≡ 4 + (length l.x.arrays.items + length l.x.lines.items);
  few_arrays : length l.x.arrays.items ≤ 16;
  few_lines : length l.x.lines.items ≤ 16;
}

abbrev pub decreases-loop-rest : goal.decreases-loop-rest
decreases-loop-rest l = length l.rest
