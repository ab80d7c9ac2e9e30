use Rattle.std.proofs.Common.{◌≡◌, ◌+◌, ◌≤◌, length}
use Rattle.hm_text_base.specs.Spans.{lines_of}
use Rattle.hm_sched.specs.Schedule.{most_irq, first_line, most_ticks, total}
use Rattle.hm_sched.proofs.LineSteps.{with_front, all_lines}
use Rattle.hm_sched.proofs.reading.with_lines.Given as goal

abbrev pub invariant-loop-rest : goal.invariant-loop-rest
invariant-loop-rest l = record {
  so_far : with_front l.schedule.lines (all_lines (most_irq l.initial.schedule.format) l.line (total l.schedule.lines) (lines_of l.rest))
      ≡ all_lines (most_irq l.initial.schedule.format) (first_line l.initial.schedule.format) 0 (lines_of l.bytes);
  head : l.schedule ≡ record l.initial.schedule { lines = l.schedule.lines };
  within : total l.schedule.lines ≤ most_ticks;
  counted : l.line ≡ first_line l.initial.schedule.format + length l.schedule.lines;
  numbered : length l.schedule.lines ≤ total l.schedule.lines;
}

abbrev pub decreases-loop-rest : goal.decreases-loop-rest
decreases-loop-rest l = length l.rest
