use Rattle.std.proofs.Common.{◌≡◌, ◌++◌, map, take}
use Rattle.std.specs.List.{flat_map}
use Rattle.hm_text_base.specs.Spans.{line}
use Rattle.hm_sched.specs.Schedule.{line_of}
use Rattle.hm_sched.specs.Written.{ticks_text}
use Rattle.hm_sched.specs.Printed.{printed}
use Rattle.hm_sched.proofs.printing.add_lines.Given as goal

abbrev pub invariant-loop-ticks : goal.invariant-loop-ticks
invariant-loop-ticks l = l.out.items ≡ l.initial.out.items ++ flat_map line (map (λ t. ticks_text (printed t)) (map line_of (take l.ticks-index l.lines)))
