use Rattle.std.proofs.Common.{◌≡◌, ◌+◌, ◌-◌, ◌++◌, true}
use Rattle.hm_debug.specs.Lines.{all_mapped, bytes_text}
use Rattle.hm_machine.specs.Shown.{timed_of}
use Rattle.hm_debug.proofs.memory.add_bytes.Given as goal

abbrev pub invariant-loop-k : goal.invariant-loop-k
invariant-loop-k l = record {
  there : all_mapped (l.at + l.k) (l.count - l.k) ≡ true;
  left : l.out.items ++ bytes_text (timed_of l.machine).config.state (l.at + l.k) (l.count - l.k)
      ≡ l.initial.out.items ++ bytes_text (timed_of l.machine).config.state l.at l.count;
}
