use Rattle.std.proofs.Common.{◌≡◌, ◌+◌, ◌<◌, ◌≤◌, length}
use Rattle.hm_text_base.specs.Spans.{lines_of}
use Rattle.hm_ihex.specs.Files.{all_lines, hex_in, lines_in}
use Rattle.hm_ihex.specs.Meant.{reading_of}
use Rattle.hm_ihex.proofs.reading.read_lines.Given as goal

abbrev pub invariant-loop-rest : goal.invariant-loop-rest
invariant-loop-rest l = record {
  few : l.number + length l.rest ≤ 1 + length l.bytes;
  count : l.state.count < l.number;
  read : lines_in l.number (reading_of l.state) (all_lines (lines_of l.rest)) ≡ hex_in l.bytes;
}

abbrev pub decreases-loop-rest : goal.decreases-loop-rest
decreases-loop-rest l = length l.rest
