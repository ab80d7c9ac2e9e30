use Rattle.std.proofs.Common.{◌≡◌, rules}
use Rattle.hm_report_lines.proofs.registers_text.low_lines.Goals as goal

pub returns : goal.returns
returns c = let end : c.loop-k.k ≡ 13 = search rules in rw end at c.loop-k.invariant
