use Rattle.std.proofs.Common.{◌∙◌}
use Rattle.hm_moves.proofs.Widths.{field_at}
use Rattle.hm_moves.proofs.found.lane_number.Goals as goal

pub returns : goal.returns
returns c = c.bits.ensures.value ∙ field_at c.args.z c.args.j c.args.word c.lane.result c.byte_count.result c.lane.ensures.value c.byte_count.ensures.value
