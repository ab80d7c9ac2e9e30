use Rattle.std.proofs.Common.{sym}
use Rattle.hm_moves.proofs.beats.beat_under_masks.Goals as goal

pub beat_elements-requires-clause-moved : goal.beat_elements-requires-clause-moved
beat_elements-requires-clause-moved c = λ x output. sym (c.in-Some.ensures.value x output)
