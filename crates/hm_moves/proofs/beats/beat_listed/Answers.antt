use Rattle.std.proofs.Common.{◌∙◌}
use Rattle.hm_moves.proofs.beats.beat_listed.Goals as goal

pub beat_elements-requires-clause-moved : goal.beat_elements-requires-clause-moved
beat_elements-requires-clause-moved c = λ x output. c.as_slice.ensures.value ∙ c.find_elements.ensures.value x output
