use Rattle.std.proofs.Common.{ap, ◌∙◌}
use Rattle.hm_moves.specs.Moves.{bytes_of_elements}
use Rattle.hm_moves.proofs.touches.moved_spans.Goals as goal

pub returns-then-touched : goal.returns-then-touched
returns-then-touched c = λ m output. rw c.if-touched.true
    (c.spans.ensures ∙ ap (bytes_of_elements c.args.row.now.memory) (c.as_slice.ensures.value ∙ c.find_elements.ensures.value m output))
