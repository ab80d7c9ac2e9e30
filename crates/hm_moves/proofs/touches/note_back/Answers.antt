use Rattle.std.proofs.Common.{List, ap, ◌∙◌}
use Rattle.hm_base.specs.Place.{noted_all}
use Rattle.hm_regs.specs.Writes.{Write, places_of}
use Rattle.hm_moves.proofs.touches.note_back.Goals as goal

pub returns-in-Some-clause-value : goal.returns-in-Some-clause-value
returns-in-Some-clause-value c = λ m output.
    c.note.ensures.value ∙ ap (λ (ws : List Write). noted_all (places_of ws) c.args.places.now) (c.in-Some.ensures.value m output)

pub returns-in_default-clause-value : goal.returns-in_default-clause-value
returns-in_default-clause-value c = λ m output. ap (λ (ws : List Write). noted_all (places_of ws) c.args.places.now) (c.in_default.ensures.value m output)
