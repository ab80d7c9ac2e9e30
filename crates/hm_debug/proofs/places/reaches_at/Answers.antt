use Rattle.std.proofs.Common.{ap, ◌∙◌}
use Rattle.hm_debug.proofs.Showing.{shows_at}
use Rattle.hm_debug.specs.Answers.{reaches}
use Rattle.hm_debug.proofs.places.reaches_at.Goals as goal

pub returns-clause-value : goal.returns-clause-value
returns-clause-value c f film = c.reaches.ensures.value ∙ ap (reaches c.args.addr) (shows_at f _ c.args.tick _ film c.machine_at.ensures.shows)
