use Rattle.std.proofs.Common.{ap}
use Rattle.hm_run_laws.specs.Runs.{shown}
use Rattle.hm_work.proofs.Runs.{reset_refusal-odd}
use Rattle.hm_work.proofs.machine.run_to_end.Goals as goal

pub returns : goal.returns
returns c =
    let over = c.run-outcome.ensures.shows c.args.image.now c.args.schedule 0 c.in_ok-machine.ensures.shows in
    (record { shows = λ listing is. ap shown (over.now listing is) }, reset_refusal-odd c.args.image.now c.in_ok-machine.ensures.odd)
