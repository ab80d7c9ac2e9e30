use Rattle.hm_machine.proofs.Starts.{is_start}
use Rattle.hm_machine.proofs.machine.Machine.start.Goals as goal

pub returns : goal.returns
returns c = record { start = λ image s h. is_start image s c.args.self.now c.in_ok-checkpoint.checkpoint h c.in_ok-checkpoint.ensures.shows }
