use Rattle.hm_debug.proofs.Modes.{thread_mode}
use Rattle.hm_debug.proofs.laws.thread_law.Goals as goal

pub returns : goal.returns
returns c = record { thread = thread_mode }
