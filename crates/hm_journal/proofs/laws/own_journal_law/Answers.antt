use Rattle.hm_journal.proofs.Checkpoints.{own, sound}
use Rattle.hm_journal.proofs.laws.own_journal_law.Goals as goal

pub returns-clause-own : goal.returns-clause-own
returns-clause-own c = own

pub returns-clause-sound : goal.returns-clause-sound
returns-clause-sound c = sound
