use Rattle.hm_moves.specs.Ways.{moves_by}
use Rattle.hm_moves.proofs.Moves.{moves_keep_lr, moves_laws}
use Rattle.hm_moves.proofs.Owed.{move_is, move_spares}
use Rattle.hm_moves.proofs.Transfers.{transfer_laws}
use Rattle.hm_moves.proofs.laws.moves_law.Goals as goal

pub returns-clause-rows : goal.returns-clause-rows
returns-clause-rows c = moves_laws

pub returns-clause-keeps_lr : goal.returns-clause-keeps_lr
returns-clause-keeps_lr c = λ i x is spares. moves_keep_lr i is x spares

pub returns-clause-words : goal.returns-clause-words
returns-clause-words c = λ t. moves_laws (moves_by t) (move_is t)

pub returns-clause-ways : goal.returns-clause-ways
returns-clause-ways c = transfer_laws

pub returns-clause-ways_keep_lr : goal.returns-clause-ways_keep_lr
returns-clause-ways_keep_lr c = λ t x e. moves_keep_lr (moves_by t) (move_is t) x (move_spares t e)
