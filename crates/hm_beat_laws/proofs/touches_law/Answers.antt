use Rattle.hm_beat.proofs.Lists.{later_lists, listed_law, same_done, same_flag, same_lists}
use Rattle.hm_rows.specs.Rows.{vector_tree, vector_whole}
use Rattle.hm_rows.proofs.Rows.{row_laws}
use Rattle.hm_beat_laws.proofs.touches_law.Goals as goal

pub returns-clause-listed : goal.returns-clause-listed
returns-clause-listed c = λ v x b s. listed_law (vector_tree v x b) s ((row_laws v).asks x b s)

pub returns-clause-same_lists : goal.returns-clause-same_lists
returns-clause-same_lists c = λ v x b s u. same_lists (vector_tree v x b) s u

pub returns-clause-same_done : goal.returns-clause-same_done
returns-clause-same_done c = λ v x b s u. same_done (vector_tree v x b) s u ((row_laws v).asks x b s)

pub returns-clause-same_flag : goal.returns-clause-same_flag
returns-clause-same_flag c = λ v x b s u. same_flag (vector_tree v x b) s u ((row_laws v).asks x b s)

pub returns-clause-later_lists : goal.returns-clause-later_lists
returns-clause-later_lists c = λ v x. later_lists (vector_tree v) (vector_whole v) (row_laws v) x
