use Rattle.hm_lane.proofs.Ends.{predicate_words, predicate_merges}
use Rattle.hm_lane.proofs.laws.predicate_law.Goals as goal

pub returns-clause-words : goal.returns-clause-words
returns-clause-words c = predicate_words

pub returns-clause-merges : goal.returns-clause-merges
returns-clause-merges c = predicate_merges
