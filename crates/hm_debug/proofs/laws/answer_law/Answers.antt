use Rattle.hm_debug.proofs.AnswerLaws.{answers_begin, lines_listed, one_answer, some_answer}
use Rattle.hm_debug.proofs.laws.answer_law.Goals as goal

pub returns-clause-some : goal.returns-clause-some
returns-clause-some c = some_answer

pub returns-clause-one : goal.returns-clause-one
returns-clause-one c = one_answer

pub returns-clause-grows : goal.returns-clause-grows
returns-clause-grows c = answers_begin

pub returns-clause-listing : goal.returns-clause-listing
returns-clause-listing c f a n es = lines_listed f.flash f.listing n a es
