use Rattle.hm_kernel_text.proofs.WordSteps.{next_cut}
use Rattle.std.proofs.Common.{rules}
use Rattle.hm_kernel_text.proofs.words.next_word.Goals as goal

pub returns-clause-words : goal.returns-clause-words
returns-clause-words c = next_cut c.args.text.now c.span.result.0.now c.span.result.1.now (search rules) (search rules)
