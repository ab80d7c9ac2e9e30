use Rattle.hm_kernel_text.proofs.WordSteps.{first_cut}
use Rattle.hm_kernel_text.proofs.words.first_word.Goals as goal

pub returns : goal.returns
returns c = record { words = first_cut c.args.text.now c.span.result.0.now c.span.result.1.now c.span.ensures.parts }
