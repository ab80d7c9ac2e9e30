use Rattle.hm_kernel_text.proofs.TextLaws.{is_found, is_only, is_sound}
use Rattle.hm_kernel_text.proofs.reading.read_kernel.Goals as goal

pub returns-clause-found : goal.returns-clause-found
returns-clause-found c = is_found c.args.text.now c.read_text.result c.read_text.ensures.read

pub returns-clause-sound : goal.returns-clause-sound
returns-clause-sound c = is_sound c.args.text.now c.read_text.result c.read_text.ensures.read c.read_text.ensures.sets

pub returns-clause-only : goal.returns-clause-only
returns-clause-only c = λ w is. is_only c.args.text.now c.read_text.result w is c.read_text.ensures.read
