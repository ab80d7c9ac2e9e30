use Rattle.hm_kernel_code.proofs.Whole.{few_segments, first_word_is, is_image, is_sound}
use Rattle.hm_kernel_code.proofs.Exists.{some_made}
use Rattle.hm_kernel_code.proofs.image.image_law.Goals as goal

pub returns-clause-image : goal.returns-clause-image
returns-clause-image c = is_image

pub returns-clause-sound : goal.returns-clause-sound
returns-clause-sound c = is_sound

pub returns-clause-first : goal.returns-clause-first
returns-clause-first c = first_word_is

pub returns-clause-few : goal.returns-clause-few
returns-clause-few c = few_segments

pub returns-clause-some : goal.returns-clause-some
returns-clause-some c = some_made
