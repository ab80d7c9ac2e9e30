use Rattle.std.proofs.Common.{List, Result, subst}
use Rattle.hm_base.specs.Image.{Segment}
use Rattle.hm_base.specs.Results.{GivesImage}
use Rattle.hm_base.specs.declared.errors.ImageErr.{ImageErr}
use Rattle.hm_elf.proofs.ReadLaws.{is_found, image_again}
use Rattle.hm_elf.proofs.reading.read_image.Goals as goal

pub returns-clause-found : goal.returns-clause-found
returns-clause-found c = is_found c.args.bytes.now c.read_file.result c.read_file.ensures.value

pub returns-clause-only : goal.returns-clause-only
returns-clause-only c = λ image is. subst (λ (r : Result (List Segment) ImageErr). GivesImage c.read_file.result r) (image_again c.args.bytes.now image is)
    c.read_file.ensures.value
