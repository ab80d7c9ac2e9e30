use Rattle.hm_elf.specs.WriteImage.{elf_file}
use Rattle.hm_elf.proofs.ReadLaws.{image_found, image_again}
use Rattle.hm_elf.proofs.WriteLaws.{file_again}
use Rattle.hm_elf.proofs.laws.image_law.Goals as goal

pub returns-clause-found : goal.returns-clause-found
returns-clause-found c = image_found

pub returns-clause-only : goal.returns-clause-only
returns-clause-only c = image_again

pub returns-clause-written : goal.returns-clause-written
returns-clause-written c = λ image sound few. image_again (elf_file image) image (file_again image sound few)
