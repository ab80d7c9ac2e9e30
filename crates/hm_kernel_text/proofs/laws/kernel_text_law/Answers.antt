use Rattle.hm_kernel_text.proofs.FoundFile.{kernel_found}
use Rattle.hm_kernel_text.proofs.AgainFile.{kernel_again}
use Rattle.hm_kernel_text.proofs.Exists.{text_exists}
use Rattle.hm_kernel_text.proofs.laws.kernel_text_law.Goals as goal

pub returns-clause-found : goal.returns-clause-found
returns-clause-found c = kernel_found

pub returns-clause-only : goal.returns-clause-only
returns-clause-only c = kernel_again

pub returns-clause-some : goal.returns-clause-some
returns-clause-some c = λ text w short is. (let said = text_exists text w short is in (said.text, said.sound, said.is))
