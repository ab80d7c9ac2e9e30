use Rattle.hm_work.proofs.Compiling.{compiled_held}
use Rattle.hm_commands.proofs.laws.kernel_file_law.Goals as goal

pub returns : goal.returns
returns c = record { holds = compiled_held }
