use Rattle.hm_soak_laws.proofs.Codes.{one_image}
use Rattle.hm_soak_laws.proofs.Given.{some_image}
use Rattle.hm_soak_laws.proofs.Line.{line_equal, line_of, one_line, some_line}
use Rattle.hm_soak_laws.proofs.Whole.{soak_reset}
use Rattle.hm_soak_laws.proofs.line_law.Goals as goal

pub returns : goal.returns
returns c = record { some_image = some_image; one_image = one_image; reset = soak_reset; some = some_line; one = one_line; every = line_of; equal = line_equal }
