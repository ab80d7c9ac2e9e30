use Rattle.std.proofs.Common.{List, Result, subst}
use Rattle.hm_base.specs.Image.{Segment}
use Rattle.hm_base.specs.Results.{GivesImage}
use Rattle.hm_base.specs.declared.errors.ImageErr.{ImageErr}
use Rattle.hm_ihex.proofs.HexFiles.{hex_only, is_found}
use Rattle.hm_ihex.proofs.reading.read_hex.Goals as goal

pub returns-clause-found : goal.returns-clause-found
returns-clause-found c = is_found c.args.bytes.now c.read_lines.result c.read_lines.ensures.exact

pub returns-clause-only : goal.returns-clause-only
returns-clause-only c = λ image is. subst (λ (r : Result (List Segment) ImageErr). GivesImage c.read_lines.result r) (hex_only c.args.bytes.now image is)
    c.read_lines.ensures.exact
