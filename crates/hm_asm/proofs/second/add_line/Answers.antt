use Rattle.hm_asm.specs.Making.{place_of}
use Rattle.hm_asm.proofs.Steps.{read_fine}
use Rattle.hm_asm.proofs.second.add_line.Goals as goal

pub returns-in-Err-clause-refused : goal.returns-in-Err-clause-refused
returns-in-Err-clause-refused c =
    λ said says.
    absurd (read_fine c.requires.fine.0 (place_of c.args.out.now) c.args.line.now c.requires.fine.1 c.in-Err.e.kind c.in-Err.e.column c.requires.fine.2
    c.in-Err.ensures.refused)
