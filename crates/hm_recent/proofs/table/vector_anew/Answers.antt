use Rattle.std.proofs.Common.{ap, sym, ◌∙◌, Ok, Err}
use Rattle.hm_mem.specs.Memory.{memory_of, flash_at}
use Rattle.hm_run.specs.Program.{vector_in, vector_of}
use Rattle.hm_recent.proofs.Rows.{listed_here}
use Rattle.hm_recent.proofs.table.vector_anew.Goals as goal

pub returns-in-Ok-clause-row : goal.returns-in-Ok-clause-row
returns-in-Ok-clause-row c listing is =
    let flash = flash_at (memory_of c.args.mem.now) in
    c.as_vector.ensures.value ∙ ap vector_in c.of.ensures.instr
    ∙ sym (ap vector_of (listed_here listing flash c.args.addr (Ok c.in-Ok.i) is c.in-Ok.ensures))

pub returns-in-Err-clause-row : goal.returns-in-Err-clause-row
returns-in-Err-clause-row c listing is =
    let flash = flash_at (memory_of c.args.mem.now) in
    sym (ap vector_of (listed_here listing flash c.args.addr (Err c.in-Err.field-0) is c.in-Err.ensures))
