use Rattle.std.proofs.Common.{ap, sym, ◌∙◌, Ok, Err}
use Rattle.hm_mem.specs.Memory.{memory_of, flash_at}
use Rattle.hm_run.specs.Program.{vector_of}
use Rattle.hm_recent.proofs.Known.{kept_stands}
use Rattle.hm_recent.proofs.Rows.{listed_here}
use Rattle.hm_recent.specs.Decodings.{instr_of}
use Rattle.hm_recent.proofs.table.vector_at.Goals as goal

pub returns-in-Ok-clause-row : goal.returns-in-Ok-clause-row
returns-in-Ok-clause-row c listing is =
    let flash = flash_at (memory_of c.args.mem.now) in
    let stands = kept_stands c.keep.new.recent flash c.args.addr c.kept.result.now c.in-Ok.ensures.kept c.kept.ensures.value in
    c.as_vector.ensures.value ∙ sym (ap vector_of (listed_here listing flash c.args.addr (Ok (instr_of c.kept.result.now)) is stands))

pub returns-in-Err-clause-row : goal.returns-in-Err-clause-row
returns-in-Err-clause-row c listing is =
    let flash = flash_at (memory_of c.args.mem.now) in
    sym (ap vector_of (listed_here listing flash c.args.addr (Err c.in-Err.field-0) is c.in-Err.ensures.fault))
