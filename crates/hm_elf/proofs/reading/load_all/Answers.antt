use Rattle.std.proofs.Common.{◌*◌, [], ap, ◌∙◌, arith}
use Rattle.std.proofs.lemmas.List.{take_rest}
use Rattle.std.proofs.lemmas.Result.{err_from_is_err_and}
use Rattle.hm_elf.specs.Elf.{header_at, headers_in}
use Rattle.hm_elf.specs.ReadImage.{loads_in}
use Rattle.hm_elf.proofs.LoadSteps.{goes_on, ends, is_done}
use Rattle.hm_elf.proofs.reading.load_all.Goals as goal

pub returns-in_err-image : goal.returns-in_err-image
returns-in_err-image c =
    let p = err_from_is_err_and c.from_residual.result c.from_residual.ensures.1 in
    let e = c.in_err-image.field-0.0 in
    let header = c.program_header-header.ensures ∙ ap header_at (take_rest c.args.table.now (32 * c.loop-number.number)) in
    rw (p.1, p.2) (ends c.args.bytes.now c.loop-number.number c.args.count c.args.table.now c.loop-number.image
    (loads_in c.args.bytes.now 0 (headers_in c.args.count c.args.table.now) []) e c.program_header-header.result (omega arith) header
    c.loop-number.invariant c.in_err-image.ensures)

pub loop-number-preserved : goal.loop-number-preserved
loop-number-preserved c =
    let header = c.program_header-header.ensures ∙ ap header_at (take_rest c.args.table.now (32 * c.loop-number.number)) in
    goes_on c.args.bytes.now c.loop-number.number c.args.count c.args.table.now c.loop-number.image c.in_ok-image.image
    (loads_in c.args.bytes.now 0 (headers_in c.args.count c.args.table.now) []) c.program_header-header.result (omega arith) header c.in_ok-image.ensures
    c.loop-number.invariant

pub returns : goal.returns
returns c = is_done c.args.bytes.now c.loop-number.number c.args.count c.args.table.now c.loop-number.image
    (loads_in c.args.bytes.now 0 (headers_in c.args.count c.args.table.now) []) (omega arith) c.loop-number.invariant
