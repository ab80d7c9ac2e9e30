use Rattle.std.proofs.Common.{◌≡◌, ap, arith}
use Rattle.hm_base.specs.Image.{segment}
use Rattle.hm_elf.specs.Elf.{loaded}
use Rattle.hm_elf.proofs.LoadSteps.{skipped, past_end, no_room, to_place, seen_at}
use Rattle.hm_elf.proofs.reading.load.Goals as goal

pub returns-then-not-loads : goal.returns-then-not-loads
returns-then-not-loads c = skipped c.args.bytes.now c.args.number c.args.header.now c.args.image (grind (arith, c.loads.ensures))

pub returns-then-start-size : goal.returns-then-start-size
returns-then-start-size c = past_end c.args.bytes.now c.args.number c.args.header.now c.args.image (grind (arith, c.loads.ensures)) (omega arith)

pub returns-then-header : goal.returns-then-header
returns-then-header c = no_room c.args.bytes.now c.args.number c.args.header.now c.args.image (grind (arith, c.loads.ensures)) (omega arith) (omega arith)

pub returns : goal.returns
returns c =
    let same : segment c.args.header.now.address c.in-Ok.part.items ≡ loaded c.args.bytes.now c.args.header.now =
    ap (segment c.args.header.now.address) c.in-Ok.ensures in
    seen_at c.args.bytes.now c.args.number c.args.header.now c.args.image c.in-Ok.part.items c.with_segment.result
    (to_place c.args.bytes.now c.args.number c.args.header.now c.args.image (grind (arith, c.loads.ensures)) (omega arith) (omega arith)) same
    c.with_segment.ensures
