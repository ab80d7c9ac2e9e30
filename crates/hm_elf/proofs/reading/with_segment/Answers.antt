use Rattle.std.proofs.Common.{List, Ok, sym, ap, ◌∙◌}
use Rattle.hm_base.specs.Image.{Segment, segment}
use Rattle.hm_elf.proofs.Placing.{placed}
use Rattle.hm_elf.proofs.LoadSteps.{refused_by}
use Rattle.hm_elf.proofs.reading.with_segment.Goals as goal

pub returns-in-Ok : goal.returns-in-Ok
returns-in-Ok c = placed c.args.number (segment c.args.address c.args.bytes.items) c.args.image c.in-Ok.ensures.fits
    ∙ ap (λ (i : List Segment). Ok i) (sym c.in-Ok.ensures.ok)

pub returns-in-Err-Segment : goal.returns-in-Err-Segment
returns-in-Err-Segment c =
    let h = c.in-Err-Segment.ensures in
    refused_by c.args.number (segment c.args.address c.args.bytes.items) c.args.image c.in-Err-Segment.field-0 c.in-Err-Segment.field-0-0
    c.in-Err-Segment.field-0-is h.errors h.refused.0
