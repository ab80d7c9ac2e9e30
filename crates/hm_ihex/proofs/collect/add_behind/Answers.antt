use Rattle.std.proofs.Common.{◌∙◌}
use Rattle.hm_base.specs.Image.{segment}
use Rattle.hm_base.proofs.Images.{with_segment-behind}
use Rattle.hm_ihex.proofs.collect.add_behind.Goals as goal

pub returns-in-Ok : goal.returns-in-Ok
returns-in-Ok c = record { added = c.in-Ok.ensures.ok ∙ with_segment-behind (segment c.args.address c.args.bytes.items) c.args.image.now c.requires.behind }
