use Rattle.std.proofs.Common.{◌∙◌, arith}
use Rattle.std.proofs.lemmas.Bool.Decides.{nat_tests}
use Rattle.hm_asm.proofs.Made.{put_behind}
use Rattle.hm_asm.proofs.making.add_segment.Goals as goal

pub returns-in-Ok-clause-added : goal.returns-in-Ok-clause-added
returns-in-Ok-clause-added c =
    c.in-Ok.ensures.ok ∙ put_behind c.args.image.now c.args.start c.args.bytes.items
    (λ e. let f = c.if-is_empty.false in let g = c.is_empty.ensures in let n = c.args.bytes.ok.0 in grind (arith, nat_tests, f, g, n, e)) c.requires.behind
