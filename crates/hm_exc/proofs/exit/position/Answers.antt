use Rattle.std.proofs.Common.{◌<◌, arith, ap, ◌∙◌}
use Rattle.hm_exc.specs.Entry.{window_in}
use Rattle.hm_exc.specs.Frame.{psr_window}
use Rattle.hm_exc.proofs.Psr.{psr-window}
use Rattle.hm_exc.proofs.Words.{word-psr}
use Rattle.hm_exc.proofs.exit.position.Goals as goal

pub returns : goal.returns
returns c =
    let x = c.args.x.now in
    let w = window_in x in
    let it : x.regs.it < 256 = omega arith in
    record { value = c.psr_window.ensures.value ∙ ap psr_window (c.requires.psr ∙ word-psr x.regs w) ∙ psr-window x.regs w c.requires.fits.enters it }
