use Rattle.std.proofs.Common.{sym, ◌∙◌}
use Rattle.hm_exc.proofs.Words.{word-vpr}
use Rattle.hm_exc.specs.Entry.{window_in}
use Rattle.hm_exc.proofs.exit.vpr.Goals as goal

pub returns-then-x : goal.returns-then-x
returns-then-x c =
    let x = c.args.x.now in
    record { value = c.stacked.ensures.value ∙ word-vpr x.regs (window_in x) (sym c.requires.fits.form ∙ c.if-x.true) c.in_range.ensures.counted.qw_count }
