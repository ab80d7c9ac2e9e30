use Rattle.std.proofs.Common.{◌≡◌, ℕ, ◌+◌, ◌-◌, arith, ap, get_or, sym, ◌∙◌}
use Rattle.hm_exc.proofs.Words.{word-vector}
use Rattle.hm_exc.specs.Entry.{window_in}
use Rattle.hm_exc.proofs.exit.low_vector.Goals as goal

pub returns-then-x : goal.returns-then-x
returns-then-x c =
    let x = c.args.x.now in
    let k = c.args.k in
    let e : (8 + k) - 8 ≡ k = omega arith in
    record {
      value = c.stacked.ensures.value
          ∙ word-vector x.regs (window_in x) (8 + k) (sym c.requires.fits.form ∙ c.if-x.true) c.in_range.ensures.counted.qw_count (omega arith) (omega arith)
          ∙ ap (λ (i : ℕ). get_or x.regs.qw i 0) e;
    }
