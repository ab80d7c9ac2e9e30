use Rattle.std.proofs.Common.{Ok, refl}
use Rattle.std.proofs.lemmas.Result.{err_from_is_err_and}
use Rattle.hm_work.proofs.RunInputs.{load_goes_on, load_stops}
use Rattle.helium_shake.specs.Effects.{IsFoundEffect, found_effect, refused_effect}
use Rattle.helium_shake.specs.Words.{meant}
use Rattle.helium_shake.proofs.top.found.Goals as goal

pub returns-in_err-findings : goal.returns-in_err-findings
returns-in_err-findings g c =
    let p = err_from_is_err_and c.from_residual.result c.from_residual.ensures.1 in
    let e = c.in_err-findings.field-0.0 in
    let image = c.args.input.now.image in
    let a = meant c.args.command.now in
    record {
      effect = λ listings are.
          rw p.1 (load_stops (found_effect a.schedule) refused_effect image (IsFoundEffect listings a image c.args.input.now.schedule) e p.0
          c.in_err-findings.ensures.refused p.2);
    }

pub returns : goal.returns
returns g c =
    let image = c.args.input.now.image in
    let a = meant c.args.command.now in
    let h = c.in_ok-findings.ensures in
    record {
      effect = λ listings are.
          load_goes_on (found_effect a.schedule) refused_effect image (IsFoundEffect listings a image c.args.input.now.schedule) (Ok c.in_ok-findings.findings)
          h.odd
          (c.in_ok-findings.findings, h.finds (listings image) (are.at image), refl);
    }
