use Rattle.std.proofs.Common.{refl}
use Rattle.hm_line.specs.declared.form.Form.TheVariants as forms
use Rattle.hm_line.specs.Texts.{IsRefused}
use Rattle.hm_line.proofs.Fronts.{ok_refusals, moved}
use Rattle.hm_line.proofs.source.labelled.Goals as goal

pub returns-in-Ok-clause-refused : goal.returns-in-Ok-clause-refused
returns-in-Ok-clause-refused c = ok_refusals forms.Line c.args.text.now _ (c.in-Ok.ensures.fits.0 refl)

pub returns-in-Err-clause-refused : goal.returns-in-Err-clause-refused
returns-in-Err-clause-refused c = moved (IsRefused forms.Line c.args.text.now) c.in-Err.column c.in-Err.ensures.refused
