use Rattle.hm_line.proofs.Fronts.{fits_are, refusals_are}
use Rattle.hm_line.proofs.reading.check_form.Goals as goal

pub returns-clause-fits : goal.returns-clause-fits
returns-clause-fits c = fits_are c.args.form c.args.text.now c.follow.result c.follow.ensures.read

pub returns-clause-refused : goal.returns-clause-refused
returns-clause-refused c = refusals_are c.args.form c.args.text.now c.follow.result c.follow.ensures.read
