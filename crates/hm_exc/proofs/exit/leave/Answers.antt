use Rattle.hm_exc.proofs.Compared.{is_none}
use Rattle.hm_exc.proofs.exit.leave.Goals as goal

pub stacked-psr-requires-clause-fits : goal.stacked-psr-requires-clause-fits
stacked-psr-requires-clause-fits c = c.requires.fits c.newest-x.result _ c.newest-x.ensures.listed

pub position-at-requires-clause-fits : goal.position-at-requires-clause-fits
position-at-requires-clause-fits c = c.requires.fits c.newest-x.result _ c.newest-x.ensures.listed

pub is_process-process-requires-clause-fits : goal.is_process-process-requires-clause-fits
is_process-process-requires-clause-fits c = c.requires.fits c.newest-x.result _ c.newest-x.ensures.listed

pub restored-requires-clause-fits : goal.restored-requires-clause-fits
restored-requires-clause-fits c = c.requires.fits c.newest-x.result _ c.newest-x.ensures.listed

pub stacked-psr-requires-clause-frame : goal.stacked-psr-requires-clause-frame
stacked-psr-requires-clause-frame c =
    let same = c.difference.ensures.same (is_none c.difference.result c.in_default.not-Some) in
    same.frame

pub restored-requires-clause-same : goal.restored-requires-clause-same
restored-requires-clause-same c = (c.args.value, c.difference.ensures.same (is_none c.difference.result c.in_default.not-Some))
