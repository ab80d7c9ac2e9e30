use Rattle.hm_source.proofs.Items.{name_alone, name_more}
use Rattle.hm_source.proofs.values.named_at.Goals as goal

pub returns-in_err-number-in-Some-clause-only : goal.returns-in_err-number-in-Some-clause-only
returns-in_err-number-in-Some-clause-only c text rest d front all ends =
    let m = name_more text c.args.name.now c.args.behind.now c.in-Some.from.now rest d front all ends c.in-Some.ensures.found in
    absurd (c.in_err-number-in-Some.ensures.only m.0 rest m.2)

pub returns-in-None-clause-only : goal.returns-in-None-clause-only
returns-in-None-clause-only c text rest d front all ends = name_alone text c.args.name.now c.args.behind.now rest d front all c.in-None.ensures.only
