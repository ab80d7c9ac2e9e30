use Rattle.hm_commands.proofs.Calling.{one_made, one_spent}
use Rattle.hm_commands.proofs.outside.print_text.Goals as goal

pub returns-in-Some-clause-calls : goal.returns-in-Some-clause-calls
returns-in-Some-clause-calls g c = rw (c.in-Some.is, ← c.deref.ensures.value) (one_made _ _ _ c.print.result c.print.ensures.calls)

pub returns-in-Some-clause-spent : goal.returns-in-Some-clause-spent
returns-in-Some-clause-spent g c = rw (c.in-Some.is, ← c.deref.ensures.value) (one_spent _ _ _ c.print.result c.print.ensures.calls)
