use Rattle.hm_commands.proofs.Calling.{one_made}
use Rattle.hm_commands.proofs.outside.write_file.Goals as goal

pub returns-in-Some-clause-files : goal.returns-in-Some-clause-files
returns-in-Some-clause-files g c = rw (c.in-Some.is, ← c.deref.ensures.value) c.write.ensures.files

pub returns-in-Some-clause-calls : goal.returns-in-Some-clause-calls
returns-in-Some-clause-calls g c = rw (c.in-Some.is, ← c.deref.ensures.value) (one_made _ _ _ c.write.result c.write.ensures.calls)
