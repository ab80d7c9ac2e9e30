use Rattle.std.proofs.Common.{arith}
use Rattle.hm_cpu.proofs.Nestings.{how_many, is_none, is_some, none_active}
use Rattle.hm_cpu.specs.Cpus.{nested_of}
use Rattle.hm_machine.proofs.Ends.{who_handler, who_thread}
use Rattle.hm_machine.proofs.conclusion.who_runs.Goals as goal

pub returns-then-is_empty : goal.returns-then-is_empty
returns-then-is_empty c = record
    { value = who_thread (nested_of c.args.x.now).acts (none_active c.args.x.now (is_none _ _ c.is_empty.ensures c.if-is_empty.true)) }

pub returns-else-is_empty : goal.returns-else-is_empty
returns-else-is_empty c =
    let some = is_some _ _ c.is_empty.ensures c.if-is_empty.false in
    record { value = who_handler (nested_of c.args.x.now).acts (omega (arith, how_many c.args.x.now, some)) }
