use Rattle.std.proofs.Common.{map, ap, ◌∙◌}
use Rattle.hm_cpu.proofs.Nestings.{is_some, newest_there}
use Rattle.hm_cpu.specs.Cpus.{interrupted_of, nested_of}
use Rattle.hm_exc.specs.declared.types.Activation.{Activation}
use Rattle.hm_machine.proofs.Ends.{priority_newest}
use Rattle.hm_mem.specs.Memory.{memory_of}
use Rattle.hm_mem.specs.declared.Dev.{Dev}
use Rattle.hm_state.specs.State.{state_of}
use Rattle.hm_sys.specs.Exceptions.{priority_of}
use Rattle.hm_machine.proofs.entry.active_priority.Goals as goal

pub returns : goal.returns
unfolding state_of
returns c =
    let x = c.args.x.now in
    let found = newest_there x.acts (is_some _ _ c.is_empty.ensures c.if-is_empty.false) in
    record {
      value = c.priority.ensures.value
          ∙ ap (λ (d : Dev). priority_of d c.newest.result.number) c.dev.ensures.value
          ∙ ap (λ (z : Activation). priority_of (memory_of x.mem).devices z.number) (c.newest.ensures.value found.0 found.1 found.2)
          ∙ priority_newest (memory_of x.mem).devices (interrupted_of found.0) (nested_of x).acts (map interrupted_of found.1) (ap (map interrupted_of) found.2)
          c.requires.sound.1.urgent;
    }
