use Rattle.std.proofs.Common.{◌≡◌, ap, sym, ◌∙◌, Some, None}
use Rattle.hm_cpu.specs.Cpus.{nested_of}
use Rattle.hm_machine.proofs.Ends.{picks_none, picks_one}
use Rattle.hm_machine.specs.Ticked.{picks}
use Rattle.hm_mem.specs.Memory.{memory_of}
use Rattle.hm_mem.specs.declared.Dev.{Dev}
use Rattle.hm_state.specs.State.{state_of}
use Rattle.hm_sys.specs.Exceptions.{picked}
use Rattle.hm_machine.proofs.entry.enter_picked.Goals as goal

pub enter_exception-requires-clause-picked : goal.enter_exception-requires-clause-picked
enter_exception-requires-clause-picked c =
    let d = (memory_of c.args.x.now.mem).devices in
    sym (ap (picked d) c.running_priority-current.ensures.value) ∙ ap (λ (v : Dev). picked v c.running_priority-current.result) (sym c.dev.ensures.value)
    ∙ sym c.candidate.ensures.value ∙ c.in-Some.is

pub returns-in-Some-clause-value : goal.returns-in-Some-clause-value
unfolding state_of
returns-in-Some-clause-value c s es sound =
    let x = c.args.x.now in
    let d = (memory_of x.mem).devices in
    let is : picks x ≡ Some c.in-Some.e = sym (ap (picked d) c.running_priority-current.ensures.value)
    ∙ ap (λ (v : Dev). picked v c.running_priority-current.result) (sym c.dev.ensures.value) ∙ sym c.candidate.ensures.value ∙ c.in-Some.is in
    picks_one s (picks x) c.in-Some.e (nested_of x) c.args.tick es c.enter_exception.result (nested_of c.enter_exception.new.x) is
    (c.enter_exception.ensures.value s es sound)

pub returns-in-None-clause-value : goal.returns-in-None-clause-value
unfolding state_of
returns-in-None-clause-value c s es sound =
    let x = c.args.x.now in
    let d = (memory_of x.mem).devices in
    let is : picks x ≡ None = sym (ap (picked d) c.running_priority-current.ensures.value)
    ∙ ap (λ (v : Dev). picked v c.running_priority-current.result) (sym c.dev.ensures.value) ∙ sym c.candidate.ensures.value ∙ c.in-None.is in
    picks_none s (picks x) (nested_of x) c.args.tick es is
