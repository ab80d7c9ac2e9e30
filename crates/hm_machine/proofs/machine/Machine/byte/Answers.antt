use Rattle.std.proofs.Common.{sym, subst, ℕ, ◌≡◌, Option}
use Rattle.std.specs.Prelude.{IfSome}
use Rattle.hm_machine.proofs.MemoryTexts.{told_is}
use Rattle.hm_mem.specs.Memory.{byte_at, memory_of}
use Rattle.hm_state.specs.State.{state_of}
use Rattle.hm_machine.proofs.machine.Machine.byte.Goals as goal

pub returns-clause-cell : goal.returns-clause-cell
unfolding state_of
returns-clause-cell c =
    let m = memory_of c.self.inside.cpu.mem in
    rw (← c.self.view_is) (subst (λ (o : Option ℕ). IfSome o (λ x. x ≡ byte_at m c.args.addr)) (sym c.byte.ensures.value) (told_is m c.args.addr))
