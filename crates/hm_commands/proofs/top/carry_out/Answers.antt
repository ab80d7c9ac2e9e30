use Rattle.std.proofs.Common.{subst, ap, Err}
use Rattle.hm_commands.specs.Effect.{IsComplete}
use Rattle.hm_commands.proofs.Carrying.{cut_write, cut_print, all_made, spent_write, spent_print}
use Rattle.hm_commands.proofs.top.carry_out.Goals as goal

pub returns-in-Err-clause-calls : goal.returns-in-Err-clause-calls
returns-in-Err-clause-calls g c =
    rw c.failure.ensures.value (cut_write c.in-Err.e _ _ (g.H.Host.state c.args.host.now) (g.H.Host.state c.write_file.new.host) c.in-Err.ensures.files
    c.in-Err.ensures.calls)

pub returns-in-Err-print_text-clause-calls : goal.returns-in-Err-print_text-clause-calls
returns-in-Err-print_text-clause-calls g c =
    let h = c.in-Err-print_text.ensures in
    rw c.failure-in-Err-print_text.ensures.value
    (cut_print c.in-Err-print_text.e _ _ (g.H.Host.state c.args.host.now) (g.H.Host.state c.write_file.new.host) (g.H.Host.state c.print_text.new.host)
    c.in-Ok.ensures.calls h.printed h.calls)

pub returns-in-Ok-print_text-clause-calls : goal.returns-in-Ok-print_text-clause-calls
returns-in-Ok-print_text-clause-calls g c = all_made c.args.status _ _ _ _ _ c.requires c.in-Ok.ensures.calls c.in-Ok-print_text.ensures.calls

pub returns-in-Err-clause-spent : goal.returns-in-Err-clause-spent
returns-in-Err-clause-spent g c =
    rw c.failure.ensures.value (spent_write c.in-Err.e _ _ (g.H.Host.state c.args.host.now) (g.H.Host.state c.write_file.new.host) c.in-Err.ensures.files)

pub returns-in-Err-print_text-clause-spent : goal.returns-in-Err-print_text-clause-spent
returns-in-Err-print_text-clause-spent g c =
    let h = c.in-Err-print_text.ensures in
    rw c.failure-in-Err-print_text.ensures.value
    (spent_print c.in-Err-print_text.e _ _ (g.H.Host.state c.args.host.now) (g.H.Host.state c.write_file.new.host) (g.H.Host.state c.print_text.new.host)
    c.in-Ok.ensures.calls h.printed (λ is. h.spent (ap Err is)))

pub returns-in-Ok-print_text-clause-spent : goal.returns-in-Ok-print_text-clause-spent
returns-in-Ok-print_text-clause-spent g c = λ is. absurd (subst IsComplete is c.requires)
