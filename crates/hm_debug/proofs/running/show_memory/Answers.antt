use Rattle.std.proofs.Common.{ap, refl, ◌+◌, ◌/◌, ◌++◌, ◌∙◌}
use Rattle.hm_debug.proofs.Showing.{shows_at}
use Rattle.hm_debug.specs.Lines.{memory_lines}
use Rattle.hm_run.specs.Timed.{Timed}
use Rattle.hm_debug.proofs.running.show_memory.Goals as goal

pub returns-clause-gives : goal.returns-clause-gives
returns-clause-gives c f film =
    let lines = λ (x : Timed). c.args.out.now.items ++ memory_lines x.config.state c.args.addr c.args.len ((c.args.len + 15) / 16) in
    record { text = c.in_ok-add_memory.ensures.added ∙ ap lines (shows_at f _ c.args.tick _ film c.machine_at.ensures.shows); place_is = refl }
