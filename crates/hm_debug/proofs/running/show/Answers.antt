use Rattle.std.proofs.Common.{ℕ, ap, refl, List, ◌++◌, ◌∙◌}
use Rattle.hm_debug.proofs.Showing.{shows_at}
use Rattle.hm_run.specs.Report.{report_text}
use Rattle.hm_debug.proofs.running.show.Goals as goal

pub returns-clause-gives : goal.returns-clause-gives
returns-clause-gives c f film =
    let is = c.deref.ensures.value ∙ c.in_ok-report.ensures ∙ ap report_text (shows_at f _ c.args.tick _ film c.machine_at.ensures.shows) in
    record { text = c.in_ok-text.ensures ∙ ap (λ (r : List ℕ). c.args.out.now.items ++ r) is; place_is = refl }
