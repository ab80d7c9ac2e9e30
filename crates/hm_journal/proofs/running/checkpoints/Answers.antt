use Rattle.std.proofs.Common.{◌≡◌, ℕ, ◌+◌, ◌*◌, ◌/◌, add-one, arith, ap, sym, ◌∙◌, subst, [], ◌∷◌, ◌++◌, map}
use Rattle.std.proofs.lemmas.List.{map_push}
use Rattle.hm_run_laws.specs.Runs.{run_out}
use Rattle.hm_machine.specs.Taped.{Taped, Tapes}
use Rattle.hm_journal.specs.Runs.{first_checkpoints, report_at}
use Rattle.hm_journal.specs.Views.{checkpoint_of}
use Rattle.hm_journal.proofs.running.checkpoints.Goals as goal

pub loop-k-preserved : goal.loop-k-preserved
loop-k-preserved c = record {
  stays = c.report_at.ensures.stays ∙ c.loop-k.invariant.stays;
  built = λ image s listing is tapes.
      let k = c.loop-k.k in
      let every = c.args.every in
      let before = c.loop-k.invariant.built image s listing is tapes in
      let report = c.in_ok-report.ensures.report image s listing is (subst (λ (w : Taped). Tapes image s w) (sym c.loop-k.invariant.stays) tapes) in
      ap (map checkpoint_of) c.in_ok-push.ensures.items ∙ map_push checkpoint_of c.loop-k.checkpoints.items _
      ∙ (λ j. before j ++ record { tick = k * every; report = report j } ∷ [])
      ∙ ap (first_checkpoints (report_at listing image s) every) (sym (add-one k));
}

pub returns-clause-checkpoints : goal.returns-clause-checkpoints
returns-clause-checkpoints c = λ image s listing is tapes.
    let every = c.args.every in
    let past = c.loop-k-test.false in
    let within = c.loop-k.auto.k-end in
    let all : c.loop-k.k ≡ c.last-last.result / every + 1 = omega (arith, past, within) in
    let last : c.last-last.result ≡ (run_out listing image s).ticks = c.last-last.ensures.value ∙ sym (tapes.last listing is) in
    c.loop-k.invariant.built image s listing is tapes ∙ ap (first_checkpoints (report_at listing image s) every) (all ∙ ap (λ (n : ℕ). n / every + 1) last)
