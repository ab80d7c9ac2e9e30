use Rattle.std.proofs.Common.{◌≡◌, List, ℕ, Ok, ap, ◌∙◌}
use Rattle.std.proofs.lemmas.Result.{err_from_is_err_and}
use Rattle.hm_work.proofs.RunInputs.{load_goes_on, load_stops}
use Rattle.hm_work.specs.Work.{Outcome, finish_of, refuses}
use Rattle.hm_trace.specs.Traces.{trace_text}
use Rattle.hm_trace.specs.declared.running.Form.{Form}
use Rattle.helium_trace.specs.Effects.{form_for, traced}
use Rattle.helium_trace.specs.Words.{meant}
use Rattle.helium_trace.proofs.top.traced.Goals as goal

pub returns-in_err-bytes : goal.returns-in_err-bytes
returns-in_err-bytes c =
    let p = err_from_is_err_and c.from_residual.result c.from_residual.ensures.1 in
    let e = c.in_err-bytes.field-0.0 in
    record { outcome = λ listings are. rw p.1 (load_stops finish_of refuses c.args.input.image _ e p.0 c.in_err-bytes.ensures.refused p.2) }

pub returns : goal.returns
returns c =
    let image = c.args.input.image in
    let a = meant c.args.command.now in
    record {
      outcome = λ listings are.
          load_goes_on finish_of refuses image
          (λ (o : Outcome). o ≡ traced a.page (trace_text (form_for a.page) (listings image) image c.args.input.schedule a.first a.last))
          (Ok c.finish.result) c.in_ok-bytes.ensures.odd
          (c.finish.ensures.value ∙ ap (λ (t : List ℕ). traced a.page t)
          (c.in_ok-bytes.ensures.text (listings image) (are.at image)
          ∙ ap (λ (f : Form). trace_text f (listings image) image c.args.input.schedule a.first a.last) c.form_of.ensures.value));
    }
