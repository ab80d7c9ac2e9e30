use Rattle.std.proofs.Common.{ap, sym}
use Rattle.std.proofs.lemmas.List.Elements.{All-same}
use Rattle.hm_shake.proofs.Finding.{found_so}
use Rattle.hm_shake.specs.Numbers.{HasNumbers}
use Rattle.hm_shake_runs.specs.declared.kinds.Ended.{Ended}
use Rattle.hm_shake.proofs.shaking.shake.Goals as goal

pub returns-clause-finds : goal.returns-clause-finds
returns-clause-finds g c = λ listing is.
    let image = c.args.image.now in
    let loaded = c.in_ok-repeater.ensures.repeats in
    let repeats = c.plain.ensures.again image loaded in
    let counted = c.do_runs.ensures.again image repeats in
    let reported = c.report_of.ensures.again image counted in
    let plain = c.in_ok-plainly.ensures.ended image listing is loaded in
    found_so listing image c.args.schedule.now _ _ c.of-head.result c.in_ok-interrupts_of.field-0.items c.deref.result.now c.deref-2.result.now
    (c.in_ok-kinds.ensures.kinds image listing is repeats)
    c.deref.ensures.value c.deref-2.ensures.value c.in_ok-interrupts_of.ensures.value c.of-head.ensures.value (ap (λ (e : Ended). e.kind) plain)
    (ap (λ (e : Ended). e.ticks) plain) (c.in_ok-report.ensures.report image listing is counted) c.in_ok-report.ensures.none
    (c.in_ok-files.ensures.files image listing is reported)
    (All-same (λ w. HasNumbers w.kind) c.in_ok-files.files.items c.deref-3.result.now (sym c.deref-3.ensures.value) c.files_fit.ensures.fit)
