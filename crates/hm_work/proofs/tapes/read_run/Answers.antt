use Rattle.std.proofs.Common.{◌≡◌, ◌<◌, ℕ, [], List, Vec, Global, Ok, get_or, length, map, ap, sym, subst, ◌∙◌}
use Rattle.std.proofs.lemmas.Result.{err_from_is_err_and}
use Rattle.hm_base.specs.Results.{FailsImage}
use Rattle.hm_words.specs.Words.{source_meant, source_reads}
use Rattle.hm_work.specs.Images.{image_of}
use Rattle.hm_work.specs.Run.{schedule_in}
use Rattle.hm_work.proofs.Contents.{at_least_one, content_is}
use Rattle.hm_work.proofs.RunInputs.{image_refused, schedule_refused}
use Rattle.hm_work.proofs.tapes.read_run.Goals as goal

pub returns-in_err-image : goal.returns-in_err-image
returns-in_err-image c =
    let all = map (λ (v : Vec ℕ Global). v.items) c.args.contents.now in
    let some : 0 < length c.args.contents.now =
    at_least_one (length c.args.contents.now) (length (source_reads (source_meant c.args.schedule.now))) c.requires.each in
    let first : get_or all 0 [] ≡ c.deref.result.now =
    content_is c.args.contents.now 0 c.index-contents-0.result c.deref.result.now some (sym c.index-contents-0.is) c.deref.ensures.value in
    let p = err_from_is_err_and c.from_residual.result c.from_residual.ensures.1 in
    let e = c.in_err-image.field-0.0 in
    let fails = subst (λ (bytes : List ℕ). FailsImage e (image_of bytes)) (sym first) c.in_err-image.ensures.exact in
    record { input = rw p.1 (image_refused e (image_of (get_or all 0 [])) (schedule_in (source_meant c.args.schedule.now) (get_or all 1 [])) p.0 fails p.2) }

pub returns-in_err-schedule : goal.returns-in_err-schedule
returns-in_err-schedule c =
    let all = map (λ (v : Vec ℕ Global). v.items) c.args.contents.now in
    let some : 0 < length c.args.contents.now =
    at_least_one (length c.args.contents.now) (length (source_reads (source_meant c.args.schedule.now))) c.requires.each in
    let first : get_or all 0 [] ≡ c.deref.result.now =
    content_is c.args.contents.now 0 c.index-contents-0.result c.deref.result.now some (sym c.index-contents-0.is) c.deref.ensures.value in
    let at : image_of (get_or all 0 []) ≡ Ok c.in_ok-image.image = ap image_of first ∙ c.in_ok-image.ensures.exact in
    let p = err_from_is_err_and c.from_residual-in_err-schedule.result c.from_residual-in_err-schedule.ensures.1 in
    let e = c.in_err-schedule.field-0.0 in
    record {
      input = rw p.1 (schedule_refused e c.in_ok-image.image (image_of (get_or all 0 [])) (schedule_in (source_meant c.args.schedule.now) (get_or all 1 [])) p.0
          at c.in_err-schedule.ensures.exact p.2);
    }

pub returns : goal.returns
returns c =
    let all = map (λ (v : Vec ℕ Global). v.items) c.args.contents.now in
    let some : 0 < length c.args.contents.now =
    at_least_one (length c.args.contents.now) (length (source_reads (source_meant c.args.schedule.now))) c.requires.each in
    let first : get_or all 0 [] ≡ c.deref.result.now =
    content_is c.args.contents.now 0 c.index-contents-0.result c.deref.result.now some (sym c.index-contents-0.is) c.deref.ensures.value in
    record { input = (ap image_of first ∙ c.in_ok-image.ensures.exact, c.in_ok-schedule.ensures.exact) }
