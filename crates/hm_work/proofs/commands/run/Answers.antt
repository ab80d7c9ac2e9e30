use Rattle.std.proofs.Common.{◌≡◌, ◌<◌, ℕ, List, length, subst, Vec, Global, [], map, get_or, sym}
use Rattle.hm_work.specs.Images.{image_of}
use Rattle.hm_work.specs.Commands.{run_outcome}
use Rattle.hm_work.specs.Run.{schedule_in}
use Rattle.hm_work.specs.Work.{GivesOne}
use Rattle.hm_work.proofs.Contents.{content_is, one_more}
use Rattle.hm_words.specs.Words.{source_meant, source_reads}
use Rattle.hm_work.proofs.commands.run.Goals as goal

pub returns : goal.returns
returns c = λ listings are.
    let all = map (λ (v : Vec ℕ Global). v.items) c.args.contents.now in
    let read = schedule_in (source_meant c.args.schedule.now) (get_or all 1 []) in
    let some : 0 < length c.args.contents.now = one_more (length c.args.contents.now) [] (source_reads (source_meant c.args.schedule.now)) c.requires.each in
    let first : get_or all 0 [] ≡ c.deref.result.now =
    content_is c.args.contents.now 0 c.index-contents-0.result c.deref.result.now some (sym c.index-contents-0.is) c.deref.ensures.value in
    subst (λ (image : List ℕ). GivesOne (λ o. o ≡ run_outcome listings (image_of image) read c.args.memory.now) c.run_under.result) (sym first)
    (c.run_under.ensures listings are read c.read_schedule-read.ensures.exact)
