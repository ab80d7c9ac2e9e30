use Rattle.std.proofs.Common.{ap, subst, List, map, IfErr, OnOk}
use Rattle.hm_base.specs.Image.{Segment, flash_byte}
use Rattle.hm_codes.specs.Listing.{Listing, IsListing}
use Rattle.hm_machine.specs.Taped.{Tapes}
use Rattle.hm_sched.specs.Schedule.{Sched}
use Rattle.hm_journal.specs.Journals.{Journaled, ReportAt}
use Rattle.hm_journal.specs.Runs.{AreOfRun, IsCompareErr}
use Rattle.hm_journal.specs.Views.{checkpoint_of}
use Rattle.hm_journal.proofs.running.compare.Goals as goal

pub returns-clause-same : goal.returns-clause-same
returns-clause-same c =
    subst (λ (j : Journaled). OnOk c.compare_all.result
    ((image : List Segment) (s : Sched) (listing : Listing) → IsListing (flash_byte image) listing → Tapes image s c.args.tape.now
    → AreOfRun listing image s j.format j.checkpoints))
    c.j.view_is
    (subst (λ (xs : List ReportAt). OnOk c.compare_all.result
    ((image : List Segment) (s : Sched) (listing : Listing) → IsListing (flash_byte image) listing → Tapes image s c.args.tape.now
    → AreOfRun listing image s c.j.inside.format xs))
    (ap (map checkpoint_of) c.deref.ensures.value) c.compare_all.ensures.same)

pub returns-clause-refused : goal.returns-clause-refused
returns-clause-refused c =
    subst (λ (j : Journaled). IfErr c.compare_all.result
    (λ e. (image : List Segment) (s : Sched) (listing : Listing) → IsListing (flash_byte image) listing → Tapes image s c.args.tape.now
    → IsCompareErr listing image s j.format j.checkpoints e))
    c.j.view_is
    (subst (λ (xs : List ReportAt). IfErr c.compare_all.result
    (λ e. (image : List Segment) (s : Sched) (listing : Listing) → IsListing (flash_byte image) listing → Tapes image s c.args.tape.now
    → IsCompareErr listing image s c.j.inside.format xs e))
    (ap (map checkpoint_of) c.deref.ensures.value) c.compare_all.ensures.refused)
