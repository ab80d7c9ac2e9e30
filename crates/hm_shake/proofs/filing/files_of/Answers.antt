use Rattle.std.proofs.Common.{◌≡◌, ◌∙◌, [], ◌∷◌, ◌++◌, ap, subst, sym}
use Rattle.hm_shake.proofs.Files.{all_filed, file_added, no_file}
use Rattle.hm_shake.specs.Findings.{IsFiled}
use Rattle.hm_shake.specs.Repeats.{Repeats}
use Rattle.hm_shake.specs.declared.repeats.Repeater.{Repeater}
use Rattle.hm_shake.proofs.filing.files_of.Goals.{then-not-same_kind+in_ok-file+in_ok-push, else-not-same_kind}
use Rattle.hm_shake.proofs.filing.files_of.Goals as goal

pub shortest-requires-clause-repeats : goal.shortest-requires-clause-repeats
shortest-requires-clause-repeats g c = (c.requires.repeats.0, c.loop-found.invariant.again c.requires.repeats.0 c.requires.repeats.1)

pub loop-found-preserved : goal.loop-found-preserved
loop-found-preserved g c =
    let before = c.loop-found.invariant in
    let head = c.args.given.now.head in
    let plan = c.args.given.now.plan in
    let irqs = c.args.given.now.irqs.items in
    let plain = c.args.plain in
    let kinds = c.args.kinds.now in
    let i = c.loop-found.found-index in
    let old = c.loop-found.files.items in
    let lt = c.loop-found-test.true in
    elim c.if-not-same_kind.branch [
      | then-not-same_kind+in_ok-file+in_ok-push w ↦
          let added : c.if-not-same_kind.files.items ≡ old ++ w.in_ok-file.file ∷ [] = ap (λ v. v.items) w.files-is ∙ w.in_ok-push.ensures.items in
          record {
            again = λ image repeats.
                subst (λ (x : Repeater). Repeats image head x) (sym w.repeater-is) (w.shortest.ensures.again image (before.again image repeats));
            files = λ image listing is repeats all.
                file_added (IsFiled listing image plan head irqs) plain kinds i _ old c.if-not-same_kind.files.items w.in_ok-file.file lt
                (c.same_kind.ensures.other w.if-not-same_kind.true) (w.in_ok-file.ensures.filed image listing is (before.again image repeats) (all i _ lt))
                added
                (before.files image listing is repeats all);
          }
      | else-not-same_kind w ↦
          let same : c.if-not-same_kind.files.items ≡ old = ap (λ v. v.items) w.files-is in
          record {
            again = λ image repeats. subst (λ (x : Repeater). Repeats image head x) (sym w.repeater-is) (before.again image repeats);
            files = λ image listing is repeats all.
                no_file (IsFiled listing image plan head irqs) plain kinds i _ old c.if-not-same_kind.files.items lt
                (c.same_kind.ensures.same w.if-not-same_kind.false) same (before.files image listing is repeats all);
          }
    ]

pub returns : goal.returns
returns g c =
    let given = c.args.given.now in
    record {
      files = λ image listing is repeats all.
          all_filed (IsFiled listing image given.plan given.head given.irqs.items) c.args.plain c.args.kinds.now c.loop-found.found-index
          c.loop-found.files.items c.loop-found-test.false (c.loop-found.invariant.files image listing is repeats all);
    }
