use Rattle.std.proofs.Common.{◌≡◌, ◌∙◌, ◌+◌, [], ◌∷◌, List, ℕ, Some, Ok, Err, ap, drop, map, refl, subst, sym}
use Rattle.std.proofs.lemmas.List.{append-nil}
use Rattle.std.proofs.lemmas.Result.{err_from_is_err_and}
use Rattle.hm_commands.proofs.Calling.{made_after}
use Rattle.hm_commands.specs.Calls.{MakesCalls, answer_way, to_end}
use Rattle.helium_shake.proofs.Writing.{first_call_fails, first_fails, left_is, left_none, written_first}
use Rattle.helium_shake.specs.Effects.{File, WritesFiles, file_of, write_call}
use Rattle.helium_shake.proofs.top.write_files.Goals as goal

pub loop-file-init : goal.loop-file-init
loop-file-init g c = record { files = λ r new h. h; calls = λ way new h. h; printed = λ P is. is; faults = refl }

pub returns-in_err-write_file-clause-files : goal.returns-in_err-write_file-clause-files
returns-in_err-write_file-clause-files g c =
    let schedule = c.args.schedule.now in
    let i = c.loop-file.file-index in
    let w = c.file-item.result in
    let e = c.in_err-write_file.field-0.0 in
    let answered = err_from_is_err_and c.from_residual.result c.from_residual.ensures.1 in
    let failed : c.from_residual.result ≡ Err e = answered.1 ∙ ap Err answered.2 in
    let first = (g.H.Host.state c.args.host.now).files in
    let old = (g.H.Host.state c.loop-file.host).files in
    let new = (g.H.Host.state c.write_file.new.host).files in
    subst (λ r. WritesFiles (map (file_of schedule) c.args.files.now) first new r) (sym failed)
    (c.loop-file.invariant.files (Err e) new
    (subst (λ (files : List File). WritesFiles {T = ℕ} files old new (Err e)) (sym (left_is schedule c.args.files.now i w c.loop-file-test.true c.file-item.is))
    (first_fails e (file_of schedule w) (map (file_of schedule) (drop (i + 1) c.args.files.now)) old new c.in_err-write_file.ensures.files)))

pub returns-in_err-write_file-clause-calls : goal.returns-in_err-write_file-clause-calls
returns-in_err-write_file-clause-calls g c =
    let schedule = c.args.schedule.now in
    let i = c.loop-file.file-index in
    let w = c.file-item.result in
    let e = c.in_err-write_file.field-0.0 in
    let answered = err_from_is_err_and c.from_residual.result c.from_residual.ensures.1 in
    let failed : c.from_residual.result ≡ Err e = answered.1 ∙ ap Err answered.2 in
    let first = (g.H.Host.state c.args.host.now).calls in
    let old = (g.H.Host.state c.loop-file.host).calls in
    let new = (g.H.Host.state c.write_file.new.host).calls in
    subst (λ r. MakesCalls (map write_call (map (file_of schedule) c.args.files.now)) first new (answer_way r)) (sym failed)
    (c.loop-file.invariant.calls (answer_way {T = ℕ} (Err e)) new
    (subst (λ (files : List File). MakesCalls (map write_call files) old new (answer_way {T = ℕ} (Err e)))
    (sym (left_is schedule c.args.files.now i w c.loop-file-test.true c.file-item.is))
    (first_call_fails e (file_of schedule w) (map write_call (map (file_of schedule) (drop (i + 1) c.args.files.now))) (g.H.Host.state c.loop-file.host).files
    (g.H.Host.state c.write_file.new.host).files old new c.in_err-write_file.ensures.files c.in_err-write_file.ensures.calls)))

pub loop-file-preserved : goal.loop-file-preserved
loop-file-preserved g c =
    let schedule = c.args.schedule.now in
    let i = c.loop-file.file-index in
    let w = c.file-item.result in
    let rest = map (file_of schedule) (drop (i + 1) c.args.files.now) in
    let left = sym (left_is schedule c.args.files.now i w c.loop-file-test.true c.file-item.is) in
    let old = g.H.Host.state c.loop-file.host in
    let mid = g.H.Host.state c.write_file.new.host in
    let before = c.loop-file.invariant in
    let h = c.in_ok-write_file.ensures in
    record {
      files = λ r new more.
          before.files r new (subst (λ (files : List File). WritesFiles files old.files new r) left
          (written_first (file_of schedule w) rest old.files mid.files new r h.files more));
      calls = λ way new more.
          before.calls way new
          (subst (λ (files : List File). MakesCalls (map write_call files) old.calls new way) left
          (made_after (write_call (file_of schedule w) ∷ []) (map write_call rest) old.calls mid.calls new way h.calls more));
      printed = λ P is. h.printed P (before.printed P is);
      faults = h.count ∙ before.faults;
    }

pub returns-clause-files : goal.returns-clause-files
returns-clause-files g c =
    let now = (g.H.Host.state c.loop-file.host).files in
    c.loop-file.invariant.files (Ok 0) now
    (subst (λ (files : List File). WritesFiles {T = ℕ} files now now (Ok 0))
    (sym (left_none c.args.schedule.now c.args.files.now c.loop-file.file-index c.loop-file-test.false)) (λ F is. is))

pub returns-clause-calls : goal.returns-clause-calls
returns-clause-calls g c =
    let now = (g.H.Host.state c.loop-file.host).calls in
    c.loop-file.invariant.calls to_end now
    (subst (λ (files : List File). MakesCalls (map write_call files) now now to_end)
    (sym (left_none c.args.schedule.now c.args.files.now c.loop-file.file-index c.loop-file-test.false))
    (λ made is. is ∙ ap Some (sym (append-nil made))))
