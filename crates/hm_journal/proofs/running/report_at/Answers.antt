use Rattle.std.proofs.Common.{◌≡◌, true, false, ap, subst, sym, ◌∙◌, string_bytes}
use Rattle.std.proofs.lemmas.Str.{IsUtf8-from_ascii}
use Rattle.std.specs.Str.{IsAscii}
use Rattle.hm_machine.specs.Shown.{timed_of}
use Rattle.hm_report_lines.proofs.Ascii.{report_text_is}
use Rattle.hm_journal.proofs.Reports.{reported}
use Rattle.hm_journal.proofs.running.report_at.Goals as goal

-- a report is ASCII, so it is text
pub unreachable-requires-in-Err : goal.unreachable-requires-in-Err
unreachable-requires-in-Err c =
    let never : false ≡ true = c.in-Err.ensures.succeeds
    (IsUtf8-from_ascii c.in_ok-bytes.bytes.items (subst IsAscii (sym c.in_ok-bytes.ensures) (report_text_is (timed_of c.in-Ok.machine.now)))) in
    absurd cc

pub returns-clause-report : goal.returns-clause-report
returns-clause-report c = λ image s listing is tapes.
    reported listing image s c.args.tick c.in-Ok.machine.now (string_bytes c.in-Ok-from_utf8.report) is (c.in-Ok.ensures.shows image s tapes)
    (ap (λ v. v.items) c.in-Ok-from_utf8.ensures.ok ∙ c.in_ok-bytes.ensures)
