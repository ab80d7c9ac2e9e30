use Rattle.std.proofs.Common.{◌≡◌, List, Some, ap, sym, ◌∙◌, string_bytes}
use Rattle.serde_json.specs.View.{view}
use Rattle.serde_json.specs.Written.{compact_text, has_float}
use Rattle.serde_json.specs.Read.{read}
use Rattle.hm_journal.proofs.Cuts.{tells}
use Rattle.hm_journal.proofs.Texts.{no_float, text_is}
use Rattle.hm_journal.specs.Journals.{Journaled, journal_data, journal_text}
use Rattle.hm_journal.specs.Views.{drafted, journal_with}
use Rattle.hm_journal.specs.declared.journal.Checkpoint.{Checkpoint}
use Rattle.hm_journal.proofs.reading.is_written.Goals as goal

pub returns : goal.returns
returns c =
    let d = c.args.d.now in
    let text = string_bytes c.in_ok-text.text in
    let own = string_bytes c.in_ok-own.own in
    let same = tells c.eq.result text own _ _ c.eq.ensures c.as_bytes.ensures.value c.as_bytes-2.ensures.value in
    let list = ap (λ (l : List Checkpoint). journal_with d.format d.every l) c.deref.ensures.value in
    let again = c.in_ok-own.ensures.reads_back ∙ ap (λ (j : Journaled). Some (journal_data j)) list in
    record {
      told = (
        λ t.
            let one : Some (view c.args.value.now) ≡ Some (journal_data (drafted d)) =
            sym (c.in_ok-text.ensures.reads_back c.requires.nests) ∙ ap read (same.0 t) ∙ again in
            (c.is_journal.ensures.0 c.if-not-is_journal.false, cc),
        λ h. same.1 (c.in_ok-text.ensures.text (ap has_float h.1 ∙ no_float (drafted d)) ∙ ap compact_text h.1 ∙ text_is (drafted d)
            ∙ sym (c.in_ok-own.ensures.text ∙ ap journal_text list)),
      );
    }
