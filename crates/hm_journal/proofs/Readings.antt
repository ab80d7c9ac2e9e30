-- Bytes come to one outcome, and to one alone.
use Rattle.std.proofs.Common.{◌≡◌, ℕ, ap, refl, subst, sym, ◌∙◌, Bool, true, false, inl, inr, List, codes, Option, Some, None, Result, Ok, Err}
use Rattle.std.proofs.lemmas.Str.{IsUtf8-from_is_utf8, is_utf8-from_IsUtf8}
use Rattle.std.specs.Str.{IsUtf8, is_utf8}
use Rattle.serde_json.specs.Data.{Data}
use Rattle.serde_json.specs.Read.{read}
use Rattle.hm_journal.proofs.Deciding.{OrNone, format_or, journal_or, one_journal, sound_or}
use Rattle.hm_journal.proofs.Found.{format_in}
use Rattle.hm_journal.specs.Journals.{HasFormat, IsFormat, IsJournal, IsJournalFile, Journaled, Reads, journal_data, number_at}
use Rattle.hm_journal.specs.Outcomes.{IsNoFormat, IsNoShape, IsReading}
use Rattle.hm_journal.specs.declared.journal.JournalErr.{JournalErr}
use Rattle.hm_journal.specs.declared.journal.JournalErr.TheVariants as err

-- SOME
abbrev SomeOutcome : List ℕ → Type 0
SomeOutcome bytes = (r : Result Journaled JournalErr) × IsReading bytes r

module _ (bytes : List ℕ) (d : Data) (reads : Reads bytes d) where
  with_shape : (n : ℕ) → HasFormat d n → OrNone Journaled (λ j. d ≡ journal_data j) → SomeOutcome bytes
  with_shape n has (inr never) = (Err err.Shape, (d, reads, ((n, has), λ j sound is. never j is)))
  with_shape n has (inl found) =
      let j = found.0 in
      elim (sound_or j) [
        | inl sound ↦ (Ok j, record { reads = subst (λ x. Reads bytes x) found.1 reads; sound = sound })
        | inr never ↦ (Err err.Shape, (d, reads, ((n, has), λ k sound is. never (subst IsJournal (one_journal k j (sym is ∙ found.1)) sound))))
      ]

  with_format : (o : Option ℕ) → number_at (codes "format") d ≡ o → SomeOutcome bytes
  with_format None is = (Err err.Format, (d, reads, λ n has. let other : number_at (codes "format") d ≡ Some n = has.0 in cc))
  with_format (Some n) is =
      elim (format_or n) [
        | inl known ↦ with_shape n (is, known) (journal_or d)
        | inr never ↦ (
          Err err.Format,
          (
            d,
            reads,
            λ m has.
                let other : number_at (codes "format") d ≡ Some m = has.0 in
                let same : n ≡ m = cc in
                never (subst IsFormat (sym same) has.1),
          ),
        )
      ]

with_read : (bytes : List ℕ) → IsUtf8 bytes → (o : Option Data) → read bytes ≡ o → SomeOutcome bytes
with_read bytes text None is = (Err err.Json, λ d reads. let other : read bytes ≡ Some d = reads.1 in cc)
with_read bytes text (Some d) is = with_format bytes d (text, is) (number_at (codes "format") d) refl

with_text : (bytes : List ℕ) (b : Bool) → is_utf8 bytes ≡ b → SomeOutcome bytes
with_text bytes true is = with_read bytes (IsUtf8-from_is_utf8 bytes is) (read bytes) refl
with_text bytes false is = (Err err.Json, λ d reads. let other = is_utf8-from_IsUtf8 bytes reads.0 in cc)

pub some_outcome : (bytes : List ℕ) → (r : Result Journaled JournalErr) × IsReading bytes r
some_outcome bytes = with_text bytes (is_utf8 bytes) refl

-- AND ONE ALONE
one_value : (bytes : List ℕ) (d e : Data) → Reads bytes d → Reads bytes e → d ≡ e
one_value bytes d e first second =
    let a : read bytes ≡ Some d = first.1 in
    let b : read bytes ≡ Some e = second.1 in
    cc

has_format : (d : Data) (j : Journaled) → IsJournal j → d ≡ journal_data j → HasFormat d j.format
has_format d j sound is = (ap (number_at (codes "format")) is ∙ format_in j, sound.format)

journal_format : (bytes : List ℕ) (j : Journaled) → IsJournalFile bytes j → ¬ (IsNoFormat bytes)
journal_format bytes j file bad = bad.2 j.format (has_format bad.0 j file.sound (one_value bytes bad.0 (journal_data j) bad.1 file.reads))

journal_shape : (bytes : List ℕ) (j : Journaled) → IsJournalFile bytes j → ¬ (IsNoShape bytes)
journal_shape bytes j file bad = bad.2.1 j file.sound (one_value bytes bad.0 (journal_data j) bad.1 file.reads)

format_shape : (bytes : List ℕ) → IsNoFormat bytes → ¬ (IsNoShape bytes)
format_shape bytes bad other = bad.2 other.2.0.0 (subst (λ d. HasFormat d other.2.0.0) (one_value bytes other.0 bad.0 other.1 bad.1) other.2.0.1)

pub one_outcome : (bytes : List ℕ) (r s : Result Journaled JournalErr) → IsReading bytes r → IsReading bytes s → r ≡ s
one_outcome bytes (Ok j) (Ok k) a b = ap Ok (one_journal j k (one_value bytes (journal_data j) (journal_data k) a.reads b.reads))
one_outcome bytes (Ok j) (Err err.Json) a b = absurd (b (journal_data j) a.reads)
one_outcome bytes (Ok j) (Err err.Format) a b = absurd (journal_format bytes j a b)
one_outcome bytes (Ok j) (Err err.Shape) a b = absurd (journal_shape bytes j a b)
one_outcome bytes (Ok j) (Err e) a b = absurd b
one_outcome bytes (Err err.Json) (Ok k) a b = absurd (a (journal_data k) b.reads)
one_outcome bytes (Err err.Json) (Err err.Json) a b = refl
one_outcome bytes (Err err.Json) (Err err.Format) a b = absurd (a b.0 b.1)
one_outcome bytes (Err err.Json) (Err err.Shape) a b = absurd (a b.0 b.1)
one_outcome bytes (Err err.Json) (Err e) a b = absurd b
one_outcome bytes (Err err.Format) (Ok k) a b = absurd (journal_format bytes k b a)
one_outcome bytes (Err err.Format) (Err err.Json) a b = absurd (b a.0 a.1)
one_outcome bytes (Err err.Format) (Err err.Format) a b = refl
one_outcome bytes (Err err.Format) (Err err.Shape) a b = absurd (format_shape bytes a b)
one_outcome bytes (Err err.Format) (Err e) a b = absurd b
one_outcome bytes (Err err.Shape) (Ok k) a b = absurd (journal_shape bytes k b a)
one_outcome bytes (Err err.Shape) (Err err.Json) a b = absurd (b a.0 a.1)
one_outcome bytes (Err err.Shape) (Err err.Format) a b = absurd (format_shape bytes b a)
one_outcome bytes (Err err.Shape) (Err err.Shape) a b = refl
one_outcome bytes (Err err.Shape) (Err e) a b = absurd b
one_outcome bytes (Err e) s a b = absurd a
