-- What a journal's JSON has under its keys.
use Rattle.std.proofs.Common.{◌≡◌, ℕ, ◌*◌, ◌≤◌, arith, ap, refl, subst, sym, ◌∙◌, codes, List, map, Some, option_and_then}
use Rattle.std.proofs.Math.Nat.{mul-le-mul}
use Rattle.std.proofs.lemmas.Option.{slice_get_within}
use Rattle.std.specs.Str.{IsUtf8}
use Rattle.serde_json.specs.Find.{as_array, get}
use Rattle.serde_json.specs.Read.{read}
use Rattle.serde_json.specs.View.{items_of}
use Rattle.hm_journal.specs.Journals.{AreSmall, IsJournal, IsJournalFile, Journaled, journal_data, checkpoint_data, number_at}

pub every_in : (j : Journaled) → number_at (codes "every") (journal_data j) ≡ Some j.every
every_in j = refl

pub checkpoints_in : (j : Journaled)
    → option_and_then as_array (get (codes "checkpoints") (journal_data j)) ≡ Some (items_of (map checkpoint_data j.checkpoints))
checkpoints_in j = refl

pub ticks_fit : (j : Journaled) → IsJournal j → AreSmall j.checkpoints
ticks_fit j sound k x at =
    let is = sound.ticks k x at in
    let few = sound.few in
    let most = sound.most in
    let h = slice_get_within j.checkpoints k x at in
    let below : k ≤ 63 = omega (arith, h, few) in
    let low : k * j.every ≤ 63 * 16777216 = mul-le-mul below most in
    omega (arith, is, low)

pub format_in : (j : Journaled) → number_at (codes "format") (journal_data j) ≡ Some j.format
format_in j = refl

-- bytes that read as a journal, under other names
pub file_of : (out bytes : List ℕ) (j k : Journaled) → out ≡ bytes → IsUtf8 bytes → read bytes ≡ Some (journal_data j) → j ≡ k → IsJournal k
    → IsJournalFile out k
file_of out bytes j k e text reads same sound =
    record { reads = (subst IsUtf8 (sym e) text, ap read e ∙ reads ∙ ap (λ (x : Journaled). Some (journal_data x)) same); sound = sound }
