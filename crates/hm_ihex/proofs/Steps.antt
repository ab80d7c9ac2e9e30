-- One line of a file, and the lines behind it.
use Rattle.std.proofs.Common.{◌≡◌, ℕ, ◌+◌, List, ◌∷◌, length, Result, Ok, Err, Some, refl, sym, ap, subst, ◌∙◌}
use Rattle.std.specs.Prelude.{option_and_then}
use Rattle.std.proofs.lemmas.List.{nil_from_length}
use Rattle.hm_base.specs.Results.{FailsImage}
use Rattle.hm_base.specs.declared.errors.ImageErr.{ImageErr}
use Rattle.hm_base.specs.declared.errors.ImageErr.TheVariants as refusals
use Rattle.hm_text_base.specs.Spans.{lines_of}
use Rattle.hm_ihex.specs.Files.{Reading, all_lines, by_record, ended_by, lines_in}
use Rattle.hm_ihex.specs.Meant.{IsNext}
use Rattle.hm_ihex.specs.Records.{Record, bytes_in, line_in, record_in}
use Rattle.hm_ihex.specs.declared.reading.Next.{Next}
use Rattle.hm_ihex.specs.declared.reading.Next.TheVariants.{End, More}
use Rattle.hm_ihex.proofs.Lines.{no_lines}

pub step : (k : ℕ) (r : Reading) (l : List ℕ) (ls : List (List ℕ)) → lines_in k r (l ∷ ls) ≡ by_record k r ls (λ q. lines_in (k + 1) q ls) (line_in l)
unfolding lines_in
step k r l ls = refl

pub by_more : (k : ℕ) (old new : Reading) (l : List ℕ) (ls : List (List ℕ)) (result : Result Next ImageErr) → IsNext k old new (line_in l) result
    → result ≡ Ok More → lines_in k old (l ∷ ls) ≡ lines_in (k + 1) new ls
by_more k old new l ls result h is = step k old l ls ∙ subst (λ (r : Result Next ImageErr). IsNext k old new (line_in l) r) is h ls (λ q. lines_in (k + 1) q ls)

pub by_end : (k : ℕ) (old new : Reading) (l : List ℕ) (ls : List (List ℕ)) (result : Result Next ImageErr) → IsNext k old new (line_in l) result
    → result ≡ Ok End → lines_in k old (l ∷ ls) ≡ ended_by k new.cells ls
by_end k old new l ls result h is = step k old l ls ∙ subst (λ (r : Result Next ImageErr). IsNext k old new (line_in l) r) is h ls (λ q. lines_in (k + 1) q ls)

fails_by : (k : ℕ) (old new : Reading) (l : List ℕ) (ls : List (List ℕ)) (e : ImageErr) → IsNext k old new (line_in l) (Err e)
    → FailsImage e (lines_in k old (l ∷ ls))
fails_by k old new l ls refusals.OutOfMemory h = tt
fails_by k old new l ls e h = step k old l ls ∙ h ls (λ q. lines_in (k + 1) q ls)

pub by_err : (k : ℕ) (old new : Reading) (l : List ℕ) (ls : List (List ℕ)) (e : ImageErr) (result : Result Next ImageErr) → IsNext k old new (line_in l) result
    → result ≡ Err e → FailsImage e (lines_in k old (l ∷ ls))
by_err k old new l ls e result h is = fails_by k old new l ls e (subst (λ (r : Result Next ImageErr). IsNext k old new (line_in l) r) is h)

-- no line is left, and none was the end record
pub by_none : (k : ℕ) (r : Reading) (text : List ℕ) → length text ≡ 0 → lines_in k r (all_lines (lines_of text)) ≡ Err (refusals.Hex k)
unfolding lines_in
by_none k r text none = ap (λ (t : List ℕ). lines_in k r (all_lines (lines_of t))) (nil_from_length text none) ∙ ap (lines_in k r) no_lines

-- the record of a line, by its digits and their bytes
pub line_of : (line digits bytes : List ℕ) (said : Record) → line ≡ 58 ∷ digits → Some bytes ≡ bytes_in digits → Some said ≡ record_in bytes
    → line_in line ≡ Some said
line_of line digits bytes said is b r = ap line_in is ∙ ap (option_and_then record_in) (sym b) ∙ sym r
