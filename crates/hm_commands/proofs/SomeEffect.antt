-- Words have an effect.
use Rattle.std.proofs.Common.{◌≡◌, ◌≤◌, ℕ, Bool, true, false, List, [], ◌∷◌, length, Option, Some, None, refl, ap, subst, arith}
use Rattle.std.specs.FinMap.{get}
use Rattle.std.specs.Prelude.{get_or, nat_lt, if◌then◌else◌}
use Rattle.std.proofs.lemmas.Bool.Decides.{nat_tests}
use Rattle.hm_base.specs.Image.{Segment}
use Rattle.hm_codes.specs.Listing.{Listing}
use Rattle.hm_host.specs.Host.{FileMap, longest}
use Rattle.hm_work.specs.declared.work.Refusal.TheVariants.{FileTooLarge}
use Rattle.hm_commands.specs.Effect.{Effect, Reading, whole, too_large, missing, after_contents, then_read, reading_of, reads_for, effect_for, no_effect}
use Rattle.hm_commands.specs.Effect.{usage_effect, IsEffect, IsEffectAfter}
use Rattle.hm_work.specs.Work.{refuses}
use Rattle.hm_words.specs.Words.{Form, dis, form_of, IsRange}
use Rattle.hm_words.proofs.Forms.{form_of-is_dis}
use Rattle.hm_work.proofs.SomeOutcome.{some_comes}

-- what is read is no longer than a file may be
after_fits : (bytes : List ℕ) (others : Reading) (contents : List (List ℕ)) → after_contents (bytes ∷ []) others ≡ whole contents → length bytes ≤ longest
    → length (get_or contents 0 []) ≤ longest
after_fits bytes (whole more) contents is fits = subst (λ (c : List (List ℕ)). length (get_or c 0 []) ≤ longest) (whole_is (bytes ∷ more) contents is) fits
  where
    whole_is : (x y : List (List ℕ)) → whole x ≡ whole y → x ≡ y
    whole_is x y e = cc
after_fits bytes too_large contents is fits = absurd cc
after_fits bytes missing contents is fits = absurd cc

read_fits : (t : Bool) (bytes : List ℕ) (others : Reading) (contents : List (List ℕ)) → nat_lt longest (length bytes) ≡ t
    → (if t then too_large else after_contents (bytes ∷ []) others) ≡ whole contents
    → length (get_or contents 0 []) ≤ longest
read_fits true bytes others contents test is = absurd cc
read_fits false bytes others contents test is = after_fits bytes others contents is (grind (arith, nat_tests))

first_fits : (F : FileMap) (names : List (List ℕ)) (contents : List (List ℕ)) → reading_of F names ≡ whole contents → length (get_or contents 0 []) ≤ longest
first_fits F [] contents is = subst (λ (c : List (List ℕ)). length (get_or c 0 []) ≤ longest) (let e : [] ≡ contents = cc in e)
    (let none : 0 ≤ longest = omega arith in none)
first_fits F (name ∷ names) contents is = by_file (get F name) is
  where
    by_file : (file : Option (List ℕ)) → then_read file (reading_of F names) ≡ whole contents → length (get_or contents 0 []) ≤ longest
    by_file None e = absurd cc
    by_file (Some bytes) e = read_fits (nat_lt longest (length bytes)) bytes (reading_of F names) contents refl e

some_after : (listings : List Segment → Listing) (form : Option Form) (reading : Reading)
    → ((contents : List (List ℕ)) → reading ≡ whole contents → length (get_or contents 0 []) ≤ longest)
    → ((image : List ℕ) (lo hi : ℕ) → form ≡ Some (dis image lo hi) → IsRange lo hi) → (e : Effect) × IsEffectAfter listings form reading e
some_after listings None reading fits r = (usage_effect, refl)
some_after listings (Some form) (whole contents) fits r =
    let x = some_comes listings form contents (λ image lo hi e. r image lo hi (ap (λ (f : Form). Some f) e)) (fits contents refl) in
    (effect_for x.0, (x.0, x.1, refl))
some_after listings (Some form) too_large fits r = (effect_for (refuses FileTooLarge), refl)
some_after listings (Some form) missing fits r = (no_effect, refl)

pub some_effect : (listings : List Segment → Listing) (words : List (List ℕ)) (F : FileMap) → (e : Effect) × IsEffect listings words F e
some_effect listings words F =
    some_after listings (form_of words) (reading_of F (reads_for (form_of words))) (first_fits F (reads_for (form_of words)))
    (λ image lo hi e. (form_of-is_dis words image lo hi e).range)
