-- Words have one effect, but for the image that a text of the array language is compiled to.
use Rattle.std.proofs.Common.{◌≡◌, ◌≢◌, ℕ, true, List, Option, Some, None, Result, Ok, Err, option_map, refl, sym, ap, subst, ◌∙◌, inl, inr}
use Rattle.hm_base.specs.Image.{Segment}
use Rattle.hm_codes.specs.Listing.{Listing}
use Rattle.hm_host.specs.Host.{FileMap}
use Rattle.hm_elf.specs.WriteImage.{elf_file}
use Rattle.hm_kernel_text.specs.ReadFile.{kernel_in}
use Rattle.hm_kernel_text.specs.Written.{Written}
use Rattle.hm_kernel_text.specs.declared.errors.KernelErr.{KernelErr}
use Rattle.std.specs.Prelude.{[], get_or}
use Rattle.hm_work.specs.Commands.{ComesTo, IsCompiledFile}
use Rattle.hm_commands.specs.Effect.{Effect, Reading, whole, too_large, missing, reading_of, reads_for, effect_for, IsEffect, IsEffectAfter}
use Rattle.hm_work.specs.Work.{Outcome, finishes}
use Rattle.hm_words.specs.Words.{Form, kernel, form_of}
use Rattle.hm_work.proofs.OneOutcome.{kernel_or_not, one_outcome}

one_after : (listings : List Segment → Listing) (form : Option Form) (reading : Reading) (d e : Effect)
    → ((source out : List ℕ) → form ≢ Some (kernel source out))
    → IsEffectAfter listings form reading d → IsEffectAfter listings form reading e → d ≡ e
one_after listings None reading d e apart x y = x ∙ sym y
one_after listings (Some form) (whole contents) d e apart x y =
    x.2 ∙ ap effect_for (one_outcome listings form contents x.0 y.0 (λ source out is. apart source out (ap (λ (f : Form). Some f) is)) x.1 y.1) ∙ sym y.2
one_after listings (Some form) too_large d e apart x y = x ∙ sym y
one_after listings (Some form) missing d e apart x y = x ∙ sym y

pub one_effect : (listings : List Segment → Listing) (words : List (List ℕ)) (F : FileMap) (d e : Effect)
    → ((source out : List ℕ) → form_of words ≢ Some (kernel source out))
    → IsEffect listings words F d → IsEffect listings words F e → d ≡ e
one_effect listings words F d e apart x y = one_after listings (form_of words) (reading_of F (reads_for (form_of words))) d e apart x y

-- ---- texts of the array language: effects are alike but for the bytes of the file

abbrev Alike : Effect → Effect → Type 0
Alike d e = (d.status ≡ e.status) × (d.text ≡ e.text) × (option_map (λ file. file.0) d.file ≡ option_map (λ file. file.0) e.file)

alike_same : (d e : Effect) → d ≡ e → Alike d e
alike_same d e is = subst (Alike d) is (refl, refl, refl)

alike_files : (source : List ℕ) (read : Result Written KernelErr) (out : List ℕ) (o p : Outcome) → IsCompiledFile source read out o
    → IsCompiledFile source read out p → Alike (effect_for o) (effect_for p)
alike_files source (Err e) out o p x y = alike_same (effect_for o) (effect_for p) (ap effect_for (x ∙ sym y))
alike_files source (Ok w) out o p x y =
    let first = finishes true (Some (out, elf_file x.0)) None in
    subst (λ (a : Outcome). Alike (effect_for a) (effect_for p)) (sym x.2)
    (subst (λ (b : Outcome). Alike (effect_for first) (effect_for b)) (sym y.2) (refl, refl, refl))

alike_outcomes : (listings : List Segment → Listing) (form : Form) (contents : List (List ℕ)) (o p : Outcome) → ComesTo listings form contents o
    → ComesTo listings form contents p → Alike (effect_for o) (effect_for p)
alike_outcomes listings form contents o p x y = elim (kernel_or_not form) [
  | inl of ↦ (
      let here = subst (λ (f : Form). ComesTo listings f contents o) of.2 x in
      let there = subst (λ (f : Form). ComesTo listings f contents p) of.2 y in
      alike_files (get_or contents 0 []) (kernel_in (get_or contents 0 [])) of.1 o p here there
      )
  | inr apart ↦ alike_same (effect_for o) (effect_for p) (ap effect_for (one_outcome listings form contents o p apart x y))
]

alike_after : (listings : List Segment → Listing) (form : Option Form) (reading : Reading) (d e : Effect) → IsEffectAfter listings form reading d
    → IsEffectAfter listings form reading e → Alike d e
alike_after listings None reading d e x y = alike_same d e (x ∙ sym y)
alike_after listings (Some form) (whole contents) d e x y =
    let outcomes = alike_outcomes listings form contents x.0 y.0 x.1 y.1 in
    subst (λ (a : Effect). Alike a e) (sym x.2) (subst (λ (b : Effect). Alike (effect_for x.0) b) (sym y.2) outcomes)
alike_after listings (Some form) too_large d e x y = alike_same d e (x ∙ sym y)
alike_after listings (Some form) missing d e x y = alike_same d e (x ∙ sym y)

pub alike_effects : (listings : List Segment → Listing) (words : List (List ℕ)) (F : FileMap) (d e : Effect) → IsEffect listings words F d
    → IsEffect listings words F e
    → (d.status ≡ e.status) × (d.text ≡ e.text) × (option_map (λ file. file.0) d.file ≡ option_map (λ file. file.0) e.file)
alike_effects listings words F d e x y = alike_after listings (form_of words) (reading_of F (reads_for (form_of words))) d e x y
