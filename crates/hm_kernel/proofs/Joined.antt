-- The image that is made of a text is a compiled one, and each text has one.
use Rattle.std.proofs.Common.{◌≡◌, ℕ, ◌<◌, ◌^◌, List, Some, length, refl, subst, sym, ◌∙◌, arith}
use Rattle.hm_base.specs.Image.{Segment, flash_byte}
use Rattle.hm_codes.specs.Listing.{IsListing, Listing}
use Rattle.hm_run_laws.proofs.Headlines.{headline_every}
use Rattle.hm_run_laws.specs.Runs.{shown_out}
use Rattle.hm_kernel.specs.Compiled.{Compiles, IsCompiled, Takes}
use Rattle.hm_kernel.proofs.Meaning.{one_meaning}
use Rattle.hm_kernel.proofs.One.{one_number}
use Rattle.hm_kernel_code.specs.Images.{IsMade}
use Rattle.hm_kernel_code.proofs.Exists.{some_made}
use Rattle.hm_kernel_code.proofs.Whole.{few_segments, first_word_is, is_image, is_sound}
use Rattle.hm_kernel_lang.specs.declared.text.Text.{Text}
use Rattle.hm_kernel_lang.specs.Language.{meaning, steps}
use Rattle.hm_kernel_lang.specs.Texts.{IsText}
use Rattle.hm_kernel.proofs.Theorem.{computes, file_of}
use Rattle.hm_kernel.specs.Theorem.{IsFileOf}
use Rattle.hm_kernel_text.proofs.Exists.{text_exists}
use Rattle.hm_kernel_text.specs.Written.{IsKernel, Written}
use Rattle.hm_run.specs.declared.Outcome.TheVariants.{Halted}
use Rattle.hm_run.specs.declared.Reason.{Reason}
use Rattle.hm_run.specs.Report.{memory_text, report_text}
use Rattle.hm_sched.specs.Schedule.{Sched}

pub is_compiled : (x : Text) (image : List Segment) → IsText x → IsMade x image → IsCompiled x image
is_compiled x image text made = record {
  text = text;
  sound = is_sound x image text made;
  holds = is_image x image text made;
  first = first_word_is x image text made;
  few = let n = few_segments x image text made in omega arith;
  computes = λ listing lists. computes x image listing text (is_image x image text made) lists;
}

-- bytes that a file may hold are compiled to an image, where they say a text
pub some_compiled : (bytes : List ℕ) (w : Written) → length bytes < 2 ^ 63 → IsKernel bytes w → (image : List Segment) × Compiles bytes image
some_compiled bytes w short says =
    let said = text_exists bytes w short says in
    let made = some_made said.text said.sound in
    (made.0, record { text = said.text; says = subst (IsKernel bytes) (sym said.is) says; compiled = is_compiled said.text made.0 said.sound made.1 })

-- the bytes of its text take its steps
pub same_steps : (bytes : List ℕ) (image : List Segment) (n : ℕ) (compiled : Compiles bytes image) → Takes bytes n → n ≡ steps compiled.text
same_steps bytes image n compiled takes = takes.steps_are
    ∙ one_number bytes takes.text compiled.text takes.sound compiled.compiled.text takes.says compiled.says

-- bytes say one meaning
pub same_meanings : (bytes : List ℕ) (image other : List Segment) (one : Compiles bytes image) (two : Compiles bytes other)
    → meaning one.text ≡ meaning two.text
same_meanings bytes image other one two = one_meaning bytes one.text two.text one.compiled.text two.compiled.text one.says two.says

-- whatever run halts, has done the code of the text
pub file_of_run : (x : Text) (image : List Segment) (listing : Listing) (s : Sched) (reason : Reason) (n : ℕ) → IsCompiled x image
    → IsListing (flash_byte image) listing
    → (shown_out listing image s).outcome ≡ Some (Halted reason n) → IsFileOf x (memory_text (shown_out listing image s)) reason n
file_of_run x image listing s reason n compiled lists halts =
    let out = shown_out listing image s in
    let in_order = (headline_every listing image s (report_text out) (memory_text out) refl refl).in_order reason n halts in
    file_of x image listing (report_text out) (memory_text out) reason n compiled.text compiled.holds lists in_order
