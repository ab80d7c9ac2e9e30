-- What comes of a text of the array language.
use Rattle.std.proofs.Common.{◌≡◌, ℕ, List, Some, None, Result, Ok, Err, true, refl, sym, subst}
use Rattle.hm_base.specs.Image.{Segment}
use Rattle.hm_elf.proofs.ReadLaws.{image_again}
use Rattle.hm_elf.proofs.WriteLaws.{file_again}
use Rattle.hm_elf.specs.WriteImage.{elf_file}
use Rattle.hm_kernel.specs.Compiled.{Compiles}
use Rattle.hm_kernel_text.proofs.AgainFile.{kernel_again}
use Rattle.hm_kernel_text.specs.ReadFile.{Fails, kernel_in}
use Rattle.hm_kernel_text.specs.Written.{Written}
use Rattle.hm_kernel_text.specs.declared.errors.KernelErr.{KernelErr}
use Rattle.hm_kernel_text.specs.declared.errors.KernelErr.TheVariants as refusals
use Rattle.hm_work.specs.Commands.{IsCompiledFile, IsKernelOutcome}
use Rattle.hm_work.specs.Images.{image_of}
use Rattle.hm_work.specs.Work.{GivesOne, finishes, kernel_stop, refuses}
use Rattle.hm_work.specs.declared.work.Refusal.TheVariants.{Kernel}
use Rattle.hm_work.specs.declared.work.Stop.{Stop}
use Rattle.hm_work.specs.declared.work.Stop.TheVariants.{NoMemory}
use Rattle.hm_work.proofs.Runs.{gives_at}

-- a text that is refused
pub kernel_refused : (source out : List ℕ) (e : KernelErr) (stop : Stop) → Fails e (kernel_in source) → stop ≡ kernel_stop e
    → GivesOne (IsKernelOutcome source out) (Err stop)
kernel_refused source out refusals.OutOfMemory stop cause is = gives_at (IsKernelOutcome source out) stop NoMemory is tt
kernel_refused source out (refusals.Line k kind) stop cause is =
    gives_at (IsKernelOutcome source out) stop (kernel_stop (refusals.Line k kind)) is
    (subst (λ (r : Result Written KernelErr). IsCompiledFile source r out (refuses (Kernel (refusals.Line k kind)))) (sym cause) refl)

-- a text that is compiled
pub compiled_file : (source out : List ℕ) (image : List Segment) → Compiles source image
    → IsKernelOutcome source out (finishes true (Some (out, elf_file image)) None)
compiled_file source out image h =
    subst (λ (r : Result Written KernelErr). IsCompiledFile source r out (finishes true (Some (out, elf_file image)) None)) (sym (kernel_again source _ h.says))
    (image, h, refl)

-- the file of a compiled text holds its image
pub compiled_held : (source : List ℕ) (image : List Segment) → Compiles source image → image_of (elf_file image) ≡ Ok image
compiled_held source image h = image_again (elf_file image) image (file_again image h.compiled.sound h.compiled.few)
