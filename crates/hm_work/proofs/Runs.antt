-- Why a file is not run, and what a run of one comes to.
use Rattle.std.proofs.Common.{◌≡◌, ℕ, ◌%◌, nat_eq, arith, true, List, Option, Some, None, Result, Ok, Err, refl, sym, ap, subst, ◌∙◌}
use Rattle.std.specs.Prelude.{if◌then◌else◌}
use Rattle.std.proofs.lemmas.Bool.Decides.{nat_tests}
use Rattle.hm_base.specs.Image.{Segment}
use Rattle.hm_base.specs.Results.{FailsImage}
use Rattle.hm_state.specs.Start.{reset_pc}
use Rattle.hm_asm.specs.Sources.{GivesOutcome}
use Rattle.hm_asm.specs.declared.errors.AsmErr.{AsmErr}
use Rattle.hm_asm.specs.declared.errors.AsmErr.TheVariants as assembly
use Rattle.hm_base.specs.declared.errors.ImageErr.{ImageErr}
use Rattle.hm_base.specs.declared.errors.ImageErr.TheVariants as refusals
use Rattle.hm_codes.specs.Listing.{Listing}
use Rattle.hm_plan_laws.specs.Planned.{planned}
use Rattle.hm_sched.specs.Printed.{file_text}
use Rattle.hm_sched.specs.Schedule.{Sched}
use Rattle.hm_sched.specs.declared.errors.SchedErr.{SchedErr}
use Rattle.hm_work.specs.declared.work.Refusal.{Refusal}
use Rattle.hm_work.specs.declared.work.Refusal.TheVariants.{Image, Reset}
use Rattle.hm_work.specs.declared.work.Stop.{Stop}
use Rattle.hm_work.specs.declared.work.Stop.TheVariants.{NoMemory}
use Rattle.hm_work.specs.Commands.{IsAsmOutcome, IsDisOutcome, unless_refused, plan_outcome, run_outcome, seq_outcome}
use Rattle.hm_work.specs.Run.{reset_refusal}
use Rattle.hm_work.specs.Work.{Outcome, finishes, refuses, Gives, GivesOne, image_stop, source_stop}

-- ---- refusals

pub gives_at : (Is : Outcome → Type 0) (stop stop' : Stop) → stop ≡ stop' → GivesOne Is (Err stop') → GivesOne Is (Err stop)
gives_at Is stop stop' is g = rw is g

-- what is wrong with an image, where the image's refusal is an outcome
image_by : (Is : Outcome → Type 0) (e : ImageErr) (image : Result (List Segment) ImageErr) → FailsImage e image
    → ((d : ImageErr) → image ≡ Err d → Is (refuses (Image d))) → GivesOne Is (Err (image_stop e))
image_by Is refusals.OutOfMemory image fails refused = tt
image_by Is e image fails refused = refused e fails

pub run_image_refused : (listings : List Segment → Listing) (image : Result (List Segment) ImageErr) (read : Result Sched SchedErr) (memory : List ℕ)
    (e : ImageErr) (stop : Stop) → FailsImage e image → stop ≡ image_stop e
    → Gives (run_outcome listings image read memory) (Err stop)
run_image_refused listings image read memory e stop fails is =
    gives_at (λ (x : Outcome). x ≡ run_outcome listings image read memory) stop (image_stop e) is
    (image_by (λ (x : Outcome). x ≡ run_outcome listings image read memory) e image fails
    (λ d at. sym (ap (λ (i : Result (List Segment) ImageErr). run_outcome listings i read memory) at)))

pub seq_image_refused : (listings : List Segment → Listing) (image : Result (List Segment) ImageErr) (n : ℕ) (e : ImageErr) (stop : Stop) → FailsImage e image
    → stop ≡ image_stop e
    → Gives (seq_outcome listings image n) (Err stop)
seq_image_refused listings image n e stop fails is =
    gives_at (λ (x : Outcome). x ≡ seq_outcome listings image n) stop (image_stop e) is
    (image_by (λ (x : Outcome). x ≡ seq_outcome listings image n) e image fails
    (λ d at. sym (ap (λ (i : Result (List Segment) ImageErr). seq_outcome listings i n) at)))

pub dis_image_refused : (image : Result (List Segment) ImageErr) (lo hi : ℕ) (e : ImageErr) (stop : Stop) → FailsImage e image → stop ≡ image_stop e
    → GivesOne (IsDisOutcome image lo hi) (Err stop)
dis_image_refused image lo hi e stop fails is =
    gives_at (IsDisOutcome image lo hi) stop (image_stop e) is
    (image_by (IsDisOutcome image lo hi) e image fails
    (λ d at. subst (λ (i : Result (List Segment) ImageErr). IsDisOutcome i lo hi (refuses (Image d))) (sym at) refl))

-- a source that is refused
pub asm_source_refused : (source out : List ℕ) (e : AsmErr) (stop : Stop) → GivesOutcome source (Err e) → stop ≡ source_stop e
    → GivesOne (IsAsmOutcome source out) (Err stop)
asm_source_refused source out (assembly.Line k c kind) stop cause is =
    gives_at (IsAsmOutcome source out) stop (source_stop (assembly.Line k c kind)) is (Err (assembly.Line k c kind), cause, refl)
asm_source_refused source out assembly.OutOfMemory stop cause is = gives_at (IsAsmOutcome source out) stop NoMemory is tt

-- ---- runs

pub reset_refusal-odd : (image : List Segment) → reset_pc image % 2 ≡ 1 → reset_refusal image ≡ None
reset_refusal-odd image odd = even_refused (reset_pc image) odd where
  even_refused : (k : ℕ) → k % 2 ≡ 1 → (if nat_eq (k % 2) 0 then Some (Reset k) else None) ≡ None
  even_refused k h = grind (arith, nat_tests)

pub reset_refusal-even : (image : List Segment) (value : ℕ) → value ≡ reset_pc image → value % 2 ≡ 0 → reset_refusal image ≡ Some (Reset value)
reset_refusal-even image value is even =
    subst (λ (k : ℕ). refused_at (reset_pc image) ≡ Some (Reset k)) (sym is) (even_refused (reset_pc image) (subst (λ (k : ℕ). k % 2 ≡ 0) is even)) where
      refused_at : ℕ → Option Refusal
      refused_at k = if nat_eq (k % 2) 0 then Some (Reset k) else None

      even_refused : (k : ℕ) → k % 2 ≡ 0 → refused_at k ≡ Some (Reset k)
      even_refused k h = rw h refl

-- ---- plans

pub plan_written : (listings : List Segment → Listing) (read : Result (List Segment) ImageErr) (image : List Segment) (n : ℕ) (out bytes : List ℕ)
    → read ≡ Ok image → reset_pc image % 2 ≡ 1
    → bytes ≡ file_text (planned (listings image) image n) → finishes true (Some (out, bytes)) None ≡ plan_outcome listings read n out
plan_written listings read image n out bytes at odd is =
    ap (λ (b : List ℕ). finishes true (Some (out, b)) None) is
    ∙ sym (ap (λ (r : Result (List Segment) ImageErr). plan_outcome listings r n out) at
    ∙ ap (λ (why : Option Refusal). unless_refused why (finishes true (Some (out, file_text (planned (listings image) image n))) None))
    (reset_refusal-odd image odd))
