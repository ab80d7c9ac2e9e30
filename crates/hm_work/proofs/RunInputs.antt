-- An image and a schedule as they were read, and what comes of them.
use Rattle.std.proofs.Common.{◌≡◌, ◌%◌, List, Option, Result, Ok, Err, refl, sym, ap, subst, ◌∙◌}
use Rattle.hm_base.specs.Image.{Segment}
use Rattle.hm_base.specs.Results.{FailsImage}
use Rattle.hm_base.specs.declared.errors.ImageErr.{ImageErr}
use Rattle.hm_base.specs.declared.errors.ImageErr.TheVariants as refusals
use Rattle.hm_machine.specs.Calls.{LoadRefuses}
use Rattle.hm_machine.specs.declared.load.LoadErr.{LoadErr}
use Rattle.hm_machine.specs.declared.load.LoadErr.TheVariants as load
use Rattle.hm_sched.specs.ReadFile.{Fails}
use Rattle.hm_sched.specs.Schedule.{Sched}
use Rattle.hm_sched.specs.declared.errors.SchedErr.{SchedErr}
use Rattle.hm_sched.specs.declared.errors.SchedErr.TheVariants as sched
use Rattle.hm_state.specs.Start.{reset_pc}
use Rattle.hm_work.specs.Commands.{OfRunBy, UnlessRefusedBy, run_refusal}
use Rattle.hm_work.specs.RunInputs.{GivesRun}
use Rattle.hm_work.specs.Run.{load_stop, reset_refusal, schedule_stop}
use Rattle.hm_work.specs.Work.{GivesBy, image_stop}
use Rattle.hm_work.specs.declared.work.Refusal.{Refusal}
use Rattle.hm_work.specs.declared.work.Refusal.TheVariants.{Reset}
use Rattle.hm_work.specs.declared.work.Stop.{Stop}
use Rattle.hm_work.proofs.Runs.{reset_refusal-even, reset_refusal-odd}

-- ---- reading

image_by_error : (e : ImageErr) (image : Result (List Segment) ImageErr) (schedule : Result Sched SchedErr) → FailsImage e image
    → GivesRun image schedule (Err (image_stop e))
image_by_error refusals.OutOfMemory image schedule fails = tt
image_by_error e image schedule fails = ap (λ (i : Result (List Segment) ImageErr). run_refusal i schedule) fails

pub image_refused : (e : ImageErr) (image : Result (List Segment) ImageErr) (schedule : Result Sched SchedErr) (stop : Stop) → FailsImage e image
    → stop ≡ image_stop e → GivesRun image schedule (Err stop)
image_refused e image schedule stop fails is = subst (λ (s : Stop). GivesRun image schedule (Err s)) (sym is) (image_by_error e image schedule fails)

schedule_by_error : (e : SchedErr) (i : List Segment) (image : Result (List Segment) ImageErr) (schedule : Result Sched SchedErr) → image ≡ Ok i
    → Fails e schedule → GivesRun image schedule (Err (schedule_stop e))
schedule_by_error sched.OutOfMemory i image schedule at fails = tt
schedule_by_error e i image schedule at fails = ap (λ (x : Result (List Segment) ImageErr). run_refusal x schedule) at ∙ ap (run_refusal (Ok i)) fails

pub schedule_refused : (e : SchedErr) (i : List Segment) (image : Result (List Segment) ImageErr) (schedule : Result Sched SchedErr) (stop : Stop)
    → image ≡ Ok i → Fails e schedule → stop ≡ schedule_stop e → GivesRun image schedule (Err stop)
schedule_refused e i image schedule stop at fails is =
    subst (λ (s : Stop). GivesRun image schedule (Err s)) (sym is) (schedule_by_error e i image schedule at fails)

-- In what follows, given and refused say what an answer and a refusal stand for.
-- ---- what comes of both

pub run_goes_on : {A T : Type 0} (given : A → T) (refused : Refusal → T) (image : Result (List Segment) ImageErr) (schedule : Result Sched SchedErr)
    (i : List Segment) (s : Sched) (Is : List Segment → Sched → T → Type 0) (answer : Result A Stop) → image ≡ Ok i → schedule ≡ Ok s
    → GivesBy given refused (Is i s) answer → GivesBy given refused (OfRunBy refused image schedule Is) answer
run_goes_on given refused image schedule i s Is answer at is h =
    subst (λ (x : Result (List Segment) ImageErr). GivesBy given refused (OfRunBy refused x schedule Is) answer) (sym at)
    (subst (λ (x : Result Sched SchedErr). GivesBy given refused (OfRunBy refused (Ok i) x Is) answer) (sym is) h)

-- ---- loading

load_by_error : {A T : Type 0} (given : A → T) (refused : Refusal → T) (image : List Segment) (Is : T → Type 0) (e : LoadErr) → LoadRefuses image e
    → GivesBy given refused (UnlessRefusedBy refused (reset_refusal image) Is) (Err (load_stop e))
load_by_error given refused image Is (load.Reset value) h =
    subst (λ (why : Option Refusal). UnlessRefusedBy refused why Is (refused (Reset value))) (sym (reset_refusal-even image value h.0 h.1)) refl
load_by_error given refused image Is load.OutOfMemory h = tt

pub load_stops : {A T : Type 0} (given : A → T) (refused : Refusal → T) (image : List Segment) (Is : T → Type 0) (e : LoadErr) (stop : Stop)
    → LoadRefuses image e → stop ≡ load_stop e → GivesBy given refused (UnlessRefusedBy refused (reset_refusal image) Is) (Err stop)
load_stops given refused image Is e stop h is =
    subst (λ (s : Stop). GivesBy given refused (UnlessRefusedBy refused (reset_refusal image) Is) (Err s)) (sym is) (load_by_error given refused image Is e h)

pub load_goes_on : {A T : Type 0} (given : A → T) (refused : Refusal → T) (image : List Segment) (Is : T → Type 0) (answer : Result A Stop)
    → reset_pc image % 2 ≡ 1 → GivesBy given refused Is answer → GivesBy given refused (UnlessRefusedBy refused (reset_refusal image) Is) answer
load_goes_on given refused image Is answer odd h =
    subst (λ (why : Option Refusal). GivesBy given refused (UnlessRefusedBy refused why Is) answer) (sym (reset_refusal-odd image odd)) h
