-- How a run ended, by the machine that shows it.
use Rattle.std.proofs.Common.{◌≡◌, ◌≢◌, ℕ, List, length, ap, refl, sym, subst, ◌∙◌, false, true, Option, Some, None}
use Rattle.std.specs.Prelude.{IfSome}
use Rattle.hm_base.specs.Image.{Segment, flash_byte}
use Rattle.hm_codes.specs.Listing.{IsListing, Listing}
use Rattle.hm_run_laws.proofs.Alike.{alike_every}
use Rattle.hm_run_laws.specs.Runs.{Run, run_out, shown_out}
use Rattle.hm_machine.specs.Shown.{Shown, Shows, timed_of}
use Rattle.hm_run.specs.Report.{report_text}
use Rattle.hm_run.specs.declared.Outcome.{Outcome}
use Rattle.hm_run.specs.declared.Outcome.TheVariants as outcome
use Rattle.hm_run.specs.declared.Offence.{Offence}
use Rattle.hm_run.specs.declared.Offence.TheVariants as offence
use Rattle.hm_exc.specs.declared.types.Broken.TheVariants as broken
use Rattle.hm_run.specs.declared.Reason.{Reason}
use Rattle.hm_sched.specs.Schedule.{Sched, ticks_of}
use Rattle.hm_shake.proofs.Fewer.{cut_ticks_all}
use Rattle.hm_shake.specs.Ends.{EndsAs, EndsInLast, EndsOtherwise, Halts, ended_plain, ended_under, ends_in, kind_or}
use Rattle.hm_shake.specs.Kinds.{is_halt}
use Rattle.hm_shake_runs.proofs.Cutting.{cut_same, out_few}
use Rattle.hm_shake_runs.proofs.Letters.{breaks_no_rule, shaken_older}
use Rattle.hm_shake_runs.proofs.Wholes.{whole_begun, whole_outcome}
use Rattle.hm_shake_runs.specs.Heads.{bare, whole_ticks}
use Rattle.hm_shake_runs.specs.Kinds.{kind_of}
use Rattle.hm_shake_runs.specs.Stretches.{cut, with_stretches}
use Rattle.hm_shake_runs.specs.declared.head.Head.{Head}
use Rattle.hm_shake_runs.specs.declared.stretches.Stretch.{Stretch}
use Rattle.hm_shake_runs.specs.declared.kinds.Ended.{Ended}
use Rattle.hm_shake_runs.specs.declared.kinds.Kind.{Kind}
use Rattle.hm_shake_runs.specs.declared.kinds.Kind.TheVariants as kind
use Rattle.hm_shake_runs.specs.declared.plan.Plan.{Plan}
use Rattle.hm_shake_runs.specs.Shaken.{shaken_schedule}
use Rattle.hm_window.specs.declared.rule.Rule.{Rule}

abbrev ended_in : Run → Ended
ended_in x = record { kind = kind_or x.outcome; ticks = x.ticks }

module _ (listing : Listing) (image : List Segment) (s : Sched) (m : Shown) (shows : Shows image s (length (ticks_of s.lines)) m)
    (is : IsListing (flash_byte image) listing) where
  pub ends_so : (o : Outcome) (k : Kind) (t : ℕ) → m.outcome ≡ Some o → k ≡ kind_of o → t ≡ (timed_of m).ticks
      → record { kind = k; ticks = t } ≡ ended_under listing image s
  unfolding ended_under
  ends_so o k t e f g =
      (λ j. record { kind = (f ∙ ap kind_or (sym e)) j; ticks = g j }) ∙ ap ended_in (shows.now listing is)

-- whole instructions end alike under every head
pub plain_so : (listing : Listing) (image : List Segment) (h : Head) (n : ℕ) → ended_under listing image (whole_ticks h n) ≡ ended_plain listing image n
unfolding ended_under ended_plain
plain_so listing image h n = λ j. record { kind = kind_or (whole_outcome image listing h n j); ticks = whole_begun image listing h n j }

-- cut off behind the tick that ends it a run ends as it did
cut_ends : (listing : Listing) (image : List Segment) (h : Head) (xs : List Stretch)
    → ended_under listing image (with_stretches (cut (ended_under listing image (with_stretches xs (bare h))).ticks xs) (bare h))
    ≡ ended_under listing image (with_stretches xs (bare h))
unfolding ended_under
cut_ends listing image h xs = ap ended_in (cut_same listing image h xs)

-- and so it has the same kind
pub cut_so : (listing : Listing) (image : List Segment) (h : Head) (xs ys : List Stretch) (e : Ended) (k : Kind)
    → e ≡ ended_under listing image (with_stretches xs (bare h)) → e.kind ≡ k
    → ys ≡ cut e.ticks xs → EndsAs listing image k (with_stretches ys (bare h))
cut_so listing image h xs ys e k ends kind is =
    ap (λ (zs : List Stretch). (ended_under listing image (with_stretches zs (bare h))).kind) is
    ∙ ap (λ (n : ℕ). (ended_under listing image (with_stretches (cut n xs) (bare h))).kind) (ap (λ (x : Ended). x.ticks) ends)
    ∙ ap (λ (x : Ended). x.kind) (cut_ends listing image h xs ∙ sym ends) ∙ kind

-- its last tick is the last that there is
last_so : (listing : Listing) (image : List Segment) (h : Head) (xs : List Stretch)
    → EndsInLast listing image h (cut (ended_under listing image (with_stretches xs (bare h))).ticks xs)
unfolding ended_under
last_so listing image h xs =
    ap (λ (x : Run). x.ticks) (cut_same listing image h xs)
    ∙ sym (cut_ticks_all (run_out listing image (with_stretches xs (bare h))).ticks xs (out_few listing image h xs))

pub cut_last : (listing : Listing) (image : List Segment) (h : Head) (xs ys : List Stretch) (e : Ended)
    → e ≡ ended_under listing image (with_stretches xs (bare h)) → ys ≡ cut e.ticks xs → EndsInLast listing image h ys
cut_last listing image h xs ys e ends is =
    subst (EndsInLast listing image h) (sym (is ∙ ap (λ (x : Ended). cut x.ticks xs) ends)) (last_so listing image h xs)

-- one of another kind ends otherwise
pub other_so : (listing : Listing) (image : List Segment) (h : Head) (xs ys : List Stretch) (e : Ended) (k : Kind)
    → e ≡ ended_under listing image (with_stretches ys (bare h)) → ys ≡ xs → e.kind ≢ k → EndsOtherwise listing image k (with_stretches xs (bare h))
other_so listing image h xs ys e k ends is other same =
    other (ap (λ (x : Ended). x.kind) ends ∙ ap (λ (zs : List Stretch). (ended_under listing image (with_stretches zs (bare h))).kind) is ∙ same)

-- the kind of a handler that was broken is no halt and no broken rule
broken_kind : (t : ℕ) (x : Offence) → (is_halt (kind_of (outcome.HandlerBroken t x)) ≡ false) × (kind_of (outcome.HandlerBroken t x) ≢ kind.Rule)
broken_kind t (offence.Left (broken.ExcReturn value)) = (refl, λ e. absurd cc)
broken_kind t (offence.Left (broken.Register name entry now)) = (refl, λ e. absurd cc)
broken_kind t (offence.Left (broken.Frame addr)) = (refl, λ e. absurd cc)
broken_kind t (offence.Store addr) = (refl, λ e. absurd cc)
broken_kind t (offence.Call pc) = (refl, λ e. absurd cc)

-- a run whose kind is a halt halted
record HaltedSo (o : Option Outcome) : Type 0 where
  reason : Reason
  n : ℕ
  is : o ≡ Some (outcome.Halted reason n)

halted_so : (o : Option Outcome) → is_halt (kind_or o) ≡ true → HaltedSo o
halted_so (Some (outcome.Halted reason n)) h = record { reason = reason; n = n; is = refl }
halted_so (Some (outcome.HandlerBroken t x)) h = (let no : true ≡ false = sym h ∙ (broken_kind t x).0 in absurd cc)
halted_so o h = absurd cc

-- the kind of an outcome that is no broken rule is another
no_rule : (o : Outcome) → ((t step : ℕ) (r : Rule) → o ≢ outcome.RuleBroken t step r) → kind_of o ≢ kind.Rule
no_rule (outcome.RuleBroken t step r) none e = none t step r refl
no_rule (outcome.HandlerBroken t x) none e = (broken_kind t x).1 e
no_rule o none e = absurd cc

-- so is that of each run of a shake
pub never_rule : (listing : Listing) (image : List Segment) (p : Plan) (h : Head) (irqs : List ℕ) (run : ℕ)
    → (ends_in listing image p h irqs run).kind ≢ kind.Rule
unfolding ended_under
never_rule listing image p h irqs run = go (run_out listing image (shaken_schedule p h irqs run)).outcome refl
  where
    go : (o : Option Outcome) → (run_out listing image (shaken_schedule p h irqs run)).outcome ≡ o → kind_or o ≢ kind.Rule
    go None is e = absurd cc
    go (Some o) is e =
        no_rule o (λ t step r same. breaks_no_rule listing (shaken_schedule p h irqs run) image t step r (shaken_older p h irqs run) (is ∙ ap Some same)) e

-- an image shows one report under all schedules under which it halts
pub one_report : (listing : Listing) (image : List Segment) (s t : Sched) → Halts listing image s → Halts listing image t
    → report_text (shown_out listing image s) ≡ report_text (shown_out listing image t)
unfolding ended_under
one_report listing image s t h k =
    let a = halted_so (run_out listing image s).outcome h in
    let b = halted_so (run_out listing image t).outcome k in
    (alike_every listing image s t a.reason b.reason a.n b.n a.is b.is).report

-- what holds of a value, if there is one, holds of the value that is there
pub some_at : {A : Type 0} (o : Option A) (x y : A) (P : A → Type 0) → o ≡ Some x → y ≡ x → IfSome o P → P y
some_at {A} o x y P e f h = subst P (sym f) (subst (λ (o : Option A). IfSome o P) e h)
