-- What is found, of what was counted and written.
use Rattle.std.proofs.Common.{◌≡◌, ◌≢◌, ◌∙◌, ℕ, List, [], None, false, true, ap, refl, subst}
use Rattle.std.specs.List.{All}
use Rattle.std.specs.Prelude.{IfSome}
use Rattle.std.proofs.lemmas.List.Elements.{All-same, All-weaker}
use Rattle.hm_base.specs.Image.{Segment}
use Rattle.hm_codes.specs.Listing.{Listing}
use Rattle.hm_run_laws.specs.Runs.{shown_out}
use Rattle.hm_run.specs.Report.{report_text}
use Rattle.hm_sched.specs.Schedule.{Sched}
use Rattle.hm_shake.proofs.Apart.{files_named}
use Rattle.hm_shake.proofs.Ends.{never_rule, one_report}
use Rattle.hm_shake.specs.Counts.{AreCounted, IsCounted}
use Rattle.hm_shake.specs.Ends.{Halts, ends_in, plain_end}
use Rattle.hm_shake.specs.Findings.{AreFiled, Finds, FindsFor, IsFiled, IsFoundIn, IsReport}
use Rattle.hm_shake.specs.Kinds.{is_halt}
use Rattle.hm_shake.specs.Numbers.{HasNumbers}
use Rattle.hm_shake.specs.declared.shaking.Findings.{Findings}
use Rattle.hm_shake_runs.specs.Heads.{bare, interrupts_of}
use Rattle.hm_shake_runs.specs.Shaken.{shaken_schedule}
use Rattle.hm_shake_runs.specs.declared.found.Found.{Found}
use Rattle.hm_shake_runs.specs.declared.head.Head.{Head}
use Rattle.hm_shake_runs.specs.declared.kinds.Ended.{Ended}
use Rattle.hm_shake_runs.specs.declared.kinds.Kind.TheVariants as kind
use Rattle.hm_shake_runs.specs.declared.plan.Plan.{Plan}

-- the report of a run that halts is that of all
pub report_so : (listing : Listing) (image : List Segment) (p : Plan) (h : Head) (irqs : List ℕ) (found : Found) (report : List ℕ) → is_halt found.kind ≡ true
    → IsFoundIn listing image p h irqs found → report ≡ report_text (shown_out listing image (shaken_schedule p h irqs found.run))
    → IsReport listing image p h irqs report
report_so listing image p h irqs found report halt found_in is =
    let s = shaken_schedule p h irqs found.run in
    let halts : Halts listing image s = ap (λ (e : Ended). is_halt e.kind) found_in.ended ∙ halt in
    record { run = found.run; one = found_in.one; halts = halts; shown = λ t other. is ∙ one_report listing image s t halts other }

-- all that is found
pub found_so : (listing : Listing) (image : List Segment) (s : Sched) (f : Findings) (p : Plan) (h : Head) (irqs : List ℕ) (xs ys : List Found)
    → AreCounted (ends_in listing image p h irqs) p.runs f.kinds.items → xs ≡ f.kinds.items → ys ≡ f.kinds.items → irqs ≡ interrupts_of s
    → bare h ≡ record s { lines = [] }
    → f.plain ≡ (plain_end listing image).kind → p.ticks ≡ (plain_end listing image).ticks
    → (All (IsFoundIn listing image p h irqs) xs → IfSome f.report (λ bytes. IsReport listing image p h irqs bytes.items))
    → (f.report ≡ None → All (λ x. is_halt x.kind ≡ false) xs)
    → (All (IsFoundIn listing image p h irqs) ys → AreFiled (IsFiled listing image p h irqs) f.plain ys f.files.items)
    → All (λ w. HasNumbers w.kind) f.files.items
    → FindsFor listing image p.seed p.runs s f
found_so listing image s f p h irqs xs ys counted xs_are ys_are irqs_are same plain ticks report none files fit =
    let all : All (IsFoundIn listing image p h irqs) f.kinds.items =
    All-weaker (IsCounted (ends_in listing image p h irqs) p.runs) (IsFoundIn listing image p h irqs) (λ x is. is.came)
    f.kinds.items counted.each in
    let filed : AreFiled (IsFiled listing image p h irqs) f.plain f.kinds.items f.files.items =
    subst (λ (ks : List Found). AreFiled (IsFiled listing image p h irqs) f.plain ks f.files.items) ys_are
    (files (All-same (IsFoundIn listing image p h irqs) ys f.kinds.items ys_are all)) in
    let finds : Finds listing image p h irqs f = record {
      plain = plain;
      ticks = ticks;
      kinds = counted;
      lawful = All-weaker (IsCounted (ends_in listing image p h irqs) p.runs) (λ x. x.kind ≢ kind.Rule)
          (λ x is e. never_rule listing image p h irqs x.run (ap (λ (z : Ended). z.kind) is.came.ended ∙ e)) f.kinds.items counted.each;
      files = filed;
      names =
          files_named (ends_in listing image p h irqs) p.runs (IsFiled listing image p h irqs) f.plain f.kinds.items f.files.items (λ x w is. is.kind)
          counted.order filed fit;
      report = report (All-same (IsFoundIn listing image p h irqs) xs f.kinds.items xs_are all);
      none = λ e. subst (λ (ks : List Found). All (λ (x : Found). is_halt x.kind ≡ false) ks) xs_are (none e);
    } in
    record { plan = p; seed_is = refl; runs_are = refl; head = h; same = same; finds = subst (λ (ns : List ℕ). Finds listing image p h ns f) irqs_are finds }
