-- Readiness in so many words, and runs to which more ticks may be added.
use Rattle.std.proofs.Common.{◌≡◌, ◌↔◌, ◌+◌, ◌==◌, ◌&&◌, true, List, ◌∷◌, ◌++◌, drop, take, length, Option, Some, None, Ok, Err}
use Rattle.std.proofs.Common.{refl, sym, ◌∙◌, ap, eqb-true}
use Rattle.std.proofs.Math.Seq.{drop-append_seam, take-append_seam}
use Rattle.std.proofs.lemmas.Bool.{and_parts}
use Rattle.hm_base.specs.Image.{Segment}
use Rattle.hm_codes.specs.Listing.{Listing}
use Rattle.hm_isa.specs.declared.Vector.{Vector}
use Rattle.hm_order.specs.Beats.{then}
use Rattle.hm_order.specs.Machine.{Config, older, younger, younger_of}
use Rattle.hm_order.proofs.Results.{ok_err, then_ok_at}
use Rattle.hm_plan_laws.specs.Greedy.{IsReady}
use Rattle.hm_run_laws.proofs.Prefixes.{run_taken}
use Rattle.hm_run_laws.specs.Next.{after_ticks}
use Rattle.hm_run.specs.Program.{Program, Stepped}
use Rattle.hm_run_laws.specs.Runs.{Run, begin, closed, run}
use Rattle.hm_run.specs.Ready.{goes_on, is_ready}
use Rattle.hm_sched.specs.Schedule.{TickLine, Sched, ticks_of}
use Rattle.hm_state.specs.State.{State}
use Rattle.hm_window.specs.declared.rule.Rule.{Rule}

-- READINESS
module _ (M : Program) where
  -- a step of the younger that goes on breaks no rule
  pub rule_none : (r : Option Rule) (o : Option Vector) (c d : Config State) → younger_of M r o c ≡ Ok d → r ≡ None
  rule_none None o c d e = refl
  rule_none (Some b) o c d e = absurd (ok_err (sym e))

  second_of : (c d : Config State) (q : Stepped) → c.a ≡ 2 → c.b ≡ 0 → older M c ≡ Ok d → younger M d ≡ q → goes_on q ≡ true → IsReady M c
  second_of c d (Ok f) a b e y on = record {
    a = a;
    b = b;
    third = d;
    goes = e;
    no_rule = rule_none (M.rule (M.code (M.rows.view.pc d.state)) (M.code (M.rows.view.pc d.state + 4)) d) (M.code (M.rows.view.pc d.state + 4)) d f y;
    first = f;
    follows = y;
  }
  second_of c d (Err w) a b e y on = absurd cc

  first_of_two : (c : Config State) (r : Stepped) → c.a ≡ 2 → c.b ≡ 0 → older M c ≡ r → goes_on (then r (younger M)) ≡ true → IsReady M c
  first_of_two c (Ok d) a b e on = second_of c d (younger M d) a b e refl on
  first_of_two c (Err w) a b e on = absurd cc

  told : (c : Config State) → is_ready M c ≡ true → IsReady M c
  told c e =
      let first = and_parts (c.a == 2) ((c.b == 0) && goes_on (then (older M c) (younger M))) e in
      let second = and_parts (c.b == 0) (goes_on (then (older M c) (younger M))) first.1 in
      first_of_two c (older M c) (eqb-true c.a 2 first.0) (eqb-true c.b 0 second.0) refl second.1

  tells : (c : Config State) → IsReady M c → is_ready M c ≡ true
  tells c h = λ j. (h.a j == 2) && ((h.b j == 0) && goes_on ((then_ok_at (older M c) (younger M) h.third h.goes ∙ h.follows) j))

  pub ready : (c : Config State) → (is_ready M c ≡ true) ↔ IsReady M c
  ready c = (told c, tells c)

-- RUNS
pub open_run : (listing : Listing) (image : List Segment) (s : Sched) (given : List TickLine) (line : TickLine) (left : List TickLine)
    → ticks_of s.lines ≡ given ++ (line ∷ left) → run listing image s (length given) ≡ after_ticks listing s given (begin image s)
open_run listing image s given line left e =
    let by : List TickLine → Run = λ ticks. closed (drop (length given) ticks) (after_ticks listing s (take (length given) ticks) (begin image s)) in
    run_taken listing s image (length given) ∙ ap by e
    ∙ (λ j. closed (drop-append_seam given (line ∷ left) j) (after_ticks listing s (take-append_seam given (line ∷ left) j) (begin image s)))
