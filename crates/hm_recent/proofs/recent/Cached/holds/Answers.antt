use Rattle.std.proofs.Common.{◌≡◌, arith, ap, ◌∙◌, Some}
use Rattle.std.proofs.lemmas.Bool.Decides.{nat_tests}
use Rattle.hm_recent.specs.Kept.{entry_in}
use Rattle.hm_recent.proofs.recent.Cached.holds.Goals as goal

pub returns-then-kept-here : goal.returns-then-kept-here
returns-then-kept-here c = record {
  code = λ is.
      let kept = c.in-Some-Some.kept in
      let here = c.in-Some-Some.here in
      let first : kept.0 ≡ here.0 = c.if-kept-here.true in
      let second : kept.1 ≡ here.1 = grind (arith, nat_tests, is) in (
        c.in-Some.entry.instr,
        here,
        ap entry_in c.in-Some.is,
        c.in-Some-Some.is-1,
        c.in-Some.entry.code here.0 here.1 (c.in-Some-Some.is-0 ∙ (λ j. Some (first j, second j))),
      );
}
