use Rattle.std.proofs.Common.{◌+◌, ◌∙◌, ap, arith, drop, get_or, sym}
use Rattle.hm_shake_runs.specs.Stretches.{without}
use Rattle.hm_shake_runs.proofs.Turns.{keeps_one, left_at, moved, none, passes_one, takes_none, takes_one}
use Rattle.hm_shake_runs.proofs.cuts.without.Goals.{then-is_some+then-before-gt0, then-is_some+else-before-gt0+then-left-gt0}
use Rattle.hm_shake_runs.proofs.cuts.without.Goals.{then-is_some+else-before-gt0+else-left-gt0, else-is_some}
use Rattle.hm_shake_runs.proofs.cuts.without.Goals as goal

pub loop-stretch-preserved : goal.loop-stretch-preserved
loop-stretch-preserved c =
    let xs = c.args.stretches.now in
    let i = c.loop-stretch.stretch-index in
    let k = c.loop-stretch.before in
    let n = c.loop-stretch.left in
    let x = get_or xs i none in
    let rest = drop (i + 1) xs in
    let here = ap (without k n) (left_at xs i c.loop-stretch-test.true) in
    moved c.loop-stretch.out.items c.push.new.self.items (without c.if-is_some.before c.if-is_some.left rest) (without k n (drop i xs)) _ c.if-is_some.one
    c.in_ok-push.ensures.items
    (elim c.if-is_some.branch [
      | then-is_some+then-before-gt0 w ↦ let one = keeps_one k n x rest (sym c.is_some.ensures ∙ w.if-is_some.true) (omega arith) in cc
      | then-is_some+else-before-gt0+then-left-gt0 w ↦ let one = takes_one k n x rest (sym c.is_some.ensures ∙ w.if-is_some.true) (omega arith) (omega arith) in
          cc
      | then-is_some+else-before-gt0+else-left-gt0 w ↦ let one = takes_none k n x rest (omega arith) (omega arith) in cc
      | else-is_some w ↦ let one = passes_one k n x rest (sym c.is_some.ensures ∙ w.if-is_some.false) in cc
    ])
    c.loop-stretch.invariant
