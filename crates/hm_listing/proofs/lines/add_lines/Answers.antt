use Rattle.std.proofs.Common.{◌≡◌, [], refl, sym, ◌∙◌, arith}
use Rattle.std.proofs.lemmas.List.{append-nil}
use Rattle.hm_listing.specs.Listings.{lines_from}
use Rattle.hm_listing.proofs.LinesLeft.{left_after}
use Rattle.hm_listing.proofs.lines.add_lines.Goals as goal

pub loop-at-preserved : goal.loop-at-preserved
loop-at-preserved c = record {
  even = c.in_ok-at.ensures.goes_on.2;
  within = c.in_ok-at.ensures.goes_on.1;
  lines = left_after _ _ _ _ _ _ _ _ c.loop-at.invariant.lines c.loop-at-test.true c.in_ok-at.ensures.added;
}

pub returns : goal.returns
returns c =
    let ended : c.loop-at.at ≡ c.args.hi = omega arith in
    let done = c.loop-at.invariant.lines [] ended in
    record { added = (lines_from c.args.lo done.0, (done.0, done.1, refl), sym (append-nil c.loop-at.out.items) ∙ done.2) }
