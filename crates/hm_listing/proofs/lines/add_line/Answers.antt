use Rattle.std.proofs.Common.{ℕ, ◌+◌, ap}
use Rattle.hm_listing.specs.Listings.{shown}
use Rattle.hm_listing.proofs.lines.add_line.Goals as goal

pub returns-in_ok-add_shown-in-Some-clause-added : goal.returns-in_ok-add_shown-in-Some-clause-added
returns-in_ok-add_shown-in-Some-clause-added c =
    (shown c.in-Some.i, c.in-Some.ensures.found, c.in_ok-add_shown-in-Some.ensures.added, ap (λ (n : ℕ). c.args.at + n) c.width.ensures)
