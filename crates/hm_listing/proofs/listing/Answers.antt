use Rattle.std.proofs.Common.{ℕ, List, ◌++◌, ap, subst, ◌∙◌}
use Rattle.hm_listing.specs.Listings.{IsListed}
use Rattle.hm_listing.proofs.OneListing.{own_is}
use Rattle.hm_listing.proofs.listing.Goals as goal

pub returns-clause-own : goal.returns-clause-own
returns-clause-own c = λ i stands is.
    let lines = c.in_ok-add_lines.ensures.added in
    let listed = subst (λ (flash : ℕ → ℕ). IsListed flash c.args.lo c.args.hi lines.0) c.in_ok-m.ensures.flash lines.1 in
    lines.2 ∙ ap (λ (x : List ℕ). x ++ lines.0) c.in_ok-out.ensures.items ∙ own_is _ _ _ i lines.0 stands is listed
