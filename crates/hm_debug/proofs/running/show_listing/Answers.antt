use Rattle.std.proofs.Common.{ap, refl, sym, ◌++◌, ◌∙◌, ℕ, subst}
use Rattle.hm_codes.specs.Listing.{IsListing}
use Rattle.hm_debug.proofs.Showing.{film_flash, film_listed}
use Rattle.hm_debug.specs.Lines.{listing_lines}
use Rattle.hm_debug.proofs.running.show_listing.Goals as goal

pub returns-clause-gives : goal.returns-clause-gives
returns-clause-gives c f film =
    let flash = film_flash f _ _ _ film c.machine_at.ensures.shows in
    let listed = subst (λ (bytes : ℕ → ℕ). IsListing bytes f.listing) (sym flash) (film_listed f _ film) in
    let lines = λ (bytes : ℕ → ℕ). c.args.out.now.items ++ listing_lines bytes f.listing c.args.addr c.args.count in
    record { text = c.in_ok-add_listing.ensures.added f.listing listed ∙ ap lines flash; place_is = refl }
