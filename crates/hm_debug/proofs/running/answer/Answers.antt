use Rattle.std.proofs.Common.{ℕ, ◌-◌, sym, ◌∙◌, subst}
use Rattle.std.specs.Prelude.{IfOk}
use Rattle.hm_debug.proofs.Showing.{film_last}
use Rattle.hm_debug.specs.Answers.{Gives, found_or_end, next_at, reaches, to_tick}
use Rattle.hm_debug.proofs.running.answer.Goals as goal

pub returns-in-Goto-clause-gives : goal.returns-in-Goto-clause-gives
returns-in-Goto-clause-gives c f film =
    rw
    c.in-Goto.is
    (subst (λ (n : ℕ). IfOk c.go_to.result (λ tick. Gives (to_tick n c.in-Goto.tick) c.args.out.now.items c.go_to.new.out.items tick))
    (c.last-last.ensures.value ∙ sym (film_last f _ film))
    c.go_to.ensures.gives)

pub returns-in-Until-clause-gives : goal.returns-in-Until-clause-gives
returns-in-Until-clause-gives c f film =
    rw
    c.in-Until.is
    (subst
    (λ (n : ℕ). IfOk c.go_until.result
    (λ tick. Gives (found_or_end n (next_at (λ u. reaches c.in-Until.addr (f.at u)) c.args.place (n - c.args.place))) c.args.out.now.items
    c.go_until.new.out.items tick))
    (sym (film_last f _ film))
    (c.go_until.ensures.gives f film))

pub returns-in-Show-clause-gives : goal.returns-in-Show-clause-gives
returns-in-Show-clause-gives c f film = rw c.in-Show.is (c.show.ensures.gives f film)

pub returns-in-Memory-clause-gives : goal.returns-in-Memory-clause-gives
returns-in-Memory-clause-gives c f film = rw c.in-Memory.is (c.show_memory.ensures.gives f film)

pub returns-in-Listing-clause-gives : goal.returns-in-Listing-clause-gives
returns-in-Listing-clause-gives c f film = rw c.in-Listing.is (c.show_listing.ensures.gives f film)
