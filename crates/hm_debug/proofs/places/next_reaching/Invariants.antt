use Rattle.std.proofs.Common.{◌≡◌, ◌-◌}
use Rattle.hm_debug.specs.Answers.{next_at, reaches}
use Rattle.hm_debug.specs.Films.{Film, IsFilm}
use Rattle.hm_debug.proofs.places.next_reaching.Given as goal

abbrev pub invariant-loop-tick : goal.invariant-loop-tick
invariant-loop-tick l = record {
  stays : l.tape ≡ l.initial.tape;
  next : (f : Film) → IsFilm f l.initial.tape
      → next_at (λ u. reaches l.addr (f.at u)) l.place (l.last - l.place) ≡ next_at (λ u. reaches l.addr (f.at u)) l.tick (l.last - l.tick);
}
