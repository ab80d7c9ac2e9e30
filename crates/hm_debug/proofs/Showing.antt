-- What a machine of a tape shows of the run that the tape holds.
use Rattle.std.proofs.Common.{◌≡◌, ℕ, ap, sym, ◌∙◌, subst}
use Rattle.hm_codes.specs.Listing.{IsListing}
use Rattle.hm_debug.specs.Films.{Film, IsFilm, ShowsTick}
use Rattle.hm_run_laws.specs.Runs.{run}
use Rattle.hm_machine.proofs.Ticks.{timed_is}
use Rattle.hm_machine.specs.Shown.{Shown, timed_of}
use Rattle.hm_machine.specs.Taped.{Taped}
use Rattle.hm_mem.specs.Memory.{flash_at}

pub film_last : (f : Film) (w : Taped) → IsFilm f w → f.last ≡ w.last
film_last f w film = ap (λ (x : Film). x.last) film.is ∙ film.holds.last film.listing film.listed

pub film_listed : (f : Film) (w : Taped) → IsFilm f w → IsListing f.flash f.listing
film_listed f w film = subst (λ (x : Film). IsListing x.flash x.listing) (sym film.is) film.listed

pub shows_at : (f : Film) (w : Taped) (t : ℕ) (m : Shown) → IsFilm f w → ShowsTick w t m → timed_of m ≡ f.at t
shows_at f w t m film shows =
    timed_is m (run film.listing film.image film.schedule t) ((shows film.image film.schedule film.holds).now film.listing film.listed)
    ∙ ap (λ (x : Film). x.at t) (sym film.is)

-- flash at a tick
pub film_flash : (f : Film) (w : Taped) (t : ℕ) (m : Shown) → IsFilm f w → ShowsTick w t m → flash_at m.memory ≡ f.flash
film_flash f w t m film shows = (shows film.image film.schedule film.holds).bytes ∙ ap (λ (x : Film). x.flash) (sym film.is)
