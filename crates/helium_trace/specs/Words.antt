-- THE WORDS OF THE PROGRAM: an image, a schedule, two ticks, and where a page is wanted `--html` and a file.
use Rattle.std.specs.Prelude.{ℕ, ◌-◌, ◌||◌, List, [], ◌∷◌, Option, Some, None, nat_eq, nat_le, nat_lt, if◌then◌else◌, option_map, option_and_then, codes}
use Rattle.std.specs.Prelude.{bytes_eq}
use Rattle.hm_sched.specs.Schedule.{most_ticks}
use Rattle.hm_text_base.specs.Numbers.{number_in}
use Rattle.hm_trace.specs.declared.running.Ticks.{Ticks}
use Rattle.hm_words.specs.Words.{Source, source_meant, source_of, source_reads}
use Rattle.helium_trace.specs.declared.words.Command.{Command}

-- what the words ask for: the ticks from one to another of the run of an image under a schedule, as lines that are printed, or as a page for a file
pub record Asked : Type 0 where
  pub image : List ℕ
  pub schedule : Source
  pub first : ℕ
  pub last : ℕ
  pub page : Option (List ℕ)

-- the ticks from one to another are some: the first is not 0 and not past the last, which no run is past, and they are 10,000 at most
abbrev pub range_of : ℕ → ℕ → Option (ℕ × ℕ)
range_of first last =
    if nat_eq first 0 || nat_lt last first || nat_lt most_ticks last || nat_le 10000 (last - first) then None else Some (first, last)

-- the ticks that two words give, each a number of one to eight decimal digits without a leading zero
abbrev pub range_in : List ℕ → List ℕ → Option (ℕ × ℕ)
range_in first last = option_and_then (λ a. option_and_then (range_of a) (number_in last)) (number_in first)

-- what an image, a schedule and two ticks ask for, with a file for the page where there is one
abbrev pub asked_in : List ℕ → List ℕ → List ℕ → List ℕ → Option (List ℕ) → Option Asked
asked_in image schedule first last page =
    option_and_then (λ s. option_map (λ r. record { image = image; schedule = s; first = r.0; last = r.1; page = page }) (range_in first last))
    (source_of schedule)

-- WHAT THE WORDS ASK FOR
-- what four words ask for, or six of which the fifth is `--html`; no others ask for anything
abbrev pub asked_of : List (List ℕ) → Option Asked
asked_of (image ∷ schedule ∷ first ∷ last ∷ []) = asked_in image schedule first last None
asked_of (image ∷ schedule ∷ first ∷ last ∷ option ∷ out ∷ []) =
    if bytes_eq option (codes "--html") then asked_in image schedule first last (Some out) else None
asked_of words = None

-- the ticks that the program holds
abbrev pub range_meant : Ticks → ℕ × ℕ
range_meant t = (t.first, t.last)

-- what a command of the program stands for
abbrev pub meant : Command → Asked
meant c = record {
  image = c.image.now;
  schedule = source_meant c.schedule;
  first = c.ticks.first;
  last = c.ticks.last;
  page = option_map (λ out. out.now) c.page;
}

-- the files that are read, in order
abbrev pub reads_of : Asked → List (List ℕ)
reads_of a = a.image ∷ source_reads a.schedule
