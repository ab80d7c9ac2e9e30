-- THE WORDS OF THE PROGRAM: an image, a schedule, how many runs, and a seed.
use Rattle.std.specs.Prelude.{ℕ, ◌||◌, List, [], ◌∷◌, Option, Some, None, nat_eq, nat_lt, if◌then◌else◌, option_map, option_and_then}
use Rattle.hm_text_base.specs.Numbers.{number_in, word_in}
use Rattle.helium_shake.specs.declared.command.Command.{Command}

-- what the words ask for: so many runs of an image, from a seed, under the head of a schedule
pub record Asked : Type 0 where
  pub image : List ℕ
  pub schedule : List ℕ
  pub runs : ℕ
  pub seed : ℕ

-- a number of runs: 1 to 1,000,000
abbrev pub runs_of : ℕ → Option ℕ
runs_of n = if nat_eq n 0 || nat_lt 1000000 n then None else Some n

-- what an image, a schedule, a number of runs in one to eight decimal digits, and a seed below 2^32 ask for
abbrev pub asked_in : List ℕ → List ℕ → List ℕ → List ℕ → Option Asked
asked_in image schedule runs seed =
    option_and_then (λ n. option_map (λ x. record { image = image; schedule = schedule; runs = n; seed = x }) (word_in seed))
    (option_and_then runs_of (number_in runs))

-- WHAT THE WORDS ASK FOR
-- what four words ask for; no other number of words asks for anything
abbrev pub asked_of : List (List ℕ) → Option Asked
asked_of (image ∷ schedule ∷ runs ∷ seed ∷ []) = asked_in image schedule runs seed
asked_of words = None

-- what a command of the program stands for
abbrev pub meant : Command → Asked
meant c = record { image = c.image.now; schedule = c.schedule.now; runs = c.runs; seed = c.seed }

-- the files that are read, in order
abbrev pub reads_of : Asked → List (List ℕ)
reads_of a = a.image ∷ a.schedule ∷ []
