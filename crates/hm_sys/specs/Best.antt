-- The most urgent exception among those below a number.
use Rattle.std.specs.Prelude.{ℕ, ◌+◌, ◌*◌, min, ◌<◌, ◌≡◌, false, true, Option, Some, None}
use Rattle.hm_mem.specs.declared.Dev.{Dev}
use Rattle.hm_sys.specs.Exceptions.{end_number, is_eligible, is_more_urgent}

-- e is the most urgent of those that are eligible and below an end
pub record IsFirst (d : Dev) (current end e : ℕ) : Type 0 where
  pub below : e < end
  pub eligible : is_eligible d current e ≡ true
  pub first : (f : ℕ) → f < end → is_eligible d current f ≡ true → is_more_urgent d f e ≡ false

-- the most urgent of those below an end, or that there is none
abbrev pub IsBest : Dev → ℕ → ℕ → Option ℕ → Type 0
IsBest d current end None = (f : ℕ) → f < end → is_eligible d current f ≡ false
IsBest d current end (Some e) = IsFirst d current end e

-- the first number past the exceptions of so many words of interrupts; the last word has 16
abbrev pub end_of : ℕ → ℕ
end_of words = min (16 + 32 * words) end_number
