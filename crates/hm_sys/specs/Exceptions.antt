-- Exceptions that wait, and which of them is the most urgent: `IsException`, `is_pending`, `is_enabled`, `is_waiting`, `priority_of`, `is_eligible`,
-- `is_more_urgent`, `IsPicked`, `picked`; and what is pending once one has entered: `accepted`.
use Rattle.std.specs.Prelude.{ℕ, zero, suc, ◌-◌, ◌/◌, ◌%◌, ◌^◌, ◌≡◌, ◌<◌, ◌≤◌, Bool, false, ◌&&◌, ◌||◌, nat_le, nat_lt, ◌==◌, if◌then◌else◌, bit_and, List}
use Rattle.std.specs.Prelude.{slice_index, set, IsTrue, Option, Some, None}
use Rattle.hm_mem.specs.declared.Dev.{Dev}

-- the exception number of SysTick
abbrev pub tick_number : ℕ
tick_number = 15

-- the first number that no exception has: 16 + n is the external interrupt n, of which there are 240
abbrev pub end_number : ℕ
end_number = 256

-- the number of SysTick or of an interrupt
abbrev pub IsException : ℕ → Type 0
IsException e = (15 ≤ e) × (e < end_number)

-- the number of an interrupt, as an exception
abbrev pub is_external : ℕ → Bool
is_external e = nat_le 16 e && nat_lt e end_number

-- bit n of words, 32 in each
abbrev pub is_set : ℕ → List ℕ → Bool
is_set n words = slice_index words (n / 32) / 2 ^ (n % 32) % 2 == 1

-- interrupt n is pending
abbrev pub is_pending : Dev → ℕ → Bool
is_pending d n = is_set n d.pending

-- interrupt n is enabled
abbrev pub is_enabled : Dev → ℕ → Bool
is_enabled d n = is_set n d.enabled

-- an exception waits: SysTick where it is pending, an interrupt where it is pending and enabled
abbrev pub is_waiting : Dev → ℕ → Bool
is_waiting d e = if e == tick_number then d.tick_pending else is_external e && is_pending d (e - 16) && is_enabled d (e - 16)

-- the priority number of an exception; a lower one is more urgent
abbrev pub priority_of : Dev → ℕ → ℕ
priority_of d e = if e == tick_number then d.tick_prio else slice_index d.prio (e - 16)

-- it waits, and is more urgent than what runs, whose priority number is `current`
abbrev pub is_eligible : Dev → ℕ → ℕ → Bool
is_eligible d current e = is_waiting d e && nat_lt (priority_of d e) current

-- of two exceptions the one with the lower priority number is more urgent, and of two with one number the one with the lower exception number
abbrev pub is_more_urgent : Dev → ℕ → ℕ → Bool
is_more_urgent d e f = nat_lt (priority_of d e) (priority_of d f) || (priority_of d e == priority_of d f && nat_lt e f)

-- THE EXCEPTION THAT ENTERS: the eligible one than which no eligible one is more urgent
pub record IsPicked (d : Dev) (current e : ℕ) : Type 0 where
  pub eligible : IsTrue (is_eligible d current e)
  pub first : (f : ℕ) → IsTrue (is_eligible d current f) → is_more_urgent d f e ≡ false

-- The same as a function, from the lowest number up: an eligible one, and after it only one that could interrupt it.
abbrev pub or_later : Dev → ℕ → Option ℕ → ℕ → Option ℕ
or_later d current None e = if is_eligible d current e then Some e else None
or_later d current (Some f) e = if is_eligible d (priority_of d f) e then Some e else Some f

-- the one that is found so among the numbers below an end
unfoldable pub picked_below : Dev → ℕ → ℕ → Option ℕ
picked_below d current zero = None
picked_below d current (suc e) = or_later d current (picked_below d current e) e

-- the one that is found so among all numbers
abbrev pub picked : Dev → ℕ → Option ℕ
picked d current = picked_below d current end_number

-- interrupt n is no longer pending
abbrev pub without_pending : ℕ → Dev → Dev
without_pending n d = record d { pending = set d.pending (n / 32) (bit_and (slice_index d.pending (n / 32)) (2 ^ 32 - 1 - 2 ^ (n % 32))) }

-- an exception that has entered is no longer pending
abbrev pub accepted : ℕ → Dev → Dev
accepted e d = if e == tick_number then record d { tick_pending = false } else without_pending (e - 16) d
