-- Reading in steps, and what a function of the code gives of it.
use Rattle.std.specs.Prelude.{◌≡◌, Option, Some, None, Result, Ok, Err}

-- a step, and where it did not fail the next
infixl 10 ◌>>=◌
-- what a step gives, given to the next, and a failure that stays
abbrev pub ◌>>=◌ : {A B E : Type 0} → Result A E → (A → Result B E) → Result B E
(Ok x) >>= f = f x
(Err e) >>= f = Err e

-- what a function returned, seen by view, is what reading gives
abbrev pub Reads : {X Y E : Type 0} → (X → Y) → Result X E → Result Y E → Type 0
Reads view (Ok x) read = read ≡ Ok (view x)
Reads view (Err e) read = read ≡ Err e

-- what a function returned or did not, seen by view, is what reading gives
abbrev pub ReadsSome : {X Y : Type 0} → (X → Y) → Option X → Option Y → Type 0
ReadsSome view (Some x) read = read ≡ Some (view x)
ReadsSome view None read = read ≡ None
