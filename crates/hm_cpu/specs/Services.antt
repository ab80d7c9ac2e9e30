-- What the code of a breakpoint has found out of what the program asks.
use Rattle.std.specs.Prelude.{◌≡◌, ℕ, false, List, None, Result, Ok, Err}
use Rattle.hm_base.specs.declared.Stop.{Stop}
use Rattle.hm_cpu.specs.declared.service.Request.{Request}
use Rattle.hm_cpu.specs.declared.service.Request.TheVariants as request
use Rattle.hm_mem.specs.Memory.{Memory}
use Rattle.hm_mem.specs.Seen.{Seen, seen}
use Rattle.hm_mem.specs.declared.Access.TheVariants.{Scalar}
use Rattle.hm_thumb.specs.Calls.{Asked, Writes, Exits}
use Rattle.hm_thumb.specs.Does.{first_stop, in_machine, words}

-- a text by its length
abbrev pub told : Result ℕ Stop → ℕ → Seen → Result (List ℕ) Stop
told (Ok n) a s = Ok (words 1 n a s)
told (Err e) a s = Err e

-- what a request asks, in the memory as it is seen
abbrev pub asked_by : Request → Seen → Asked
asked_by (request.Write a n) s = Writes (words 1 n a s)
asked_by (request.Exit reason) s = Exits reason

-- what is asked, or why the program's text could not be read
abbrev pub asked_for : Result Request Stop → Seen → Result Asked Stop
asked_for (Ok q) s = Ok (asked_by q s)
asked_for (Err e) s = Err e

-- none of so many bytes stops
abbrev pub AreFree : Memory → ℕ → ℕ → Type 0
AreFree m n a = first_stop (in_machine m.around) Scalar false 1 n a (seen m) ≡ None

-- the bytes that a request writes to the output may all be read
abbrev pub IsThere : Memory → Request → Type 0
IsThere m (request.Write a n) = AreFree m n a
IsThere m (request.Exit reason) = Unit {0}
