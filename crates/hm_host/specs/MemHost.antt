-- What a host in memory tells, and which of its calls are to fail.
use Rattle.std.specs.Prelude.{◌≡◌, ◌⊎◌, ℕ, ◌+◌, ◌-◌, ◌^◌, ◌<◌, List, length, Option, Some, None, Contains, nat_lt, if◌then◌else◌}
use Rattle.std.specs.FinMap.{get}
use Rattle.hm_host.specs.Host.{HostState, FileMap, Made, longest}
use Rattle.hm_host.specs.declared.mem_host.MemHost.{MemHost}

-- its files, from names to bytes
abbrev pub mem_files : MemHost → FileMap
mem_files h = h.files

-- what was printed
abbrev pub mem_printed : MemHost → List ℕ
mem_printed h = h.printed.items

-- how many calls failed
abbrev pub mem_faults : MemHost → ℕ
mem_faults h = h.faults

-- the calls that were made on it, while it tells them
abbrev pub mem_calls : MemHost → Option (List Made)
mem_calls h = h.calls

-- it tells its files and its printed bytes
abbrev pub mem_state : MemHost → HostState
mem_state h = record { files = Some (mem_files h); printed = Some (mem_printed h); calls = mem_calls h; faults = mem_faults h }

-- the numbers of the calls that are to fail, and the number of the call that comes next
pub record Planned : Type 0 where
  pub failing : List ℕ
  pub next : ℕ

-- the numbers of a host's calls that are to fail, and of the one that comes next
abbrev pub planned : MemHost → Planned
planned h = record { failing = h.failing; next = h.next }

-- the call that comes next is one of those that are to fail
abbrev pub IsNextToFail : MemHost → Type 0
IsNextToFail h = Contains (planned h).failing (planned h).next

-- the next number, or the last of a counter
abbrev pub counted : ℕ → ℕ
counted n = if nat_lt n (2 ^ 64 - 1) then n + 1 else n

-- the plan once a call was made
abbrev pub after_call : Planned → Planned
after_call p = record { failing = p.failing; next = counted p.next }

-- a file is longer than what is read
abbrev pub IsTooLong : FileMap → List ℕ → Type 0
IsTooLong files name = (bytes : List ℕ) × (get files name ≡ Some bytes) × (longest < length bytes)

-- a read of this name fails: it is one of the calls that are to fail, or there is no file of the name
abbrev pub FailsAtRead : MemHost → List ℕ → Type 0
FailsAtRead h name = IsNextToFail h ⊎ (get (mem_files h) name ≡ None)
