-- The calls that a host in memory keeps.
use Rattle.std.specs.Prelude.{string_bytes}
use Rattle.hm_host.specs.Host.{Call, read, write, print, Made}
use Rattle.hm_host.specs.declared.calls.Call.{Call as KeptCall}
use Rattle.hm_host.specs.declared.calls.Call.TheVariants.{Read, Write, Print}
use Rattle.hm_host.specs.declared.calls.Kept.{Kept}

-- the call that a kept call stands for, its texts as bytes
abbrev pub call_of : KeptCall → Call
call_of (Read name) = read (string_bytes name)
call_of (Write name bytes) = write (string_bytes name) bytes.items
call_of (Print bytes) = print bytes.items

-- the call and whether it failed, as a host in memory kept them
abbrev pub made_of : Kept → Made
made_of k = record { call = call_of k.call; failed = k.failed }
