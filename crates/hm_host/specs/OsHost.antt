-- What the system's host tells.
use Rattle.std.specs.Prelude.{None}
use Rattle.hm_host.specs.Host.{HostState}
use Rattle.hm_host.specs.declared.os_host.OsHost.{OsHost}

-- nothing of its files, of what was printed and of its calls, but its count of faults
abbrev pub os_state : OsHost → HostState
os_state h = record { files = None; printed = None; calls = None; faults = h.faults }
