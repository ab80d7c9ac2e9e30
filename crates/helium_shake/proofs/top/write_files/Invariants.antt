use Rattle.std.proofs.Common.{◌≡◌, ℕ, List, Option, Result, drop, map}
use Rattle.hm_commands.specs.Calls.{MakesCalls, Way}
use Rattle.hm_host.specs.Host.{FileMap, Made, Stays}
use Rattle.hm_host.specs.declared.host.HostErr.{HostErr}
use Rattle.helium_shake.specs.Effects.{WritesFiles, file_of, write_call}
use Rattle.helium_shake.proofs.top.write_files.Given as goal

-- what is done of the files that are left is done of all
abbrev pub invariant-loop-file : goal.invariant-loop-file
invariant-loop-file g l =
    let state = g.H.Host.state in
    let all = map (file_of l.schedule) l.files in
    let left = map (file_of l.schedule) (drop l.file-index l.files) in
    record {
      files : (r : Result ℕ HostErr) (new : Option FileMap) → WritesFiles left (state l.host).files new r → WritesFiles all (state l.initial.host).files new r;
      calls : (way : Way) (new : Option (List Made)) → MakesCalls (map write_call left) (state l.host).calls new way
          → MakesCalls (map write_call all) (state l.initial.host).calls new way;
      printed : Stays (state l.initial.host).printed (state l.host).printed;
      faults : (state l.host).faults ≡ (state l.initial.host).faults;
    }
