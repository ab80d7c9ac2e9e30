use Rattle.std.proofs.Common.{◌≡◌, ◌≤◌, Some, length, map, take, drop, vec_len, All}
use Rattle.hm_host.specs.Host.{FileMap, Becomes, Stays, longest}
use Rattle.hm_commands.specs.Calls.{with_calls}
use Rattle.hm_commands.proofs.Readings.{SplitsAt, reads}
use Rattle.hm_commands.specs.Effect.{reading_of, after_contents}
use Rattle.hm_commands.proofs.outside.read_all.Given as goal

-- the contents so far, and then what the other names give, is what all give; and the host is as it was
abbrev pub invariant-loop-name : goal.invariant-loop-name
invariant-loop-name g l =
    let state = g.H.Host.state in
    record {
      each : vec_len l.contents ≡ l.name-index;
      short : All (λ bytes. length bytes.items ≤ longest) l.contents.items;
      told : (F : FileMap) → (state l.initial.host).files ≡ Some F
          → reading_of F (map (λ name. name.now) l.names)
          ≡ after_contents (map (λ bytes. bytes.items) l.contents.items) (reading_of F (map (λ name. name.now) (drop l.name-index l.names)));
      files : Stays (state l.initial.host).files (state l.host).files;
      printed : Stays (state l.initial.host).printed (state l.host).printed;
      splits : (F : FileMap) → (state l.initial.host).files ≡ Some F → SplitsAt F l.names l.name-index;
      calls : Becomes (with_calls (reads (take l.name-index l.names))) (state l.initial.host).calls (state l.host).calls;
      faults : (state l.host).faults ≡ (state l.initial.host).faults;
    }
