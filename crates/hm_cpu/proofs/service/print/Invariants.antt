use Rattle.std.proofs.Common.{◌≡◌, ◌+◌, ◌-◌, ◌≤◌, ◌++◌}
use Rattle.std.specs.Vec.{vec_capacity, vec_len}
use Rattle.hm_cpu.specs.Services.{AreFree}
use Rattle.hm_mem.specs.Memory.{memory_of}
use Rattle.hm_mem.specs.Seen.{seen}
use Rattle.hm_thumb.specs.Does.{words}
use Rattle.hm_cpu.proofs.service.print.Given as goal

abbrev pub invariant-loop-k : goal.invariant-loop-k
invariant-loop-k l =
    let m = memory_of l.mem in
    record {
      free : AreFree m (l.len - l._k) l.at;
      room : vec_len l.output + (l.len - l._k) ≤ vec_capacity l.output;
      capacity : vec_capacity l.output ≡ vec_capacity l.initial.output;
      items : l.output.items ++ words 1 (l.len - l._k) l.at (seen m) ≡ l.initial.output.items ++ words 1 l.len l.addr (seen m);
    }
