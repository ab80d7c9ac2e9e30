use Rattle.std.proofs.Common.{◌≡◌, ◌-◌}
use Rattle.hm_cpu.proofs.Services.{IsRead, behind_these}
use Rattle.hm_mem.specs.Memory.{memory_of}
use Rattle.hm_mem.specs.Seen.{seen}
use Rattle.hm_thumb.specs.Calls.{text}
use Rattle.hm_thumb.specs.Does.{in_machine, words}
use Rattle.hm_cpu.proofs.service.text_length.Given as goal

abbrev pub invariant-loop-k : goal.invariant-loop-k
invariant-loop-k l =
    let m = memory_of l.mem in
    let R = in_machine m.around in
    record {
      read : IsRead R (seen m) l.k l.addr l.at;
      text : behind_these (words 1 l.k l.addr (seen m)) (text R (l.most - l.k) l.at (seen m)) ≡ text R l.most l.addr (seen m);
    }
