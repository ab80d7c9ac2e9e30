use Rattle.std.proofs.Common.{arith, rules, sym, ◌∙◌}
use Rattle.hm_mem.specs.Memory.{memory_of}
use Rattle.hm_mem.specs.Seen.{seen}
use Rattle.hm_moves.specs.Moves.{byte_count}
use Rattle.hm_moves.proofs.Loops.{stop_here, stop_next}
use Rattle.hm_moves.proofs.elements.check_all.Goals as goal

pub returns-in-Err : goal.returns-in-Err
returns-in-Err c =
    let m = memory_of c.args.m.now in
    record {
      value = sym (stop_here m.around c.args.store (byte_count c.args.z) c.args.es.now c.loop-e.e-index (seen m) (omega arith) _ (search rules))
          ∙ c.loop-e.invariant;
    }

pub loop-e-preserved : goal.loop-e-preserved
loop-e-preserved c =
    let m = memory_of c.args.m.now in
    sym (stop_next m.around c.args.store (byte_count c.args.z) c.args.es.now c.loop-e.e-index (seen m) (omega arith) (search rules)) ∙ c.loop-e.invariant
