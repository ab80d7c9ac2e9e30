use Rattle.std.proofs.Common.{◌≡◌, ℕ, List, drop}
use Rattle.hm_regs.specs.declared.Regs.{Regs}
use Rattle.hm_mem.specs.Memory.{memory_of}
use Rattle.hm_mem.specs.Seen.{IsSameElsewhere, marks}
use Rattle.hm_state.specs.Store.{put_all}
use Rattle.hm_state.specs.State.{cells, state_of}
use Rattle.hm_moves.specs.Moves.{all_bytes_from}
use Rattle.hm_moves.proofs.elements.store_all.Given as goal

abbrev pub invariant-loop-e : goal.invariant-loop-e
invariant-loop-e l =
    let x = memory_of l.initial.m in
    let t = marks x.around.actor in
    record {
      state : (r : Regs) (output : List ℕ) → put_all cells (all_bytes_from t l.row.memory (drop l.e-index l.es) l.words) (state_of r (memory_of l.m) output)
          ≡ put_all cells (all_bytes_from t l.row.memory l.es l.words) (state_of r x output);
      kept : IsSameElsewhere x (memory_of l.m);
    }
