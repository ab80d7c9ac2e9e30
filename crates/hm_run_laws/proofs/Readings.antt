-- States that agree in what is watched and in the program counter are shown alike.
use Rattle.std.proofs.Common.{◌≡◌, ap}
use Rattle.hm_order.specs.Beats.{Live}
use Rattle.hm_whole.specs.Watched.{view}
use Rattle.hm_whole.proofs.Agreement.{same_regs}
use Rattle.hm_state.specs.State.{State, Rest, Value}
use Rattle.hm_run_laws.specs.Readings.{ShownAlike}
use Rattle.hm_run_laws.proofs.Laws.{agree}

pub shown_alike : (s t : State) → Live view s t → s.pc ≡ t.pc → ShownAlike s t
shown_alike s t live pc =
    let h = agree s t live in
    record {
      registers = same_regs s t live pc;
      output = ap (λ (r : Rest). r.output) h.rest;
      devices = ap (λ (r : Rest). r.devices) h.rest;
      bytes = λ a clean. ap (λ (v : Value). v.n) (h.bytes a clean);
    }
