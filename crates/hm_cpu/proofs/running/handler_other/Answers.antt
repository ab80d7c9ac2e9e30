use Rattle.std.proofs.Common.{refl, ap, sym, ◌∙◌}
use Rattle.hm_cpu.proofs.Nestings.{newest_there, other_steps, other_stops}
use Rattle.hm_cpu.proofs.Steps.{begun_is}
use Rattle.hm_cpu.specs.Cpus.{config_of, interrupted_of, places_of, state_in}
use Rattle.hm_run_laws.specs.Nested.{went}
use Rattle.hm_mem.specs.Memory.{memory_of}
use Rattle.hm_run.specs.Program.{core}
use Rattle.hm_state.specs.State.{state_of}
use Rattle.std.proofs.Common.{map}
use Rattle.hm_cpu.proofs.running.handler_other.Goals as goal

pub returns-in-Ok-clause-value : goal.returns-in-Ok-clause-value
unfolding state_of
returns-in-Ok-clause-value c listing s here under =
    let x = c.args.x.now in
    let found = newest_there x.acts c.requires.handler in
    let M = core listing (memory_of x.mem).around in
    c.follow.ensures.value (state_in x) found.0 found.1 refl found.2
    ∙ ap (went M (config_of x) (interrupted_of found.0) (map interrupted_of found.1)) (c.in-Ok.ensures.value x.output.items)
    ∙ other_steps listing s x under found.0 found.1 found.2 c.args.i.now here c.requires.row

pub returns-in-Err-clause-value : goal.returns-in-Err-clause-value
returns-in-Err-clause-value c listing s here under =
    let x = c.args.x.now in
    let found = newest_there x.acts c.requires.handler in
    let did = c.in-Err.ensures in
    let y = record x { regs = c.execute.new.regs; mem = c.execute.new.mem } in
    other_stops listing s x under found.0 found.1 found.2 y c.stop_of.result c.in-Err.stop c.args.i.now here c.requires.row c.stop_of.ensures.value
    ((λ j. record (config_of x) { state = state_of (did.stopped.0 j) (did.stopped.1 j) x.output.items })
    ∙ sym (begun_is listing x c.args.i.now here c.requires.row did.range did.counted c.requires.position.2))
    refl (did.value x.output.items)

pub returns-in-Ok-clause-moves : goal.returns-in-Ok-clause-moves
returns-in-Ok-clause-moves c =
    record {
      flash = c.follow.ensures.moves.flash ∙ c.in-Ok.ensures.kept.flash;
      places = c.follow.ensures.moves.places
          ∙ ap places_of c.in-Ok.ensures.kept.around;
      room = c.follow.ensures.moves.room;
    }
