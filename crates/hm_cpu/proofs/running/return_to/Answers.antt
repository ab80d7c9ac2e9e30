use Rattle.std.proofs.Common.{map, ap, refl, ◌∙◌, Some, None}
use Rattle.hm_cpu.proofs.Nestings.{newest_stacked, newest_there, position_back, returned_err, returned_ok, rule_is}
use Rattle.hm_cpu.specs.Cpus.{interrupted_of, places_of}
use Rattle.hm_mem.specs.Memory.{Memory, memory_of}
use Rattle.hm_state.proofs.Registers.{registers_are}
use Rattle.hm_cpu.proofs.running.return_to.Goals as goal

pub leave-requires-clause-fits : goal.leave-requires-clause-fits
leave-requires-clause-fits c y rest newest = (newest_stacked c.args.x.now y rest newest c.requires.entered).fits

pub returns-in-Ok-clause-value : goal.returns-in-Ok-clause-value
returns-in-Ok-clause-value c y rest newest =
    let x = c.args.x.now in
    let did = c.in-Ok.ensures in
    let same = registers_are x.regs (memory_of x.mem) x.output.items c.in_range.ensures.counted c.in_range.ensures.range.fpscr_fits
    c.in_range.ensures.range.vpr_fits in
    returned_ok x y rest (record x { regs = c.leave.new.r; mem = c.leave.new.m; acts = c.leave.new.acts; window = c.in-Ok.window })
    (did.registers y rest newest) (did.memory y rest newest) (did.acts y rest newest) (did.position y rest newest) refl refl refl
    ∙ rule_is x y rest c.args.value None same (did.broken y rest newest)

pub returns-in-Err-clause-value : goal.returns-in-Err-clause-value
returns-in-Err-clause-value c y rest newest =
    let x = c.args.x.now in
    let did = c.in-Err.ensures in
    let same = registers_are x.regs (memory_of x.mem) x.output.items c.in_range.ensures.counted c.in_range.ensures.range.fpscr_fits
    c.in_range.ensures.range.vpr_fits in
    returned_err x y rest c.in-Err.broken (record x { regs = c.leave.new.r; mem = c.leave.new.m; acts = c.leave.new.acts })
    newest did.same_registers did.same_memory did.same_acts refl refl refl refl
    ∙ rule_is x y rest c.args.value (Some c.in-Err.broken) same (did.broken y rest newest)

pub returns-in-Ok-clause-moves : goal.returns-in-Ok-clause-moves
returns-in-Ok-clause-moves c =
    let found = newest_there c.args.x.now.acts c.requires.handler in
    let did = c.in-Ok.ensures.memory found.0 found.1 found.2 in
    record { flash = ap (λ (m : Memory). m.flash) did; places = ap (λ (m : Memory). places_of m.around) did; room = refl }

pub returns-in-Err-clause-moves : goal.returns-in-Err-clause-moves
returns-in-Err-clause-moves c = record {
  flash = ap (λ (m : Memory). m.flash) c.in-Err.ensures.same_memory;
  places = ap (λ (m : Memory). places_of m.around) c.in-Err.ensures.same_memory;
  room = refl;
}

pub returns-in-Ok-clause-position : goal.returns-in-Ok-clause-position
returns-in-Ok-clause-position c =
    let x = c.args.x.now in
    let did = c.in-Ok.ensures in
    let found = newest_there x.acts c.requires.handler in
    position_back (interrupted_of found.0) (map interrupted_of found.1) (newest_stacked x found.0 found.1 found.2 c.requires.entered)
    c.in-Ok.window (did.position found.0 found.1 found.2) c.leave.new.r (did.registers found.0 found.1 found.2)
